-- What a seat enters that raises its client's counter.
use Rattle.std.specs.Prelude.{ℕ, List, [], ◌∷◌}
use Rattle.plain_store.specs.declared.step.Act.TheVariants.{Hello, Stop}
use Rattle.entry_list.specs.declared.kinds.Entry.{Entry}
use Rattle.entry_list.specs.declared.kinds.Entry.TheVariants.{Began}

-- the client's session ends, and begins again from this counter
abbrev pub raise_entries : (client counter : ℕ) → List Entry
raise_entries client counter = Began (Stop client) ∷ Began (Hello client counter) ∷ []
