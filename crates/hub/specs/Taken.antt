-- How many replies an operation takes.
use Rattle.std.specs.Prelude.{ℕ, Bool, true, false, List}
use Rattle.std.specs.List.{count_by}
use Rattle.entry_list.specs.declared.kinds.Entry.{Entry}
use Rattle.entry_list.specs.declared.kinds.Entry.TheVariants.{Began, Took, Answered}

-- the entry of a reply
abbrev pub is_reply : Entry → Bool
is_reply (Began act) = false
is_reply (Took number partition place reply) = true
is_reply (Answered answer) = false

-- how many are among entries
abbrev pub replies_in : List Entry → ℕ
replies_in entries = count_by is_reply entries
