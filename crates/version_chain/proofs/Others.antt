-- For `Chains`: link, unlink, mark and cut_below. The cells of other tenants after a write.
use Rattle.std.proofs.Common.{◌≡◌, ◌≢◌, ◌⊎◌, inl, inr, ℕ, ◌<◌, Bool, if◌then◌else◌, cond, length, set, Option, Some, None, sym, ap, ◌∙◌, length-set}
use Rattle.std.proofs.lemmas.Bool.{ne_eqb}
use Rattle.std.proofs.lemmas.List.{get_or-set_same, get_or-set_other}
use Rattle.version_arena.specs.Arena.{entry}
use Rattle.version_chain.specs.Node.{Node}
use Rattle.version_chain.specs.Chain.{Cells, is_of_tenant, cell_of, OthersKept}
use Rattle.version_chain.proofs.Replacing.{same_or_not}

-- 1 of a cell of the tenant, and else 0
abbrev pub ones : ℕ → Option (Node × Option ℕ) → ℕ
ones tenant cell = cond (is_of_tenant tenant cell) 1 0

pub none_of : (tenant other : ℕ) (node : Node) (next : Option ℕ) → node.tenant ≡ tenant → other ≢ tenant → cell_of other (Some (node, next)) ≡ None
none_of tenant other node next whose different = ap (λ (b : Bool). if b then Some (node, next) else None) (ne_eqb node.tenant other (λ same. different (sym same ∙ whose)))

pub kept-then : (first second third : Cells) (tenant : ℕ) → OthersKept first second tenant → OthersKept second third tenant → OthersKept first third tenant
kept-then first second third tenant one two = record { long = two.long ∙ one.long; cells = λ other slot different. two.cells other slot different ∙ one.cells other slot different }

-- a write into a cell that is free or the tenant's own, of a cell that is free or its own
pub kept-set : (cells : Cells) (tenant at : ℕ) (cell : Option (Node × Option ℕ)) → at < length cells → ((other : ℕ) → other ≢ tenant → cell_of other (entry cells at) ≡ None) → ((other : ℕ) → other ≢ tenant → cell_of other cell ≡ None) → OthersKept cells (set cells at cell) tenant
kept-set cells tenant at cell within was is = record {
  long = length-set cells at cell;
  cells = λ other slot different. by_slot other slot different (same_or_not slot at);
}
  where
    by_slot : (other slot : ℕ) → other ≢ tenant → (slot ≡ at) ⊎ (slot ≢ at) → cell_of other (entry (set cells at cell) slot) ≡ cell_of other (entry cells slot)
    by_slot other slot different (inl same) = rw same (ap (cell_of other) (get_or-set_same cells at cell None within) ∙ is other different ∙ sym (was other different))
    by_slot other slot different (inr apart) = ap (cell_of other) (get_or-set_other cells at slot cell None apart)
