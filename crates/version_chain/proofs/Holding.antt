-- For `Chains`: link, unlink and mark. What cells hold still after a write.
use Rattle.std.proofs.Common.{◌≡◌, ◌≢◌, ◌⊎◌, inl, inr, ℕ, set, Option, Some, None, refl, sym, ap, ◌∙◌}
use Rattle.std.proofs.lemmas.List.{get_or-set_same, get_or-set_other}
use Rattle.version_arena.specs.Arena.{entry}
use Rattle.version_chain.specs.Node.{Node}
use Rattle.version_chain.specs.declared.version.Version.{Version}
use Rattle.version_chain.specs.Chain.{Cells}
use Rattle.version_chain.proofs.Latest.{Holds, HoldsBut, StillHolds}
use Rattle.version_chain.proofs.Replacing.{same_or_not}
use Rattle.version_chain.proofs.Walks.{node_of}
use Rattle.version_chain.proofs.Writing.{live_within}

-- a write into a free cell
pub held_put : (cells : Cells) (at : ℕ) (cell : Option (Node × Option ℕ)) (tenant chain : ℕ) → entry cells at ≡ None → StillHolds cells (set cells at cell) tenant chain
held_put cells at cell tenant chain free slot version next held =
    let other : slot ≢ at = λ same. absurd (let none : None ≡ Some (record { tenant = tenant; chain = chain; version = version }, next) = sym free ∙ ap (entry cells) (sym same) ∙ held in cc) in
    (version, next, refl, get_or-set_other cells at slot cell None other ∙ held)

-- a write that keeps the record
pub held_write : (cells : Cells) (at whose which : ℕ) (v w : Version) (here after : Option ℕ) (tenant chain : ℕ) → entry cells at ≡ Some (record { tenant = whose; chain = which; version = v }, here) → w.prepared ≡ v.prepared
    → StillHolds cells (set cells at (Some (record { tenant = whose; chain = which; version = w }, after))) tenant chain
held_write cells at whose which v w here after tenant chain there same slot version next held = by (same_or_not slot at)
  where
    new : Node
    new = record { tenant = whose; chain = which; version = w }

    by : (slot ≡ at) ⊎ (slot ≢ at) → Holds (set cells at (Some (record { tenant = whose; chain = which; version = w }, after))) tenant chain slot version.prepared
    by (inl is) =
        let this : Node = record { tenant = tenant; chain = chain; version = version } in
        let node : this ≡ record { tenant = whose; chain = which; version = v } = ap (λ e. node_of e this) (sym held ∙ ap (entry cells) is ∙ there) in
        let now = Some (record { tenant = whose; chain = which; version = w }, after) in (
          w,
          after,
          same ∙ sym (ap (λ (n : Node). n.version.prepared) node),
          ap (entry (set cells at now)) is ∙ get_or-set_same cells at now None (live_within cells at _ there)
              ∙ ap (λ (n : Node). Some (record { tenant = n.tenant; chain = n.chain; version = w }, after)) (sym node),
        )
    by (inr other) = (version, next, refl, get_or-set_other cells at slot _ None other ∙ held)

-- a cell that is freed
pub held_take : (cells : Cells) (at : ℕ) (tenant chain : ℕ) → HoldsBut cells (set cells at None) at tenant chain
held_take cells at tenant chain slot version next other held = (version, next, refl, get_or-set_other cells at slot None None other ∙ held)

-- it is of no other chain
pub held_other : (cells new : Cells) (at tenant which chain : ℕ) (v : Version) (here : Option ℕ) → entry cells at ≡ Some (record { tenant = tenant; chain = which; version = v }, here) → chain ≢ which → HoldsBut cells new at tenant chain → StillHolds cells new tenant chain
held_other cells new at tenant which chain v here there different held slot version next is =
    let this : Node = record { tenant = tenant; chain = chain; version = version } in
    held slot version next (λ same. different (ap (λ (n : Node). n.chain) (ap (λ e. node_of e this) (sym is ∙ ap (entry cells) same ∙ there)))) is

-- one after the other
pub held_then : (first mid last : Cells) (tenant chain : ℕ) → StillHolds first mid tenant chain → StillHolds mid last tenant chain → StillHolds first last tenant chain
held_then first mid last tenant chain one two slot version next held =
    let half = one slot version next held in
    let whole = two slot half.0 half.1 half.3 in (whole.0, whole.1, whole.2 ∙ half.2, whole.3)

pub held_after : (first mid last : Cells) (here tenant chain : ℕ) → HoldsBut first mid here tenant chain → StillHolds mid last tenant chain → HoldsBut first last here tenant chain
held_after first mid last here tenant chain one two slot version next other held =
    let half = one slot version next other held in
    let whole = two slot half.0 half.1 half.3 in (whole.0, whole.1, whole.2 ∙ half.2, whole.3)
