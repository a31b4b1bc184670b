-- One tenant's cell in a block of its own.
use Rattle.std.proofs.Common.{◌≡◌, inl, inr, ℕ, zero, suc, ◌+◌, ◌<◌, ◌≤◌, Bool, [], ◌∷◌, length, replicate, if◌then◌else◌, Option, Some, None, refl, sym, ap, ◌∙◌, subst, arith}
use Rattle.std.proofs.lemmas.Bool.{eq-eqb}
use Rattle.std.proofs.lemmas.List.{length-replicate}
use Rattle.std.proofs.lemmas.List.Sums.{sum_by-cons}
use Rattle.std.proofs.lemmas.Option.{same_Some}
use Rattle.std.specs.Prelude.{slice_get}
use Rattle.version_arena.specs.Arena.{entry, live_count}
use Rattle.version_chain.specs.Node.{Node}
use Rattle.version_chain.specs.Heads.{Heads}
use Rattle.version_chain.specs.Chain.{Cells as Block, HoldsChains, OthersKept, cell_of}
use Rattle.version_chain.proofs.Replacing.{same_or_not}
use Rattle.prepare_commit.specs.InBlock.{Parts, LiesIn}
use Rattle.prepare_commit.proofs.Chaining.{none_live, all_free}
use Rattle.partition.specs.OneBlock.{all_chains, AreInBlock}

module _ (old new : Block) (size slots : ℕ) (cell : Parts) (fresh : old ≡ replicate size None) (enough : slots ≤ size) (others : OthersKept old new 0) (lies : LiesIn new cell)
    (number : cell.chains.tenant ≡ 0) (share : cell.chains.share ≡ slots) (live : live_count new ≡ live_count old + cell.chains.used) where
  numbered_alone : (n : ℕ) (chains : Heads) → slice_get (all_chains (cell ∷ [])) n ≡ Some chains → chains.tenant ≡ n
  numbered_alone zero chains at = ap (λ (h : Heads). h.tenant) (sym (same_Some cell.chains chains at)) ∙ number
  numbered_alone (suc n) chains at = absurd (cc)

  stand_alone : (n : ℕ) (chains : Heads) → slice_get (all_chains (cell ∷ [])) n ≡ Some chains → HoldsChains new chains
  stand_alone zero chains at = subst (HoldsChains new) (same_Some cell.chains chains at) lies.versions.stands
  stand_alone (suc n) chains at = absurd (cc)

  whose_alone : (slot : ℕ) (held : Node × Option ℕ) → entry new slot ≡ Some held → held.0.tenant < length (all_chains (cell ∷ []))
  whose_alone slot held there = elim (same_or_not held.0.tenant 0) [
    | inl same ↦ omega (arith, same)
    | inr different ↦
        let own : cell_of held.0.tenant (Some held) ≡ Some held = ap (λ (b : Bool). if b then Some held else None) (eq-eqb held.0.tenant held.0.tenant refl) in
        let none : cell_of held.0.tenant (entry old slot) ≡ None = ap (cell_of held.0.tenant) (all_free old size fresh slot) in
        absurd (let both = sym own ∙ sym (ap (cell_of held.0.tenant) there) ∙ others.cells held.0.tenant slot different ∙ none in cc)
  ]

  lie_alone : (n : ℕ) (c : Parts) → slice_get (cell ∷ []) n ≡ Some c → LiesIn new c
  lie_alone zero c at = subst (LiesIn new) (same_Some cell c at) lies
  lie_alone (suc n) c at = absurd (cc)

  pub in_block_alone : AreInBlock new (cell ∷ [])
  in_block_alone = record {
    shared = record {
      numbered = numbered_alone;
      stand = stand_alone;
      whose = whose_alone;
      counted = omega (arith, live, none_live old size fresh, sum_by-cons (λ (chains : Heads). chains.used) cell.chains []);
      fit = omega (arith, share, enough, others.long, ap (λ (b : Block). length b) fresh, length-replicate {A = Option (Node × Option ℕ)} size None, sum_by-cons (λ (chains : Heads). chains.share) cell.chains []);
    };
    lie = lie_alone;
  }
