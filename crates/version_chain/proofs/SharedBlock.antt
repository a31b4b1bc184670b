-- For the callers of `Chains` whose tenants share a block. Each tenant's share is there, also after a call of another tenant.
use Rattle.std.proofs.Common.{◌≡◌, ◌≢◌, inl, inr, ℕ, zero, suc, ◌+◌, ◌<◌, ◌≤◌, ◌==◌, ◌&&◌, Bool, true, false, if◌then◌else◌, List, [], ◌∷◌, length, set, sum_by, Option, Some, None, refl, sym, ap, subst, ◌∙◌, arith, length-set}
use Rattle.std.specs.Prelude.{slice_get}
use Rattle.std.proofs.lemmas.List.Sums.{sum_by-cons}
use Rattle.std.proofs.lemmas.Option.{slice_get_within}
use Rattle.version_arena.specs.Arena.{entry}
use Rattle.version_chain.specs.Node.{Node}
use Rattle.version_chain.specs.Heads.{Heads}
use Rattle.version_chain.specs.Chain.{Cells, HoldsChains, HasShare, cell_of, OthersKept}
use Rattle.version_chain.specs.Listed.{is_at_stamp, Lists, NoneMove}
use Rattle.version_chain.specs.Sharing.{ShareBlock, ChangesOwn}
use Rattle.version_chain.proofs.Listing.{lists_same}
use Rattle.version_chain.proofs.Neighbours.{own_cell, from_cell, Stands-kept}
use Rattle.version_chain.proofs.Replacing.{same_or_not}

abbrev used_by : Heads → ℕ
used_by = λ (chains : Heads). chains.used

abbrev share_of : Heads → ℕ
share_of = λ (chains : Heads). chains.share

-- ---- lists of tenants

none_there : (n : ℕ) (chains : Heads) → slice_get {X = Heads} [] n ≡ Some chains → ⊥
none_there n chains at = absurd (let e : None ≡ Some chains = at in cc)

within_shares : (tenants : List Heads) → ((n : ℕ) (chains : Heads) → slice_get tenants n ≡ Some chains → chains.used ≤ chains.share) → sum_by used_by tenants ≤ sum_by share_of tenants
within_shares [] each = omega arith
within_shares (c ∷ tenants) each =
    let here = each 0 c refl in
    let rest = within_shares tenants (λ n chains at. each (suc n) chains at) in
    omega (arith, here, rest, sum_by-cons used_by c tenants, sum_by-cons share_of c tenants)

-- one tenant may use its whole share, whatever the others use
all_but_one : (tenants : List Heads) (n : ℕ) (chains : Heads) → slice_get tenants n ≡ Some chains → ((k : ℕ) (other : Heads) → slice_get tenants k ≡ Some other → other.used ≤ other.share)
    → sum_by used_by tenants + chains.share ≤ sum_by share_of tenants + chains.used
all_but_one [] n chains at each = absurd (none_there n chains at)
all_but_one (c ∷ tenants) zero chains at each =
    let same : Some c ≡ Some chains = at in
    let is : c ≡ chains = cc in
    let used = ap used_by is in
    let share = ap share_of is in
    let rest = within_shares tenants (λ n other there. each (suc n) other there) in
    omega (arith, used, share, rest, sum_by-cons used_by c tenants, sum_by-cons share_of c tenants)
all_but_one (c ∷ tenants) (suc n) chains at each =
    let here = each 0 c refl in
    let rest = all_but_one tenants n chains at (λ k other there. each (suc k) other there) in
    omega (arith, here, rest, sum_by-cons used_by c tenants, sum_by-cons share_of c tenants)

sum_set : (f : Heads → ℕ) (tenants : List Heads) (n : ℕ) (before after : Heads) → slice_get tenants n ≡ Some before → sum_by f (set tenants n after) + f before ≡ sum_by f tenants + f after
sum_set f [] n before after at = absurd (none_there n before at)
sum_set f (c ∷ tenants) zero before after at =
    let same : Some c ≡ Some before = at in
    let is : c ≡ before = cc in
    let f_is = ap f is in
    omega (arith, f_is, sum_by-cons f after tenants, sum_by-cons f c tenants)
sum_set f (c ∷ tenants) (suc n) before after at =
    omega (arith, sum_by-cons f c (set tenants n after), sum_by-cons f c tenants, sum_set f tenants n before after at)

get_set_same : (tenants : List Heads) (n : ℕ) (after chains : Heads) → slice_get (set tenants n after) n ≡ Some chains → after ≡ chains
get_set_same [] n after chains at = absurd (none_there n chains at)
get_set_same (c ∷ tenants) zero after chains at = let same : Some after ≡ Some chains = at in cc
get_set_same (c ∷ tenants) (suc n) after chains at = get_set_same tenants n after chains at

get_set_other : (tenants : List Heads) (n k : ℕ) (after : Heads) → k ≢ n → slice_get (set tenants n after) k ≡ slice_get tenants k
get_set_other [] n k after different = refl
get_set_other (c ∷ tenants) zero zero after different = absurd (different refl)
get_set_other (c ∷ tenants) zero (suc k) after different = refl
get_set_other (c ∷ tenants) (suc n) zero after different = refl
get_set_other (c ∷ tenants) (suc n) (suc k) after different = get_set_other tenants n k after (λ e. different (ap suc e))

-- ---- one block

-- each tenant's share is there
pub has_share : (cells : Cells) (tenants : List Heads) (n : ℕ) (chains : Heads) → ShareBlock cells tenants → slice_get tenants n ≡ Some chains → HasShare cells chains
has_share cells tenants n chains share at =
    let more = all_but_one tenants n chains at (λ k other there. (share.stand k other there).fits) in
    omega (arith, more, share.counted, share.fit)

-- a call of one tenant
module _ (old new : Cells) (tenants : List Heads) (n : ℕ) (before after : Heads) (share : ShareBlock old tenants) (at : slice_get tenants n ≡ Some before)
    (stands : HoldsChains new after) (own : ChangesOwn old new before after) where
  apart : (k : ℕ) (other : Heads) → k ≢ n → slice_get tenants k ≡ Some other → other.tenant ≢ before.tenant
  apart k other different there same = different (sym (share.numbered k other there) ∙ same ∙ share.numbered n before at)

  own_number : after.tenant ≡ n
  own_number = own.shape.tenant ∙ share.numbered n before at

  numbered_next : (k : ℕ) (chains : Heads) → slice_get (set tenants n after) k ≡ Some chains → chains.tenant ≡ k
  numbered_next k chains there = elim (same_or_not k n) [
    | inl same ↦ sym (ap (λ (c : Heads). c.tenant) (get_set_same tenants n after chains (subst (λ m. slice_get (set tenants n after) m ≡ Some chains) same there))) ∙ own_number ∙ sym same
    | inr different ↦ share.numbered k chains (sym (get_set_other tenants n k after different) ∙ there)
  ]

  stand_next : (k : ℕ) (chains : Heads) → slice_get (set tenants n after) k ≡ Some chains → HoldsChains new chains
  stand_next k chains there = elim (same_or_not k n) [
    | inl same ↦ subst (HoldsChains new) (get_set_same tenants n after chains (subst (λ m. slice_get (set tenants n after) m ≡ Some chains) same there)) stands
    | inr different ↦
        let was = sym (get_set_other tenants n k after different) ∙ there in
        Stands-kept old new before.tenant own.others chains (apart k chains different was) (share.stand k chains was)
  ]

  whose_next : (slot : ℕ) (held : Node × Option ℕ) → entry new slot ≡ Some held → held.0.tenant < length (set tenants n after)
  whose_next slot held there = elim (same_or_not held.0.tenant before.tenant) [
    | inl same ↦ (let within = slice_get_within tenants n before at in let number = share.numbered n before at in omega (arith, within, number, same, length-set tenants n after))
    | inr different ↦
        let was = from_cell held.0.tenant (entry old slot) held (sym (own.others.cells held.0.tenant slot different) ∙ ap (cell_of held.0.tenant) there ∙ own_cell held.0.tenant held refl) in
        let within = share.whose slot held was in
        omega (arith, within, length-set tenants n after)
  ]

  pub share_next : ShareBlock new (set tenants n after)
  share_next = record {
    numbered = numbered_next;
    stand = stand_next;
    whose = whose_next;
    counted = omega (arith, own.live, share.counted, sum_set used_by tenants n before after at);
    fit = omega (arith, own.others.long, share.fit, own.shape.share, sum_set share_of tenants n before after at);
  }

-- ---- another tenant's list

module _ (old new : Cells) (tenant : ℕ) (others : OthersKept old new tenant) (other : Heads) (different : other.tenant ≢ tenant) where
  held_same : (stamp : ℕ) (e : Option (Node × Option ℕ)) → is_at_stamp other.tenant stamp (cell_of other.tenant e) ≡ is_at_stamp other.tenant stamp e
  held_same stamp None = refl
  held_same stamp (Some cell) = by (cell.0.tenant == other.tenant) refl
    where
      by : (b : Bool) → (cell.0.tenant == other.tenant) ≡ b → is_at_stamp other.tenant stamp (if b then Some cell else None) ≡ is_at_stamp other.tenant stamp (Some cell)
      by true e = refl
      by false e = sym (ap (λ t. t && (cell.0.version.prepared.stamp == stamp)) e)

  pub none_move : NoneMove old new other.tenant
  none_move slot stamp =
      sym (held_same stamp (entry new slot)) ∙ ap (is_at_stamp other.tenant stamp) (others.cells other.tenant slot different) ∙ held_same stamp (entry old slot)

  pub lists_kept : Lists old other → Lists new other
  lists_kept lists = lists_same old new other none_move lists
