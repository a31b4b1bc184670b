-- One journal with the epochs that were given for it.
use Rattle.std.proofs.Common.{◌≡◌, List, [], ◌∷◌, ◌++◌, Bool, false, cond, Result, Ok, Err, is_ok, is_err, map, sym, ap, ◌∙◌, subst}
use Rattle.std.specs.Borrow.{Bor}
use Rattle.std.specs.Prelude.{IsPermutation}
use Rattle.std.specs.List.Sorted.{IsNonDecreasingBy}
use Rattle.std.proofs.lemmas.List.{map-append}
use Rattle.std.proofs.lemmas.List.Sorted.{IsPermutation-map}
use Rattle.stamps.specs.declared.bounds.Limits.{Limits}
use Rattle.plain_store.specs.Words.{Room}
use Rattle.partition.specs.declared.journal.Epoch.{Epoch}
use Rattle.partition.specs.declared.journal.Journal.{Journal}
use Rattle.partition.specs.Journals.{room_for}
use Rattle.partition.specs.Accounts.{epoch_start_of, new_account}
use Rattle.closed_store.specs.Joins.{Fit, IsJoined, AreInTurn, events_of}
use Rattle.closed_store.proofs.Ordered.{one_order, rising_numbers}

-- where a push took no memory in vain, its element stands at the end
pub pushed : {A E X : Type 0} {new : List X} {test : Bool} (old : List X) (x : X) (r : Result A E) → test ≡ is_err r → test ≡ false
    → new ≡ cond (is_ok r) (old ++ x ∷ []) old → new ≡ old ++ x ∷ []
pushed old x (Ok a) told ok is = is
pushed old x (Err e) told ok is = absurd (let both = sym told ∙ ok in cc)

abbrev behind : Bor Epoch → Epoch
behind e = e.now

module _ (given : List Epoch) (left : Epoch) (own sorted all : List (Bor Epoch)) (last : Bor Epoch)
    (own_is : map behind own ≡ given) (same : IsPermutation own sorted) (all_is : all ≡ sorted ++ last ∷ []) (last_is : last.now ≡ left) where
  ordered : IsPermutation given (map behind sorted)
  ordered = subst (λ (es : List Epoch). IsPermutation es (map behind sorted)) own_is (IsPermutation-map behind own sorted same)

  split : map behind all ≡ map behind sorted ++ left ∷ []
  split = ap (map behind) all_is ∙ map-append behind sorted (last ∷ []) ∙ ap (λ e. map behind sorted ++ e ∷ []) last_is

  pub joined : (limits : Limits) (journal : Journal) → AreInTurn (room_for limits) (map behind all)
      → journal.limits ≡ limits → epoch_start_of journal ≡ (new_account limits).start → journal.events.items ≡ events_of (map behind all) → IsJoined limits given left journal
  joined limits journal start limits_is turn_is events_is = (
    map behind sorted,
    ordered,
    subst (AreInTurn (room_for limits)) split start,
    λ i. record { limits = limits_is i; start = turn_is i; events = both i },
  )
    where
      both : journal.events.items ≡ events_of (map behind sorted ++ left ∷ [])
      both = events_is ∙ ap events_of split

  -- where these are not in turn, no order of them is
  pub unfit : (room : Room) → IsNonDecreasingBy (λ (e : Bor Epoch). e.now.number) sorted → (AreInTurn room (map behind all) → ⊥) → Fit room given left → ⊥
  unfit room rises out fit =
      let is = one_order room given (map behind sorted) fit.0 left ordered fit.1 (rising_numbers behind sorted rises) fit.2 in
      out (subst (AreInTurn room) (ap (λ (es : List Epoch). es ++ left ∷ []) (sym is) ∙ sym split) fit.2)
