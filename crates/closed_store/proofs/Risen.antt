-- The table of each seat's last number, and what numbers that rise make of replies that are right.
use Rattle.std.proofs.Common.{◌≡◌, ◌⊎◌, inl, inr, ℕ, zero, suc, ◌+◌, ◌<◌, ◌≤◌, Bool, true, false, IsTrue, List, [], ◌∷◌, ◌++◌, length, take, get_or, cond, nat_eq, Option, Some, None, refl, sym, ap, ◌∙◌, subst, arith, Result, Ok, Err}
use Rattle.std.specs.Prelude.{slice_get, reverse, IsSomeAnd, IfSome, IsOk, OnOk, is_err}
use Rattle.std.proofs.lemmas.List.{append-nil, reverse-append, take_more, take_all}
use Rattle.std.proofs.lemmas.Option.{same_Some, slice_get_read, slice_get_within, slice_get-get_or}
use Rattle.std.proofs.lemmas.Bool.{cases_lt}
use Rattle.indexmap.specs.IndexMap.{IndexMap, IsUnique, get}
use Rattle.plain_store.specs.Log.{Log}
use Rattle.plain_store.specs.Replies.{reply_after}
use Rattle.stamps.specs.declared.bounds.Limits.{Limits}
use Rattle.prepare_commit.proofs.Freezing.{nothing_left}
use Rattle.partition.specs.Events.{Event}
use Rattle.partition.specs.Journals.{FollowsEvents, EachFollows, IsSoundUnder, IsLate, last_from, last_number, log_after, room_for}
use Rattle.closed_store.specs.Joins.{AreRightReplies, DoRise}

pub is_ok : {A E P : Type 0} (r : Result A E) → is_err r ≡ false → OnOk r P → P
is_ok (Ok x) ok h = h
is_ok (Err e) ok h = absurd (cc)

pub went_well : {A E P : Type 0} (r : Result A E) → IsOk r → OnOk r P → P
went_well (Ok x) ok h = h
went_well (Err e) ok h = absurd (cc)

pub not_true : (b : Bool) → b ≡ false → IsTrue b → ⊥
not_true true is t = cc
not_true false is t = cc

-- the table has each seat's last number among these events
pub record HasLasts {S : Type 0} (lasts : IndexMap ℕ ℕ S) (events : List Event) : Type 0 where
  pub unique : IsUnique nat_eq lasts
  pub is_last : (seat : ℕ) → get nat_eq lasts seat ≡ last_number seat events

-- the numbers below a place rise
abbrev pub RiseBelow : List Event → ℕ → Type 0
RiseBelow events n =
    (place : ℕ) (e : Event) → place < n → slice_get events place ≡ Some e → IsLate (take place events) e.seat e.number → ⊥

pub rise_below : (events : List Event) (n : ℕ) → length events ≤ n → RiseBelow events n → DoRise events
rise_below events n long below place e at =
    let within = slice_get_within events place e at in below place e (omega (arith, long, within)) at

module _ {S : Type 0} (events : List Event) (k : ℕ) (e : Event) (within : k < length events) (is : e ≡ get_or events k e) (lasts : IndexMap ℕ ℕ S) (has : HasLasts lasts (take k events)) where
  here : slice_get events k ≡ Some e
  here = slice_get_read events (length events) k e refl within is

  -- a number that the table refuses does not rise
  pub refused : IsSomeAnd (get nat_eq lasts e.seat) (λ last. e.number ≤ last) → DoRise events → ⊥
  refused late rise = rise k e here (subst (λ (last : Option ℕ). IsSomeAnd last (λ l. e.number ≤ l)) (has.is_last e.seat) late)

  pub lasts_more : (lasts' : IndexMap ℕ ℕ S) → IsUnique nat_eq lasts' → ((seat : ℕ) → get nat_eq lasts' seat ≡ cond (nat_eq e.seat seat) (Some e.number) (get nat_eq lasts seat)) → HasLasts lasts' (take (k + 1) events)
  lasts_more lasts' unique told = record {
    unique = unique;
    is_last = λ seat.
        let snoc : reverse (take (k + 1) events) ≡ e ∷ reverse (take k events) =
        ap reverse (take_more events k e within ∙ ap (λ (x : Event). take k events ++ x ∷ []) (sym is)) ∙ reverse-append (take k events) (e ∷ []) in
        told seat ∙ ap (cond (nat_eq e.seat seat) (Some e.number)) (has.is_last seat) ∙ sym (ap (last_from seat) snoc);
  }

  pub rise_more : (IsSomeAnd (get nat_eq lasts e.seat) (λ last. e.number ≤ last) → ⊥) → RiseBelow events k → RiseBelow events (k + 1)
  rise_more on_time below place f under at = go (cases_lt place k)
    where
      go : (place < k) ⊎ (k ≤ place) → IsLate (take place events) f.seat f.number → ⊥
      go (inl less) late = below place f less at late
      go (inr from) late =
          let here_is : place ≡ k = omega (arith, under, from) in
          let e_is : f ≡ e = same_Some f e (sym at ∙ ap (slice_get events) here_is ∙ here) in
          let P : ℕ → Type 0 = λ n. IsLate (take n events) f.seat f.number in
          let Q : Event → Type 0 = λ x. IsLate (take k events) x.seat x.number in
          on_time (subst (λ (last : Option ℕ). IsSomeAnd last (λ l. e.number ≤ l)) (sym (has.is_last e.seat)) (subst Q e_is (subst P here_is late)))

-- ---- soundness

above : (last : Option ℕ) (number : ℕ) → (IsSomeAnd last (λ l. number ≤ l) → ⊥) → IfSome last (λ l. l < number)
above None number not_late = tt
above (Some l) number not_late = omega (arith, not_late)

module _ (limits : Limits) (events : List Event) (replies : AreRightReplies (room_for limits) [] events) (rise : DoRise events) where
  sound_to : (k : ℕ) → k ≤ length events → EachFollows (room_for limits) (reverse (take k events))
  sound_to zero le = tt
  sound_to (suc k) le =
      let d : Event = first events le in
      let e : Event = get_or events k d in
      let at : slice_get events k ≡ Some e = slice_get-get_or events k d (omega arith) in
      let on : k + 1 ≡ suc k = omega arith in
      let snoc : reverse (take (suc k) events) ≡ e ∷ reverse (take k events) =
      ap (λ n. reverse (take n events)) (sym on) ∙ ap reverse (take_more events k d (omega arith)) ∙ reverse-append (take k events) (e ∷ []) in
      let follows : FollowsEvents (room_for limits) (reverse (take k events)) e = record {
        reply = replies k e at [] (nothing_left (room_for limits)) ∙ ap (λ (log : Log). reply_after (room_for limits) log e.call) (append-nil (log_after (take k events)));
        number = above (last_number e.seat (take k events)) e.number (rise k e at);
      } in
      subst (EachFollows (room_for limits)) (sym snoc) (follows, sound_to k (omega arith))
    where
      first : (es : List Event) → suc k ≤ length es → Event
      first [] le = absurd (omega (arith, le))
      first (e ∷ es) le = e

  -- events with the right replies and rising numbers are sound from the start
  pub sound_events : IsSoundUnder limits events
  sound_events = subst (λ (es : List Event). EachFollows (room_for limits) (reverse es)) (take_all (length events) events (omega arith)) (sound_to (length events) (omega arith))
