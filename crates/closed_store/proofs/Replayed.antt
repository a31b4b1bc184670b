-- What a book that replays the epochs of one journal shows of them.
use Rattle.std.proofs.Common.{◌≡◌, ◌⊎◌, inl, inr, ℕ, ◌+◌, ◌<◌, ◌≤◌, List, [], ◌∷◌, ◌++◌, length, map, take, get_or, Some, refl, sym, ap, ◌∙◌, subst, arith}
use Rattle.std.specs.Prelude.{slice_get, reverse}
use Rattle.std.proofs.lemmas.List.{append_assoc, append-nil, map-append, reverse-append, take_more}
use Rattle.std.specs.Option.{option_map}
use Rattle.std.proofs.lemmas.Bool.{cases_lt}
use Rattle.std.proofs.lemmas.Option.{same_Some, slice_get_read, slice_get_within, get_or_from_slice_get, slice_get-map}
use Rattle.plain_store.specs.Log.{Log}
use Rattle.plain_store.specs.Replies.{reply_after}
use Rattle.plain_store.specs.Words.{Room}
use Rattle.plain_store.specs.declared.calls.Reply.{Reply}
use Rattle.stamps.specs.declared.bounds.Limits.{Limits}
use Rattle.prepare_commit.specs.Bases.{Frozen, Leaves, IsBase, empty_base}
use Rattle.prepare_commit.proofs.Freezing.{nothing_left}
use Rattle.prepare_commit.proofs.SameBase.{bases_of_one_log_are_equal}
use Rattle.partition.specs.Events.{Event, event}
use Rattle.partition.specs.declared.journal.Epoch.{Epoch}
use Rattle.partition.specs.Journals.{IsEnd, event_exchange, log_after, room_for}
use Rattle.partition.specs.Accounts.{Account, account_room, base_at, events_at, new_account, with_event, next_account, IsEntered, IsReplyInEpoch, IsCut}
use Rattle.closed_store.specs.Joins.{AreRightReplies, AreInTurn, IsNextOf, IsAmid, events_of}

-- ---- logs

pub log_after-append : (xs ys : List Event) → log_after (xs ++ ys) ≡ log_after ys ++ log_after xs
log_after-append xs ys = ap (map event_exchange) (reverse-append xs ys) ∙ map-append event_exchange (reverse ys) (reverse xs)

-- what came before, then these events, then an older log
pub log_after-onto : (before events : List Event) (log : Log) → log_after (before ++ events) ++ log ≡ log_after events ++ (log_after before ++ log)
log_after-onto before events log =
    ap (λ (l : Log). l ++ log) (log_after-append before events) ∙ append_assoc (log_after events) (log_after before) log

end_append : (base mid end : Frozen) (before events : List Event) → IsEnd base before mid → IsEnd mid events end → IsEnd base (before ++ events) end
end_append base mid end before events one two = record {
  room = two.room ∙ one.room;
  leaves = λ log l. subst (Leaves end) (sym (log_after-onto before events log)) (two.leaves (log_after before ++ log) (one.leaves log l));
}

end_same : (base end : Frozen) (given events : List Event) → log_after given ≡ log_after events → IsEnd base given end → IsEnd base events end
end_same base end given events same ends = record {
  room = ends.room;
  leaves = λ log l. subst (λ (before : Log). Leaves end (before ++ log)) same (ends.leaves log l);
}

-- two bases to which the same events lead are equal
pub same_end : (room : Room) (before : List Event) (one two : Frozen) → IsBase one → IsBase two → IsEnd (empty_base room) before one → IsEnd (empty_base room) before two → one ≡ two
same_end room before one two is other ends too =
    bases_of_one_log_are_equal one two (log_after before ++ []) is other (ends.room ∙ sym too.room) (ends.leaves [] (nothing_left room)) (too.leaves [] (nothing_left room))

-- ---- one account

one_account : (xs : List Account) (a : Account) → length xs ≡ 1 → slice_get xs 0 ≡ Some a → xs ≡ a ∷ []
one_account [] a long is = absurd (omega (arith, long))
one_account (x ∷ []) a long is = ap (λ y. y ∷ []) (same_Some x a is)
one_account (x ∷ y ∷ ys) a long is = absurd (omega (arith, long))

-- ---- one event

-- the replies of the events below a place
abbrev pub RepliesBelow : Room → List Event → List Event → ℕ → Type 0
RepliesBelow room before events n =
    (place : ℕ) (e : Event) → place < n → slice_get events place ≡ Some e
    → (log : Log) → Leaves (empty_base room) log
    → e.reply ≡ reply_after room (log_after (before ++ take place events) ++ log) e.call

pub all_below : (room : Room) (before events : List Event) (n : ℕ) → length events ≤ n → RepliesBelow room before events n → AreRightReplies room before events
all_below room before events n long below place e at =
    let within = slice_get_within events place e at in below place e (omega (arith, long, within)) at

module _ (limits : Limits) (before events : List Event) (k : ℕ) (e : Event) (accounts : List Account) (r : Reply)
    (within : k < length events) (is : e ≡ get_or events k e) (amid : IsAmid limits (room_for limits) before (take k events) accounts)
    (told : IsReplyInEpoch accounts 0 e.call r) where
  here : slice_get events k ≡ Some e
  here = slice_get_read events (length events) k e refl within is

  right : (log : Log) → Leaves (empty_base (room_for limits)) log → r ≡ reply_after (room_for limits) (log_after (before ++ take k events) ++ log) e.call
  unfolding base_at account_room events_at
  right log l =
      let told' : (older : Log) → Leaves amid.0.base older → r ≡ reply_after (room_for limits) (log_after amid.1 ++ older) e.call = rw amid.2 at told in
      told' (log_after before ++ log) (amid.3.leaves log l)
      ∙ ap (λ (done : Log). reply_after (room_for limits) done e.call)
      (ap (λ (front : Log). front ++ (log_after before ++ log)) amid.4 ∙ sym (log_after-onto before (take k events) log))

  -- where the event's reply is right, it is the book's
  pub same_reply : AreRightReplies (room_for limits) before events → e.reply ≡ r
  same_reply replies =
      replies k e here [] (nothing_left (room_for limits)) ∙ sym (right [] (nothing_left (room_for limits)))

  module _ (same : e.reply ≡ r) where
    pub one_more : RepliesBelow (room_for limits) before events k → RepliesBelow (room_for limits) before events (k + 1)
    one_more below place f under at log l = go (cases_lt place k)
      where
        go : (place < k) ⊎ (k ≤ place) → f.reply ≡ reply_after (room_for limits) (log_after (before ++ take place events) ++ log) f.call
        go (inl less) = below place f less at log l
        go (inr from) =
            let here_is : place ≡ k = omega (arith, under, from) in
            let e_is : e ≡ f = same_Some e f (sym here ∙ ap (slice_get events) (sym here_is) ∙ at) in
            let Q : Event → Type 0 = λ x. x.reply ≡ reply_after (room_for limits) (log_after (before ++ take place events) ++ log) x.call in
            subst Q e_is (same ∙ right log l ∙ ap (λ n. reply_after (room_for limits) (log_after (before ++ take n events) ++ log) e.call) (sym here_is))

    pub still_amid : (new : List Account) (number : ℕ) → IsEntered accounts new 0 (event e.seat number e.call r) → IsAmid limits (room_for limits) before (take (k + 1) events) new
    still_amid new number entered =
        let old : Account = record { limits = limits; start = amid.0; events = amid.1 } in
        let x : Event = event e.seat number e.call r in
        let own = entered.own old (ap (λ (xs : List Account). slice_get xs 0) amid.2) in
        let long : length new ≡ 1 = entered.tenants ∙ ap (λ (xs : List Account). length xs) amid.2 in
        let logs : log_after (amid.1 ++ x ∷ []) ≡ log_after (take (k + 1) events) =
        log_after-append amid.1 (x ∷ [])
        ∙ (λ i. record { call = e.call; reply = sym same i } ∷ amid.4 i)
        ∙ sym (log_after-append (take k events) (e ∷ []))
        ∙ ap (λ (es : List Event). log_after es) (ap (λ (y : Event). take k events ++ y ∷ []) is ∙ sym (take_more events k e within)) in
        (amid.0, amid.1 ++ x ∷ [], one_account new (with_event old x) long own, amid.3, logs)

-- ---- one epoch

module _ (limits : Limits) (before events : List Event) (mid new : List Account) (begun : Epoch)
    (amid : IsAmid limits (room_for limits) before events mid) (cut : IsCut mid new 0 begun) where
  abbrev old : Account
  old = record { limits = limits; start = amid.0; events = amid.1 }

  at_first : slice_get mid 0 ≡ Some old
  at_first = ap (λ (xs : List Account). slice_get xs 0) amid.2

  -- the epoch that was cut begins where those before it led
  pub cut_begins : IsEnd (empty_base (room_for limits)) before begun.base
  cut_begins = subst (IsEnd (empty_base (room_for limits)) before) (sym (cut.given old at_first).1) amid.3

  pub next_amid : IsAmid limits (room_for limits) (before ++ events) [] new
  next_amid =
      let next = cut.begun old at_first in
      let long : length new ≡ 1 = cut.tenants ∙ ap (λ (xs : List Account). length xs) amid.2 in (
        (next_account old next.0).start,
        [],
        one_account new (next_account old next.0) long next.2,
        end_append (empty_base (room_for limits)) amid.0.base next.0 before events amid.3 (end_same amid.0.base next.0 amid.1 events amid.4 next.1),
        refl,
      )

-- ---- all epochs

pub events_of-append : (xs ys : List Epoch) → events_of (xs ++ ys) ≡ events_of xs ++ events_of ys
events_of-append [] ys = refl
events_of-append (x ∷ xs) ys = ap (λ es. x.events.items ++ es) (events_of-append xs ys) ∙ sym (append_assoc x.events.items (events_of xs) (events_of ys))

-- the epochs below a place are in turn
abbrev pub TurnsBelow : Room → List Epoch → ℕ → Type 0
TurnsBelow room epochs n =
    (place : ℕ) (epoch : Epoch) → place < n → slice_get epochs place ≡ Some epoch → IsNextOf room (place + 1) (events_of (take place epochs)) epoch

pub turns_below : (room : Room) (epochs : List Epoch) (n : ℕ) → length epochs ≤ n → TurnsBelow room epochs n → AreInTurn room epochs
turns_below room epochs n long below place epoch at =
    let within = slice_get_within epochs place epoch at in below place epoch (omega (arith, long, within)) at

pub first_amid : (limits : Limits) (accounts : List Account) → accounts ≡ new_account limits ∷ [] → IsAmid limits (room_for limits) [] [] accounts
first_amid limits accounts is = ((new_account limits).start, [], is, record { room = refl; leaves = λ log l. l }, refl)

module _ (epochs : List Epoch) (k : ℕ) (epoch : Epoch) (at : slice_get epochs k ≡ Some epoch) where
  pub events_more : events_of (take k epochs) ++ epoch.events.items ≡ events_of (take (k + 1) epochs)
  events_more =
      let within = slice_get_within epochs k epoch at in
      let is = get_or_from_slice_get epochs k epoch epoch at in
      ap (λ es. events_of (take k epochs) ++ es) (sym (append-nil epoch.events.items))
      ∙ sym (events_of-append (take k epochs) (epoch ∷ []))
      ∙ ap events_of (ap (λ y. take k epochs ++ y ∷ []) (sym is) ∙ sym (take_more epochs k epoch within))

  pub turn_more : (room : Room) → TurnsBelow room epochs k → IsNextOf room (k + 1) (events_of (take k epochs)) epoch → TurnsBelow room epochs (k + 1)
  turn_more room below next place other under there = go (cases_lt place k)
    where
      go : (place < k) ⊎ (k ≤ place) → IsNextOf room (place + 1) (events_of (take place epochs)) other
      go (inl less) = below place other less there
      go (inr from) =
          let here_is : place ≡ k = omega (arith, under, from) in
          let same : epoch ≡ other = same_Some epoch other (sym at ∙ ap (slice_get epochs) (sym here_is) ∙ there) in
          let P : ℕ → Type 0 = λ n. IsNextOf room (n + 1) (events_of (take n epochs)) other in
          subst P (sym here_is) (subst (IsNextOf room (k + 1) (events_of (take k epochs))) same next)

pub read_at : {X Y : Type 0} (f : X → Y) (xs : List X) (k : ℕ) (x : X) → k < length xs → x ≡ get_or xs k x → slice_get (map f xs) k ≡ Some (f x)
read_at f xs k x within is = slice_get-map f xs k ∙ ap (option_map f) (slice_get_read xs (length xs) k x refl within is)
