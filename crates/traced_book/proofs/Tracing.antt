-- What a partition has of the history, from one step to the next.
use Rattle.std.proofs.Common.{◌≡◌, ◌≢◌, ◌∙◌, ℕ, ◌+◌, ◌<◌, ◌≤◌, Bool, true, false, List, [], ◌∷◌, ◌++◌, length, map, reverse, Option, Some, None, ⊎_elim, refl, ap, sym, subst, arith, append_assoc, length-append}
use Rattle.std.specs.Prelude.{◌^◌, slice_get, IfOk, IsSomeAnd, IsTrue, MatchBool, OnErr, Result, Ok, Err}
use Rattle.std.specs.List.{cons_option, filter_map}
use Rattle.std.specs.Option.{option_map}
use Rattle.std.proofs.lemmas.Bool.Decides.{eqb_tells}
use Rattle.std.proofs.lemmas.List.{append-nil, map-append, reverse-append, length-map, length-reverse}
use Rattle.std.proofs.lemmas.Option.{slice_get_cases, slice_get-map}
use mathlib.Core.List.{IsPrefix}
use Rattle.stamps.specs.declared.bounds.Limits.{Limits}
use Rattle.plain_store.specs.Log.{Log}
use Rattle.plain_store.specs.Replies.{reply_after, reply_to, log_of}
use Rattle.plain_store.specs.Words.{Room}
use Rattle.plain_store.specs.declared.calls.Call.{Call}
use Rattle.plain_store.specs.declared.calls.Reply.{Reply}
use Rattle.prepare_commit.proofs.Freezing.{nothing_left}
use Rattle.prepare_commit.specs.Bases.{Frozen, Leaves, empty_base}
use Rattle.partition.specs.declared.journal.Epoch.{Epoch}
use Rattle.partition.specs.Accounts.{Account, IsCut, IsEntered, IsReplyInEpoch, account_room, base_at, base_in, before_at, before_in, events_at, events_in, new_account, next_account, places, with_event}
use Rattle.partition.specs.Accounts.{room_in as room_of_account}
use Rattle.partition.specs.Events.{Event, event}
use Rattle.partition.specs.Journals.{event_exchange, log_after, room_for}
use Rattle.history.specs.declared.entry.CallToServe.{CallToServe}
use Rattle.history.specs.declared.entry.HistoryEntry.{HistoryEntry}
use Rattle.history.specs.Asking.{served_by}
use Rattle.history.specs.declared.entry.HistoryEntry.TheVariants.{Opened, Joined, Arrived, Began, Decided, GivenUp, ReadBegan, Drew, Passed, Served}
use Rattle.history.specs.declared.entry.ServedCall.{ServedCall}
use Rattle.history.specs.declared.entry.StoreOpening.{StoreOpening}
use Rattle.history.specs.Entries.{but_last, calls_of, calls_served, count, limits_of, own, reply_in, room_in, room_of, served_at, served_to, StandsBehind}
use Rattle.history.specs.Legal.{IsLegal}
use Rattle.history.specs.Rules.{IsAdded, IsOvertaken, TakesNoEntry, is_opening}
use Rattle.history.proofs.Counts.{count_later, equal_test, other_test}
use Rattle.history.proofs.Shown.{to_is}
use Rattle.history.proofs.Servings.{is_served, none_taken, room_later, served_added, served_own, served_same}
use Rattle.history.proofs.Steps.{before_added}
use Rattle.traced_book.specs.Entering.{HasEntered}
use Rattle.traced_book.proofs.Forgetting.{begun_of}
use Rattle.traced_book.specs.Forgetting.{AreBegunAnew, BeginsAnew, IsTaken}
use Rattle.traced_book.specs.Traced.{AreTraced, IsLatestEpoch, IsStretch, IsTraced, WereMoreServed, served_of}

-- a history with the same calls there has as much of the account
moved : (v log : List HistoryEntry) (partition tenant : ℕ) (account : Account) → room_of v tenant ≡ room_of log tenant
    → served_at tenant partition v ≡ served_at tenant partition log → IsTraced v partition tenant account → IsTraced log partition tenant account
moved v log partition tenant account room same r = record {
  earlier = r.earlier;
  calls = sym same ∙ r.calls;
  places = r.places;
  room = sym room ∙ r.room;
  base = r.base;
  replies = r.replies ∙ ap (λ (l : List ServedCall). log_of (room_for account.limits) (calls_of l)) same;
}

-- as many calls were served as there are calls alone
served_length : (log : List HistoryEntry) (partition tenant : ℕ) → length (served_at tenant partition log) ≡ length (calls_served tenant partition log)
served_length log partition tenant =
    let f : ServedCall → Call = λ s. s.call in
    sym (length-map (served_at tenant partition log) f) ∙ sym (length-reverse (map f (served_at tenant partition log)))

-- how many calls there were
pub places_of : (log : List HistoryEntry) (partition tenant : ℕ) (account : Account) → IsTraced log partition tenant account
    → length (calls_served tenant partition log) ≡ account.start.before + length account.events
places_of log partition tenant account r =
    let f : ServedCall → Call = λ s. s.call in
    length-reverse (map f (served_at tenant partition log)) ∙ length-map (served_at tenant partition log) f ∙ ap length r.calls
    ∙ length-append r.earlier (map (served_of partition tenant) account.events)
    ∙ ap (λ (n : ℕ). n + length (map (served_of partition tenant) account.events)) r.places
    ∙ ap (λ (n : ℕ). account.start.before + n) (length-map account.events (served_of partition tenant))

-- a reply after the epoch is one after the history
pub reply_is : (log : List HistoryEntry) (partition tenant : ℕ) (account : Account) (call : Call) (reply : Reply) → IsTraced log partition tenant account
    → ((l : Log) → Leaves account.start.base l → reply ≡ reply_after (room_for account.limits) (log_after account.events ++ l) call)
    → reply ≡ reply_in log tenant partition call
reply_is log partition tenant account call reply r told =
    let room = room_for account.limits in
    told (log_of room (calls_of r.earlier)) r.base ∙ ap (λ (l : Log). reply_after room l call) r.replies
    ∙ sym (to_is room (calls_served tenant partition log) call)
    ∙ ap (λ (its : Room). reply_to its (calls_served tenant partition log) call) (sym r.room)

-- ---- one call more

log_more : (events : List Event) (e : Event) → log_after (events ++ e ∷ []) ≡ event_exchange e ∷ log_after events
log_more events e = ap (map event_exchange) (reverse-append events (e ∷ []))

calls_more : (served : List ServedCall) (s : ServedCall) → calls_of (served ++ s ∷ []) ≡ s.call ∷ calls_of served
calls_more served s =
    let f : ServedCall → Call = λ c. c.call in
    ap reverse (map-append f served (s ∷ [])) ∙ reverse-append (map f served) (s.call ∷ [])

logged_more : (room : Room) (calls : List Call) (call : Call) (reply : Reply) → reply ≡ reply_to room calls call
    → record { call = call; reply = reply } ∷ log_of room calls ≡ log_of room (call ∷ calls)
unfolding log_of reply_to
logged_more room calls call reply is =
    let E : Reply → Log = λ r. record { call = call; reply = r } ∷ log_of room calls in ap E is

own_call : (partition tenant : ℕ) (e : Event) → served_to tenant partition (Served (served_of partition tenant e)) ≡ Some (served_of partition tenant e)
own_call partition tenant e = rw (equal_test tenant tenant refl, equal_test partition partition refl) refl

other_call : (partition tenant other : ℕ) (e : Event) → tenant ≢ other → served_to other partition (Served (served_of partition tenant e)) ≡ None
other_call partition tenant other e apart = rw (other_test tenant other apart) refl

pub added_later : (log now : List HistoryEntry) (k entries : ℕ) (e : HistoryEntry) → IsAdded k entries e log now → IsPrefix log now
added_later log now k entries e a = (a.0 ++ e ∷ [], sym (append_assoc log a.0 (e ∷ [])) ∙ sym a.1)

module _ (log now : List HistoryEntry) (partition tenant entries : ℕ) (e : Event) (legal : IsLegal log) (counted : count (partition + 1) log ≡ entries)
    (add : IsAdded (partition + 1) entries (Served (served_of partition tenant e)) log now) where
  later : IsPrefix log now
  later = added_later log now (partition + 1) entries (Served (served_of partition tenant e)) add

  -- the account with the event
  own_added : (account : Account) → IsTraced log partition tenant account → e.reply ≡ reply_in log tenant partition e.call
      → IsTraced now partition tenant (with_event account e)
  own_added account r reply =
      let s = served_of partition tenant e in
      let f = served_of partition tenant in
      let before = served_at tenant partition log in
      let room = room_for account.limits in
      let served : served_at tenant partition now ≡ before ++ s ∷ [] =
      served_added tenant partition entries s log now refl counted add
      ∙ ap (λ (o : Option ServedCall). before ++ cons_option o []) (own_call partition tenant e) in
      let told : e.reply ≡ reply_to room (calls_of before) e.call =
      reply ∙ ap (λ (its : Room). reply_to its (calls_of before) e.call) r.room in
      let earlier = log_of room (calls_of r.earlier) in
      record {
        earlier = r.earlier;
        calls = served ∙ ap (λ (l : List ServedCall). l ++ s ∷ []) r.calls ∙ append_assoc r.earlier (map f account.events) (s ∷ [])
            ∙ ap (λ (l : List ServedCall). r.earlier ++ l) (sym (map-append f account.events (e ∷ [])));
        places = r.places;
        room = sym (room_later log now tenant legal later) ∙ r.room;
        base = r.base;
        replies = ap (λ (l : Log). l ++ earlier) (log_more account.events e)
            ∙ ap (λ (l : Log). event_exchange e ∷ l) r.replies
            ∙ logged_more room (calls_of before) e.call e.reply told
            ∙ ap (log_of room) (sym (calls_more before s))
            ∙ ap (λ (l : List ServedCall). log_of room (calls_of l)) (sym served);
      }

  -- another tenant's
  other_added : (other : ℕ) (account : Account) → tenant ≢ other → IsTraced log partition other account → IsTraced now partition other account
  other_added other account apart r =
      let before = served_at other partition log in
      let served : before ≡ served_at other partition now =
      sym (served_added other partition entries (served_of partition tenant e) log now refl counted add
      ∙ ap (λ (o : Option ServedCall). before ++ cons_option o []) (other_call partition tenant other e apart)
      ∙ append-nil before) in
      moved log now partition other account (room_later log now other legal later) served r

  -- the reply of an event that was entered, where its tenant has this account
  in_epoch : (accounts : List Account) (account : Account) → slice_get accounts tenant ≡ Some account → IsReplyInEpoch accounts tenant e.call e.reply
      → (l : Log) → Leaves account.start.base l → e.reply ≡ reply_after (room_for account.limits) (log_after account.events ++ l) e.call
  unfolding events_at base_at account_room
  in_epoch accounts account is =
      let Q : Option Account → Type 0 = λ o. (l : Log) → Leaves (base_in o) l → e.reply ≡ reply_after (room_of_account o) (log_after (events_in o) ++ l) e.call in
      subst Q is

  pub are_added : (old new : List Account) → tenant < length old → IsEntered old new tenant e → IsReplyInEpoch old tenant e.call e.reply
      → AreTraced log partition old → AreTraced now partition new
  are_added old new there entered reply traced other account is =
      ⊎_elim
      (λ same. ⊎_elim
      (λ h.
      let r = traced tenant h.0 h.2 in
      let with_e = own_added h.0 r (reply_is log partition tenant h.0 e.call e.reply r (in_epoch old h.0 h.2 reply)) in
      let now_is : Some (with_event h.0 e) ≡ Some account = sym (entered.own h.0 h.2) ∙ ap (slice_get new) (sym same.1) ∙ is in
      let account_is : with_event h.0 e ≡ account = cc now_is in
      subst (λ (t : ℕ). IsTraced now partition t account) (sym same.1) (subst (IsTraced now partition tenant) account_is with_e))
      (λ h. absurd (omega (arith, h.0, there)))
      (slice_get_cases old tenant).1)
      (λ apart. other_added other account (λ e. apart.1 (sym e)) (traced other account (sym (entered.others other apart.1) ∙ is)))
      (eqb_tells other tenant)

-- ---- no call more

-- of two beginnings of a history that have all calls of the partition, one has of the accounts what the other has
pub still_traced : (v seen now : List HistoryEntry) (partition : ℕ) (accounts : List Account) → IsLegal v → IsLegal seen → IsPrefix v now → IsPrefix seen now
    → count (partition + 1) v ≡ count (partition + 1) now → count (partition + 1) seen ≡ count (partition + 1) now
    → AreTraced v partition accounts → AreTraced seen partition accounts
still_traced v seen now partition accounts legal other first second same equal traced tenant account is =
    moved v seen partition tenant account (room_later v now tenant legal first ∙ sym (room_later seen now tenant other second))
    (served_same tenant partition v now first same ∙ sym (served_same tenant partition seen now second equal)) (traced tenant account is)

-- a book entered others than so many calls
pub other_calls : (front : List HistoryEntry) (partition key entries calls : ℕ) → key ≡ partition + 1 → count key front ≡ entries → entries ≢ calls
    → calls ≢ count (partition + 1) front
other_calls front partition key entries calls word counted apart is = apart (sym counted ∙ ap (λ (k : ℕ). count k front) word ∙ sym is)

-- what a book has seen of the history, what was seen beside it, and what the history has now of the book's partition
module _ (front seen now : List HistoryEntry) (partition key entries calls found : ℕ) (word : key ≡ partition + 1) (first : IsPrefix front now)
    (counted : count key front ≡ entries) (looked : found ≡ count key now) where
  -- it has no other calls than the book, and as many were seen
  pub whole_traced : (accounts : List Account) → IsLegal front → IsLegal seen → IsPrefix seen now → entries ≡ calls → found ≡ calls → calls ≤ count (partition + 1) seen
      → AreTraced front partition accounts → AreTraced seen partition accounts
  whole_traced accounts legal other second entered all few traced =
      let same : count (partition + 1) front ≡ count (partition + 1) now =
      subst (λ (k : ℕ). count k front ≡ count k now) word (counted ∙ entered ∙ sym all ∙ looked) in
      let most : calls ≡ count (partition + 1) now = subst (λ (k : ℕ). calls ≡ count k now) word (sym all ∙ looked) in
      let equal : count (partition + 1) seen ≡ count (partition + 1) now = omega (arith, count_later (partition + 1) seen now second, few, most) in
      still_traced front seen now partition accounts legal other first second same equal traced

  -- it has more than the book
  pub more_served : entries ≡ calls → found ≢ calls → WereMoreServed front now partition
  more_served entered apart =
      let more : count key front < count key now = omega (arith, count_later key front now first, counted, entered, apart, looked) in
      (first, subst (λ (k : ℕ). count k front < count k now) word more)

-- ---- an epoch that is cut

pub cut_traced : (log : List HistoryEntry) (partition tenant : ℕ) (epoch : Epoch) (old new : List Account) → tenant < length old → IsCut old new tenant epoch
    → AreTraced log partition old → AreTraced log partition new
cut_traced log partition tenant epoch old new there cut traced other account is =
    ⊎_elim
    (λ same. ⊎_elim
    (λ h.
    let begun = cut.begun h.0 h.2 in
    let now_is : Some (next_account h.0 begun.0) ≡ Some account = sym begun.2 ∙ ap (slice_get new) (sym same.1) ∙ is in
    let account_is : next_account h.0 begun.0 ≡ account = cc now_is in
    let r = traced tenant h.0 h.2 in
    subst (λ (t : ℕ). IsTraced log partition t account) (sym same.1)
    (subst (IsTraced log partition tenant) account_is (next h.0 begun.0 r (begun.1.leaves (log_of (room_for h.0.limits) (calls_of r.earlier)) r.base))))
    (λ h. absurd (omega (arith, h.0, there)))
    (slice_get_cases old tenant).1)
    (λ apart. traced other account (sym (cut.others other apart.1) ∙ is))
    (eqb_tells other tenant)
  where
    next : (a : Account) (base : Frozen) (r : IsTraced log partition tenant a)
        → Leaves base (log_after a.events ++ log_of (room_for a.limits) (calls_of r.earlier)) → IsTraced log partition tenant (next_account a base)
    next a base r leaves = record {
      earlier = served_at tenant partition log;
      calls = sym (append-nil (served_at tenant partition log));
      places = served_length log partition tenant ∙ places_of log partition tenant a r;
      room = r.room;
      base = subst (Leaves base) r.replies leaves;
      replies = refl;
    }

-- an account's events are a stretch of the history
pub traced_stretch : (log : List HistoryEntry) (partition tenant : ℕ) (a : Account) → IsTraced log partition tenant a → IsStretch log partition tenant a.start a.events
traced_stretch log partition tenant a r =
    let f : Event → ServedCall = served_of partition tenant in
    let L : Room → Log = λ room. log_of room (calls_of r.earlier) in
    let told : log_after a.events ++ L (room_for a.limits) ≡ log_of (room_for a.limits) (calls_of (r.earlier ++ map f a.events)) =
    r.replies ∙ ap (λ (l : List ServedCall). log_of (room_for a.limits) (calls_of l)) r.calls in
    record {
      earlier = r.earlier;
      later = [];
      calls = r.calls ∙ sym (append-nil (r.earlier ++ map f a.events));
      places = r.places;
      leads = subst (λ (room : Room). Leaves a.start.base (L room)) (sym r.room) r.base;
      replies = subst (λ (room : Room). log_after a.events ++ L room ≡ log_of room (calls_of (r.earlier ++ map f a.events))) (sym r.room) told;
    }

-- the epoch that it gave has the last of the calls
pub cut_latest : (log : List HistoryEntry) (partition tenant : ℕ) (epoch : Epoch) (old new : List Account) → tenant < length old → IsCut old new tenant epoch
    → AreTraced log partition old → IsLatestEpoch log partition tenant epoch
cut_latest log partition tenant epoch old new there cut traced =
    ⊎_elim (λ h. latest h.0 (cut.given h.0 h.2) (traced tenant h.0 h.2)) (λ h. absurd (omega (arith, h.0, there))) (slice_get_cases old tenant).1
  where
    latest : (a : Account) → (epoch.number ≡ a.start.number) × (epoch.base ≡ a.start.base) × (epoch.events.items ≡ a.events)
        → IsTraced log partition tenant a → IsLatestEpoch log partition tenant epoch
    latest a given r =
        let P : ℕ → Type 0 = λ n. IsStretch log partition tenant (record { number = n; before = a.start.before; base = epoch.base }) epoch.events.items in
        let Q : Frozen → Type 0 = λ b. IsStretch log partition tenant (record { number = a.start.number; before = a.start.before; base = b }) epoch.events.items in
        let R : List Event → Type 0 = λ es. IsStretch log partition tenant a.start es in
        let L : List Event → Type 0 = λ es. length (served_at tenant partition log) ≡ a.start.before + length es in
        record {
          before = a.start.before;
          stretch = subst P (sym given.0) (subst Q (sym given.1) (subst R (sym given.2) (traced_stretch log partition tenant a r)));
          latest = subst L (sym given.2) (served_length log partition tenant ∙ places_of log partition tenant a r);
        }

-- ---- accounts that begin anew

begun_one : (log : List HistoryEntry) (partition tenant : ℕ) (account now : Account) → IsTraced log partition tenant account → BeginsAnew account now
    → IsTraced log partition tenant now
begun_one log partition tenant account now r begun =
    let served = served_at tenant partition log in
    let L : Limits → Log = λ its. log_of (room_for its) (calls_of served) in
    record {
      earlier = served;
      calls = sym (ap (λ (es : List Event). served ++ map (served_of partition tenant) es) begun.none ∙ append-nil served);
      places = served_length log partition tenant ∙ places_of log partition tenant account r ∙ sym begun.places;
      room = r.room ∙ ap room_for (sym begun.limits);
      base = subst (λ (its : Limits). Leaves now.start.base (L its)) (sym begun.limits)
          (subst (Leaves now.start.base) r.replies (begun.content.leaves (log_of (room_for account.limits) (calls_of r.earlier)) r.base));
      replies = ap (λ (es : List Event). log_after es ++ L now.limits) begun.none;
    }

pub begun_traced : (log : List HistoryEntry) (partition : ℕ) (old new : List Account) → AreBegunAnew old new → AreTraced log partition old → AreTraced log partition new
begun_traced log partition old new begun traced tenant now is =
    let its = begun_of old new tenant now begun is in
    begun_one log partition tenant its.0 now (traced tenant its.0 its.1) its.2

-- an account has no more places than the history has calls of the partition
few_kept : {X Y : Type 0} (f : X → Option Y) (xs : List X) → length (filter_map f xs) ≤ length xs
few_kept {X} {Y} f [] = omega arith
few_kept {X} {Y} f (x ∷ xs) = go (f x) (few_kept f xs)
  where
    go : (o : Option Y) → length (filter_map f xs) ≤ length xs → length (cons_option o (filter_map f xs)) ≤ length (x ∷ xs)
    go None few = omega (arith, few)
    go (Some y) few = omega (arith, few)

pub few_places : (log : List HistoryEntry) (partition tenant : ℕ) (account : Account) → IsTraced log partition tenant account → places account ≤ count (partition + 1) log
few_places log partition tenant account r =
    let few = few_kept (served_to tenant partition) (own (partition + 1) log) in
    omega (arith, few, ap length (served_own tenant partition log), served_length log partition tenant, places_of log partition tenant account r)

-- what stays where a call failed, seen otherwise
pub stays_so : {X E A B : Type 0} (f : A → B) (x y : A) (result : Result X E) → OnErr result (x ≡ y) → OnErr result (f x ≡ f y)
stays_so f x y (Ok value) same = tt
stays_so f x y (Err e) same = ap f same

-- where a cut may have failed
pub cut_or_not : {E : Type 0} (log : List HistoryEntry) (partition tenant : ℕ) (old new : List Account) (result : Result Epoch E) → tenant < length old
    → IfOk result (λ epoch. IsCut old new tenant epoch) → OnErr result (new ≡ old) → AreTraced log partition old → AreTraced log partition new
cut_or_not log partition tenant old new (Ok epoch) there cut same traced = cut_traced log partition tenant epoch old new there cut traced
cut_or_not log partition tenant old new (Err e) there cut same traced = subst (AreTraced log partition) (sym same) traced

pub latest_or_not : {E : Type 0} (log : List HistoryEntry) (partition tenant : ℕ) (old new : List Account) (result : Result Epoch E) → tenant < length old
    → IfOk result (λ epoch. IsCut old new tenant epoch) → AreTraced log partition old → IfOk result (λ epoch. IsLatestEpoch log partition tenant epoch)
latest_or_not log partition tenant old new (Ok epoch) there cut traced = cut_latest log partition tenant epoch old new there cut traced
latest_or_not log partition tenant old new (Err e) there cut traced = tt

-- ---- a store that was just opened

nothing_logged : (room : Room) → [] ≡ log_of room []
unfolding log_of
nothing_logged room = refl

opened_account : (setting : StoreOpening) (partition tenant : ℕ) (its : Limits) → slice_get setting.limits tenant ≡ Some its
    → IsTraced (Opened setting ∷ []) partition tenant (new_account its)
opened_account setting partition tenant its is = record {
  earlier = [];
  calls = refl;
  places = refl;
  room = ap room_in is;
  base = subst (Leaves (empty_base (room_for its))) (nothing_logged (room_for its)) (nothing_left (room_for its));
  replies = refl;
}

pub opened_traced : (log : List HistoryEntry) (partition : ℕ) → is_opening log ≡ true → AreTraced log partition (map new_account (limits_of log))
opened_traced [] partition opens tenant account is = absurd (cc opens)
opened_traced (Opened setting ∷ []) partition opens tenant account is =
    go (slice_get setting.limits tenant) refl (sym (slice_get-map new_account setting.limits tenant) ∙ is)
  where
    go : (o : Option Limits) → slice_get setting.limits tenant ≡ o → option_map new_account o ≡ Some account → IsTraced (Opened setting ∷ []) partition tenant account
    go None at same = absurd (cc same)
    go (Some its) at same =
        let account_is : new_account its ≡ account = cc same in
        subst (IsTraced (Opened setting ∷ []) partition tenant) account_is (opened_account setting partition tenant its at)
opened_traced (Opened setting ∷ (e ∷ log)) partition opens tenant account is = absurd (cc opens)
opened_traced (Joined member ∷ log) partition opens tenant account is = absurd (cc opens)
opened_traced (Arrived word ∷ log) partition opens tenant account is = absurd (cc opens)
opened_traced (ReadBegan word ∷ log) partition opens tenant account is = absurd (cc opens)
opened_traced (Drew drawn ∷ log) partition opens tenant account is = absurd (cc opens)
opened_traced (Passed whose ∷ log) partition opens tenant account is = absurd (cc opens)
opened_traced (Began write ∷ log) partition opens tenant account is = absurd (cc opens)
opened_traced (Decided decision ∷ log) partition opens tenant account is = absurd (cc opens)
opened_traced (GivenUp decision ∷ log) partition opens tenant account is = absurd (cc opens)
opened_traced (Served served ∷ log) partition opens tenant account is = absurd (cc opens)

-- ---- what an admission comes to

pub entered_or_not : (b : Bool) (k entries : ℕ) (asked : CallToServe) (mine start evidence now : List HistoryEntry) → entries < 2 ^ 62 → start ≡ mine → count k mine ≡ entries
    → IsPrefix start now → IsPrefix evidence now → MatchBool b (IsAdded k entries (served_by asked) start now) (IsOvertaken k entries now)
    → (IsTrue b → IsPrefix evidence (but_last now)) → MatchBool b (HasEntered k entries asked mine evidence now) (TakesNoEntry k mine now)
entered_or_not true k entries asked mine start evidence now few same counted pre shown added behind =
    record { few = few; added = subst (λ (l : List HistoryEntry). IsAdded k entries (served_by asked) l now) same added; shown = shown; behind = behind refl }
entered_or_not false k entries asked mine start evidence now few same counted pre shown other behind = none_taken k entries mine start now same counted pre other

-- a book that passes a fault on refuses so
-- ---- what serving a call comes to

-- The call is one more of the tenant's, with this reply and at this place, and the admission agreed.
pub record IsServed (keeps : Bool) (old new : List Account) (tenant seat number : ℕ) (call : Call) (reply : Option Reply) (at : ℕ) (Admitted : Type 0) : Type 0 where
  pub taken : IsSomeAnd reply (λ r. IsTaken keeps old new tenant (event seat number call r))
  pub told : IsSomeAnd reply (λ r. IsReplyInEpoch old tenant call r)
  pub place : at ≡ before_at old tenant + length (events_at old tenant) + 1
  pub admitted : Admitted

place_at : (accounts : List Account) (tenant : ℕ) (account : Account) → slice_get accounts tenant ≡ Some account
    → before_at accounts tenant + length (events_at accounts tenant) ≡ account.start.before + length account.events
unfolding before_at events_at
place_at accounts tenant account is = ap (λ (o : Option Account). before_in o + length (events_in o)) is

module _ (log now evidence : List HistoryEntry) (partition tenant entries seat number : ℕ) (call : Call) (legal : IsLegal log) (counted : count (partition + 1) log ≡ entries)
    (add : IsAdded (partition + 1) entries (Served (record { partition = partition; tenant = tenant; seat = seat; number = number; call = call })) log now)
    (old new : List Account) (there : tenant < length old) (traced : AreTraced log partition old) where
  -- the accounts have what the history has
  pub served_traced : (journals : Bool) (reply : Option Reply) → IsSomeAnd reply (λ told. IsTaken journals old new tenant (event seat number call told))
      → IsSomeAnd reply (λ told. IsReplyInEpoch old tenant call told) → AreTraced now partition new
  served_traced journals None taken told = absurd taken
  served_traced true (Some r) taken told =
      are_added log now partition tenant entries (event seat number call r) legal counted add old new there taken told traced
  served_traced false (Some r) taken told =
      begun_traced now partition taken.0 new taken.2
      (are_added log now partition tenant entries (event seat number call r) legal counted add old taken.0 there taken.1 told traced)

  told_at : (account : Account) (place : ℕ) (r : Reply) → IsPrefix evidence (but_last now) → slice_get old tenant ≡ Some account
      → place ≡ before_at old tenant + length (events_at old tenant) + 1 → IsReplyInEpoch old tenant call r
      → StandsBehind evidence now (record { partition = partition; tenant = tenant; seat = seat; number = number; call = call }) place r
  told_at account place r behind is place_is told =
      let t = traced tenant account is in
      let last = is_served entries (record { partition = partition; tenant = tenant; seat = seat; number = number; call = call }) log now legal counted add in
      let s = last.0 in
      let P : List HistoryEntry → Type 0 = λ l. IsPrefix evidence l in
      let at : before_at old tenant + length (events_at old tenant) ≡ length (calls_served tenant partition log) =
      place_at old tenant account is ∙ sym (places_of log partition tenant account t) in
      let reply : r ≡ reply_in log tenant partition call =
      reply_is log partition tenant account call r t
      (in_epoch log now partition tenant entries (event seat number call r) legal counted add old account is told) in
      record {
        stands = record {
          before = s.before;
          after = s.after;
          stands = s.stands;
          place_is = place_is ∙ ap (λ (n : ℕ). n + 1) at ∙ s.place_is;
          reply_is = reply ∙ s.reply_is;
        };
        behind = subst P (before_added (partition + 1) entries _ log now add ∙ sym last.1) behind;
      }

  -- and the history has the call at its place, with its reply
  pub served_told : (place : ℕ) (reply : Option Reply) → IsPrefix evidence (but_last now) → place ≡ before_at old tenant + length (events_at old tenant) + 1
      → IsSomeAnd reply (λ told. IsReplyInEpoch old tenant call told)
      → IsSomeAnd reply (λ told. StandsBehind evidence now (record { partition = partition; tenant = tenant; seat = seat; number = number; call = call }) place told)
  served_told place None behind place_is told = absurd told
  served_told place (Some r) behind place_is told =
      ⊎_elim (λ h. told_at h.0 place r behind h.2 place_is told) (λ h. absurd (omega (arith, h.0, there))) (slice_get_cases old tenant).1
