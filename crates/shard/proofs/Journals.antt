-- The journals of a partition, from one event to the next.
use Rattle.std.proofs.Common.{◌≡◌, ◌<◌, ◌≤◌, ℕ, zero, suc, List, [], ◌∷◌, ◌++◌, length, get_or, Bool, true, false, Option, Some, None, Result, Ok, Err, ⊎_elim, refl, ap, sym, subst, ◌∙◌, arith, map}
use Rattle.std.specs.Prelude.{◌↔◌, slice_get, reverse, IfOk, OnErr, IfSome, IsErrOf, IsSomeAnd, All}
use Rattle.std.specs.Option.{option_map}
use Rattle.std.proofs.Math.Logic.{∥∥₁_map}
use Rattle.std.proofs.lemmas.List.Elements.{All-nil}
use Rattle.std.proofs.lemmas.List.{reverse-append}
use Rattle.std.proofs.lemmas.Option.{slice_get_cases, slice_get_within, slice_get-get_or, slice_get-map, get_or_from_slice_get}
use Rattle.std.proofs.lemmas.Bool.Decides.{eqb_tells}
use Rattle.stamps.specs.declared.bounds.Limits.{Limits}
use Rattle.plain_store.specs.Log.{Log}
use Rattle.plain_store.specs.Replies.{reply_after}
use Rattle.plain_store.specs.declared.calls.Call.{Call}
use Rattle.plain_store.specs.declared.calls.Reply.{Reply}
use Rattle.plain_store.specs.declared.message.Message.{Message}
use Rattle.plain_store.specs.declared.refusal.Refusal.{Refusal}
use Rattle.plain_store.specs.declared.refusal.Refusal.TheVariants.{Late as IsTooLate}
use Rattle.plain_store.specs.Words.{Room}
use Rattle.prepare_commit.specs.Bases.{Leaves}
use Rattle.partition.specs.declared.journal.Epoch.{Epoch}
use Rattle.partition.specs.Events.{Event, event}
use Rattle.partition.specs.Journals.{EachFollowsFrom, FollowsFrom, IsSoundFrom, IsLate, last_number, log_after, room_for}
use Rattle.partition.specs.Accounts.{Account, IsCut, IsEntered, IsReplyInEpoch, account_room, base_at, base_in, events_at, events_in, room_in, new_account, next_account, with_event}
use Rattle.history.specs.declared.entry.HistoryEntry.{HistoryEntry}
use Rattle.history.specs.declared.entry.Mark.{Mark}
use Rattle.history.specs.Entries.{HasMark, StandsBehind}
use Rattle.history.proofs.Counts.{mark_later}
use Rattle.shard.specs.declared.jobs.Fault.{Fault}
use Rattle.shard.specs.declared.jobs.Fault.TheVariants.{NoTenant, Late}
use Rattle.shard.specs.declared.jobs.PlacedReply.{PlacedReply as Answered}
use Rattle.shard.specs.Homes.{HasHome}
use Rattle.shard.specs.Journals.{WasCut}
use Rattle.shard.specs.Journals.{AreOf, CameSo, IsServedIn, served_call}
use Rattle.traced_book.specs.Forgetting.{AreBegunAnew, IsTaken}
use Rattle.traced_book.proofs.Forgetting.{begun_of, none_left}
use Rattle.shard.proofs.Homed.{all_snoc}

-- a journal is sound from its base, which is one of its own limits
abbrev Sound : Account → Type 0
Sound account = (account.start.base.room ≡ room_for account.limits) × IsSoundFrom account.start.base account.events

-- its calls have their home here
abbrev AreHome : ℕ → ℕ → List Event → Type 0
AreHome parts partition events = All (λ (e : Event). HasHome e.call parts partition) events

-- what holds of each account holds of this one
told : (P : Account → Type 0) (accounts : List Account) (tenant : ℕ) (account : Account) → All P accounts → slice_get accounts tenant ≡ Some account → P account
told P accounts tenant account all is =
    subst P (get_or_from_slice_get accounts tenant account account is) (all tenant account (slice_get_within accounts tenant account is))

-- and holds of each where it does of that one, and each other is as it was
each : (P : Account → Type 0) (old new : List Account) (tenant : ℕ) → length new ≡ length old → All P old
    → ((other : ℕ) → (other ≡ tenant → ⊥) → slice_get new other ≡ slice_get old other)
    → ((account : Account) → slice_get old tenant ≡ Some account → (after : Account) × (slice_get new tenant ≡ Some after) × P after)
    → All P new
each P old new tenant long all others own k d lt =
    let here : k < length old = omega (arith, long) in
    let was = slice_get-get_or old k d here in
    ⊎_elim
    (λ same.
    let after = own (get_or old k d) (ap (slice_get old) (sym same.1) ∙ was) in
    subst P (sym (get_or_from_slice_get new k after.0 d (ap (slice_get new) same.1 ∙ after.1))) after.2)
    (λ apart. subst P (sym (get_or_from_slice_get new k (get_or old k d) d (others k apart.1 ∙ was))) (all k d here))
    (eqb_tells k tenant)

-- the same of the events of each account
each_home : (parts partition : ℕ) (old new : List Account) (tenant : ℕ) → tenant < length old
    → ((other : ℕ) → AreHome parts partition (events_at old other))
    → ((other : ℕ) → (other ≡ tenant → ⊥) → slice_get new other ≡ slice_get old other)
    → ((account : Account) → slice_get old tenant ≡ Some account → AreHome parts partition account.events
    → (after : Account) × (slice_get new tenant ≡ Some after) × AreHome parts partition after.events)
    → (other : ℕ) → AreHome parts partition (events_at new other)
unfolding events_at
each_home parts partition old new tenant there all others own other =
    let P : Option Account → Type 0 = λ o. AreHome parts partition (events_in o) in
    ⊎_elim
    (λ same. ⊎_elim
    (λ h.
    let after = own h.0 h.2 (subst P h.2 (all tenant)) in
    subst P (sym (ap (slice_get new) same.1 ∙ after.1)) after.2)
    (λ h. absurd (omega (arith, h.0, there)))
    (slice_get_cases old tenant).1)
    (λ apart. subst P (sym (others other apart.1)) (all other))
    (eqb_tells other tenant)

-- ---- an event that is entered

-- a number that is not late is above the last one
above : (last : Option ℕ) (number : ℕ) → (IsSomeAnd last (λ l. number ≤ l) → ⊥) → IfSome last (λ l. l < number)
above None number in_time = tt
above (Some l) number in_time = omega (arith, in_time)

module _ (parts partition : ℕ) (old new : List Account) (tenant : ℕ) (e : Event) (there : tenant < length old) (entered : IsEntered old new tenant e)
    (reply : IsReplyInEpoch old tenant e.call e.reply) (in_time : IsLate (events_at old tenant) e.seat e.number → ⊥) (home : HasHome e.call parts partition) where
  reply_now : (account : Account) → slice_get old tenant ≡ Some account → (log : Log) → Leaves account.start.base log
      → e.reply ≡ reply_after (room_for account.limits) (log_after account.events ++ log) e.call
  unfolding events_at base_at account_room
  reply_now account is =
      let Q : Option Account → Type 0 = λ o. (log : Log) → Leaves (base_in o) log → e.reply ≡ reply_after (room_in o) (log_after (events_in o) ++ log) e.call in
      subst Q is reply

  late_now : (account : Account) → slice_get old tenant ≡ Some account → IsLate account.events e.seat e.number → ⊥
  unfolding events_at
  late_now account is late = in_time (subst (λ (o : Option Account). IsLate (events_in o) e.seat e.number) (sym is) late)

  sound_with : (account : Account) → slice_get old tenant ≡ Some account → Sound account → Sound (with_event account e)
  sound_with account is sound =
      let snoc : reverse (account.events ++ e ∷ []) ≡ e ∷ reverse account.events = reverse-append account.events (e ∷ []) in
      let follows : FollowsFrom account.start.base (reverse account.events) e = record {
        reply = λ log l. subst (λ (room : Room). e.reply ≡ reply_after room (log_after account.events ++ log) e.call) (sym sound.0) (reply_now account is log l);
        number = above (last_number e.seat account.events) e.number (late_now account is);
      } in
      (sound.0, subst (EachFollowsFrom account.start.base) (sym snoc) (follows, sound.1))

  pub entered-of : AreOf parts partition old → AreOf parts partition new
  entered-of of = record {
    sound = each Sound old new tenant entered.tenants of.sound entered.others
        (λ account is. (with_event account e, entered.own account is, sound_with account is (told Sound old tenant account of.sound is)));
    home = each_home parts partition old new tenant there of.home entered.others
        (λ account is all. (with_event account e, entered.own account is, all_snoc (λ (x : Event). HasHome x.call parts partition) account.events e all home));
  }

-- ---- accounts that begin anew

anew_sound : (old new : List Account) → AreBegunAnew old new → All Sound old → All Sound new
anew_sound old new begun sound k d lt =
    let now = get_or new k d in
    let is = slice_get-get_or new k d lt in
    let its = begun_of old new k now begun is in
    let b = its.2 in
    (b.content.room ∙ (told Sound old k its.0 sound its.1).0 ∙ ap room_for (sym b.limits), subst (IsSoundFrom now.start.base) (sym b.none) tt)

anew_of : (parts partition : ℕ) (old new : List Account) → AreBegunAnew old new → AreOf parts partition old → AreOf parts partition new
anew_of parts partition old new begun of = record {
  sound = anew_sound old new begun of.sound;
  home = λ tenant. subst (AreHome parts partition) (sym (none_left old new tenant begun)) (All-nil (λ (x : Event). HasHome x.call parts partition));
}

-- journals that begin anew are as sound
pub anew-of : (parts partition : ℕ) (old new : List Account) → AreBegunAnew old new → ∥ AreOf parts partition old ∥₁ → ∥ AreOf parts partition new ∥₁
anew-of parts partition old new begun of = ∥∥₁_map of (anew_of parts partition old new begun)

-- the journals after an event that was kept, or not
module _ (parts partition tenant : ℕ) (old new : List Account) (e : Event) (there : tenant < length old) (reply : IsReplyInEpoch old tenant e.call e.reply)
    (in_time : IsLate (events_at old tenant) e.seat e.number → ⊥) (home : HasHome e.call parts partition) where
  pub taken-of : (journals : Bool) → IsTaken journals old new tenant e → AreOf parts partition old → AreOf parts partition new
  taken-of true taken of = entered-of parts partition old new tenant e there taken reply in_time home of
  taken-of false taken of = anew_of parts partition taken.0 new taken.2 (entered-of parts partition old taken.0 tenant e there taken.1 reply in_time home of)

-- what holds of the journals of a partition does so under each name of it
moved_to : (parts partition ours at : ℕ) (accounts : List Account) → parts ≡ ours → partition ≡ at → ∥ AreOf parts partition accounts ∥₁ → ∥ AreOf ours at accounts ∥₁
moved_to parts partition ours at accounts same here journals =
    let P : ℕ → Type 0 = λ n. ∥ AreOf n partition accounts ∥₁ in
    let Q : ℕ → Type 0 = λ n. ∥ AreOf ours n accounts ∥₁ in
    subst Q here (subst P same journals)

-- the journals after a call that came to its partition, and may not have been served
pub called-of : (keeps : Bool) (ours at parts partition tenant seat number : ℕ) (old new : List Account) (call : Call) (reply : Option Reply) (result : Result ℕ Refusal)
    → tenant < length old → (IsErrOf result IsTooLate ↔ IsLate (events_at old tenant) seat number)
    → IfOk result (λ _. IsSomeAnd reply (λ r. IsTaken keeps old new tenant (event seat number call r)))
    → IfOk result (λ _. IsSomeAnd reply (λ r. IsReplyInEpoch old tenant call r))
    → OnErr result (new ≡ old) → HasHome call parts partition
    → (partition ≡ at) × (parts ≡ ours) → ∥ AreOf ours at old ∥₁ → ∥ AreOf ours at new ∥₁
called-of keeps ours at parts partition tenant seat number old new call None (Ok place) there late taken told unchanged home here journals = absurd taken
called-of keeps ours at parts partition tenant seat number old new call (Some r) (Ok place) there late taken told unchanged home here journals =
    moved_to parts partition ours at new here.1 here.0
    (∥∥₁_map (moved_to ours at parts partition old (sym here.1) (sym here.0) journals)
    (taken-of parts partition tenant old new (event seat number call r) there told (λ l. in_time (late.1 l)) home keeps taken))
  where
    in_time : Ok place ≡ Err IsTooLate → ⊥
    in_time was = cc
called-of keeps ours at parts partition tenant seat number old new call reply (Err fault) there late taken told unchanged home here journals =
    subst (λ (xs : List Account). ∥ AreOf ours at xs ∥₁) (sym unchanged) journals

-- a call that was served stands in the history that was seen, behind the mark
served-in : (seen past : List HistoryEntry) (mark : Mark) (partition tenant seat number place : ℕ) (call : Call) (reply : Option Reply)
    → IsSomeAnd reply (λ r. StandsBehind past seen (served_call partition tenant seat number call) place r) → HasMark past mark
    → IsSomeAnd reply (λ r. IsServedIn seen mark partition tenant seat number place call r)
served-in seen past mark partition tenant seat number place call None stands marked = absurd stands
served-in seen past mark partition tenant seat number place call (Some r) stands marked =
    record { stands = stands.stands; late = mark_later past stands.stands.before mark stands.behind marked }

-- the same of a message with its reply in it, whose partition goes by three names
pub came-so : (seen past : List HistoryEntry) (mark : Mark) (at own partition tenant seat number place : ℕ) (before after : Message)
    → after ≡ record before { reply = after.reply } → IsSomeAnd after.reply (λ r. StandsBehind past seen (served_call own tenant seat number before.call) place r)
    → HasMark past mark → partition ≡ at → own ≡ at → CameSo seen mark partition tenant seat number after (Ok place)
came-so seen past mark at own partition tenant seat number place before after same stands marked here its =
    let call : before.call ≡ after.call = ap (λ (m : Message). m.call) (sym same) in
    let P : Call → Type 0 = λ k. IsSomeAnd after.reply (λ r. IsServedIn seen mark partition tenant seat number place k r) in
    let S : ℕ → Type 0 = λ p. IsSomeAnd after.reply (λ r. StandsBehind past seen (served_call p tenant seat number before.call) place r) in
    ∣ subst P call (served-in seen past mark partition tenant seat number place before.call after.reply (subst S (its ∙ sym here) stands) marked) ∣₁

-- what was answered without a message
pub answered-of : (keeps : Bool) (parts partition tenant seat number : ℕ) (old new : List Account) (call : Call) (result : Result Answered Fault)
    → (IsErrOf result NoTenant ↔ (length old ≤ tenant)) → (tenant < length old → (IsErrOf result Late ↔ IsLate (events_at old tenant) seat number))
    → IfOk result (λ r. IsTaken keeps old new tenant (event seat number call r.reply)) → IfOk result (λ r. IsReplyInEpoch old tenant call r.reply) → OnErr result (new ≡ old)
    → HasHome call parts partition → AreOf parts partition old → AreOf parts partition new
answered-of keeps parts partition tenant seat number old new call (Ok r) there late taken told same home of =
    let within : tenant < length old = omega (arith, λ (past : length old ≤ tenant). absent (there.1 past)) in
    taken-of parts partition tenant old new (event seat number call r.reply) within told (λ l. in_time ((late within).1 l)) home keeps taken of
  where
    absent : Ok r ≡ Err NoTenant → ⊥
    absent was = cc

    in_time : Ok r ≡ Err Late → ⊥
    in_time was = cc
answered-of keeps parts partition tenant seat number old new call (Err f) there late taken told same home of = subst (λ (xs : List Account). AreOf parts partition xs) (sym same) of

-- what stays where a call failed, seen otherwise
pub stays_as : {X E A B : Type 0} (f : A → B) (x y : A) (result : Result X E) → OnErr result (x ≡ y) → OnErr result (f x ≡ f y)
stays_as f x y (Ok value) same = tt
stays_as f x y (Err e) same = ap f same

-- ---- a journal that is cut

pub cut-of : (parts partition : ℕ) (old new : List Account) (tenant : ℕ) (epoch : Epoch) → tenant < length old → IsCut old new tenant epoch
    → AreOf parts partition old → AreOf parts partition new
cut-of parts partition old new tenant epoch there cut of = record {
  sound = each Sound old new tenant cut.tenants of.sound cut.others
      (λ account is.
      let begun = cut.begun account is in
      (next_account account begun.0, begun.2, (begun.1.room ∙ (told Sound old tenant account of.sound is).0, tt)));
  home = each_home parts partition old new tenant there of.home cut.others
      (λ account is all.
      let begun = cut.begun account is in
      (next_account account begun.0, begun.2, All-nil (λ (x : Event). HasHome x.call parts partition)));
}

-- and where it may not have been cut
pub cut-or-not : (parts partition : ℕ) (old new : List Account) (tenant : ℕ) (result : Result Epoch Refusal) → tenant < length old
    → IfOk result (λ epoch. IsCut old new tenant epoch) → OnErr result (new ≡ old) → ∥ AreOf parts partition old ∥₁ → ∥ AreOf parts partition new ∥₁
cut-or-not parts partition old new tenant (Ok epoch) there cut unchanged journals = ∥∥₁_map journals (λ of. cut-of parts partition old new tenant epoch there cut of)
cut-or-not parts partition old new tenant (Err refusal) there cut unchanged journals = subst (λ (xs : List Account). ∥ AreOf parts partition xs ∥₁) (sym unchanged) journals

-- the epoch that it gave
pub epoch-of : (parts partition : ℕ) (old new : List Account) (tenant : ℕ) (epoch : Epoch) → tenant < length old → IsCut old new tenant epoch
    → ∥ AreOf parts partition old ∥₁ → WasCut partition tenant epoch
epoch-of parts partition old new tenant epoch there cut journals =
    ∥∥₁_map journals (λ of. record { parts = parts; before = old; after = new; journals = of; there = there; cut = cut })

-- ---- journals without events

new_sound : (limits : List Limits) → All Sound (map new_account limits)
new_sound [] k d lt = absurd (omega (arith, lt))
new_sound (its ∷ rest) zero d lt = (refl, tt)
new_sound (its ∷ rest) (suc k) d lt = new_sound rest k d (omega (arith, lt))

new_events : (its : Option Limits) → events_in (option_map new_account its) ≡ []
new_events None = refl
new_events (Some its) = refl

new_of : (parts partition : ℕ) (limits : List Limits) → AreOf parts partition (map new_account limits)
unfolding events_at
new_of parts partition limits = record {
  sound = new_sound limits;
  home = λ tenant.
      let none = ap events_in (slice_get-map new_account limits tenant) ∙ new_events (slice_get limits tenant) in
      subst (AreHome parts partition) (sym none) (All-nil (λ (x : Event). HasHome x.call parts partition));
}

pub new-of : (parts partition : ℕ) (limits : List Limits) (book : List Account) → book ≡ map new_account limits → ∥ AreOf parts partition book ∥₁
new-of parts partition limits book is = subst (λ (xs : List Account). ∥ AreOf parts partition xs ∥₁) (sym is) ∣ new_of parts partition limits ∣₁
