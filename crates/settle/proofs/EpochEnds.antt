-- What a replay shows of an epoch.
use Rattle.std.proofs.Common.{◌≡◌, ℕ, ◌+◌, ◌<◌, ◌≤◌, List, [], ◌∷◌, ◌++◌, length, take, drop, get_or, cond, map, nat_eq, Option, Some, None, refl, sym, ap, ◌∙◌, subst, arith}
use Rattle.std.specs.Prelude.{reverse, IsSomeAnd, IfSome, IsTrue, Bool, true, false}
use Rattle.std.proofs.lemmas.List.{reverse-append, take-append-drop, take_all, take_more}
use Rattle.plain_store.specs.Log.{Log}
use Rattle.plain_store.specs.Replies.{reply_after}
use Rattle.plain_store.specs.Words.{Room}
use Rattle.indexmap.specs.IndexMap.{IndexMap, IsUnique, get}
use Rattle.plain_store.specs.declared.calls.Reply.{Reply}
use Rattle.prepare_commit.specs.Bases.{Frozen, HasLog, Leaves}
use Rattle.partition.specs.Events.{Event}
use Rattle.partition.specs.Journals.{FollowsFrom, EachFollowsFrom, IsSoundFrom, IsEnd, event_exchange, log_after, last_from, last_number}
use Rattle.settle.specs.OneEpoch.{HasPlayed}

each_suffix : (base : Frozen) (xs ys : List Event) → EachFollowsFrom base (xs ++ ys) → EachFollowsFrom base ys
each_suffix base [] ys each = each
each_suffix base (x ∷ xs) ys each = each_suffix base xs ys each.1

sound_take : (base : Frozen) (events : List Event) (m : ℕ) → IsSoundFrom base events → IsSoundFrom base (take m events)
sound_take base events m s =
    each_suffix base (reverse (drop m events)) (reverse (take m events))
    (subst (EachFollowsFrom base) (ap reverse (sym (take-append-drop m events)) ∙ reverse-append (take m events) (drop m events)) s)

-- each event of a sound epoch follows those before it
follows_at : (base : Frozen) (events : List Event) (k : ℕ) (e : Event) → IsSoundFrom base events → k < length events → e ≡ get_or events k e → FollowsFrom base (reverse (take k events)) e
follows_at base events k e s within is =
    (subst (EachFollowsFrom base)
    (ap reverse (take_more events k e within ∙ ap (λ (x : Event). take k events ++ x ∷ []) (sym is)) ∙ reverse-append (take k events) (e ∷ []))
    (sound_take base events (k + 1) s)).0

-- ---- a replica, on which an epoch is played

-- a number that is not late is above the last one
above : (last : Option ℕ) (number : ℕ) → (IsSomeAnd last (λ l. number ≤ l) → ⊥) → IfSome last (λ l. l < number)
above None number not_late = tt
above (Some l) number not_late = omega (arith, not_late)

-- and one that is above it is not late
not_below : (last : Option ℕ) (number : ℕ) → IfSome last (λ l. l < number) → IsSomeAnd last (λ l. number ≤ l) → ⊥
not_below None number on_time late = absurd late
not_below (Some l) number on_time late = omega (arith, on_time, late)

module _ {S : Type 0} (base end : Frozen) (before : List Event) (e : Event) (lasts : IndexMap ℕ ℕ S) (played : HasPlayed base before end lasts) where
  -- one event more, whose reply the replica gave to its call and whose number is not late
  pub played_more : (new : Frozen) (lasts' : IndexMap ℕ ℕ S) → new.room ≡ end.room → ((log : Log) → Leaves end log → e.reply ≡ reply_after end.room log e.call)
      → ((log : Log) → Leaves end log → Leaves new (event_exchange e ∷ log)) → (IsSomeAnd (get nat_eq lasts e.seat) (λ l. e.number ≤ l) → ⊥)
      → ((seat : ℕ) → get nat_eq lasts' seat ≡ cond (nat_eq e.seat seat) (Some e.number) (get nat_eq lasts seat)) → IsUnique nat_eq lasts'
      → HasPlayed base (before ++ e ∷ []) new lasts'
  played_more new lasts' room reply left in_time told unique =
      let snoc : reverse (before ++ e ∷ []) ≡ e ∷ reverse before = reverse-append before (e ∷ []) in
      let longer : log_after (before ++ e ∷ []) ≡ event_exchange e ∷ log_after before = ap (map event_exchange) snoc in
      let follows : FollowsFrom base (reverse before) e = record {
        reply = λ history l. subst (λ (r : Room). e.reply ≡ reply_after r (log_after before ++ history) e.call) played.leads.room (reply (log_after before ++ history) (played.leads.leaves history l));
        number = above (last_number e.seat before) e.number (λ late. in_time (subst (λ last. IsSomeAnd last (λ l. e.number ≤ l)) (sym (played.lasts e.seat)) late));
      } in record {
        sound = subst (EachFollowsFrom base) (sym snoc) (follows, played.sound);
        leads = record {
          room = room ∙ played.leads.room;
          leaves = λ history l. subst (λ (log : Log). Leaves new (log ++ history)) (sym longer) (left (log_after before ++ history) (played.leads.leaves history l));
        };
        unique = unique;
        lasts = λ seat. told seat ∙ ap (cond (nat_eq e.seat seat) (Some e.number)) (played.lasts seat) ∙ sym (ap (last_from seat) snoc);
      }

  -- an event that follows is in time
  pub played_in_time : FollowsFrom base (reverse before) e → IsSomeAnd (get nat_eq lasts e.seat) (λ l. e.number ≤ l) → ⊥
  played_in_time follows late = not_below (last_number e.seat before) e.number follows.number (subst (λ last. IsSomeAnd last (λ l. e.number ≤ l)) (played.lasts e.seat) late)

  -- and has the reply that the replica gives
  pub played_reply : (told : Reply) → HasLog base → ((log : Log) → Leaves end log → told ≡ reply_after end.room log e.call) → FollowsFrom base (reverse before) e → e.reply ≡ told
  played_reply told has gives follows =
      follows.reply has.0 has.2
      ∙ ap (λ (r : Room). reply_after r (log_after before ++ has.0) e.call) (sym played.leads.room)
      ∙ sym (gives (log_after before ++ has.0) (played.leads.leaves has.0 has.2))

-- nothing is played
pub none_played : {S : Type 0} (base : Frozen) (lasts : IndexMap ℕ ℕ S) → IsUnique nat_eq lasts → ((seat : ℕ) → get nat_eq lasts seat ≡ None) → HasPlayed base [] base lasts
none_played base lasts unique none = record {
  sound = tt;
  leads = record { room = refl; leaves = λ log l. l };
  unique = unique;
  lasts = none;
}

-- where one event does not follow, the epoch is not sound
pub falls_at : (base : Frozen) (events : List Event) (k : ℕ) (e : Event) → k < length events → e ≡ get_or events k e → (FollowsFrom base (reverse (take k events)) e → ⊥) → IsSoundFrom base events → ⊥
falls_at base events k e within is falls sound = falls (follows_at base events k e sound within is)

pub played_to : {S : Type 0} (base end : Frozen) (events : List Event) (k : ℕ) (e : Event) (lasts : IndexMap ℕ ℕ S) → k < length events → e ≡ get_or events k e
    → HasPlayed base (take k events ++ e ∷ []) end lasts → HasPlayed base (take (k + 1) events) end lasts
played_to base end events k e lasts within is played =
    subst (λ (es : List Event). HasPlayed base es end lasts) (ap (λ (x : Event). take k events ++ x ∷ []) is ∙ sym (take_more events k e within)) played

-- all events are played
pub all_played : {S : Type 0} (base end : Frozen) (events : List Event) (k : ℕ) (lasts : IndexMap ℕ ℕ S) → length events ≤ k → HasPlayed base (take k events) end lasts
    → IsSoundFrom base events × IsEnd base events end
all_played base end events k lasts past played =
    let whole = take_all k events past in (
      subst (IsSoundFrom base) whole played.sound,
      subst (λ (es : List Event). IsEnd base es end) whole played.leads,
    )

-- what is reported of an optional reply is reported of the one that is there
pub said : {X : Type 0} (P : X → Type 0) (place : Option X) (x : X) → place ≡ Some x → IsSomeAnd place P → P x
said P place x is told = subst (λ o. IsSomeAnd o P) is told

pub untrue : (b : Bool) → b ≡ false → IsTrue b → ⊥
untrue true is t = cc
untrue false is t = cc

-- an answer of a test that fails
pub not_where : {P : Type 0} → (P → ⊥) → (IsTrue false → P) × (P → IsTrue false)
not_where apart = (λ t. absurd (untrue false refl t), λ p. absurd (apart p))
