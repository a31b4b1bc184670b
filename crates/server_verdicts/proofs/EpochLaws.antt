-- Right epochs, and one more: for `take` and `is_right`.
use Rattle.std.proofs.Common.{◌≡◌, ◌+◌, ◌<◌, ◌≤◌, ◌⊎◌, ℕ, Bool, true, false, List, [], ◌∷◌, ◌++◌, length, map, take, drop, get_or, Option, Some, None, refl, sym, ap, ◌∙◌, subst, inl, inr, arith, length-append}
use Rattle.std.specs.Prelude.{◌↔◌, All, IfSome, IsSome, IsSomeAnd, IsTrue, MatchBool, slice_get, reverse}
use Rattle.std.specs.Option.{is_some}
use Rattle.std.proofs.Math.Logic.{∥∥₁_elim, ∥∥₁_map}
use Rattle.std.proofs.Math.Seq.{take-append_seam}
use Rattle.std.proofs.lemmas.List.{append_assoc, append-nil, map-append, reverse-append, take-append-drop, take-append-le, take_more}
use Rattle.std.proofs.lemmas.List.Elements.{All-append, All-cons, All-nil}
use Rattle.std.proofs.lemmas.Option.{get_or_from_slice_get, slice_get_within}
use Rattle.stamps.specs.declared.bounds.Limits.{Limits}
use Rattle.plain_store.specs.Log.{Log}
use Rattle.plain_store.specs.Replies.{reply_after}
use Rattle.plain_store.specs.Words.{Room}
use Rattle.prepare_commit.specs.Bases.{Frozen, Leaves, empty_base}
use Rattle.partition.specs.Events.{Event}
use Rattle.partition.specs.Journals.{EachFollowsFrom, FollowsFrom, IsEnd, IsSoundFrom, event_exchange, log_after, room_for}
use Rattle.partition.specs.declared.journal.Epoch.{Epoch}
use Rattle.closed_store.specs.Joins.{AreInTurn, AreRightReplies, IsNextOf, events_of}
use Rattle.server_verdicts.specs.declared.epochs.checked.Standing.{Standing}
use Rattle.server_verdicts.specs.declared.epochs.checked.Standing.TheVariants.{Right, Wrong}
use Rattle.server_verdicts.specs.declared.epochs.ending.Ending.{Ending}
use Rattle.server_verdicts.specs.Judged.{IsRight, IsWrong}
use Rattle.server_verdicts.specs.Taken.{AreRight, IsNextEpoch, LeadTo, SomeLead}
use Rattle.server_verdicts.proofs.EndingLaws.{before_or_last}

-- ---- lists of events and of epochs

log_after-append : (xs ys : List Event) → log_after (xs ++ ys) ≡ log_after ys ++ log_after xs
log_after-append xs ys = ap (map event_exchange) (reverse-append xs ys) ∙ map-append event_exchange (reverse ys) (reverse xs)

-- what came before, then these events, then an older log
log_after-onto : (before events : List Event) (log : Log) → log_after (before ++ events) ++ log ≡ log_after events ++ (log_after before ++ log)
log_after-onto before events log =
    ap (λ (l : Log). l ++ log) (log_after-append before events) ∙ append_assoc (log_after events) (log_after before) log

events_of-append : (xs ys : List Epoch) → events_of (xs ++ ys) ≡ events_of xs ++ events_of ys
events_of-append [] ys = refl
events_of-append (x ∷ xs) ys = ap (λ (es : List Event). x.events.items ++ es) (events_of-append xs ys) ∙ sym (append_assoc x.events.items (events_of xs) (events_of ys))

-- ---- sound epochs

each_suffix : (base : Frozen) (xs ys : List Event) → EachFollowsFrom base (xs ++ ys) → EachFollowsFrom base ys
each_suffix base [] ys each = each
each_suffix base (x ∷ xs) ys each = each_suffix base xs ys each.1

sound_take : (base : Frozen) (events : List Event) (m : ℕ) → IsSoundFrom base events → IsSoundFrom base (take m events)
sound_take base events m s =
    each_suffix base (reverse (drop m events)) (reverse (take m events))
    (subst (EachFollowsFrom base) (ap reverse (sym (take-append-drop m events)) ∙ reverse-append (take m events) (drop m events)) s)

-- each event of a sound epoch follows those before it
follows_at : (base : Frozen) (events : List Event) (k : ℕ) (e : Event) → IsSoundFrom base events → slice_get events k ≡ Some e → FollowsFrom base (reverse (take k events)) e
follows_at base events k e s at =
    let within = slice_get_within events k e at in
    let is = get_or_from_slice_get events k e e at in
    (subst (EachFollowsFrom base)
    (ap reverse (take_more events k e within ∙ ap (λ (x : Event). take k events ++ x ∷ []) is) ∙ reverse-append (take k events) (e ∷ []))
    (sound_take base events (k + 1) s)).0

end_append : (base mid end : Frozen) (before events : List Event) → IsEnd base before mid → IsEnd mid events end → IsEnd base (before ++ events) end
end_append base mid end before events one two = record {
  room = two.room ∙ one.room;
  leaves = λ log l. subst (Leaves end) (sym (log_after-onto before events log)) (two.leaves (log_after before ++ log) (one.leaves log l));
}

-- no epoch leads to nothing
pub none_lead : (limits : Limits) → LeadTo limits 0 (empty_base (room_for limits)) []
none_lead limits = record {
  right = record {
    in_turn = λ place epoch at. absurd (let none : None ≡ Some epoch = at in cc);
    sound = All-nil (λ (epoch : Epoch). IsSoundFrom epoch.base epoch.events.items);
  };
  count = refl;
  leads = record { room = refl; leaves = λ log l. l };
}

module _ (limits : Limits) (number : ℕ) (end : Frozen) (epochs : List Epoch) (epoch : Epoch) (led : LeadTo limits number end epochs) (next : IsNextEpoch number end epoch) where
  abbrev room : Room
  room = room_for limits

  abbrev more : List Epoch
  more = epochs ++ epoch ∷ []

  begins : IsEnd (empty_base room) (events_of epochs) epoch.base
  begins = subst (IsEnd (empty_base room) (events_of epochs)) (sym next.begins) led.leads

  replies : AreRightReplies room (events_of epochs) epoch.events.items
  replies place e at log l =
      let events = epoch.events.items in
      let older : Log = log_after (events_of epochs) ++ log in
      (follows_at epoch.base events place e next.sound at).reply older (begins.leaves log l)
      ∙ ap (λ (r : Room). reply_after r (log_after (take place events) ++ older) e.call) begins.room
      ∙ ap (λ (done : Log). reply_after room done e.call) (sym (log_after-onto (events_of epochs) (take place events) log))

  this : IsNextOf room (length epochs + 1) (events_of epochs) epoch
  this = record { numbered = next.numbered ∙ ap (λ n. n + 1) (sym led.count); begins = begins; replies = replies }

  in_turn : AreInTurn room more
  in_turn place other at = go (before_or_last epochs epoch place other at)
    where
      go : (slice_get epochs place ≡ Some other) ⊎ ((place ≡ length epochs) × (epoch ≡ other)) → IsNextOf room (place + 1) (events_of (take place more)) other
      go (inl before) =
          let under = slice_get_within epochs place other before in
          subst (λ (es : List Epoch). IsNextOf room (place + 1) (events_of es) other) (sym (take-append-le place epochs (epoch ∷ []) (omega (arith, under)))) (led.right.in_turn place other before)
      go (inr last) =
          let all : IsNextOf room (length epochs + 1) (events_of (take (length epochs) more)) epoch = subst (λ (es : List Epoch). IsNextOf room (length epochs + 1) (events_of es) epoch) (sym (take-append_seam epochs (epoch ∷ []))) this in
          let there : IsNextOf room (place + 1) (events_of (take place more)) epoch = subst (λ (n : ℕ). IsNextOf room (n + 1) (events_of (take n more)) epoch) (sym last.0) all in
          subst (IsNextOf room (place + 1) (events_of (take place more))) last.1 there

  -- the epochs with the one that follows them are right
  right_with : AreRight limits more
  right_with = record {
    in_turn = in_turn;
    sound = All-append (λ (e : Epoch). IsSoundFrom e.base e.events.items) epochs (epoch ∷ []) led.right.sound
        (All-cons (λ (e : Epoch). IsSoundFrom e.base e.events.items) epoch [] next.sound (All-nil (λ (e : Epoch). IsSoundFrom e.base e.events.items)));
  }

  -- and lead to its end
  pub lead_with : (after : Frozen) → IsEnd epoch.base epoch.events.items after → LeadTo limits epoch.number after more
  lead_with after ends = record {
    right = right_with;
    count = length-append epochs (epoch ∷ []) ∙ ap (λ n. n + 1) led.count ∙ sym next.numbered;
    leads = subst (λ (es : List Event). IsEnd (empty_base room) es after)
        (ap (λ (es : List Event). events_of epochs ++ es) (sym (append-nil epoch.events.items)) ∙ sym (events_of-append epochs (epoch ∷ [])))
        (end_append (empty_base room) epoch.base after (events_of epochs) epoch.events.items begins ends);
  }

-- ---- what is known of a journal

pub some_lead_on : (limits : Limits) (number : ℕ) (end after : Frozen) (epoch : Epoch) → SomeLead limits number end → IsNextEpoch number end epoch → IsEnd epoch.base epoch.events.items after
    → SomeLead limits epoch.number after
some_lead_on limits number end after epoch some next ends =
    ∥∥₁_map some (λ led. (led.0 ++ epoch ∷ [], lead_with limits number end led.0 epoch led.1 next after ends))

-- the same after an epoch that went on from this end
pub led_after : (limits : Limits) (number : ℕ) (end after : Frozen) (epoch : Epoch) (follows : Bool) → SomeLead limits number end → follows ≡ true
    → (IsTrue follows ↔ IsNextEpoch number end epoch) → (IsTrue follows → IsEnd epoch.base epoch.events.items after) → SomeLead limits epoch.number after
led_after limits number end after epoch follows some is exact ends = some_lead_on limits number end after epoch some (exact.0 is) (ends is)

-- and after one that did not
pub led_before : (limits : Limits) (number : ℕ) (end after : Frozen) → after ≡ end → SomeLead limits number end → SomeLead limits number after
led_before limits number end after stays some = subst (λ (e : Frozen). SomeLead limits number e) (sym stays) some

pub not_next : (number : ℕ) (end after : Frozen) (epoch : Epoch) (follows : Bool) → after ≡ end → follows ≡ false → (IsTrue follows ↔ IsNextEpoch number end epoch) → IsNextEpoch number after epoch → ⊥
not_next number end after epoch follows stays is exact next =
    let yes : follows ≡ true = exact.1 (subst (λ (e : Frozen). IsNextEpoch number e epoch) stays next) in absurd (let clash : false ≡ true = sym is ∙ yes in cc)

-- an epoch that was taken did not follow, where the journal is wrong
that_fell : (number : ℕ) (end : Frozen) (standing : Standing) (wrong : Option Epoch) → ∥ (standing ≡ Wrong → IsSomeAnd wrong (λ epoch. IsNextEpoch number end epoch → ⊥)) ∥₁ → standing ≡ Wrong
    → (epoch : Epoch) × (wrong ≡ Some epoch) × (IsNextEpoch number end epoch → ⊥)
that_fell number end standing None fell is = absurd (∥∥₁_elim fell (λ x y. absurd x) (λ told. told is))
that_fell number end standing (Some epoch) fell is = (epoch, refl, λ next. ∥∥₁_elim fell (λ x y. absurd x) (λ told. told is next))

-- what is known of a journal is of one under these limits
led_under : (limits : Limits) (ending : Ending) → ending.checked.limits ≡ limits → SomeLead limits ending.checked.number ending.checked.end
led_under limits ending same = subst (λ (l : Limits). SomeLead l ending.checked.number ending.checked.end) same ending.checked.led

pub wrong_told : (limits : Limits) (ending : Ending) → ending.checked.limits ≡ limits → ending.checked.standing ≡ Wrong → IsWrong limits ending
wrong_told limits ending same is =
    let fell = that_fell ending.checked.number ending.checked.end ending.checked.standing ending.checked.wrong ending.checked.fell is in
    record { under = same; led = led_under limits ending same; epoch = fell.0; fallen = inl (is, fell.1); bad = fell.2 }

-- what the answer reports of the epoch that was left
pub last_told : {X : Type 0} (limits : Limits) (ending : Ending) (end : Option X) → ending.checked.limits ≡ limits → ending.checked.standing ≡ Right
    → (IsSome end ↔ IsNextEpoch ending.checked.number ending.checked.end ending.epoch) → MatchBool (is_some end) (IsRight limits ending) (IsWrong limits ending)
last_told limits ending None same is exact =
    record { under = same; led = led_under limits ending same; epoch = ending.epoch; fallen = inr (is, refl); bad = λ next. absurd (let none : false ≡ true = exact.1 next in cc) }
last_told limits ending (Some x) same is exact =
    record { under = same; standing = is; follows = exact.0 refl }
