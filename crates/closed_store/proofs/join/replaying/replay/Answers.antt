use Rattle.std.proofs.Common.{◌≡◌, ◌+◌, ◌∙◌, List, [], map, take, arith, refl, sym, subst, Bor}
use Rattle.std.proofs.lemmas.List.{length-map}
use Rattle.partition.specs.Events.{Event}
use Rattle.partition.specs.declared.journal.Epoch.{Epoch}
use Rattle.partition.specs.Journals.{room_for}
use Rattle.closed_store.specs.Joins.{IsAmid, IsNextOf, events_of}
use Rattle.closed_store.proofs.Replayed.{read_at, turn_more, turns_below, events_more}
use Rattle.closed_store.proofs.join.replaying.replay.Goals as goal

pub returns-then-epoch-place : goal.returns-then-epoch-place
returns-then-epoch-place c =
    let e = c.index-epochs-place.result in
    let k = c.loop-place.place in
    let at = read_at (λ (b : Bor Epoch). b.now) c.args.epochs.now k e c.loop-place-test.true c.index-epochs-place.is in
    (λ f. absurd (cc), λ start. let is = (start k e.now at).numbered in let other = c.if-epoch-place.true in absurd (grind (arith, is, other)))

pub returns-then-not-branch : goal.returns-then-not-branch
returns-then-not-branch c =
    let e = c.index-epochs-place.result in
    let k = c.loop-place.place in
    let at = read_at (λ (b : Bor Epoch). b.now) c.args.epochs.now k e c.loop-place-test.true c.index-epochs-place.is in (
      λ f. absurd (cc),
      λ start.
          let next = start k e.now at in
          let before = events_of (take k (map (λ (b : Bor Epoch). b.now) c.args.epochs.now)) in
          sym c.if-not-branch.true ∙ c.in_ok-replay_epoch.ensures.differs c.args.limits.now before c.loop-place.invariant.1 next.replies next.begins,
    )

pub loop-place-preserved : goal.loop-place-preserved
loop-place-preserved c =
    let e = c.index-epochs-place.result in
    let k = c.loop-place.place in
    let limits = c.args.limits.now in
    let epochs = map (λ (b : Bor Epoch). b.now) c.args.epochs.now in
    let before = events_of (take k epochs) in
    let at = read_at (λ (b : Bor Epoch). b.now) c.args.epochs.now k e c.loop-place-test.true c.index-epochs-place.is in
    let got = c.in_ok-replay_epoch.ensures.replayed c.if-not-branch.false limits before c.loop-place.invariant.1 in
    let is_numbered : e.now.number ≡ k + 1 = let same = c.if-epoch-place.false in grind (arith, same) in
    let next : IsNextOf (room_for limits) (k + 1) before e.now = record { numbered = is_numbered; begins = got.1; replies = got.0 } in (
      c.in_ok-replay_epoch.ensures.there,
      subst (λ (es : List Event). IsAmid limits (room_for limits) es [] c.replay_epoch.new.book) (events_more epochs k e.now at) got.2,
      turn_more epochs k e.now at (room_for limits) c.loop-place.invariant.2 next,
    )

pub returns : goal.returns
returns c =
    let epochs = map (λ (b : Bor Epoch). b.now) c.args.epochs.now in
    let long = length-map c.args.epochs.now (λ (b : Bor Epoch). b.now) in
    let past = c.loop-place-test.false in
    (λ _. turns_below (room_for c.args.limits.now) epochs c.loop-place.place (omega (arith, long, past)) c.loop-place.invariant.2, λ _. refl)
