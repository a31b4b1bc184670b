use Rattle.std.proofs.Common.{◌≡◌, ◌∷◌, ◌≤◌, sym, ap, ◌∙◌, subst}
use Rattle.std.specs.Prelude.{IsSomeAnd}
use Rattle.std.specs.Option.{option_copied}
use Rattle.plain_store.specs.Log.{Exchange, Log}
use Rattle.plain_store.specs.Replies.{reply_after}
use Rattle.plain_store.specs.declared.calls.Reply.{Reply}
use Rattle.prepare_commit.specs.Bases.{Leaves}
use Rattle.settle.specs.OneEpoch.{event_of}
use Rattle.settle.proofs.EpochEnds.{played_more, played_in_time, played_reply, said, untrue}
use Rattle.settle.proofs.epoch_check.play_one.Goals as goal

pub returns-then-is_late-clause-no : goal.returns-then-is_late-clause-no
returns-then-is_late-clause-no c base before has played follows =
    let e = event_of c.args.call.now c.args.event.now in
    let last = rw c.reserve.ensures.entries at c.in-Ok.ensures.old in
    absurd (played_in_time base c.args.replica.now before e c.args.lasts.now played follows (subst (λ o. IsSomeAnd o (λ l. e.number ≤ l)) last (c.is_late.ensures.0 c.if-is_late.true)))

pub returns-clause-yes : goal.returns-clause-yes
returns-clause-yes c base before played is_its =
    let call = c.args.call.now in
    let e = event_of call c.args.event.now in
    let old = c.args.replica.now in
    let new = c.serve.new.self in
    let last = rw c.reserve.ensures.entries at c.in-Ok.ensures.old in
    let updates = c.in-Ok.ensures.updates.0 in
    let told = rw c.reserve.ensures.entries at updates in
    let placed = sym c.as_ref.ensures.value ∙ ap option_copied c.unwrap-told.ensures in
    let same : e.reply ≡ c.unwrap-told.result.now = c.is.ensures.0 is_its in
    let reply = said (λ (r : Reply). (log : Log) → Leaves old log → r ≡ reply_after old.room log call) c.serve.new.reply c.unwrap-told.result.now placed c.serve.ensures.reply in
    let left = said (λ (r : Reply). (log : Log) → Leaves old log → Leaves new (record { call = call; reply = r } ∷ log)) c.serve.new.reply c.unwrap-told.result.now placed c.serve.ensures.left in
    played_more base old before e c.args.lasts.now played new c.insert.new.self c.serve.ensures.room
    (λ log l. same ∙ reply log l)
    (λ log l. subst (λ (x : Exchange). Leaves new (x ∷ log)) (λ i. record { call = call; reply = sym same i }) (left log l))
    (λ late. untrue _ c.if-is_late.false (c.is_late.ensures.1 (subst (λ o. IsSomeAnd o (λ l. e.number ≤ l)) (sym last) late)))
    told
    c.insert.ensures.unique

pub returns-clause-no : goal.returns-clause-no
returns-clause-no c base before has played follows =
    let call = c.args.call.now in
    let e = event_of call c.args.event.now in
    let old = c.args.replica.now in
    let placed = sym c.as_ref.ensures.value ∙ ap option_copied c.unwrap-told.ensures in
    let reply = said (λ (r : Reply). (log : Log) → Leaves old log → r ≡ reply_after old.room log call) c.serve.new.reply c.unwrap-told.result.now placed c.serve.ensures.reply in
    c.is.ensures.1 (played_reply base old before e c.args.lasts.now played c.unwrap-told.result.now has reply follows)
