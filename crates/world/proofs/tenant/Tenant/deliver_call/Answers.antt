use Rattle.std.proofs.Common.{get_or, Some, ◌≡◌, ◌+◌, ◌<◌, [], ◌∷◌, ◌++◌, length, slice_set, refl, sym, ap, ◌∙◌, subst, arith}
use Rattle.std.proofs.lemmas.Option.{slice_get-get_or}
use Rattle.plain_store.specs.declared.step.Act.TheVariants.{Deliver}
use Rattle.plain_store.specs.declared.answer.Answer.TheVariants.{Replied}
use Rattle.plain_store.specs.declared.message.Message.{Message}
use Rattle.plain_store.specs.Replies.{reply_after}
use Rattle.plain_store.specs.History.{messages, lost_rows, message_at, log_at}
use Rattle.std.specs.Option.{option_copied}
use Rattle.plain_store.specs.Run.{serves, moment_of}
use Rattle.message_table.specs.Content.{StandsFor as TableStandsFor}
use Rattle.world.specs.Standing.{CellsStandFor, answered_in_place}
use Rattle.world.proofs.Moments.{serves_call, takes_by, table_next, sessions_stay}
use Rattle.world.proofs.InRange.{partition_within}
use Rattle.world.proofs.Cells.{cells_set, exchange_here, exchange_elsewhere, OthersStay-set}
use Rattle.world.proofs.Results.{not_both, same_one}
use Rattle.world.proofs.Asking.{on_err_any, asks_by}
use Rattle.world.proofs.tenant.Tenant.deliver_call.Goals as goal

pub returns-then-place-shelves-clause-serves : goal.returns-then-place-shelves-clause-serves
returns-then-place-shelves-clause-serves c setup history message own is stands cells free at none =
    let parts : setup.partitions ≡ length c.args.shelves.now = ap (λ s. s.partitions) own in
    let room = c.in_ok-reserve.ensures.stands (messages history) (lost_rows history) stands.table in
    let here = sym (c.get.ensures.in_history history room) ∙ ap option_copied c.in-Some.is in
    let there = partition_within setup (omega (arith, parts, c.requires.cells.parts)) history c.args.row c.in-Some.message.now is here in
    absurd (omega (arith, there, parts, c.if-place-shelves.true))

-- the row's message is there
pub returns-in_default-clause-serves : goal.returns-in_default-clause-serves
returns-in_default-clause-serves c setup history message own is stands cells free at none =
    let room = c.in_ok-reserve.ensures.stands (messages history) (lost_rows history) stands.table in
    let lost = sym (c.get.ensures.in_history history room) ∙ ap option_copied c.in_default.is in
    absurd (not_both (message_at history c.args.row) message at lost)

pub returns-clause-serves : goal.returns-clause-serves
returns-clause-serves c setup history sent_as own is stands cells free was none_was =
    let row = c.args.row in
    let message = c.in-Some.message.now in
    let room = c.in_ok-reserve.ensures.stands (messages history) (lost_rows history) stands.table in
    let at : message_at history row ≡ Some message = sym (c.get.ensures.in_history history room) ∙ ap option_copied c.in-Some.is in
    let none = ap (λ (m : Message). m.reply) (same_one (message_at history row) message sent_as at was) ∙ none_was in
    let shelves = c.args.shelves.now in
    let within : message.partition < length shelves = c.if-place-shelves.false in
    let here = slice_get-get_or shelves message.partition c.index-shelves-place.result within in
    let held = cells message.partition (get_or c.args.shelves.now c.in-Some.message.now.partition c.index-shelves-place.result) here in
    let q = c.apply-reply.result in
    let reply = c.apply-reply.ensures.serves.reply (log_at setup history message.partition) held.1 ∙ ap (λ room. reply_after room (log_at setup history message.partition) message.call) held.0 in
    let m = serves history (Deliver row) message q in
    let goes : moment_of setup history (Deliver row) ≡ m = serves_call setup history row message free at none ∙ ap (serves history (Deliver row) message) (sym reply) in
    let sent = c.send_reserved-row.ensures.stands (messages history) (lost_rows history) room in
    let sent' = subst (λ x. TableStandsFor c.send_reserved-row.new.table (messages history ++ x ∷ []) (lost_rows history)) c.with_reply-answered.ensures sent in
    let one : length m.sent ≡ 1 = refl in
    let at_row = c.send_reserved-row.ensures.row ∙ ap (λ n. n + 1) room.sent in (
      takes_by setup history (Deliver row) (Replied c.send_reserved-row.result q) (record { limits = c.args.self.now.limits; keep = c.args.self.now.keep; table = c.send_reserved-row.new.table; sessions = c.args.self.now.sessions; readings = c.args.self.now.readings }) m goes
          (ap (λ n. Replied n q) at_row) (omega (arith, one)) (record { table = table_next m history c.send_reserved-row.new.table refl sent'; sessions = sessions_stay setup history m c.args.self.now.sessions stands.sessions refl; keep = stands.keep }),
      subst (λ x. CellsStandFor setup (x ∷ history) (slice_set shelves message.partition c.apply-reply.new.self) c.args.number) (sym goes)
          (cells_set setup history m shelves c.args.number message.partition (get_or c.args.shelves.now c.in-Some.message.now.partition c.index-shelves-place.result) c.apply-reply.new.self message.call q within here c.apply-reply.ensures.serves
          (exchange_here setup history message q row) (λ partition apart. exchange_elsewhere setup history message q row partition apart) cells),
    )

pub returns-clause-others : goal.returns-clause-others
returns-clause-others c =
    let message = c.in-Some.message.now in
    let shelves = c.args.shelves.now in
    let within : message.partition < length shelves = c.if-place-shelves.false in
    let here = slice_get-get_or shelves message.partition c.index-shelves-place.result within in
    OthersStay-set shelves c.args.number message.partition (get_or c.args.shelves.now c.in-Some.message.now.partition c.index-shelves-place.result) c.apply-reply.new.self within here c.apply-reply.ensures.others c.apply-reply.ensures.tenants

pub returns-in_err-reserve-clause-asks : goal.returns-in_err-reserve-clause-asks
returns-in_err-reserve-clause-asks c = on_err_any (answered_in_place c.from_residual.result c.args.answer.now) _
    (λ setup history message free at none.
    let row = c.args.row in
    let reply = reply_after setup.room (log_at setup history message.partition) message.call in
    asks_by setup history (Deliver row) (serves history (Deliver row) message reply) (serves_call setup history row message free at none) (λ r. let e = r.1 in cc))
