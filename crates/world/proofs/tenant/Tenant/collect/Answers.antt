use Rattle.std.proofs.Common.{get_or, ◌≡◌, ◌<◌, [], ◌∷◌, length, slice_set, refl, sym, ap, ◌∙◌, subst, arith}
use Rattle.std.proofs.lemmas.Option.{slice_get-get_or}
use Rattle.plain_store.specs.declared.step.Act.TheVariants.{Collect as CollectAt}
use Rattle.plain_store.specs.declared.answer.Answer.TheVariants.{Freed}
use Rattle.plain_store.specs.declared.refusal.Refusal.TheVariants.{NoPartition}
use Rattle.plain_store.specs.declared.calls.Call.TheVariants.{Collect}
use Rattle.plain_store.specs.Replies.{reply_after}
use Rattle.plain_store.specs.History.{moment, keep_in, log_at}
use Rattle.plain_store.specs.Run.{moment_of, count_freed}
use Rattle.partition.specs.Shelf.{room_of}
use Rattle.world.specs.Standing.{CellsStandFor}
use Rattle.world.proofs.Moments.{no_partition, refuses, collects, answers, sessions_stay}
use Rattle.world.proofs.Cells.{cells_refused, cells_set, collection_here, collection_elsewhere, collected_is, OthersStay-set}
use Rattle.world.proofs.tenant.Tenant.collect.Goals as goal

pub returns-then-place-shelves-clause-serves : goal.returns-then-place-shelves-clause-serves
returns-then-place-shelves-clause-serves c setup history own is stands cells =
    let past = no_partition setup history c.args.partition (omega (arith, ap (λ s. s.partitions) own, c.if-place-shelves.true)) in
    (refuses setup history (CollectAt c.args.partition) NoPartition c.args.self.now tt past stands, cells_refused setup history (CollectAt c.args.partition) NoPartition c.args.shelves.now c.args.number past cells)

pub returns-in-Freed-clause-serves : goal.returns-in-Freed-clause-serves
returns-in-Freed-clause-serves c setup history own is stands cells =
    let place = c.args.partition in
    let shelves = c.args.shelves.now in
    let within : place < length shelves = c.if-place-shelves.false in
    let here = slice_get-get_or shelves place c.index-shelves-place.result within in
    let held = cells place (get_or c.args.shelves.now c.args.partition c.index-shelves-place.result) here in
    let keep = c.args.self.now.keep in
    let kept : keep_in setup history ≡ keep = sym stands.keep in
    let log = log_at setup history place in
    let reply = c.apply.ensures.serves.reply log held.1 ∙ ap (λ room. reply_after room log (Collect keep)) held.0 in
    let count = ap count_freed (sym reply ∙ c.in-Freed.is) in
    let m = moment (CollectAt place) (Freed c.in-Freed.count) [] in
    let goes : moment_of setup history (CollectAt place) ≡ m = collects setup history place (omega (arith, within, ap (λ s. s.partitions) own)) ∙ ap (λ k. moment (CollectAt place) (Freed (count_freed (reply_after setup.room log (Collect k)))) []) kept ∙ ap (λ n. moment (CollectAt place) (Freed n) []) count in (
      answers setup history (CollectAt place) (Freed c.in-Freed.count) c.args.self.now c.args.self.now.sessions tt goes refl stands (sessions_stay setup history m c.args.self.now.sessions stands.sessions refl),
      subst (λ x. CellsStandFor setup (x ∷ history) (slice_set shelves place c.apply.new.self) c.args.number) (sym goes)
          (cells_set setup history m shelves c.args.number place (get_or c.args.shelves.now c.args.partition c.index-shelves-place.result) c.apply.new.self (Collect keep) c.apply.result within here c.apply.ensures.serves
          (collection_here setup history place c.in-Freed.count c.apply.result keep kept c.in-Freed.is) (λ partition apart. collection_elsewhere setup history place c.in-Freed.count partition apart) cells),
    )

pub returns-in-Freed-clause-others : goal.returns-in-Freed-clause-others
returns-in-Freed-clause-others c =
    let within : c.args.partition < length c.args.shelves.now = c.if-place-shelves.false in
    let here = slice_get-get_or c.args.shelves.now c.args.partition c.index-shelves-place.result within in
    OthersStay-set c.args.shelves.now c.args.number c.args.partition (get_or c.args.shelves.now c.args.partition c.index-shelves-place.result) c.apply.new.self within here c.apply.ensures.others c.apply.ensures.tenants

pub returns-in_default-clause-serves : goal.returns-in_default-clause-serves
returns-in_default-clause-serves c setup history own is stands cells =
    let within : c.args.partition < length c.args.shelves.now = c.if-place-shelves.false in
    let here = slice_get-get_or c.args.shelves.now c.args.partition c.index-shelves-place.result within in
    let held = cells c.args.partition (get_or c.args.shelves.now c.args.partition c.index-shelves-place.result) here in
    let log = log_at setup history c.args.partition in
    let reply = c.apply.ensures.serves.reply log held.1 in
    absurd (c.in_default.not-Freed _ (reply ∙ collected_is (room_of (get_or c.args.shelves.now c.args.partition c.index-shelves-place.result) c.args.number) log c.args.self.now.keep))

pub returns-in_default-clause-others : goal.returns-in_default-clause-others
returns-in_default-clause-others c =
    let within : c.args.partition < length c.args.shelves.now = c.if-place-shelves.false in
    let here = slice_get-get_or c.args.shelves.now c.args.partition c.index-shelves-place.result within in
    OthersStay-set c.args.shelves.now c.args.number c.args.partition (get_or c.args.shelves.now c.args.partition c.index-shelves-place.result) c.apply.new.self within here c.apply.ensures.others c.apply.ensures.tenants
