use Rattle.std.proofs.Common.{◌≡◌, ℕ, ap, sym, ◌∙◌, length, map, slice_get, Some, refl}
use Rattle.std.proofs.lemmas.Option.{slice_get_read}
use Rattle.plain_store.specs.Run.{call_message}
use Rattle.plain_store.specs.Writing.{Outgoing}
use Rattle.plain_store.specs.declared.calls.Call.TheVariants.{Discard}
use Rattle.tenant_sessions.proofs.Placed.{made_at}
use Rattle.tenant_sessions.proofs.discards.Discards.message_into.Goals as goal

pub returns-clause-told : goal.returns-clause-told
returns-clause-told c =
    let discard : ℕ → Outgoing = λ partition. record { partition = partition; call = Discard c.self.inside.stamp } in
    let message = call_message c.args.client c.args.ticket in
    let partition = c.in-Some.partition.now in
    let lookup = c.in-Some.ensures.lookup in
    let at : slice_get c.self.inside.partitions c.args.nth ≡ Some partition =
    ap (λ ps. slice_get ps c.args.nth) (sym c.as_slice.ensures) ∙ slice_get_read c.as_slice.result.now (length c.as_slice.result.now) c.args.nth partition refl lookup.3.0 lookup.1 in
    let out = made_at discard c.self.inside.partitions c.args.self.now c.args.nth partition (discard partition) (sym c.self.view_is) at refl in
    rw c.from-place.ensures (made_at message c.args.self.now (map message c.args.self.now) c.args.nth (discard partition) (message (discard partition)) refl (sym out) refl)
