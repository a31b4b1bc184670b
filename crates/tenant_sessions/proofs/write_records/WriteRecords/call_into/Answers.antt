use Rattle.std.proofs.Common.{◌≡◌, ap, sym, ◌∙◌, length, take, slice_get, Some, ℕ, refl}
use Rattle.std.proofs.lemmas.Option.{slice_get_read}
use Rattle.stamps.specs.Key.{home_of}
use Rattle.plain_store.specs.Words.{Record}
use Rattle.plain_store.specs.declared.calls.Call.{Call}
use Rattle.plain_store.specs.declared.calls.Call.TheVariants.{Prepare}
use Rattle.plain_store.specs.Writing.{Outgoing}
use Rattle.tenant_sessions.specs.Parts.{batch_calls, Prepares, record_of}
use Rattle.tenant_sessions.proofs.Made.{written_at, version_at}
use Rattle.tenant_sessions.proofs.Placed.{made_at}
use Rattle.tenant_sessions.proofs.write_records.WriteRecords.call_into.Goals as goal

pub put_prepare-requires-clause-member : goal.put_prepare-requires-clause-member
put_prepare-requires-clause-member c =
    let v = c.self.inside in
    let item = c.in-Some.item.now in
    let lookup = c.in-Some.ensures.lookup in
    let items = take c.from.result v.items in
    let own : slice_get (take v.len v.items) c.args.place ≡ Some item =
    ap (λ n. slice_get (take n v.items) c.args.place) (sym c.from.ensures) ∙ slice_get_read items (length items) c.args.place item refl lookup.3.0 lookup.1 in
    written_at (take v.len v.items) v.writes c.args.place item c.self.invariant.1 own

pub returns : goal.returns
returns c =
    let v = c.self.inside in
    let item = c.in-Some.item.now in
    let lookup = c.in-Some.ensures.lookup in
    let items = take c.from.result v.items in
    let own : slice_get (take v.len v.items) c.args.place ≡ Some item =
    ap (λ n. slice_get (take n v.items) c.args.place) (sym c.from.ensures) ∙ slice_get_read items (length items) c.args.place item refl lookup.3.0 lookup.1 in
    let f : Record → Outgoing = λ version. record { partition = home_of version.key c.args.parts; call = Prepare version } in
    let made : ℕ → Call → Outgoing = λ partition call. record { partition = partition; call = call } in
    record {
      told = made_at f c.args.self.now (batch_calls c.args.parts (Prepares c.args.self.now)) c.args.place (record_of v.stamp v.writes item) (made c.home-message.result c.put_prepare.new.place) refl
          (version_at v.stamp v.writes (take v.len v.items) c.args.self.now c.args.place item c.self.view_is own)
          (ap (λ p. made p c.put_prepare.new.place) c.home-message.ensures.partition ∙ ap (made (home_of item.key c.args.parts)) c.put_prepare.ensures);
      rest = refl;
      unchanged = λ e. cc;
    }
