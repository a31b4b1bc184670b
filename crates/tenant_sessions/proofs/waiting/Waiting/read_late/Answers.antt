use Rattle.std.proofs.Common.{sym, subst}
use Rattle.tenant_sessions.specs.Sending.{IsGet}
use Rattle.std.specs.Prelude.{All}
use Rattle.plain_store.specs.Writing.{Outgoing}
use Rattle.tenant_sessions.specs.Parts.{BatchView, batch_calls}
use Rattle.tenant_sessions.proofs.Sent.{all_placed, all_second}
use Rattle.tenant_sessions.proofs.waiting.Waiting.read_late.Goals as goal

pub returns-clause-gets : goal.returns-clause-gets
returns-clause-gets c =
    let P : Outgoing → Type 0 = λ out. IsGet out.call in
    let Q : BatchView → Type 0 = λ batch. All P (batch_calls c.args.parts batch) in
    all_placed P _ c.fill_all.new.places (subst Q (sym c.read_late.ensures) (all_second c.args.parts c.args.late))
