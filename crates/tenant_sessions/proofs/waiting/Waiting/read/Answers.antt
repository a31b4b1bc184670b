use Rattle.std.proofs.Common.{sym, subst}
use Rattle.tenant_sessions.specs.Sending.{IsGet}
use Rattle.std.specs.Prelude.{All}
use Rattle.plain_store.specs.Writing.{Outgoing}
use Rattle.tenant_sessions.specs.Parts.{BatchView, AreApart, batch_calls}
use Rattle.tenant_sessions.proofs.Placed.{first_apart}
use Rattle.tenant_sessions.proofs.Sent.{all_placed, all_first}
use Rattle.tenant_sessions.proofs.waiting.Waiting.read.Goals as goal

pub invariant_of-self : goal.invariant_of-self
invariant_of-self c = (
  c.requires.parts,
  c.fill_all.ensures.within,
  c.fill_all.ensures.once,
  λ are. subst (λ part. AreApart (batch_calls c.args.parts part)) (sym c.read.ensures) (first_apart c.args.parts c.args.keys.now (c.requires.apart are)),
)

pub returns-clause-gets : goal.returns-clause-gets
returns-clause-gets c =
    let P : Outgoing → Type 0 = λ out. IsGet out.call in
    let Q : BatchView → Type 0 = λ batch. All P (batch_calls c.args.parts batch) in
    all_placed P _ c.fill_all.new.places (subst Q (sym c.read.ensures) (all_first c.args.parts c.args.keys.now))
