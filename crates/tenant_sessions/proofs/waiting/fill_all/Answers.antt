use Rattle.tenant_sessions.specs.Parts.{batch_calls}
use Rattle.std.specs.Prelude.{◌≢◌, AllPairs, min}
use Rattle.stamps.specs.Limits.{max_parts}
use Rattle.std.proofs.Common.{sym, subst}
use Rattle.tenant_sessions.proofs.Placed.{first_within, first_all, first_few, below_once}
use Rattle.tenant_sessions.proofs.waiting.fill_all.Goals as goal

pub returns-clause-within : goal.returns-clause-within
returns-clause-within c = first_within (batch_calls c.args.parts c.args.part.now) c.len.result c.fill.new.self c.fill.ensures c.len.ensures

pub returns-clause-all : goal.returns-clause-all
returns-clause-all c = λ few. first_all (batch_calls c.args.parts c.args.part.now) c.len.result c.fill.new.self c.fill.ensures c.len.ensures few

pub returns-clause-few : goal.returns-clause-few
returns-clause-few c = first_few (batch_calls c.args.parts c.args.part.now) c.len.result c.fill.new.self c.fill.ensures c.len.ensures

pub returns-clause-once : goal.returns-clause-once
returns-clause-once c = subst (AllPairs (λ i j. i ≢ j)) (sym c.fill.ensures) (below_once (min c.len.result max_parts))
