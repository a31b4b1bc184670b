use Rattle.std.proofs.Common.{◌≡◌, ◌+◌, [], take}
use Rattle.std.specs.Prelude.{All}
use Rattle.plain_store.specs.Words.{IsAct}
use Rattle.plain_store.specs.Run.{run}
use Rattle.plain_store.specs.Tenants.{only, store_answers}
use Rattle.oracle.proofs.tenants.answer_tenant.Given as goal

abbrev pub invariant-loop-place : goal.invariant-loop-place
invariant-loop-place l = record {
  history : l.history.items ≡ run l.setup [] (only l.tenant (take l.place l.steps));
  valid : All IsAct (only l.tenant (take l.place l.steps));
  answers : l.answers.items ≡ store_answers l.partitions (take (l.tenant + 1) l.limits) (take l.place l.steps);
}
