use Rattle.std.proofs.Common.{refl}
use Rattle.shard.specs.Jobs.{IsTaskAtHome}
use Rattle.shard.proofs.Homed.{all_snoc}
use Rattle.shard.proofs.jobs.JobSender.send.Goals as goal

-- the task is at home as those before it are
pub send_as-requires-clause-rule : goal.send_as-requires-clause-rule
send_as-requires-clause-rule g c = ((λ items views room h at. (_, all_snoc IsTaskAtHome items c.args.task h c.requires, (refl, c.requires))), λ items views h at. tt)
