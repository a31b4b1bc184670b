use Rattle.std.proofs.Common.{ap, sym, subst, refl}
use Rattle.shard.specs.declared.shard.ShardConfig.{ShardConfig}
use Rattle.hub.specs.Shards.{IsConfigOf}
use Rattle.hub.proofs.Started.{shared-config, shared-journals}
use Rattle.hub.proofs.start.shard_of.Goals as goal

pub returns-clause-config : goal.returns-clause-config
returns-clause-config g c =
    let P : ShardConfig → Type 0 = λ its. IsConfigOf c.args.config.now c.args.partition its in
    shared-config c.args.config.now c.args.partition c.new.result c.share.result c.share.ensures.shared
    (subst P (sym c.new.ensures) (record { partition = refl; parts = refl; tenants = c.len.ensures; every = refl; epoch = refl }))

pub returns-clause-journals : goal.returns-clause-journals
returns-clause-journals g c =
    shared-journals c.args.journals c.new.result c.share.result c.share.ensures.shared (ap (λ (its : ShardConfig). its.journals) c.new.ensures)
