use Rattle.std.proofs.Common.{◌≡◌, ◌∷◌, subst}
use Rattle.std.specs.Prelude.{IsSomeAnd}
use Rattle.plain_store.specs.Log.{Log}
use Rattle.plain_store.specs.Replies.{reply_after}
use Rattle.prepare_commit.specs.Bases.{Frozen, Leaves, base_of}
use Rattle.version_chain.proofs.Changing.{share_kept}
use Rattle.prepare_commit.proofs.Served.{has_stood, told_after, left_after}
use Rattle.prepare_commit.proofs.replica.Replica.serve.Goals as goal

pub apply_into-requires : goal.apply_into-requires
apply_into-requires c = record { lies = c.self.invariant.0; share = c.self.invariant.1 }

pub invariant_of-self : goal.invariant_of-self
invariant_of-self c = (
  c.apply_into.ensures.lies,
  share_kept c.self.inside.block c.apply_into.new.block c.self.inside.cell.chains c.apply_into.new.self.chains c.apply_into.ensures.own c.self.invariant.1,
  has_stood c.self.inside.block c.apply_into.new.block c.self.inside.cell c.apply_into.new.self c.args.call.now c.self.invariant.2 c.apply_into.new.reply c.apply_into.ensures.serves,
)

pub returns-clause-reply : goal.returns-clause-reply
returns-clause-reply c =
    subst (λ (b : Frozen). IsSomeAnd c.apply_into.new.reply (λ told. (log : Log) → Leaves b log → told ≡ reply_after b.room log c.args.call.now)) c.self.view_is
    (told_after c.self.inside.block c.apply_into.new.block c.self.inside.cell c.apply_into.new.self c.args.call.now c.self.invariant.2 c.apply_into.new.reply c.apply_into.ensures.serves)

pub returns-clause-left : goal.returns-clause-left
returns-clause-left c =
    subst (λ (b : Frozen). IsSomeAnd c.apply_into.new.reply (λ told. (log : Log) → Leaves b log → Leaves (base_of c.apply_into.new.block c.apply_into.new.self) (record { call = c.args.call.now; reply = told } ∷ log))) c.self.view_is
    (left_after c.self.inside.block c.apply_into.new.block c.self.inside.cell c.apply_into.new.self c.args.call.now c.self.invariant.2 c.apply_into.new.reply c.apply_into.ensures.serves)
