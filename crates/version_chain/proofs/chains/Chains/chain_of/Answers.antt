use Rattle.std.proofs.Common.{sym, ap, ◌∙◌}
use Rattle.version_chain.specs.Listed.{chain_of}
use Rattle.version_chain.proofs.MarkingListed.{marks, named_live}
use Rattle.version_chain.proofs.chains.Chains.chain_of.Goals as goal

pub get-requires : goal.get-requires
get-requires c = named_live c.args.block.now c.args.self.now c.args.kept c.requires.named

pub returns-clause-known : goal.returns-clause-known
returns-clause-known c = rw c.chain.ensures (marks c.args.block.now c.args.self.now c.args.kept c.get.result c.requires.stands c.get.ensures c.requires.named).known

pub returns-clause-place : goal.returns-clause-place
returns-clause-place c = c.chain.ensures ∙ sym (ap chain_of c.get.ensures)
