use Rattle.std.proofs.Common.{arith}
use Rattle.packed.proofs.Pieces.{begins_before}
use Rattle.version_chain.proofs.chain_list.part_at.Goals as goal

pub overflow_sub-result : goal.overflow_sub-result
overflow_sub-result c =
    let rises = begins_before 0 c.args.ends.now c.requires.cut.0 c.args.at c.requires.cut.1 c.requires.place in
    omega (arith, rises, c.start_of-start.ensures)

pub returns-clause-end : goal.returns-clause-end
returns-clause-end c =
    let rises = begins_before 0 c.args.ends.now c.requires.cut.0 c.args.at c.requires.cut.1 c.requires.place in
    omega (arith, rises, c.start_of-start.ensures)
