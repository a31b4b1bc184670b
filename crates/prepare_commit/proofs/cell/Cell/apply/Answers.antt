use Rattle.version_chain.proofs.Changing.{own_none}
use Rattle.prepare_commit.proofs.cell.Cell.apply.Goals as goal

pub returns-in-Prepare : goal.returns-in-Prepare
returns-in-Prepare c = rw c.in-Prepare.is c.prepare.ensures.served

pub returns-in-Commit : goal.returns-in-Commit
returns-in-Commit c = rw c.in-Commit.is c.commit.ensures.served

pub returns-in-Get : goal.returns-in-Get
returns-in-Get c = record { lies = c.requires.lies; own = own_none c.args.block.now c.args.self.now.chains; serves = rw (c.in-Get.is, c.copied.ensures) c.get.ensures }

pub returns-in-Found : goal.returns-in-Found
returns-in-Found c = record { lies = c.requires.lies; own = own_none c.args.block.now c.args.self.now.chains; serves = rw c.in-Found.is (c.found.ensures c.args.block.now) }

pub returns-in-Collect : goal.returns-in-Collect
returns-in-Collect c = rw c.in-Collect.is c.collect.ensures

pub returns-in-Discard : goal.returns-in-Discard
returns-in-Discard c = rw c.in-Discard.is c.discard.ensures.served
