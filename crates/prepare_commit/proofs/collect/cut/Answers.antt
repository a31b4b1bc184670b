use Rattle.std.proofs.Common.{get_or, arith}
use Rattle.prepare_commit.specs.Layout.{chain_lists}
use Rattle.prepare_commit.specs.Remembered.{in_either}
use Rattle.prepare_commit.proofs.Noting.{each_within, not_among}
use Rattle.prepare_commit.proofs.Remembering.{gathered, neither, remembered}
use Rattle.prepare_commit.proofs.collect.cut.Goals as goal

pub cut_each-requires : goal.cut_each-requires
cut_each-requires c =
    let changed = c.args.changed.now in
    let numbers = c.numbers.result.now in
    let items = c.args.items.now.items in
    let within = each_within changed numbers c.numbers.ensures in
    let settled = remembered c.args.last c.args.keep changed items (chain_lists c.args.block.now c.args.versions.now.chains) (c.kept_no_more.ensures.0 c.if-kept_no_more.true) c.requires.noted.remembers in
    record {
      held = c.requires.held;
      few = c.requires.few;
      known = λ k d less. (let its = within k d less in omega (arith, its, c.requires.long));
      settled = λ k d less none. settled k d less (not_among changed numbers _ c.numbers.ensures none);
    }

pub cut_each-requires-then-kept_no_more-2-clause-known : goal.cut_each-requires-then-kept_no_more-2-clause-known
cut_each-requires-then-kept_no_more-2-clause-known c k d less =
    let its = each_within c.note_those.new.self c.numbers-then-kept_no_more-2.result.now c.numbers-then-kept_no_more-2.ensures k d less in
    omega (arith, its, c.note_those.ensures.long, c.requires.as_long, c.requires.long)

pub cut_each-requires-then-kept_no_more-2-clause-settled : goal.cut_each-requires-then-kept_no_more-2-clause-settled
cut_each-requires-then-kept_no_more-2-clause-settled c k d less none =
    let left = c.args.left.now in
    let changed = c.args.changed.now in
    let all = c.note_those.new.self in
    let items = c.args.items.now.items in
    let free = not_among all c.numbers-then-kept_no_more-2.result.now (get_or items k d).chain c.numbers-then-kept_no_more-2.ensures none in
    remembered c.args.least c.args.keep (in_either left changed) items (chain_lists c.args.block.now c.args.versions.now.chains) (c.kept_no_more-2.ensures.0 c.if-kept_no_more-2.true) c.requires.noted.least k d less
    (gathered left changed all c.note_those.ensures.noted (get_or items k d).chain free)

pub returns-then-kept_no_more-2-clause-left : goal.returns-then-kept_no_more-2-clause-left
returns-then-kept_no_more-2-clause-left c chain free = gathered c.args.left.now c.args.changed.now c.note_those.new.self c.note_those.ensures.noted chain (neither c.note_those.new.self c.args.changed.now chain free).0

pub returns-clause-left : goal.returns-clause-left
returns-clause-left c chain free = gathered c.args.left.now c.args.changed.now c.note_those.new.self c.note_those.ensures.noted chain (neither c.note_those.new.self c.args.changed.now chain free).0
