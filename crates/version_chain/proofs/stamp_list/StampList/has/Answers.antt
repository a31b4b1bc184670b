use Rattle.std.proofs.Common.{arith}
use Rattle.std.proofs.lemmas.Bool.{ltb-true, lt-ltb}
use Rattle.version_chain.proofs.TwoLists.{run_count}
use Rattle.version_chain.proofs.stamp_list.StampList.has.Goals as goal

pub returns : goal.returns
returns c =
    let first = c.places-first.result.0 in
    let end = c.places-first.result.1 in
    let many = run_count c.args.stamp c.args.self.now.kept first end c.places-first.ensures.ordered c.places-first.ensures.within c.places-first.ensures.together in (
      λ yes. (let less = ltb-true first end yes in omega (arith, many, less)),
      λ more. lt-ltb first end (omega (arith, many, more)),
    )
