use Rattle.traced_book.proofs.Bare.{opened_anew, opened_bare}
use Rattle.traced_book.proofs.bare_shelf.BareShelf.open.Goals as goal

pub invariant_of-result : goal.invariant_of-result
invariant_of-result c =
    opened_bare c.in_ok-shelf.shelf c.args.limits.now c.in_ok-shelf.ensures.tenants c.in_ok-shelf.ensures.rooms c.in_ok-shelf.ensures.empty c.in_ok-tenants.tenants.items c.in_ok-tenants.ensures

pub returns : goal.returns
returns c =
    opened_anew c.in_ok-shelf.shelf c.args.limits.now c.in_ok-shelf.ensures.tenants c.in_ok-shelf.ensures.rooms c.in_ok-shelf.ensures.empty c.in_ok-tenants.tenants.items c.in_ok-tenants.ensures
