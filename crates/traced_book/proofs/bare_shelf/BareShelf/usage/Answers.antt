use Rattle.std.proofs.Common.{◌≡◌, ◌∙◌, List, length, ap, refl, sym, subst, add-zero, arith}
use Rattle.std.specs.Prelude.{slice_get}
use Rattle.std.proofs.lemmas.Option.{get_or_from_slice_get}
use Rattle.plain_store.specs.Log.{Log}
use Rattle.prepare_commit.specs.HowMuch.{IsHeldAfter}
use Rattle.partition.specs.Accounts.{Account}
use Rattle.partition.specs.Used.{IsUsageOf}
use Rattle.partition.specs.declared.usage.Usage.{Usage}
use Rattle.traced_book.specs.Bare.{bare_account}
use Rattle.traced_book.specs.declared.bare_shelf.BareTenant.{BareTenant}
use Rattle.traced_book.proofs.Bare.{as_many_accounts, at_account, of_each_left, tenants_there}
use Rattle.traced_book.proofs.bare_shelf.BareShelf.usage.Goals as goal

pub holdings-requires : goal.holdings-requires
holdings-requires c =
    let b = c.self.inside in
    omega (arith, c.requires, ap (λ (accounts : List Account). length accounts) c.self.view_is, tenants_there b.shelf b.tenants.items c.self.invariant)

pub index-requires : goal.index-requires
index-requires c =
    let b = c.self.inside in
    omega (arith, c.requires, ap (λ (accounts : List Account). length accounts) c.self.view_is, as_many_accounts b.shelf b.tenants.items b.shelf.cells c.self.invariant.as_many, c.self.invariant.as_many, b.tenants.ok.0)

-- they are those of the tenant's account
pub returns : goal.returns
returns c = λ account is.
    let b = c.self.inside in
    let found = at_account b.shelf b.tenants.items b.shelf.cells c.args.tenant account (ap (λ (accounts : List Account). slice_get accounts c.args.tenant) c.self.view_is ∙ is) in
    let read : c.index.result.now ≡ found.0 = c.index.ensures ∙ get_or_from_slice_get b.tenants.items c.args.tenant found.0 c.index.result.now found.2 in
    let usage : Usage = record { holdings = c.holdings.result; served = c.index.result.now.served; epoch = 1 } in
    let its : IsUsageOf (bare_account b.shelf found.0 found.1) usage =
    record {
      held = of_each_left b.shelf c.args.tenant found.1 found.3 (λ (log : Log). IsHeldAfter log c.holdings.result) (c.self.invariant.each c.args.tenant found.0 found.1 found.2 found.3).stood c.holdings.ensures;
      served = ap (λ (t : BareTenant). t.served) read ∙ sym (add-zero found.0.served);
      epoch = refl;
    } in
    subst (λ (a : Account). IsUsageOf a usage) found.4 its
