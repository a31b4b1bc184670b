use Rattle.std.proofs.Common.{◌≡◌, ◌<◌, ◌+◌, ◌^◌, false, List, Some, length, set, ap, refl, subst, arith}
use Rattle.std.specs.Prelude.{IsSomeAnd, slice_get}
use Rattle.std.proofs.lemmas.Option.{slice_get_read}
use Rattle.partition.specs.Accounts.{Account, IsReplyInEpoch, before_at, events_at}
use Rattle.partition.specs.Events.{event}
use Rattle.partition.specs.Journals.{IsLate}
use Rattle.traced_book.specs.Bare.{bare_accounts}
use Rattle.traced_book.specs.Forgetting.{IsTaken}
use Rattle.traced_book.specs.declared.bare_shelf.BareTenant.{BareTenant}
use Rattle.traced_book.proofs.Bare.{as_many_accounts, bare_place, bare_still, bare_taken, bare_told, few_served, never_late, tenants_there}
use Rattle.traced_book.proofs.bare_shelf.BareShelf.serve_admitted.Goals as goal

pub apply_into-requires : goal.apply_into-requires
apply_into-requires g c =
    let b = c.self.inside in
    omega (arith, c.requires.tenant, ap (λ (accounts : List Account). length accounts) c.self.view_is, tenants_there b.shelf b.tenants.items c.self.invariant)

pub index_mut-its-requires : goal.index_mut-its-requires
index_mut-its-requires g c =
    let b = c.self.inside in
    omega (arith, c.requires.tenant, ap (λ (accounts : List Account). length accounts) c.self.view_is, as_many_accounts b.shelf b.tenants.items b.shelf.cells c.self.invariant.as_many, c.self.invariant.as_many, b.tenants.ok.0)

pub overflow_add-its : goal.overflow_add-its
overflow_add-its g c =
    let b = c.self.inside in
    let within : c.args.tenant < length b.tenants.items =
    omega (arith, c.requires.tenant, ap (λ (accounts : List Account). length accounts) c.self.view_is, as_many_accounts b.shelf b.tenants.items b.shelf.cells c.self.invariant.as_many, c.self.invariant.as_many) in
    let there : slice_get b.tenants.items c.args.tenant ≡ Some c.index_mut-its.result.now = slice_get_read b.tenants.items (length b.tenants.items) c.args.tenant _ refl within c.index_mut-its.ensures.value in
    let few : c.index_mut-its.result.now.served < 2 ^ 63 = few_served b.shelf b.tenants.items c.args.tenant c.index_mut-its.result.now c.self.invariant there
    (λ account at. c.requires.few account (subst (λ (accounts : List Account). slice_get accounts c.args.tenant ≡ Some account) c.self.view_is at)) in
    omega (arith, few)

-- each cell is its tenant's still
pub invariant_of-self : goal.invariant_of-self
invariant_of-self g c =
    let b = c.self.inside in
    let within : c.args.tenant < length b.tenants.items =
    omega (arith, c.requires.tenant, ap (λ (accounts : List Account). length accounts) c.self.view_is, as_many_accounts b.shelf b.tenants.items b.shelf.cells c.self.invariant.as_many, c.self.invariant.as_many) in
    let there : slice_get b.tenants.items c.args.tenant ≡ Some c.index_mut-its.result.now = slice_get_read b.tenants.items (length b.tenants.items) c.args.tenant _ refl within c.index_mut-its.ensures.value in
    bare_still b.shelf c.apply_into.new.self b.tenants.items _ c.args.tenant c.index_mut-its.result.now c.self.invariant there refl c.apply_into.ensures.others c.apply_into.ensures.tenants
    c.args._caller.seat c.args._caller.number c.args.call.now c.apply_into.new.reply c.apply_into.ensures.serves

-- the call is the tenant's next one
pub returns-clause-takes : goal.returns-clause-takes
returns-clause-takes g c =
    let b = c.self.inside in
    let tenant = c.args.tenant in
    let its = c.index_mut-its.result.now in
    let reply = c.apply_into.new.reply in
    let old = bare_accounts b.shelf b.tenants.items b.shelf.cells in
    let within : tenant < length b.tenants.items =
    omega (arith, c.requires.tenant, ap (λ (accounts : List Account). length accounts) c.self.view_is, as_many_accounts b.shelf b.tenants.items b.shelf.cells c.self.invariant.as_many, c.self.invariant.as_many) in
    let there : slice_get b.tenants.items tenant ≡ Some its = slice_get_read b.tenants.items (length b.tenants.items) tenant _ refl within c.index_mut-its.ensures.value in
    let more : BareTenant = record { limits = its.limits; served = its.served + 1 } in
    let after = set b.tenants.items tenant more in
    let new = bare_accounts c.apply_into.new.self after c.apply_into.new.self.cells in
    let P : List Account → Type 0 = λ accounts. IsSomeAnd reply (λ told. IsTaken false accounts new tenant (event c.args._caller.seat c.args._caller.number c.args.call.now told)) in
    let Q : List Account → Type 0 = λ accounts. IsSomeAnd reply (λ told. IsReplyInEpoch accounts tenant c.args.call.now told) in
    let R : List Account → Type 0 = λ accounts. its.served + 1 ≡ before_at accounts tenant + length (events_at accounts tenant) + 1 in
    record {
      taken = subst P c.self.view_is
          (bare_taken b.shelf c.apply_into.new.self b.tenants.items after tenant its c.self.invariant there refl c.apply_into.ensures.others c.apply_into.ensures.tenants
          c.args._caller.seat c.args._caller.number c.args.call.now reply c.apply_into.ensures.serves);
      reply = subst Q c.self.view_is
          (bare_told b.shelf c.apply_into.new.self b.tenants.items after tenant its c.self.invariant there refl c.apply_into.ensures.others c.apply_into.ensures.tenants
          c.args._caller.seat c.args._caller.number c.args.call.now reply c.apply_into.ensures.serves);
      place = subst R c.self.view_is (bare_place b.shelf b.tenants.items tenant its c.self.invariant there);
      unchanged = tt;
    }

pub returns-clause-late : goal.returns-clause-late
returns-clause-late g c =
    let b = c.self.inside in
    let L : List Account → Type 0 = λ accounts. IsLate (events_at accounts c.args.tenant) c.args._caller.seat c.args._caller.number → ⊥ in
    (λ is. absurd (cc is), λ late. absurd (subst L c.self.view_is (never_late b.shelf b.tenants.items c.args.tenant c.args._caller.seat c.args._caller.number) late))

pub returns-then-not-admit-clause-late : goal.returns-then-not-admit-clause-late
returns-then-not-admit-clause-late g c =
    let b = c.self.inside in
    let L : List Account → Type 0 = λ accounts. IsLate (events_at accounts c.args.tenant) c.args._caller.seat c.args._caller.number → ⊥ in
    (λ is. absurd (cc is), λ late. absurd (subst L c.self.view_is (never_late b.shelf b.tenants.items c.args.tenant c.args._caller.seat c.args._caller.number) late))
