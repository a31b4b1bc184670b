-- What is opened: for `World::open`.
use Rattle.std.proofs.Common.{◌≡◌, ℕ, List, [], ◌∷◌, ◌++◌, map, length, slice_get, Some, sym, ap, ◌∙◌, subst, arith}
use Rattle.std.specs.Prelude.{All}
use Rattle.std.proofs.lemmas.Option.{slice_get_within, get_or_from_slice_get}
use Rattle.stamps.specs.Bounds.{IsParts}
use Rattle.plain_store.specs.Words.{setup_of}
use Rattle.stamps.specs.declared.bounds.Limits.{Limits}
use Rattle.partition.specs.declared.shelf.Shelf.{Shelf}
use Rattle.world.specs.declared.tenant.Tenant.{Tenant}
use Rattle.world.specs.Opening.{IsOpenedShelf, IsFresh}
use Rattle.world.specs.Standing.{TenantStandsFor, StandsFor, IsWorld}
use Rattle.std.proofs.lemmas.List.{map_push, length-map}
use Rattle.world.proofs.Worlds.{limits_at}

pub limits-push : (xs : List Tenant) (x : Tenant) (limits : List Limits) (its : Limits) → map (λ (t : Tenant). t.limits) xs ≡ limits → x.limits ≡ its → map (λ (t : Tenant). t.limits) (xs ++ x ∷ []) ≡ limits ++ its ∷ []
limits-push xs x limits its so is = map_push (λ (t : Tenant). t.limits) xs x ∙ (λ i. so i ++ is i ∷ [])

element : {X : Type 0} (P : X → Type 0) (xs : List X) (n : ℕ) (x : X) → slice_get xs n ≡ Some x → All P xs → P x
element P xs n x at all = subst P (get_or_from_slice_get xs n x x at) (all n x (slice_get_within xs n x at))

module _ (parts : ℕ) (limits : List Limits) (shelves : List Shelf) (tenants : List Tenant) (count : length shelves ≡ parts) (opened : All (IsOpenedShelf limits) shelves) (own : map (λ (t : Tenant). t.limits) tenants ≡ limits)
    (fresh : All (IsFresh parts) tenants) where
  pub opened_stands : StandsFor (record { shelves = shelves; tenants = tenants }) []
  opened_stands = record {
    valid = λ k d h. absurd (omega (arith, h));
    tenants = λ n tenant at. subst (λ p. TenantStandsFor (setup_of p tenant.limits) [] tenant) (sym count) (element (IsFresh parts) tenants n tenant at fresh).stands;
    cells = λ n tenant at partition shelf placed.
        let one = element (IsOpenedShelf limits) shelves partition shelf placed opened in
        let its : slice_get limits n ≡ Some tenant.limits = ap (λ ls. slice_get ls n) (sym own) ∙ limits_at tenants n tenant at in
        (one.room n tenant.limits its, one.empty n (slice_get_within limits n tenant.limits its));
  }

  pub opened_is_world : IsParts parts → IsWorld shelves tenants
  opened_is_world good = record {
    parts = subst IsParts (sym count) good;
    seats = λ k d within. (opened k d within).seats ∙ sym (sym (length-map tenants (λ (t : Tenant). t.limits)) ∙ ap length own);
  }
