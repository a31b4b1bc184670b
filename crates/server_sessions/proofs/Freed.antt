-- The places so far are taken, or free: for `first_free` and `are_free`.
use Rattle.std.proofs.Common.{◌≡◌, ℕ, ◌+◌, ◌<◌, ◌≤◌, Bool, false, List, Option, Some, None, take, length, get_or, refl, sym, ap, subst, ◌∙◌}
use Rattle.std.specs.Prelude.{IsSome, not}
use Rattle.std.specs.Option.{is_some}
use Rattle.std.proofs.lemmas.List.{take_all}
use Rattle.std.proofs.lemmas.List.Elements.{All-more}
use Rattle.server_sessions.specs.Places.{AreFree, AreTaken}

some_where : {X : Type 0} (place : Option X) (free : Bool) → is_some place ≡ not free → free ≡ false → IsSome place
some_where place free tells is = tells ∙ ap not is

none_where : {X : Type 0} (place : Option X) → is_some place ≡ false → place ≡ None
none_where None is = refl
none_where (Some x) is = absurd cc

pub taken_more : {X : Type 0} (places : List (Option X)) (at : ℕ) (place : Option X) → at < length places → AreTaken (take at places) → place ≡ get_or places at place
    → (free : Bool) → is_some place ≡ not free → free ≡ false → AreTaken (take (at + 1) places)
taken_more places at place within so_far is free tells not_free =
    All-more (λ p. IsSome p) places at place within so_far (subst (λ p. IsSome p) is (some_where place free tells not_free))

pub free_more : {X : Type 0} (places : List (Option X)) (at : ℕ) (place : Option X) → at < length places → AreFree (take at places) → place ≡ get_or places at place
    → (taken : Bool) → taken ≡ is_some place → taken ≡ false → AreFree (take (at + 1) places)
free_more places at place within so_far is taken tells not_taken =
    All-more (λ p. p ≡ None) places at place within so_far (subst (λ p. p ≡ None) is (none_where place (sym tells ∙ not_taken)))

pub all_taken : {X : Type 0} (places : List (Option X)) (at : ℕ) → length places ≤ at → AreTaken (take at places) → AreTaken places
all_taken places at past all = subst AreTaken (take_all at places past) all

pub all_free : {X : Type 0} (places : List (Option X)) (at : ℕ) → length places ≤ at → AreFree (take at places) → AreFree places
all_free places at past all = subst AreFree (take_all at places past) all
