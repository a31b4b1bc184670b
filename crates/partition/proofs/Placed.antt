-- A place that is lent, in which a value lies of which something is said.
use Rattle.std.proofs.Common.{◌≡◌, ℕ, List, Option, Some, None, Result, Err, subst, refl}
use Rattle.std.specs.Prelude.{IsSomeAnd}
use Rattle.plain_store.specs.declared.calls.Call.{Call}
use Rattle.plain_store.specs.declared.calls.Reply.{Reply}
use Rattle.partition.specs.Accounts.{Account}
use Rattle.partition.specs.Serving.{EntersCall}

-- what follows from what is said of a value is said of the one in the place
pub carried : {A : Type 0} {P Q : A → Type 0} → ((a : A) → P a → Q a) → (place : Option A) → IsSomeAnd place P → IsSomeAnd place Q
carried f (Some a) p = f a p
carried f None p = p

-- what is said of the value in a place holds of the value that is found there
pub said : {A : Type 0} (P : A → Type 0) (place : Option A) (a : A) → place ≡ Some a → IsSomeAnd place P → P a
said P place a is = subst (λ (o : Option _). IsSomeAnd o P) is

-- where a call was not served, none is entered
pub none-entered : {A E : Type 0} (old new : List Account) (tenant seat number : ℕ) (call : Call) (place_in : A → ℕ) (reply_in : A → Option Reply) (result : Result A E) (e : E) → result ≡ Err e → new ≡ old
    → EntersCall old new tenant seat number call place_in reply_in result
none-entered old new tenant seat number call place_in reply_in result e is same = rw is (record { entered = tt; reply = tt; place = tt; unchanged = same })
