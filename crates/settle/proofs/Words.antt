-- What holds of results and of options.
use Rattle.std.proofs.Common.{subst, MatchResult}
use Rattle.settle.specs.declared.step_fault.StepFault.{StepFault}
use Rattle.settle.specs.declared.step_fault.StepFault.TheVariants.{OutOfMemory}
use Rattle.plain_store.specs.declared.out_of_memory.OutOfMemory.{OutOfMemory as NoMemory}
use Rattle.world.specs.Standing.{answered_in_place}
use Rattle.settle.specs.Words.{Act, Answer}
use Rattle.settle.specs.Input.{Input}
use Rattle.settle.specs.Trace.{Origin, Trace}
use Rattle.settle.specs.Standing.{FaultsAt}
use Rattle.std.proofs.lemmas.Bool.{ltb-true, ltb-false}
use Rattle.std.proofs.lemmas.Option.{slice_get_read, slice_get_past}
use Rattle.std.specs.Option.{option_copied}
use Rattle.std.proofs.Common.{ℕ, List, length, get_or, slice_get, is_some, ltb, Bor, sym, ◌≡◌, refl, Option, Some, None, MatchOption, ◌∙◌, Result, Ok, Err, IfOk, OnOk, IfErr, IfSome, Bool}

pub if_ok_map : {A E : Type 0} (r : Result A E) (P Q : A → Type 0) → ((x : A) → P x → Q x) → IfOk r P → IfOk r Q
if_ok_map (Ok x) P Q f h = f x h
if_ok_map (Err e) P Q f h = tt

pub if_ok_both : {A E : Type 0} (r : Result A E) (P Q R : A → Type 0) → ((x : A) → P x → Q x → R x) → IfOk r P → IfOk r Q → IfOk r R
if_ok_both (Ok x) P Q R f g h = f x g h
if_ok_both (Err e) P Q R f g h = tt

pub on_ok_map : {A E : Type 0} (r : Result A E) {P Q : Type 0} → (P → Q) → OnOk r P → OnOk r Q
on_ok_map (Ok x) f h = f h
on_ok_map (Err e) f h = tt

pub on_ok_both : {A E : Type 0} (r : Result A E) {P Q R : Type 0} → (P → Q → R) → OnOk r P → OnOk r Q → OnOk r R
on_ok_both (Ok x) f g h = f g h
on_ok_both (Err e) f g h = tt

pub on_ok_always : {A E : Type 0} (r : Result A E) {P : Type 0} → P → OnOk r P
on_ok_always (Ok x) h = h
on_ok_always (Err e) h = tt

-- what an answer in place is
pub in_place : (r : Result (Unit {0}) NoMemory) (a : Answer) (P : Answer → Type 0) → IfOk (answered_in_place r a) P → OnOk r (P a)
in_place (Ok x) a P h = h
in_place (Err e) a P h = tt

pub on_in_place : (r : Result (Unit {0}) NoMemory) (a : Answer) (P : Type 0) → OnOk (answered_in_place r a) P → OnOk r P
on_in_place (Ok x) a P h = h
on_in_place (Err e) a P h = tt

pub some_is : {X : Type 0} (x y : X) → Some x ≡ Some y → x ≡ y
some_is x y e = cc

-- what `get` of a slice gives
pub looked_up : {X : Type 0} (xs : List X) (i : ℕ) (o : Option (Bor X)) → is_some o ≡ ltb i (length xs) → IfSome o (λ y. y.now ≡ get_or xs i y.now) → option_copied o ≡ slice_get xs i
looked_up xs i None test is = sym (slice_get_past xs i (ltb-false i (length xs) (sym test)))
looked_up xs i (Some y) test is = sym (slice_get_read xs (length xs) i y.now refl (ltb-true i (length xs) (sym test)) is)

pub none_some : {X : Type 0} (p : Option X) → None ≡ p → (x : X) → p ≡ Some x → ⊥
none_some p e x h = let bad = e ∙ h in cc

pub matched : {X : Type 0} (o : Option X) (p : Option X) → o ≡ p → MatchOption o ((x : X) → p ≡ Some x → ⊥) (λ y. p ≡ Some y)
matched None p e = none_some p e
matched (Some y) p e = sym e

-- where there was no memory, the run is not said to differ
pub match_pushed : (input : Input) (trace : Trace) (origin : Origin) (act : Act) (loses : Bool) (r : Result (Unit {0}) StepFault) (P Q : Type 0) → OnOk r P → IfErr r (λ fault. fault ≡ OutOfMemory) → (P → Q)
    → MatchResult r (λ _. Q) (FaultsAt input trace origin act loses)
match_pushed input trace origin act loses (Ok x) P Q ok err f = f ok
match_pushed input trace origin act loses (Err fault) P Q ok err f = subst (FaultsAt input trace origin act loses) (sym err) tt
