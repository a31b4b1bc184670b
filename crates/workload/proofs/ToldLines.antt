-- The lines that were reported so far of tenants, one each: for `tell_served` and `tell_judged`.
use Rattle.std.proofs.Common.{◌≡◌, ℕ, zero, suc, ◌+◌, ◌<◌, List, [], ◌∷◌, ◌++◌, Option, Some, None, Result, Ok, Err, length, slice_get, take, refl, sym, ap, subst, ◌∙◌, arith, length-append, append_assoc}
use Rattle.std.proofs.lemmas.List.{append-nil}
use Rattle.std.specs.Prelude.{min}
use Rattle.std.specs.Io.KnownBytes.{Appends}
use Rattle.std.proofs.KnownBytes.{Appends-kept, Appends-nil, Appends-trans}
use Rattle.std.proofs.Math.Seq.{take-length}
use Rattle.line_runs.proofs.Fronts.{begins_behind}
use Rattle.line_runs.specs.declared.fault.ProgramFault.{ProgramFault}
use Rattle.line_runs.specs.declared.fault.ProgramFault.TheVariants.{LineTooLong, Cut, Settle, Options, OutOfMemory, Device}
use Rattle.server_verdicts.specs.Verdicts.{BreaksOff, lines_text}
use Rattle.workload.specs.TenantLines.{TellsLines}

some_is : {X : Type 0} {x y : X} → Some x ≡ Some y → x ≡ y
some_is e = cc

-- the line of one more
text_more : {X : Type 0} (line : List ℕ → X → List ℕ) (told : List X) (last : X) (names : List (List ℕ)) (name : List ℕ) → slice_get names (length told) ≡ Some name
    → lines_text line (told ++ last ∷ []) names ≡ lines_text line told names ++ line name last
text_more line [] last [] name at = absurd (let bad : None ≡ Some name = at in cc)
text_more line [] last (first ∷ names) name at = append-nil (line first last) ∙ ap (λ (n : List ℕ). line n last) (some_is at)
text_more line (x ∷ told) last [] name at = absurd (let bad : None ≡ Some name = at in cc)
text_more line (x ∷ told) last (first ∷ names) name at =
    ap (λ (t : List ℕ). line first x ++ t) (text_more line told last names name at) ∙ sym (append_assoc (line first x) (lines_text line told names) (line name last))

-- what holds at each place holds at each with one more
at_more : {X : Type 0} (P : ℕ → X → Type 0) (xs : List X) (y : X) → ((n : ℕ) (x : X) → slice_get xs n ≡ Some x → P n x) → P (length xs) y
    → (n : ℕ) (x : X) → slice_get (xs ++ y ∷ []) n ≡ Some x → P n x
at_more P [] y each last zero x at = subst (P zero) (some_is at) last
at_more P [] y each last (suc n) x at = absurd (let bad : None ≡ Some x = at in cc)
at_more P (z ∷ zs) y each last zero x at = each zero x at
at_more P (z ∷ zs) y each last (suc n) x at = at_more (λ m w. P (suc m) w) zs y (λ m w h. each (suc m) w h) last n x at

-- the lines of so many tenants were written
pub record TellsLinesOf {X : Type 0} (line : List ℕ → X → List ℕ) (IsOf : ℕ → X → Type 0) (names : List (List ℕ)) (count : ℕ) (old new : Option (List ℕ)) : Type 0 where
  pub all : List X
  pub told : length all ≡ count
  pub each : (tenant : ℕ) (its : X) → slice_get all tenant ≡ Some its → IsOf tenant its
  pub written : Appends old new (lines_text line all names)

pub none_told : {X : Type 0} (line : List ℕ → X → List ℕ) (IsOf : ℕ → X → Type 0) (names : List (List ℕ)) (writer : Option (List ℕ)) → TellsLinesOf line IsOf names 0 writer writer
none_told line IsOf names writer = record { all = []; told = refl; each = λ tenant its at. absurd (let bad : None ≡ Some its = at in cc); written = Appends-nil writer }

pub one_told : {X : Type 0} (line : List ℕ → X → List ℕ) (IsOf : ℕ → X → Type 0) (names : List (List ℕ)) (count : ℕ) (old mid new : Option (List ℕ)) (name : List ℕ) (last : X) → IsOf count last
    → TellsLinesOf line IsOf names count old mid → slice_get names count ≡ Some name → Appends mid new (line name last) → TellsLinesOf line IsOf names (count + 1) old new
one_told line IsOf names count old mid new name last is so_far at adds =
    let its = so_far.all in
    let here : slice_get names (length its) ≡ Some name = subst (λ n. slice_get names n ≡ Some name) (sym so_far.told) at in
    record {
      all = its ++ last ∷ [];
      told = omega (arith, length-append its (last ∷ []), so_far.told);
      each = at_more IsOf its last so_far.each (subst (λ n. IsOf n last) (sym so_far.told) is);
      written = subst (Appends old new) (sym (text_more line its last names name here)) (Appends-trans old mid new _ _ so_far.written adds);
    }

-- the line of one tenant more broke off
pub line_breaks_off : {X : Type 0} (line : List ℕ → X → List ℕ) (IsOf : ℕ → X → Type 0) (tenants : ℕ) (names : List (List ℕ)) (count : ℕ) (old mid new : Option (List ℕ)) (name : List ℕ) (last : X) (fault : ProgramFault)
    → IsOf count last → TellsLinesOf line IsOf names count old mid → slice_get names count ≡ Some name → count < min tenants (length names)
    → BreaksOff (λ text. text ≡ line name last) mid new fault → TellsLines line IsOf tenants names old new (Err fault)
line_breaks_off line IsOf tenants names count old mid new name last Settle is so_far at few breaks = absurd breaks
line_breaks_off line IsOf tenants names count old mid new name last LineTooLong is so_far at few breaks = absurd breaks
line_breaks_off line IsOf tenants names count old mid new name last Cut is so_far at few breaks = absurd breaks
line_breaks_off line IsOf tenants names count old mid new name last Options is so_far at few breaks = absurd breaks
line_breaks_off line IsOf tenants names count old mid new name last OutOfMemory is so_far at few breaks =
    let its = so_far.all in
    let text = lines_text line its names in
    record {
      all = its;
      few = omega (arith, so_far.told, few);
      each = so_far.each;
      size = length text;
      written = subst (Appends old new) (sym (take-length text)) (Appends-kept old mid new text so_far.written breaks);
    }
line_breaks_off line IsOf tenants names count old mid new name last Device is so_far at few breaks =
    let its = so_far.all in
    let here : slice_get names (length its) ≡ Some name = subst (λ n. slice_get names n ≡ Some name) (sym so_far.told) at in
    let begun : Appends mid new (take breaks.1 (line name last)) = subst (λ l. Appends mid new (take breaks.1 l)) breaks.2 breaks.3 in
    record {
      all = its ++ last ∷ [];
      few = omega (arith, length-append its (last ∷ []), so_far.told, few);
      each = at_more IsOf its last so_far.each (subst (λ n. IsOf n last) (sym so_far.told) is);
      size = length (lines_text line its names) + breaks.1;
      written = subst (λ (t : List ℕ). Appends old new (take (length (lines_text line its names) + breaks.1) t)) (sym (text_more line its last names name here))
          (begins_behind old mid new (lines_text line its names) (line name last) breaks.1 so_far.written begun);
    }

-- the same lines are of what is known more closely, and of as many tenants
pub same_lines : {X : Type 0} (line : List ℕ → X → List ℕ) (IsOf Is : ℕ → X → Type 0) (tenants its : ℕ) (names : List (List ℕ)) (old new : Option (List ℕ)) (told : Result (Unit {0}) ProgramFault)
    → tenants ≡ its → ((tenant : ℕ) (x : X) → IsOf tenant x → Is tenant x) → TellsLines line IsOf tenants names old new told → TellsLines line Is its names old new told
same_lines line IsOf Is tenants its names old new (Ok done) as_many closer told =
    record { all = told.all; count = told.count ∙ ap (λ n. min n (length names)) as_many; each = λ tenant x at. closer tenant x (told.each tenant x at); written = told.written }
same_lines line IsOf Is tenants its names old new (Err Settle) as_many closer told = absurd told
same_lines line IsOf Is tenants its names old new (Err LineTooLong) as_many closer told = absurd told
same_lines line IsOf Is tenants its names old new (Err Cut) as_many closer told = absurd told
same_lines line IsOf Is tenants its names old new (Err Options) as_many closer told = absurd told
same_lines line IsOf Is tenants its names old new (Err OutOfMemory) as_many closer told =
    record { all = told.all; few = omega (arith, told.few, as_many); each = λ tenant x at. closer tenant x (told.each tenant x at); size = told.size; written = told.written }
same_lines line IsOf Is tenants its names old new (Err Device) as_many closer told =
    record { all = told.all; few = omega (arith, told.few, as_many); each = λ tenant x at. closer tenant x (told.each tenant x at); size = told.size; written = told.written }
