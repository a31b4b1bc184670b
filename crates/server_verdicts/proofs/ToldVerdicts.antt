-- The verdicts and the counts that were reported so far: for `tell_verdicts` and what counts so too.
use Rattle.std.proofs.Common.{◌≡◌, ℕ, zero, suc, ◌+◌, ◌≤◌, List, [], ◌∷◌, ◌++◌, Bool, true, false, ◌&&◌, Option, Some, None, Result, Ok, Err, ◌≢◌, length, slice_get, ◌<◌, take, refl, sym, ap, subst, ◌∙◌, inr, arith, length-append, append_assoc}
use Rattle.std.proofs.lemmas.List.{append-nil}
use Rattle.std.proofs.lemmas.Option.{slice_get_within}
use Rattle.std.specs.Prelude.{min, is_ok, IfOk}
use Rattle.std.specs.Io.KnownBytes.{Appends, Keeps}
use Rattle.std.proofs.KnownBytes.{Appends-kept, Appends-nil, Appends-trans}
use Rattle.std.proofs.Math.Seq.{take-length}
use Rattle.std.proofs.lemmas.List.Folds.{list_all-append}
use Rattle.closed_store.specs.declared.closed.Closed.{Closed}
use Rattle.std.specs.Global.{Vec}
use Rattle.plain_store.specs.declared.step.Step.{Step}
use Rattle.settle.specs.declared.settle_fault.SettleFault.{SettleFault}
use Rattle.settle.specs.declared.settle_fault.SettleFault.TheVariants.{OutOfMemory}
use Rattle.line_runs.specs.declared.fault.ProgramFault.{ProgramFault}
use Rattle.line_runs.specs.declared.fault.ProgramFault.TheVariants.{Settle, LineTooLong, Cut, Options, Device, OutOfMemory as NoMemory}
use Rattle.settle.specs.Verdict.{IsVerdictFor, limits_at}
use Rattle.server_verdicts.specs.Begun.{BegunCounts, counts_of}
use Rattle.server_verdicts.specs.Verdicts.{IsVerdictOf, AreVerdicts, BreaksOff, are_all_yes, named_count, lines_text, verdict_line, load_line, AreCounts, TellsEach, TellsAll, TellsBegun, TellsTenant, TellsVerdicts}
use Rattle.line_runs.proofs.Fronts.{begins_behind}

-- the verdicts over so many tenants were written
pub record TellsFirst (IsVerdict : ℕ → Bool → Type 0) (word : List ℕ) (names : List (List ℕ)) (count : ℕ) (all_yes : Bool) (old new : Option (List ℕ)) : Type 0 where
  pub verdicts : List Bool
  pub told : length verdicts ≡ count
  pub named : count ≤ length names
  pub each : AreVerdicts IsVerdict verdicts
  pub all : are_all_yes verdicts ≡ all_yes
  pub written : Appends old new (lines_text (verdict_line word) verdicts names)

some_is : {X : Type 0} {x y : X} → Some x ≡ Some y → x ≡ y
some_is e = cc

-- what holds at each place holds at each with one more
at_more : {X : Type 0} (P : ℕ → X → Type 0) (xs : List X) (y : X) → ((n : ℕ) (x : X) → slice_get xs n ≡ Some x → P n x) → P (length xs) y
    → (n : ℕ) (x : X) → slice_get (xs ++ y ∷ []) n ≡ Some x → P n x
at_more P [] y each last zero x at = subst (P zero) (some_is at) last
at_more P [] y each last (suc n) x at = absurd (let bad : None ≡ Some x = at in cc)
at_more P (z ∷ zs) y each last zero x at = each zero x at
at_more P (z ∷ zs) y each last (suc n) x at = at_more (λ m w. P (suc m) w) zs y (λ m w h. each (suc m) w h) last n x at

-- the line of one more
text_more : {X : Type 0} (line : List ℕ → X → List ℕ) (told : List X) (last : X) (names : List (List ℕ)) (name : List ℕ) → slice_get names (length told) ≡ Some name
    → lines_text line (told ++ last ∷ []) names ≡ lines_text line told names ++ line name last
text_more line [] last [] name at = absurd (let bad : None ≡ Some name = at in cc)
text_more line [] last (first ∷ names) name at = append-nil (line first last) ∙ ap (λ n. line n last) (some_is at)
text_more line (x ∷ told) last [] name at = absurd (let bad : None ≡ Some name = at in cc)
text_more line (x ∷ told) last (first ∷ names) name at =
    ap (λ t. line first x ++ t) (text_more line told last names name at) ∙ sym (append_assoc (line first x) (lines_text line told names) (line name last))

last_yes : (verdict : Bool) → are_all_yes (verdict ∷ []) ≡ verdict
last_yes true = refl
last_yes false = refl

all_more : (verdicts : List Bool) (verdict all : Bool) → are_all_yes verdicts ≡ all → are_all_yes (verdicts ++ verdict ∷ []) ≡ (all && verdict)
all_more verdicts verdict all h =
    list_all-append (λ b. b) verdicts (verdict ∷ []) ∙ ap (λ a. a && are_all_yes (verdict ∷ [])) h ∙ ap (λ b. all && b) (last_yes verdict)

pub none_told : (IsVerdict : ℕ → Bool → Type 0) (word : List ℕ) (names : List (List ℕ)) (writer : Option (List ℕ)) → TellsFirst IsVerdict word names 0 true writer writer
none_told IsVerdict word names writer =
    record { verdicts = []; told = refl; named = omega arith; each = λ tenant verdict at. absurd (let bad : None ≡ Some verdict = at in cc); all = refl; written = Appends-nil writer }

pub one_more : (IsVerdict : ℕ → Bool → Type 0) (word : List ℕ) (names : List (List ℕ)) (count : ℕ) (all_yes : Bool) (old mid new : Option (List ℕ)) (name : List ℕ) (verdict : Bool)
    → TellsFirst IsVerdict word names count all_yes old mid → slice_get names count ≡ Some name → IsVerdict count verdict → Appends mid new (verdict_line word name verdict)
    → TellsFirst IsVerdict word names (count + 1) (all_yes && verdict) old new
one_more IsVerdict word names count all_yes old mid new name verdict so_far at is line =
    let its = so_far.verdicts in
    let here : slice_get names (length its) ≡ Some name = subst (λ n. slice_get names n ≡ Some name) (sym so_far.told) at in
    let within = slice_get_within names count name at in
    record {
      verdicts = its ++ verdict ∷ [];
      told = omega (arith, length-append its (verdict ∷ []), so_far.told);
      named = omega (arith, within);
      each = at_more IsVerdict its verdict so_far.each (subst (λ n. IsVerdict n verdict) (sym so_far.told) is);
      all = all_more its verdict all_yes so_far.all;
      written = subst (Appends old new) (sym (text_more (verdict_line word) its verdict names name here)) (Appends-trans old mid new _ _ so_far.written line);
    }

pub all_told : (IsVerdict : ℕ → Bool → Type 0) (word : List ℕ) (tenants : ℕ) (names : List (List ℕ)) (count : ℕ) (all_yes : Bool) (old new : Option (List ℕ))
    → TellsFirst IsVerdict word names count all_yes old new → count ≡ min tenants (length names) → TellsAll IsVerdict word tenants names all_yes old new
all_told IsVerdict word tenants names count all_yes old new so_far is =
    record { verdicts = so_far.verdicts; count = so_far.told ∙ is; each = so_far.each; all = so_far.all; written = so_far.written }

-- the counts of so many tenants were written
pub record TellsCountsOf (closed : Closed) (names : List (List ℕ)) (count : ℕ) (old new : Option (List ℕ)) : Type 0 where
  pub all : List BegunCounts
  pub told : length all ≡ count
  pub each : AreCounts closed all
  pub written : Appends old new (lines_text load_line all names)

pub none_counted : (closed : Closed) (names : List (List ℕ)) (writer : Option (List ℕ)) → TellsCountsOf closed names 0 writer writer
none_counted closed names writer = record { all = []; told = refl; each = λ tenant counts at. absurd (let bad : None ≡ Some counts = at in cc); written = Appends-nil writer }

-- the counts of one tenant more
counts_more : (closed : Closed) (its : List BegunCounts) (count : ℕ) (counts : BegunCounts) → length its ≡ count → AreCounts closed its → counts ≡ counts_of closed count
    → AreCounts closed (its ++ counts ∷ [])
counts_more closed its count counts told each is =
    at_more (λ n c. c ≡ counts_of closed n) its counts each (subst (λ n. counts ≡ counts_of closed n) (sym told) is)

pub one_counted : (closed : Closed) (names : List (List ℕ)) (count : ℕ) (old mid new : Option (List ℕ)) (name : List ℕ) (counts : BegunCounts) → counts ≡ counts_of closed count
    → TellsCountsOf closed names count old mid → slice_get names count ≡ Some name → Appends mid new (load_line name counts) → TellsCountsOf closed names (count + 1) old new
one_counted closed names count old mid new name counts is so_far at line =
    let its = so_far.all in
    let here : slice_get names (length its) ≡ Some name = subst (λ n. slice_get names n ≡ Some name) (sym so_far.told) at in
    record {
      all = its ++ counts ∷ [];
      told = omega (arith, length-append its (counts ∷ []), so_far.told);
      each = counts_more closed its count counts so_far.told so_far.each is;
      written = subst (Appends old new) (sym (text_more load_line its counts names name here)) (Appends-trans old mid new _ _ so_far.written line);
    }

-- ---- one verdict

pub told_as : {E : Type 0} (closed : Closed) (tenant : ℕ) (answer : Result (Vec Step) SettleFault) (verdict : Result Bool E) → IsVerdictFor closed tenant (limits_at closed tenant) answer
    → IfOk verdict (λ yes. yes ≡ is_ok answer) → IfOk verdict (λ yes. answer ≢ Err OutOfMemory) → IfOk verdict (IsVerdictOf closed tenant)
told_as closed tenant (Ok steps) (Ok is) its list fault = subst (IsVerdictOf closed tenant) (sym list) (steps, its)
told_as closed tenant (Err cause) (Ok is) its list fault = subst (IsVerdictOf closed tenant) (sym list) (cause, (λ same. fault (ap Err same)), its)
told_as closed tenant answer (Err none) its list fault = tt

-- ---- where a line broke off

-- a beginning of one more line
begun_more : {X : Type 0} (line : List ℕ → X → List ℕ) (told : List X) (last : X) (names : List (List ℕ)) (name : List ℕ) (old mid new : Option (List ℕ)) (size : ℕ)
    → slice_get names (length told) ≡ Some name → Appends old mid (lines_text line told names) → Appends mid new (take size (line name last))
    → Appends old new (take (length (lines_text line told names) + size) (lines_text line (told ++ last ∷ []) names))
begun_more line told last names name old mid new size at first second =
    subst (λ t. Appends old new (take (length (lines_text line told names) + size) t)) (sym (text_more line told last names name at))
    (begins_behind old mid new (lines_text line told names) (line name last) size first second)

-- whole lines, and nothing behind them
whole_lines : (old mid new : Option (List ℕ)) (text : List ℕ) → Appends old mid text → Keeps mid new → Appends old new (take (length text) text)
whole_lines old mid new text adds keeps = subst (Appends old new) (sym (take-length text)) (Appends-kept old mid new text adds keeps)

pub breaks_off : (IsVerdict : ℕ → Bool → Type 0) (word : List ℕ) (tenants : ℕ) (names : List (List ℕ)) (count : ℕ) (all_yes : Bool) (old mid new : Option (List ℕ)) (name : List ℕ) (fault : ProgramFault)
    → TellsFirst IsVerdict word names count all_yes old mid → slice_get names count ≡ Some name → count < min tenants (length names)
    → BreaksOff (TellsTenant IsVerdict word count name) mid new fault → TellsEach IsVerdict word tenants names old new (Err fault)
breaks_off IsVerdict word tenants names count all_yes old mid new name Settle so_far at few breaks = absurd breaks
breaks_off IsVerdict word tenants names count all_yes old mid new name LineTooLong so_far at few breaks = absurd breaks
breaks_off IsVerdict word tenants names count all_yes old mid new name Cut so_far at few breaks = absurd breaks
breaks_off IsVerdict word tenants names count all_yes old mid new name Options so_far at few breaks = absurd breaks
breaks_off IsVerdict word tenants names count all_yes old mid new name NoMemory so_far at few breaks =
    let its = so_far.verdicts in
    let text = lines_text (verdict_line word) its names in
    record { verdicts = its; few = omega (arith, so_far.told, few); each = so_far.each; size = length text; written = whole_lines old mid new text so_far.written breaks }
breaks_off IsVerdict word tenants names count all_yes old mid new name Device so_far at few breaks =
    let its = so_far.verdicts in
    let line = breaks.0 in
    let verdict = breaks.2.0 in
    let here : slice_get names (length its) ≡ Some name = subst (λ n. slice_get names n ≡ Some name) (sym so_far.told) at in
    let begun : Appends mid new (take breaks.1 (verdict_line word name verdict)) = subst (λ l. Appends mid new (take breaks.1 l)) breaks.2.2 breaks.3 in
    record {
      verdicts = its ++ verdict ∷ [];
      few = omega (arith, length-append its (verdict ∷ []), so_far.told, few);
      each = at_more IsVerdict its verdict so_far.each (subst (λ n. IsVerdict n verdict) (sym so_far.told) breaks.2.1);
      size = length (lines_text (verdict_line word) its names) + breaks.1;
      written = begun_more (verdict_line word) its verdict names name old mid new breaks.1 here so_far.written begun;
    }

pub count_breaks_off : (closed : Closed) (names : List (List ℕ)) (count : ℕ) (old mid new : Option (List ℕ)) (name : List ℕ) (counts : BegunCounts) (fault : ProgramFault)
    → counts ≡ counts_of closed count → TellsCountsOf closed names count old mid → slice_get names count ≡ Some name → count < named_count closed names
    → BreaksOff (λ line. line ≡ load_line name counts) mid new fault → TellsBegun closed names old new (Err fault)
count_breaks_off closed names count old mid new name counts Settle is so_far at few breaks = absurd breaks
count_breaks_off closed names count old mid new name counts LineTooLong is so_far at few breaks = absurd breaks
count_breaks_off closed names count old mid new name counts Cut is so_far at few breaks = absurd breaks
count_breaks_off closed names count old mid new name counts Options is so_far at few breaks = absurd breaks
count_breaks_off closed names count old mid new name counts NoMemory is so_far at few breaks =
    let its = so_far.all in
    let text = lines_text load_line its names in
    record { all = its; few = omega (arith, so_far.told, few); each = so_far.each; size = length text; written = whole_lines old mid new text so_far.written breaks }
count_breaks_off closed names count old mid new name counts Device is so_far at few breaks =
    let its = so_far.all in
    let here : slice_get names (length its) ≡ Some name = subst (λ n. slice_get names n ≡ Some name) (sym so_far.told) at in
    let begun : Appends mid new (take breaks.1 (load_line name counts)) = subst (λ l. Appends mid new (take breaks.1 l)) breaks.2 breaks.3 in
    record {
      all = its ++ counts ∷ [];
      few = omega (arith, length-append its (counts ∷ []), so_far.told, few);
      each = counts_more closed its count counts so_far.told so_far.each is;
      size = length (lines_text load_line its names) + breaks.1;
      written = begun_more load_line its counts names name old mid new breaks.1 here so_far.written begun;
    }

-- all verdicts were reported, and the end says whether all are yes
pub ends_yes : (IsVerdict : ℕ → Bool → Type 0) (word : List ℕ) (tenants : ℕ) (names : List (List ℕ)) (all_yes : Bool) (old new : Option (List ℕ)) → TellsAll IsVerdict word tenants names all_yes old new → all_yes ≡ true
    → TellsEach IsVerdict word tenants names old new (Ok tt)
ends_yes IsVerdict word tenants names all_yes old new told is = subst (λ b. TellsAll IsVerdict word tenants names b old new) is told

pub ends_no : (IsVerdict : ℕ → Bool → Type 0) (word : List ℕ) (tenants : ℕ) (names : List (List ℕ)) (all_yes : Bool) (old new : Option (List ℕ)) → TellsAll IsVerdict word tenants names all_yes old new → all_yes ≡ false
    → TellsEach IsVerdict word tenants names old new (Err Settle)
ends_no IsVerdict word tenants names all_yes old new told is = subst (λ b. TellsAll IsVerdict word tenants names b old new) is told
