-- What a server told of itself: for `tell_port`, `serve_and_settle`, `serve_and_check` and `serve_unrecorded`.
use Rattle.std.proofs.Common.{◌≡◌, ℕ, ◌<◌, ◌^◌, ◌⊎◌, ◌&&◌, Bool, true, false, List, [], ◌++◌, length, slice_get, take, Option, Some, None, Result, Ok, Err, refl, sym, ap, subst, inl, inr, arith, ◌∙◌}
use Rattle.std.specs.Prelude.{IsTrue, codes, if◌then◌else◌, nat_eq, nat_lt}
use Rattle.std.specs.Io.KnownBytes.{Appends, Keeps}
use Rattle.std.proofs.lemmas.Bool.{eq-eqb, ne_eqb}
use Rattle.std.proofs.KnownBytes.{Appends-nil, Appends-trans, Keeps-refl}
use Rattle.std.proofs.Math.Seq.{take-length}
use Rattle.line_runs.specs.declared.fault.ProgramFault.{ProgramFault}
use Rattle.line_runs.specs.declared.fault.ProgramFault.TheVariants.{LineTooLong, Cut, Settle, Options, OutOfMemory, Device}
use Rattle.hub.specs.Hubs.{ConfigView}
use Rattle.closed_store.specs.declared.closed.Closed.{Closed}
use Rattle.line_runs.specs.Statuses.{status_of}
use Rattle.workload.specs.Amounts.{AreAmounts, IsAmountOf, TellsAmounts, judged_line}
use Rattle.workload.specs.declared.judged_lines.Amount.{Amount}
use Rattle.workload.specs.Serving.{ComesBehind, HasChecked, HasClosed, HasListened, HasServed, HasServedOf, IsFaultBefore, TellsPortFirst, TellsPortFor, greater_fault, is_told, listening_line}
use Rattle.workload.specs.TenantLines.{TellsLines}
use Rattle.workload.proofs.ToldLines.{same_lines}
use Rattle.load.specs.Stores.{IsClosed}
use Rattle.workload.specs.Unrecorded.{IsServedOf, TellsServed, served_line}
use Rattle.server_sessions.specs.declared.listener.Listener.{Listener}
use Rattle.server_sessions.specs.Ports.{IsPortFor, port_of}
use Rattle.server_verdicts.specs.Judged.{IsCheckedAs}
use Rattle.server_verdicts.specs.Verdicts.{TellsEach, TellsVerdicts, lines_text, verdict_line}

-- a beginning of the line was written
pub line_begun : (old new : Option (List ℕ)) (line : List ℕ) (port n : ℕ) → line ≡ listening_line port → port < 2 ^ 16 → Appends old new (take n line)
    → HasListened old new (Err Device)
line_begun old new line port n is small adds = (port, small, (n, subst (λ (l : List ℕ). Appends old new (take n l)) is adds))

-- all of the line was written, before a device failed
pub line_told : (old new : Option (List ℕ)) (line : List ℕ) (port : ℕ) → line ≡ listening_line port → port < 2 ^ 16 → Appends old new line → HasListened old new (Err Device)
line_told old new line port is small adds =
    line_begun old new line port (length line) is small (subst (λ (l : List ℕ). Appends old new l) (sym (take-length line)) adds)

not_both : {A : Type 0} → ◌≡◌ {A = Bool} true false → A
not_both bad = absurd cc

both_not : {A : Type 0} → ◌≡◌ {A = Bool} false true → A
both_not bad = absurd cc

-- a server told its port, closed its store, and told the verdicts, and of how much they are where that is asked for
pub closed_on : (IsMeant : Closed → Result (Unit {0}) ProgramFault → Type 0) (counts : Bool) (view : ConfigView) (names : List (List ℕ)) (old between behind new : Option (List ℕ)) (closed : Closed) (told came before ended : Result (Unit {0}) ProgramFault)
    → HasListened old between (Ok tt) → IsClosed view closed → IsMeant closed before ⊎ ((told ≡ Err OutOfMemory) × Keeps between behind) → (view.epoch ≡ 0 → TellsVerdicts closed names between behind told)
    → (0 < view.epoch → HasChecked view closed names between behind told) → ComesBehind (is_told told && counts) (TellsAmounts (nat_eq view.epoch 0) closed names) behind new told came
    → IsFaultBefore before → ended ≡ greater_fault before came → HasServedOf IsMeant false counts view names old new ended
closed_on IsMeant counts view names old between behind new closed told came before (Ok done) listened opened meant verdicts checks amounts may ends = record {
  between = between;
  listened = listened;
  closed = closed;
  opened = opened;
  behind = behind;
  told = told;
  before = before;
  may_be = may;
  meant = meant;
  verdicts = λ recorded. verdicts;
  checks = λ recorded. checks;
  served = λ unrecorded. both_not unrecorded;
  came = came;
  amounts = amounts;
  ends = ends;
}
closed_on IsMeant counts view names old between behind new closed told came before (Err fault) listened opened meant verdicts checks amounts may ends = inr (record {
  between = between;
  listened = listened;
  closed = closed;
  opened = opened;
  behind = behind;
  told = told;
  before = before;
  may_be = may;
  meant = meant;
  verdicts = λ recorded. verdicts;
  checks = λ recorded. checks;
  served = λ unrecorded. both_not unrecorded;
  came = came;
  amounts = amounts;
  ends = ends;
})

-- a server that records nothing told its port, closed its store, and told what it had answered
pub closed_unrecorded : (IsMeant : Closed → Result (Unit {0}) ProgramFault → Type 0) (counts : Bool) (view : ConfigView) (names : List (List ℕ)) (old between new : Option (List ℕ)) (closed : Closed) (told before ended : Result (Unit {0}) ProgramFault)
    → HasListened old between (Ok tt) → IsClosed view closed → IsMeant closed before ⊎ ((told ≡ Err OutOfMemory) × Keeps between new) → TellsServed (length view.limits) names between new told → IsFaultBefore before → ended ≡ greater_fault before told
    → HasServedOf IsMeant true counts view names old new ended
closed_unrecorded IsMeant counts view names old between new closed told before (Ok done) listened opened meant served may ends = record {
  between = between;
  listened = listened;
  closed = closed;
  opened = opened;
  behind = new;
  told = told;
  before = before;
  may_be = may;
  meant = meant;
  verdicts = λ recorded. not_both recorded;
  checks = λ recorded. not_both recorded;
  served = λ unrecorded. served;
  came = told;
  amounts = (refl, refl);
  ends = ends;
}
closed_unrecorded IsMeant counts view names old between new closed told before (Err fault) listened opened meant served may ends = inr (record {
  between = between;
  listened = listened;
  closed = closed;
  opened = opened;
  behind = new;
  told = told;
  before = before;
  may_be = may;
  meant = meant;
  verdicts = λ recorded. not_both recorded;
  checks = λ recorded. not_both recorded;
  served = λ unrecorded. served;
  came = told;
  amounts = (refl, refl);
  ends = ends;
})

-- a server that found no memory for a transcript, or for how much there was to judge, told its port and no verdict
pub no_transcript : (IsMeant : Closed → Result (Unit {0}) ProgramFault → Type 0) (counts : Bool) (view : ConfigView) (names : List (List ℕ)) (old new : Option (List ℕ)) (closed : Closed)
    → HasListened old new (Ok tt) → IsClosed view closed → view.epoch ≡ 0 → HasServedOf IsMeant false counts view names old new (Err OutOfMemory)
no_transcript IsMeant counts view names old new closed listened opened kept =
    closed_on IsMeant counts view names old new new new closed (Err OutOfMemory) (Err OutOfMemory) (Ok tt) (Err OutOfMemory) listened opened (inr (refl, Keeps-refl new))
    (λ again. record { verdicts = []; few = omega arith; each = λ tenant verdict at. absurd (let bad : None ≡ Some verdict = at in cc); size = 0; written = Appends-nil new })
    (λ cut. absurd (omega (arith, kept, cut))) (refl, refl) tt refl

-- a server that could not open its store told nothing
pub nothing_told : (IsMeant : Closed → Result (Unit {0}) ProgramFault → Type 0) (unrecorded counts : Bool) (view : ConfigView) (names : List (List ℕ)) (writer : Option (List ℕ)) (fault : ProgramFault) → (fault ≡ OutOfMemory) ⊎ (fault ≡ Device)
    → HasServedOf IsMeant unrecorded counts view names writer writer (Err fault)
nothing_told IsMeant unrecorded counts view names writer fault (inl same) = subst (λ (f : ProgramFault). HasServedOf IsMeant unrecorded counts view names writer writer (Err f)) (sym same) (inl (Keeps-refl writer))
nothing_told IsMeant unrecorded counts view names writer fault (inr same) =
    subst (λ (f : ProgramFault). HasServedOf IsMeant unrecorded counts view names writer writer (Err f)) (sym same) (inl (0, omega arith, (0, Appends-nil writer)))

-- a server whose epochs were checked told its port and nothing else, since an allocation failed
pub no_room_to_check : (IsMeant : Closed → Result (Unit {0}) ProgramFault → Type 0) (counts : Bool) (view : ConfigView) (names : List (List ℕ)) (old new : Option (List ℕ)) (closed : Closed)
    → HasListened old new (Ok tt) → IsClosed view closed → 0 < view.epoch → HasServedOf IsMeant false counts view names old new (Err OutOfMemory)
no_room_to_check IsMeant counts view names old new closed listened opened cut =
    closed_on IsMeant counts view names old new new new closed (Err OutOfMemory) (Err OutOfMemory) (Ok tt) (Err OutOfMemory) listened opened (inr (refl, Keeps-refl new)) (λ kept. absurd (omega (arith, kept, cut))) (λ more. inl (refl, Keeps-refl new)) (refl, refl) tt refl

-- what was told of the store that is meant was told of some store
some_store : (IsMeant : Closed → Result (Unit {0}) ProgramFault → Type 0) (unrecorded counts : Bool) (view : ConfigView) (names : List (List ℕ)) (old new : Option (List ℕ)) (ended : Result (Unit {0}) ProgramFault)
    → HasClosed IsMeant unrecorded counts view names old new ended → HasClosed (λ closed before. Unit {0}) unrecorded counts view names old new ended
some_store IsMeant unrecorded counts view names old new ended its = record {
  between = its.between;
  listened = its.listened;
  closed = its.closed;
  opened = its.opened;
  behind = its.behind;
  told = its.told;
  before = its.before;
  may_be = its.may_be;
  meant = inl tt;
  verdicts = its.verdicts;
  checks = its.checks;
  served = its.served;
  came = its.came;
  amounts = its.amounts;
  ends = its.ends;
}

pub served_some : (IsMeant : Closed → Result (Unit {0}) ProgramFault → Type 0) (unrecorded counts : Bool) (view : ConfigView) (names : List (List ℕ)) (old new : Option (List ℕ)) (ended : Result (Unit {0}) ProgramFault)
    → HasServedOf IsMeant unrecorded counts view names old new ended → HasServed unrecorded counts view names old new ended
served_some IsMeant unrecorded counts view names old new (Ok done) its = some_store IsMeant unrecorded counts view names old new (Ok done) its
served_some IsMeant unrecorded counts view names old new (Err fault) (inl listened) = inl listened
served_some IsMeant unrecorded counts view names old new (Err fault) (inr its) = inr (some_store IsMeant unrecorded counts view names old new (Err fault) its)

-- ---- of how much the verdicts are

-- whether journals are cut
pub is_uncut : (epoch : ℕ) → epoch ≡ 0 → nat_eq epoch 0 ≡ true
is_uncut epoch is = eq-eqb epoch 0 is

pub is_cut : (epoch : ℕ) → 0 < epoch → nat_eq epoch 0 ≡ false
is_cut epoch more = ne_eqb epoch 0 (λ same. absurd (omega (arith, more, same)))

-- what is behind the verdicts is of what was closed
pub amounts_behind : (told_all counts with_operations of_uncut : Bool) (closed : Closed) (amounts : List Amount) (names : List (List ℕ)) (behind new : Option (List ℕ)) (told came : Result (Unit {0}) ProgramFault)
    → of_uncut ≡ with_operations → (IsTrue counts → AreAmounts closed amounts)
    → ComesBehind (told_all && counts) (TellsLines (judged_line with_operations) (λ tenant amount. slice_get amounts tenant ≡ Some amount) (length amounts) names) behind new told came
    → ComesBehind (told_all && counts) (TellsAmounts of_uncut closed names) behind new told came
amounts_behind true true with_operations of_uncut closed amounts names behind new told came same are (counted, lines, is) =
    let its : AreAmounts closed amounts = are refl in (
      counted,
      subst (λ b. TellsAmounts b closed names behind new counted) (sym same)
          (same_lines (judged_line with_operations) (λ tenant amount. slice_get amounts tenant ≡ Some amount) (IsAmountOf closed) _ _ names behind new counted its.count its.each lines),
      is,
    )
amounts_behind true false with_operations of_uncut closed amounts names behind new told came same are nothing = nothing
amounts_behind false counts with_operations of_uncut closed amounts names behind new told came same are nothing = nothing

-- ---- the port comes first

told_some : (b : Bool) (told before : ProgramFault) → ◌≡◌ {A = Result (Unit {0}) ProgramFault} (if b then Err told else Err before) (Ok tt) → ⊥
told_some true told before bad = cc
told_some false told before bad = cc

-- where no fault is reported, there was none
told_well : (before told : Result (Unit {0}) ProgramFault) → greater_fault before told ≡ Ok tt → told ≡ Ok tt
told_well (Ok done) told is = is
told_well (Err before) (Ok done) is = refl
told_well (Err before) (Err told) is = absurd (told_some (nat_lt (status_of told) (status_of before)) told before is)

-- an answer that was not right was reported by the verdicts
told_wrong : (before told : Result (Unit {0}) ProgramFault) → IsFaultBefore before → greater_fault before told ≡ Err Settle → told ≡ Err Settle
told_wrong (Ok done) told may is = is
told_wrong (Err LineTooLong) told may is = absurd may
told_wrong (Err Cut) told may is = absurd may
told_wrong (Err Settle) told may is = absurd may
told_wrong (Err Options) told may is = absurd may
told_wrong (Err OutOfMemory) (Ok done) may is = absurd (let bad : Err OutOfMemory ≡ Err Settle = is in cc)
told_wrong (Err OutOfMemory) (Err LineTooLong) may is = is
told_wrong (Err OutOfMemory) (Err Cut) may is = is
told_wrong (Err OutOfMemory) (Err Settle) may is = is
told_wrong (Err OutOfMemory) (Err Options) may is = is
told_wrong (Err OutOfMemory) (Err OutOfMemory) may is = is
told_wrong (Err OutOfMemory) (Err Device) may is = absurd (let bad : Err OutOfMemory ≡ Err Settle = is in cc)
told_wrong (Err Device) (Ok done) may is = absurd (let bad : Err Device ≡ Err Settle = is in cc)
told_wrong (Err Device) (Err LineTooLong) may is = is
told_wrong (Err Device) (Err Cut) may is = is
told_wrong (Err Device) (Err Settle) may is = is
told_wrong (Err Device) (Err Options) may is = is
told_wrong (Err Device) (Err OutOfMemory) may is = is
told_wrong (Err Device) (Err Device) may is = is

-- where all was told, some text was written
abbrev pub HasText : Option (List ℕ) → Option (List ℕ) → Result (Unit {0}) ProgramFault → Type 0
HasText old new told = is_told told ≡ true → (text : List ℕ) × Appends old new text

pub verdicts_text : (IsVerdict : ℕ → Bool → Type 0) (word : List ℕ) (tenants : ℕ) (names : List (List ℕ)) (old new : Option (List ℕ)) (told : Result (Unit {0}) ProgramFault)
    → TellsEach IsVerdict word tenants names old new told → HasText old new told
verdicts_text IsVerdict word tenants names old new (Ok done) all is = (lines_text (verdict_line word) all.verdicts names, all.written)
verdicts_text IsVerdict word tenants names old new (Err Settle) all is = (lines_text (verdict_line word) all.verdicts names, all.written)
verdicts_text IsVerdict word tenants names old new (Err LineTooLong) all is = both_not is
verdicts_text IsVerdict word tenants names old new (Err Cut) all is = both_not is
verdicts_text IsVerdict word tenants names old new (Err Options) all is = both_not is
verdicts_text IsVerdict word tenants names old new (Err OutOfMemory) all is = both_not is
verdicts_text IsVerdict word tenants names old new (Err Device) all is = both_not is

-- the same of epochs that were checked
pub checks_text : (view : ConfigView) (closed : Closed) (names : List (List ℕ)) (old new : Option (List ℕ)) (told : Result (Unit {0}) ProgramFault) → HasChecked view closed names old new told → HasText old new told
checks_text view closed names old new told (inl (none, keeps)) = λ is. both_not (ap is_told (sym none) ∙ is)
checks_text view closed names old new told (inr (endings, limits, parts, left, checks)) =
    verdicts_text (IsCheckedAs endings) (codes "checked ") (length endings.limits.items) names old new told checks

-- lines of tenants are some text, however they end
lines_are_text : {X : Type 0} (line : List ℕ → X → List ℕ) (IsOf : ℕ → X → Type 0) (tenants : ℕ) (names : List (List ℕ)) (old new : Option (List ℕ)) (told : Result (Unit {0}) ProgramFault)
    → TellsLines line IsOf tenants names old new told → (text : List ℕ) × Appends old new text
lines_are_text line IsOf tenants names old new (Ok done) lines = (lines_text line lines.all names, lines.written)
lines_are_text line IsOf tenants names old new (Err Settle) lines = absurd lines
lines_are_text line IsOf tenants names old new (Err LineTooLong) lines = absurd lines
lines_are_text line IsOf tenants names old new (Err Cut) lines = absurd lines
lines_are_text line IsOf tenants names old new (Err Options) lines = absurd lines
lines_are_text line IsOf tenants names old new (Err OutOfMemory) lines = (take lines.size (lines_text line lines.all names), lines.written)
lines_are_text line IsOf tenants names old new (Err Device) lines = (take lines.size (lines_text line lines.all names), lines.written)

pub served_text : (tenants : ℕ) (names : List (List ℕ)) (old new : Option (List ℕ)) (told : Result (Unit {0}) ProgramFault) → TellsServed tenants names old new told → HasText old new told
served_text tenants names old new told served is = lines_are_text served_line IsServedOf tenants names old new told served

-- where amounts are told, all verdicts were
told_before : (told_all counts : Bool) → (told_all && counts) ≡ true → told_all ≡ true
told_before true counts is = refl
told_before false counts is = is

-- the text of the verdicts, and what comes behind it
pub text_behind : (due counts with_operations : Bool) (closed : Closed) (names : List (List ℕ)) (old behind new : Option (List ℕ)) (told came : Result (Unit {0}) ProgramFault) → due ≡ (is_told told && counts)
    → HasText old behind told → ComesBehind due (TellsAmounts with_operations closed names) behind new told came → HasText old new came
text_behind true counts with_operations closed names old behind new told came due first (counted, lines, is) all =
    let one = first (told_before (is_told told) counts (sym due)) in
    let more = lines_are_text (judged_line with_operations) (IsAmountOf closed) (length closed.config.limits.items) names behind new counted lines in
    (one.0 ++ more.0, Appends-trans old behind new one.0 more.0 one.1 more.1)
text_behind false counts with_operations closed names old behind new told came due first (kept, is) all =
    subst (λ (writer : Option (List ℕ)). (text : List ℕ) × Appends old writer text) (sym kept) (first (ap is_told (sym is) ∙ all))

-- what a server comes to whose last lines came to this, after what kept it from some connections
abbrev pub EndsAfter : Result (Unit {0}) ProgramFault → Result (Unit {0}) ProgramFault → Type 0
EndsAfter told ended =
    (before : Result (Unit {0}) ProgramFault) × IsFaultBefore before × (ended ≡ greater_fault before told)

-- the text was written behind the line of the port
pub port_then : (port : ℕ) (old between new : Option (List ℕ)) (came ended : Result (Unit {0}) ProgramFault) → Appends old between (listening_line port) → HasText between new came → EndsAfter came ended
    → TellsPortFirst port old new ended
port_then port old between new came (Ok done) first has (before, may, is) =
    let text = has (ap is_told (told_well before came (sym is))) in
    (text.0, Appends-trans old between new (listening_line port) text.0 first text.1)
port_then port old between new came (Err Settle) first has (before, may, is) =
    let text = has (ap is_told (told_wrong before came may (sym is))) in
    (text.0, Appends-trans old between new (listening_line port) text.0 first text.1)
port_then port old between new came (Err LineTooLong) first has ends = tt
port_then port old between new came (Err Cut) first has ends = tt
port_then port old between new came (Err Options) first has ends = tt
port_then port old between new came (Err OutOfMemory) first has ends = tt
port_then port old between new came (Err Device) first has ends = tt

-- where the port was not told, no verdict was
pub no_port : (port : ℕ) (old between new : Option (List ℕ)) (fault : ProgramFault) → HasListened old between (Err fault) → TellsPortFirst port old new (Err fault)
no_port port old between new LineTooLong h = tt
no_port port old between new Cut h = tt
no_port port old between new Settle h = absurd h
no_port port old between new Options h = tt
no_port port old between new OutOfMemory h = tt
no_port port old between new Device h = tt

-- nor where the store could not be opened
pub no_store : (port : ℕ) (old new : Option (List ℕ)) (fault : ProgramFault) → (fault ≡ OutOfMemory) ⊎ (fault ≡ Device) → TellsPortFirst port old new (Err fault)
no_store port old new fault (inl same) = subst (λ (f : ProgramFault). TellsPortFirst port old new (Err f)) (sym same) tt
no_store port old new fault (inr same) = subst (λ (f : ProgramFault). TellsPortFirst port old new (Err f)) (sym same) tt

-- the port is that of the listener
pub port_is : (asked : ℕ) (listener : Listener) (old new : Option (List ℕ)) (ended : Result (Unit {0}) ProgramFault) → IsPortFor asked (port_of listener) → TellsPortFirst (port_of listener) old new ended
    → TellsPortFor asked old new ended
port_is asked listener old new ended for first = (port_of listener, for, first)

-- no port was reported
pub no_port_for : (asked : ℕ) (writer : Option (List ℕ)) (fault : ProgramFault) → (fault ≡ OutOfMemory) ⊎ (fault ≡ Device) → TellsPortFor asked writer writer (Err fault)
no_port_for asked writer fault is = (asked, inr refl, no_store asked writer writer fault is)
