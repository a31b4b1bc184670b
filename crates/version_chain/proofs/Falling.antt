-- For `Chains`: link, unlink, mark, record_at and cut_below. Lists whose stamps fall.
use Rattle.std.proofs.Common.{◌≡◌, ◌≢◌, ℕ, ◌+◌, ◌<◌, ◌≤◌, List, [], ◌∷◌, ◌++◌, length, Some, None, refl, sym, ◌∙◌, arith, length-append}
use Rattle.version_chain.specs.declared.version.Version.{Version}
use Rattle.version_chain.specs.Chain.{FallsBelow, Falls, at_stamp}
use Rattle.version_chain.specs.Place.{NoneBelow, StartsBelow}
use Rattle.version_chain.proofs.Walks.{at_stamp-found, at_stamp-passed}

-- each stamp is above this one
abbrev pub EachAbove : ℕ → List Version → Type 0
EachAbove stamp [] = Unit {0}
EachAbove stamp (version ∷ rest) = (stamp < version.prepared.stamp) × EachAbove stamp rest

falls_at : (bound : ℕ) (before : List Version) (version : Version) (rest : List Version) → FallsBelow bound (before ++ version ∷ rest) → version.prepared.stamp < bound
falls_at bound [] version rest falls = falls.0
falls_at bound (first ∷ before) version rest falls = omega (arith, falls.0, falls_at first.prepared.stamp before version rest falls.1)

falls_before : (bound : ℕ) (before : List Version) (version : Version) (rest : List Version) → FallsBelow bound (before ++ version ∷ rest) → EachAbove version.prepared.stamp before
falls_before bound [] version rest falls = tt
falls_before bound (first ∷ before) version rest falls = (falls_at first.prepared.stamp before version rest falls.1, falls_before first.prepared.stamp before version rest falls.1)

falls_after : (bound : ℕ) (before : List Version) (version : Version) (rest : List Version) → FallsBelow bound (before ++ version ∷ rest) → FallsBelow version.prepared.stamp rest
falls_after bound [] version rest falls = falls.1
falls_after bound (first ∷ before) version rest falls = falls_after first.prepared.stamp before version rest falls.1

falls-inserted : (bound : ℕ) (above below : List Version) (version : Version) → FallsBelow bound (above ++ below) → EachAbove version.prepared.stamp above → StartsBelow version.prepared.stamp below → version.prepared.stamp < bound → FallsBelow bound (above ++ version ∷ below)
falls-inserted bound [] [] version falls each starts less = (less, tt)
falls-inserted bound [] (first ∷ below) version falls each starts less = (less, (starts, falls.1))
falls-inserted bound (first ∷ above) below version falls each starts less = (falls.0, falls-inserted first.prepared.stamp above below version falls.1 each.1 starts each.0)

pub length-inserted : (above below : List Version) (version : Version) → length (above ++ version ∷ below) ≡ length (above ++ below) + 1
length-inserted above below version = omega (arith, length-append above (version ∷ below), length-append above below)

at_stamp-above : (above below : List Version) (stamp : ℕ) → EachAbove stamp above → at_stamp (above ++ below) stamp ≡ at_stamp below stamp
at_stamp-above [] below stamp each = refl
at_stamp-above (first ∷ above) below stamp each = at_stamp-passed (first ∷ above ++ below) (above ++ below) first stamp refl (let more = each.0 in λ same. absurd (omega arith)) ∙ at_stamp-above above below stamp each.1

at_stamp-below : (below : List Version) (bound stamp : ℕ) → FallsBelow bound below → bound ≤ stamp → at_stamp below stamp ≡ None
at_stamp-below [] bound stamp falls past = refl
at_stamp-below (first ∷ below) bound stamp falls past = let less = falls.0 in at_stamp-passed (first ∷ below) below first stamp refl (λ same. absurd (omega arith)) ∙ at_stamp-below below first.prepared.stamp stamp falls.1 (omega arith)

at_stamp-first : (below : List Version) (bound stamp : ℕ) → FallsBelow bound below → StartsBelow stamp below → at_stamp below stamp ≡ None
at_stamp-first [] bound stamp falls starts = refl
at_stamp-first (first ∷ below) bound stamp falls starts = at_stamp-passed (first ∷ below) below first stamp refl (λ same. absurd (omega arith)) ∙ at_stamp-below below first.prepared.stamp stamp falls.1 (omega (arith, starts))

falls-right : (bound : ℕ) (above below : List Version) → FallsBelow bound (above ++ below) → FallsBelow bound below
falls-right bound [] below falls = falls
falls-right bound (first ∷ above) [] falls = tt
falls-right bound (first ∷ above) (next ∷ below) falls =
    let rest = falls-right first.prepared.stamp above (next ∷ below) falls.1 in (omega (arith, falls.0, rest.0), rest.1)

no_stamp : (bound : ℕ) (above below : List Version) (stamp : ℕ) → FallsBelow bound (above ++ below) → EachAbove stamp above → StartsBelow stamp below → at_stamp (above ++ below) stamp ≡ None
no_stamp bound above below stamp falls each starts = at_stamp-above above below stamp each ∙ at_stamp-first below bound stamp (falls-right bound above below falls) starts

pub its_stamp : (above below : List Version) (stamp : ℕ) (version : Version) (rest : List Version) → EachAbove stamp above → below ≡ version ∷ rest → version.prepared.stamp ≡ stamp → at_stamp (above ++ below) stamp ≡ Some version.prepared
its_stamp above below stamp version rest each is same = at_stamp-above above below stamp each ∙ at_stamp-found below rest version stamp is same

-- the same of lists that fall below no given bound
falls_higher : (bound higher : ℕ) (versions : List Version) → bound ≤ higher → FallsBelow bound versions → FallsBelow higher versions
falls_higher bound higher [] more falls = tt
falls_higher bound higher (version ∷ rest) more falls = (omega (arith, falls.0), falls.1)

bounded : (versions : List Version) → Falls versions → (bound : ℕ) × FallsBelow bound versions
bounded [] falls = (0, tt)
bounded (version ∷ rest) falls = (version.prepared.stamp + 1, (omega arith, falls))

unbounded : (bound : ℕ) (versions : List Version) → FallsBelow bound versions → Falls versions
unbounded bound [] falls = tt
unbounded bound (version ∷ rest) falls = falls.1

pub Falls-before : (before : List Version) (version : Version) (rest : List Version) → Falls (before ++ version ∷ rest) → EachAbove version.prepared.stamp before
Falls-before before version rest falls = let below = bounded (before ++ version ∷ rest) falls in falls_before below.0 before version rest below.1

pub Falls-after : (before : List Version) (version : Version) (rest : List Version) → Falls (before ++ version ∷ rest) → FallsBelow version.prepared.stamp rest
Falls-after before version rest falls = let below = bounded (before ++ version ∷ rest) falls in falls_after below.0 before version rest below.1

pub Falls-inserted : (above below : List Version) (version : Version) → Falls (above ++ below) → EachAbove version.prepared.stamp above → StartsBelow version.prepared.stamp below → Falls (above ++ version ∷ below)
Falls-inserted above below version falls each starts =
    let old = bounded (above ++ below) falls in
    let bound = old.0 + (version.prepared.stamp + 1) in
    unbounded bound (above ++ version ∷ below) (falls-inserted bound above below version (falls_higher old.0 bound (above ++ below) (omega arith) old.1) each starts (omega arith))

pub missing_stamp : (above below : List Version) (stamp : ℕ) → Falls (above ++ below) → EachAbove stamp above → StartsBelow stamp below → at_stamp (above ++ below) stamp ≡ None
missing_stamp above below stamp falls each starts = let old = bounded (above ++ below) falls in no_stamp old.0 above below stamp old.1 each starts

falls-removed : (bound : ℕ) (above below : List Version) (version : Version) → FallsBelow bound (above ++ version ∷ below) → FallsBelow bound (above ++ below)
falls-removed bound [] below version falls = falls_higher version.prepared.stamp bound below (omega (arith, falls.0)) falls.1
falls-removed bound (first ∷ above) below version falls = (falls.0, falls-removed first.prepared.stamp above below version falls.1)

pub Falls-removed : (above below : List Version) (version : Version) → Falls (above ++ version ∷ below) → Falls (above ++ below)
Falls-removed above below version falls = let old = bounded (above ++ version ∷ below) falls in unbounded old.0 (above ++ below) (falls-removed old.0 above below version old.1)

-- stamps that are not below one that the chain lacks are above it
pub above_missing : (above below : List Version) (stamp : ℕ) → NoneBelow stamp above → at_stamp (above ++ below) stamp ≡ None → EachAbove stamp above
above_missing [] below stamp not_less missing = tt
above_missing (version ∷ above) below stamp not_less missing =
    let other : version.prepared.stamp ≢ stamp = λ same. absurd (let there = at_stamp-found (version ∷ above ++ below) (above ++ below) version stamp refl same in cc) in
    let later = at_stamp-passed (version ∷ above ++ below) (above ++ below) version stamp refl other in
    (omega (arith, not_less.0), above_missing above below stamp not_less.1 (sym later ∙ missing))

pub each_less : (higher lower : ℕ) (above : List Version) → EachAbove higher above → lower < higher → EachAbove lower above
each_less higher lower [] each less = tt
each_less higher lower (version ∷ above) each less = (omega (arith, each.0), each_less higher lower above each.1 less)

pub each-push : (stamp : ℕ) (above : List Version) (version : Version) → EachAbove stamp above → stamp < version.prepared.stamp → EachAbove stamp (above ++ version ∷ [])
each-push stamp [] version each more = (more, tt)
each-push stamp (first ∷ above) version each more = (each.0, each-push stamp above version each.1 more)

pub none_below-last : (stamp : ℕ) (before : List Version) (version : Version) → NoneBelow stamp (before ++ version ∷ []) → stamp ≤ version.prepared.stamp
none_below-last stamp [] version none = none.0
none_below-last stamp (first ∷ before) version none = none_below-last stamp before version none.1
