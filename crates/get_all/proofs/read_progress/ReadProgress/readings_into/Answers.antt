use Rattle.std.proofs.Common.{◌≡◌, ◌+◌, ◌<◌, ◌≤◌, List, [], ◌∷◌, ◌++◌, length, get_or, map, take, drop, cond, ap, sym, ◌∙◌, length-append, arith}
use Rattle.std.proofs.lemmas.List.{take_all, take_more, drop_all, drop-drop, append-nil, map-append, length-map, length-take, length-take-le}
use Rattle.plain_store.specs.declared.reading.Reading.{Reading}
use Rattle.plain_store.specs.Rounds.{reading_of, flat}
use Rattle.plain_store.proofs.Filling.{next_written}
use Rattle.get_all.specs.declared.read_progress.KeyProgress.{KeyProgress}
use Rattle.get_all.specs.ReadProgress.{is_late_by, version_by}
use Rattle.get_all.proofs.read_progress.ReadProgress.readings_into.Goals as goal

pub read_into-requires-clause-place : goal.read_into-requires-clause-place
read_into-requires-clause-place c =
    let slots = c.as_slice-slots.result.now in
    let i = c.loop-i.i in
    let f = λ (slot : KeyProgress). reading_of slot.key (version_by c.args.self.now slot) in
    let long : length (map f (take i slots)) ≡ i = length-map (take i slots) f ∙ length-take-le i slots (omega (arith, c.loop-i-test.true)) in
    omega (arith, ap (λ (rs : List Reading). length rs) c.loop-i.invariant, length-append (map f (take i slots)) (drop i (take (length slots) c.args.place.now)), long)

pub loop-i-preserved : goal.loop-i-preserved
loop-i-preserved c =
    let self = c.args.self.now in
    let slots = c.as_slice-slots.result.now in
    let i = c.loop-i.i in
    let slot = c.index-slots-i.result in
    let f = λ (s : KeyProgress). reading_of s.key (version_by self s) in
    let old = take (length slots) c.args.place.now in
    let within : i < length slots = omega (arith, c.loop-i-test.true) in
    let long : length (map f (take i slots)) ≡ i = length-map (take i slots) f ∙ length-take-le i slots (omega (arith, within)) in
    let there = c.index-slots-i.is ∙ ap (λ (ss : List KeyProgress). get_or ss i slot) c.as_slice-slots.ensures.slots in
    let late : c.is_late_at.result ≡ is_late_by self slot = c.is_late_at.ensures slot there in
    let x : Reading = reading_of slot.key (cond c.is_late_at.result slot.second (flat slot.first)) in
    let is : x ≡ f slot = ap (λ b. reading_of slot.key (cond b slot.second (flat slot.first))) late in
    let more : map f (take i slots) ++ x ∷ [] ≡ map f (take (i + 1) slots) =
    ap (λ (r : Reading). map f (take i slots) ++ r ∷ []) is
    ∙ sym (ap (map f) (take_more slots i slot within ∙ ap (λ (s : KeyProgress). take i slots ++ s ∷ []) (sym c.index-slots-i.is)) ∙ map-append f (take i slots) (slot ∷ [])) in
    c.read_into.ensures ∙ ap (λ (rs : List Reading). take i rs ++ x ∷ drop (i + 1) rs) c.loop-i.invariant ∙ next_written i (map f (take i slots)) (drop i old) x long
    ∙ (λ j. more j ++ drop-drop 1 i old j)

pub returns : goal.returns
returns c =
    let self = c.args.self.now in
    let slots = c.as_slice-slots.result.now in
    let i = c.loop-i.i in
    let f = λ (s : KeyProgress). reading_of s.key (version_by self s) in
    let old = take (length slots) c.args.place.now in
    let past : length slots ≤ i = omega (arith, c.loop-i-test.false) in
    let none : drop i old ≡ [] = drop_all i old (omega (arith, past, length-take (length slots) c.args.place.now)) in
    c.loop-i.invariant ∙ (λ j. map f (take_all i slots past j) ++ none j) ∙ append-nil (map f slots) ∙ ap (map f) c.as_slice-slots.ensures.slots
