use Rattle.std.proofs.Common.{◌≡◌, List, ◌+◌, ◌<◌, [], ◌∷◌, ◌++◌, length, get_or, take, sym, ap, ◌∙◌, append_assoc, arith}
use Rattle.std.proofs.lemmas.Option.{get_or_from_slice_get}
use Rattle.std.proofs.lemmas.List.{take_more}
use Rattle.entry_list.specs.declared.kinds.Entry.{Entry}
use Rattle.entry_list.specs.PackedEntries.{entry_in}
use Rattle.entry_list.proofs.packed_entries.EntryList.append.Goals as goal

pub loop-at-preserved : goal.loop-at-preserved
loop-at-preserved c =
    let others = c.args.other.now.items in
    let at = c.loop-at.at in
    let e = entry_in c.packed.result.now in
    let within : at < length others = omega (arith, c.loop-at-test.true, c.len-at-end.ensures.count) in
    let there : get_or others at e ≡ e = get_or_from_slice_get others at e e (sym c.packed.ensures.entry) in
    let more : take (at + 1) others ≡ take at others ++ e ∷ [] = take_more others at e within ∙ ap (λ (x : Entry). take at others ++ x ∷ []) there in
    record {
      appended = c.in_ok-push_packed.ensures.ok ∙ ap (λ (xs : List Entry). xs ++ e ∷ []) c.loop-at.invariant.appended ∙ append_assoc c.args.self.now.items (take at others) (e ∷ []) ∙ ap (λ (xs : List Entry). c.args.self.now.items ++ xs) (sym more);
      within = omega (arith, within);
    }

pub returns-in_err-push_packed-clause-some : goal.returns-in_err-push_packed-clause-some
returns-in_err-push_packed-clause-some c = (c.loop-at.at, c.in_err-push_packed.ensures.err ∙ c.loop-at.invariant.appended)

pub returns-clause-some : goal.returns-clause-some
returns-clause-some c = (c.loop-at.at, c.loop-at.invariant.appended)
