use Rattle.std.proofs.Common.{◌≡◌, List, ◌∷◌, length, count_by, if◌then◌else◌, sym, ap, ◌∙◌, arith}
use Rattle.std.specs.Prelude.{slice_range}
use Rattle.version_chain.specs.declared.stamp_list.Kept.{Kept}
use Rattle.version_chain.specs.Listed.{held_at}
use Rattle.version_chain.specs.Listing.{KeptListing}
use Rattle.version_chain.proofs.Listing.{cons, count_insert, named_in}
use Rattle.version_chain.proofs.stamp_list.StampList.insert.Goals as goal

-- it is named exactly where the list has it
pub returns-else-not-names_slot-clause-listed : goal.returns-else-not-names_slot-clause-listed
returns-else-not-names_slot-clause-listed c test =
    let old = c.args.self.now.kept in
    let same : c.deref.result.now ≡ old = c.deref.ensures.value ∙ ap (λ (l : KeptListing). l.kept) c.self.view_is in
    let is = ap (λ (ks : List Kept). slice_range ks c.places-first.result.0 c.places-first.result.1) same ∙ c.places-first.ensures.together in
    let has = sym (named_in old _ c.args.stamp c.args.slot is) ∙ sym c.names_slot.ensures ∙ c.if-not-names_slot.false in
    sym (ap (λ b. count_by test (if b then old else held_at c.args.stamp c.args.slot ∷ old)) has)

pub returns-then-not-names_slot-clause-listed : goal.returns-then-not-names_slot-clause-listed
returns-then-not-names_slot-clause-listed c test =
    let items = c.self.inside.kept in
    let old = c.args.self.now.kept in
    let version : Kept = held_at c.args.stamp c.args.slot in
    let same : c.deref.result.now ≡ old = c.deref.ensures.value ∙ ap (λ (l : KeptListing). l.kept) c.self.view_is in
    let is = ap (λ (ks : List Kept). slice_range ks c.places-first.result.0 c.places-first.result.1) same ∙ c.places-first.ensures.together in
    let has = sym (named_in old _ c.args.stamp c.args.slot is) ∙ sym c.names_slot.ensures ∙ c.if-not-names_slot.true in
    ap (count_by test) c.insert_within.ensures.items
    ∙ count_insert test items.items c.places-first.result.1 version (omega (arith, c.places-first.ensures.within, ap (λ (l : KeptListing). length l.kept) c.self.view_is))
    ∙ sym (cons test version items.items)
    ∙ ap (λ (ks : List Kept). count_by test (version ∷ ks)) (ap (λ (l : KeptListing). l.kept) c.self.view_is)
    ∙ sym (ap (λ b. count_by test (if b then old else version ∷ old)) has)
