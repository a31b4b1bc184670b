use mathlib.Core.Bool.{or-false}
use Rattle.std.proofs.Common.{◌≡◌, ◌<◌, ◌≤◌, ◌==◌, inl, inr, Bool, true, false, List, [], length, get_or, count_by, refl, sym, ap, ◌∙◌, arith}
use Rattle.std.specs.List.{list_any}
use Rattle.std.proofs.lemmas.Bool.{both_ways, cases_lt, or_parts}
use Rattle.std.proofs.lemmas.List.{length-set, take_all}
use Rattle.std.proofs.Math.ListN.{get_or-eq_default}
use Rattle.plain_store.proofs.Counting.{counted, any_is}
use Rattle.version_chain.specs.declared.version.Version.{Version}
use Rattle.version_chain.specs.declared.stamp_list.Kept.{Kept}
use Rattle.version_chain.specs.Listed.{chain_in}
use Rattle.version_chain.specs.Chain.{chain_versions}
use Rattle.version_chain.proofs.Places.{places, place_named, places_long, place_in, chain_placed}
use Rattle.prepare_commit.specs.Layout.{chain_lists}
use Rattle.prepare_commit.proofs.Chaining.{chain_is, chains_long}
use Rattle.prepare_commit.proofs.EachPlace.{is_done, noted_more}
use Rattle.prepare_commit.proofs.versions.note_at.Goals as goal
use Rattle.prepare_commit.proofs.versions.note_at.Goals.{After-kept_in}

pub loop-place-init : goal.loop-place-init
loop-place-init c = (refl, λ chain. sym (or-false (get_or c.args.since.now chain false)))

within : (c : After-kept_in) → c.loop-place.place < length (places c.args.chains.now c.args.stamp)
within c = omega (arith, c.loop-place-test.true, (places_long c.args.chains.now c.args.stamp c.args.first c.args.end c.requires.run))

is : (c : After-kept_in) → c.kept_in.result ≡ get_or (places c.args.chains.now c.args.stamp) c.loop-place.place c.kept_in.result
is c =
    place_in c.args.chains.now c.args.stamp c.args.first c.args.end c.requires.run c.loop-place.place c.kept_in.result c.loop-place-test.true
    c.kept_in.ensures

pub chain_of-requires-clause-named : goal.chain_of-requires-clause-named
chain_of-requires-clause-named c =
    let at = (goal.at.chain_of-requires-clause-named c).After-kept_in in
    place_named c.args.block.now c.args.chains.now c.args.stamp _ _ (within at) (is at) c.requires.swept

pub note-requires : goal.note-requires
note-requires c = omega (arith, c.chain_of.ensures.known, c.loop-place.invariant.0, c.requires.long)

pub loop-place-preserved : goal.loop-place-preserved
loop-place-preserved c =
    let at = (goal.at.loop-place-preserved c).After-kept_in in
    let chain = c.chain_of.result in
    let less : chain < length c.loop-place.since = omega (arith, c.chain_of.ensures.known, c.loop-place.invariant.0, c.requires.long) in (
      ap (λ (bs : List Bool). length bs) c.note.ensures ∙ length-set c.loop-place.since chain true ∙ c.loop-place.invariant.0,
      λ n. ap (λ (bs : List Bool). get_or bs n false) c.note.ensures
          ∙ noted_more c.args.block.now (places c.args.chains.now c.args.stamp) c.loop-place.place c.kept_in.result (within at) (is at) c.args.since.now c.loop-place.since chain c.chain_of.ensures.place less c.loop-place.invariant.1 n,
    )

pub returns-clause-noted : goal.returns-clause-noted
returns-clause-noted c chain free =
    let all = places c.args.chains.now c.args.stamp in
    let end : length all ≤ c.loop-place.place = omega (arith, c.loop-place-test.false, (places_long c.args.chains.now c.args.stamp c.args.first c.args.end c.requires.run)) in
    let both = or_parts (get_or c.args.since.now chain false) (is_done c.args.block.now all c.loop-place.place chain) (sym (c.loop-place.invariant.1 chain) ∙ free) in
    let test = λ (v : Version). v.prepared.stamp == c.args.stamp in (
      both.0,
      elim (cases_lt chain (length c.args.chains.now.heads)) [
        | inl known ↦
            ap (count_by test) (chain_is c.args.block.now c.args.chains.now chain known)
            ∙ elim (cases_lt 0 (count_by test (chain_versions c.args.block.now c.args.chains.now chain))) [
              | inl more ↦
                  let test = λ (k : Kept). chain_in c.args.block.now k.slot == chain in
                  let there = counted test all (chain_placed c.args.block.now c.args.chains.now c.requires.stands c.requires.list c.args.stamp chain known more) in
                  let any = any_is test all there.0 there.1 there.2 in
                  absurd (both_ways (is_done c.args.block.now all c.loop-place.place chain) both.1 (ap (list_any test) (take_all c.loop-place.place all end) ∙ any))
              | inr none ↦ omega (arith, none)
            ]
        | inr past ↦ ap (count_by test) (get_or-eq_default (chain_lists c.args.block.now c.args.chains.now) [] (omega (arith, past, chains_long c.args.block.now c.args.chains.now)))
      ],
    )
