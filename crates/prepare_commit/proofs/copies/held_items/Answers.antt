use Rattle.std.proofs.Common.{◌≡◌, ◌≢◌, ◌+◌, ◌<◌, ◌++◌, ◌∷◌, [], false, List, length, get_or, take, sym, ap, subst, ◌∙◌, arith}
use Rattle.prepare_commit.specs.declared.items.ChainedItem.{ChainedItem}
use Rattle.prepare_commit.specs.declared.items.KnownItem.{KnownItem}
use Rattle.prepare_commit.specs.declared.parts.EntryPosition.{EntryPosition}
use Rattle.version_chain.specs.declared.version.Version.{Version}
use Rattle.prepare_commit.specs.Begun.{IsAsBegun, LieAt, beside, held_at, holding_of, holdings, no_place, put_at}
use Rattle.prepare_commit.specs.Layout.{chain_lists, chain_at}
use Rattle.prepare_commit.specs.Remembered.{is_changed}
use Rattle.prepare_commit.specs.Spots.{begun_by}
use Rattle.packed.specs.Cuts.{pieces}
use Rattle.packed.proofs.Pieces.{as_many}
use Rattle.prepare_commit.proofs.Chaining.{has_chain}
use Rattle.prepare_commit.proofs.Places.{put_new, put_old, beside_long, beside_more}
use Rattle.std.proofs.lemmas.List.{get_or_default, length_push, take_all}
use Rattle.prepare_commit.proofs.Holding.{holdings_more}
use Rattle.prepare_commit.proofs.copies.held_items.Goals as goal
use Rattle.prepare_commit.proofs.copies.held_items.Goals.{then-has+in_ok-of+in_ok-push+in_ok-push-2+in_ok-put_chain, else-has+in_ok-push-3}

pub put_chain-requires-clause-chain : goal.put_chain-requires-clause-chain
put_chain-requires-clause-chain c =
    let i = c.get-item.result.now in
    let known = c.requires.kept.known c.loop-nth.nth i (omega (arith, c.loop-nth-test.true, c.len-nth-end.ensures)) in
    has_chain c.args.block.now c.args.versions.now.chains i.chain c.requires.kept.stands (omega (arith, known, ap (λ (j : ChainedItem). j.chain) c.get-item.ensures))

pub loop-nth-preserved : goal.loop-nth-preserved
loop-nth-preserved c =
    let chains = chain_lists c.args.block.now c.args.versions.now.chains in
    let items = c.args.items.now.items in
    let k = c.loop-nth.nth in
    let i = c.get-item.result.now in
    let within : k < length items = omega (arith, c.loop-nth-test.true, c.len-nth-end.ensures) in
    let h = holding_of chains i in
    let entries = c.loop-nth.entries.items in
    let before = pieces c.loop-nth.found 0 c.loop-nth.ends.items in
    let places = c.loop-nth.places.items in
    let all = holdings (take k items) chains in
    let many : length before ≡ length entries = as_many c.loop-nth.found 0 c.loop-nth.ends.items ∙ c.loop-nth.invariant.1 in
    let more : holdings (take (k + 1) items) chains ≡ all ++ h ∷ [] = holdings_more items chains k i within ∙ ap (λ (j : ChainedItem). all ++ holding_of chains j ∷ []) (sym c.get-item.ensures) in
    let spot : i.chain < length c.args.last.now.spots.items = (let known = c.requires.kept.known k i within in omega (arith, known, c.requires.kept.spots, ap (λ (j : ChainedItem). j.chain) c.get-item.ensures)) in
    let kept = subst (λ (j : ChainedItem). is_changed c.args.last.now.since j ≡ false → IsAsBegun (begun_by c.args.last.now) chains j) (sym c.get-item.ensures) (c.requires.kept.kept k i within) in
    let apart = subst (λ (j : ChainedItem). is_changed c.args.last.now.since j ≡ false → (get_or c.args.last.now.spots.items j.chain no_place).part ≢ c.args.free) (sym c.get-item.ensures) (c.requires.free k i within) in
    elim c.if-has.branch [
      | then-has+in_ok-of+in_ok-push+in_ok-push-2+in_ok-put_chain w ↦
          let cut = w.in_ok-put_chain.ensures.chain in
          let part = beside_more entries before i.entry (chain_at chains i.chain) many in
          let place : EntryPosition = w.in_ok-of.field-0 in
          let place_is : place ≡ record { part = c.args.free; at = length (beside entries before) } =
          w.in_ok-of.ensures ∙ (λ j. record { part = c.args.free; at = (w.len-then-has.ensures ∙ c.loop-nth.entries.ok.0 ∙ sym (beside_long entries before many)) j }) in
          rw (w.places-is, w.entries-is, w.found-is, w.ends-is, more) (
            w.in_ok-put_chain.ensures.cut,
            sym (as_many w.put_chain.new.found 0 w.put_chain.new.ends.items) ∙ ap (λ (cs : List (List Version)). length cs) cut ∙ length_push before (chain_at chains i.chain) ∙ ap (λ n. n + 1) many ∙ sym (length_push entries i.entry) ∙ sym (ap (λ (es : List KnownItem). length es) w.in_ok-push-2.ensures.items),
            rw (w.in_ok-push.ensures.items, w.in_ok-push-2.ensures.items, cut, part) (put_new c.args.last.now.parts c.args.free c.requires.within (beside entries before) places all place h c.loop-nth.invariant.2 place_is),
          )
      | else-has+in_ok-push-3 w ↦
          rw (w.places-is, w.entries-is, w.found-is, w.ends-is, more, w.in_ok-push-3.ensures.items) (
            c.loop-nth.invariant.0,
            c.loop-nth.invariant.1,
            (let is = w.index.ensures ∙ get_or_default c.args.last.now.spots.items i.chain _ no_place spot in
                let free = sym c.has.ensures ∙ w.if-has.false in
                put_old c.args.last.now.parts c.args.free c.requires.within (beside entries before) places all w.index.result.now h c.loop-nth.invariant.2
                (λ same. apart free (ap (λ (p : EntryPosition). p.part) (sym is) ∙ same)) (ap (held_at c.args.last.now.parts) is ∙ kept free)),
          )
    ]

pub returns : goal.returns
returns c =
    let l = c.loop-nth in
    let items = c.args.items.now.items in
    let chains = chain_lists c.args.block.now c.args.versions.now.chains in
    let parts = put_at c.args.last.now.parts c.args.free (beside l.entries.items (pieces l.found 0 l.ends.items)) in
    let whole : take l.nth items ≡ items = take_all l.nth items (omega (arith, c.loop-nth-test.false, c.loop-nth.auto.nth-end, c.len-nth-end.ensures)) in
    c.of-2.ensures (holdings items chains)
    (rw (c.in_ok-put.ensures, c.in_ok-parts.ensures, c.in_ok-packed.ensures) (
    subst (λ (is : List ChainedItem). LieAt parts l.places.items (holdings is chains)) whole l.invariant.2))
