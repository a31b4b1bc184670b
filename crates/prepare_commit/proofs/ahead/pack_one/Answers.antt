use Rattle.std.proofs.Common.{◌≡◌, ◌+◌, ◌<◌, false, List, length, sym, ap, ◌∙◌, arith}
use Rattle.std.proofs.lemmas.List.{length_push, length-set}
use Rattle.packed.specs.Cuts.{pieces}
use Rattle.packed.proofs.Pieces.{as_many}
use Rattle.version_chain.specs.declared.version.Version.{Version}
use Rattle.prepare_commit.specs.declared.items.KnownItem.{KnownItem}
use Rattle.prepare_commit.specs.declared.items.ChainedItem.{ChainedItem}
use Rattle.prepare_commit.specs.Begun.{beside}
use Rattle.prepare_commit.specs.Layout.{chain_lists, chain_at}
use Rattle.prepare_commit.proofs.PackedAhead.{packs_more}
use Rattle.prepare_commit.proofs.Places.{beside_long, beside_more, on_both}
use Rattle.prepare_commit.proofs.ahead.pack_one.Goals as goal

pub returns-clause-packs : goal.returns-clause-packs
returns-clause-packs c =
    let packs = c.requires.packs in
    let laid = c.requires.held.have.laid in
    let part = c.args.part.now in
    let last = c.args.last.now in
    let items = c.args.items.now.items in
    let chains = chain_lists c.args.block.now c.args.versions.now.chains in
    let entries = part.entries.items in
    let before = pieces part.found 0 part.ends.items in
    let i = c.in-Some.item in
    let stands = c.in-Some.ensures.item in
    let many : length before ≡ length entries = as_many part.found 0 part.ends.items ∙ packs.many in
    let at_is : c.len.result ≡ length (beside entries before) = c.len.ensures ∙ part.entries.ok.0 ∙ sym (beside_long entries before many) in
    let spot : i.chain < length last.spots.items = (let given = laid.given stands.0 i stands.1 in omega (arith, given, c.requires.held.have.within, packs.spots, ap (λ (x : ChainedItem). x.chain) stands.2)) in
    on_both
    (λ cut chain. record {
      cut = cut;
      many = sym (as_many c.put_chain.new.found 0 c.put_chain.new.ends.items) ∙ ap (λ (cs : List (List Version)). length cs) chain ∙ length_push before (chain_at chains i.chain) ∙ ap (λ n. n + 1) many ∙ sym (length_push entries i.entry) ∙ sym (ap (λ (es : List KnownItem). length es) c.in_ok-push.ensures.items);
      within = packs.within;
      spots = length-set last.spots.items i.chain _ ∙ packs.spots;
      long = ap length c.in-Some.ensures.taken ∙ length-set last.since i.chain false ∙ packs.long;
      kept = rw (c.in_ok-push.ensures.items, chain, beside_more entries before i.entry (chain_at chains i.chain) many, c.in-Some.ensures.taken, c.in_ok-last.ensures, at_is) (packs_more last.parts c.args.free packs.within last.spots.items last.since items chains (beside entries before) i stands laid.apart spot packs.kept);
    }) c.put_chain.result c.put_chain.ensures.cut c.put_chain.ensures.chain
