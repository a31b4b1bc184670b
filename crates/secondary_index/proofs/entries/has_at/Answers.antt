use Rattle.std.proofs.Common.{◌≡◌, Some, ap, sym, ◌∙◌}
use Rattle.std.proofs.lemmas.Slice.Eq.{bytes_eq-Decides}
use Rattle.stamps.specs.Key.{key_cmp}
use Rattle.stamps.proofs.KeyLemmas.{key_cmp_total, key_cmp-Equal}
use Rattle.secondary_index.specs.declared.entries.TaggedKey.{TaggedKey}
use Rattle.secondary_index.specs.Layout.{entry_row}
use Rattle.secondary_index.proofs.Ordered.{find-StandsAt, get-map_of}
use Rattle.secondary_index.proofs.entries.has_at.Goals as goal

pub returns : goal.returns
returns c holds =
    let items = c.args.entries.now.items in
    let found = c.stands_at.ensures c.if-not-stands_at.false in
    let tag : c.get.result.now.tag ≡ c.args.tag = (bytes_eq-Decides c.get.result.now.tag c.args.tag).0 (sym c.eq.ensures ∙ holds) in
    get-map_of key_cmp key_cmp_total key_cmp-Equal entry_row items c.requires c.args.key.now
    ∙ find-StandsAt key_cmp key_cmp_total key_cmp-Equal entry_row items c.args.place c.args.key.now c.requires found c.get.result.now
    ∙ ap (λ (e : TaggedKey). Some e.tag) (sym c.get.ensures) ∙ ap Some tag
