use Rattle.std.proofs.Common.{◌<◌, refl, sym, ap, ◌∙◌, map, arith}
use Rattle.plain_store.specs.Finding.{below}
use Rattle.get_all.specs.AskedPartition.{asked_at}
use Rattle.get_all.proofs.NewSearch.{new_search}
use Rattle.get_all.proofs.tag_search.TagSearch.reset.Goals as goal

pub returns : goal.returns
returns c = λ setup reader parts.
    let some : 0 < setup.partitions = omega (arith, c.requires.positive, parts) in
    new_search setup c.args.tag _ reader some refl (sym parts) (c.reset.ensures ∙ ap (λ n. map asked_at (below n)) (sym parts)) refl c.clear.ensures refl refl
