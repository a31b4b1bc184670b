use Rattle.std.proofs.Common.{◌++◌, refl, ap, ◌∙◌}
use Rattle.stamps.specs.Key.{sorted_keys}
use Rattle.get_all.proofs.NewSearch.{opened}
use Rattle.get_all.specs.declared.tag_search.FindMove.TheVariants.{Begin}
use Rattle.get_all.proofs.tag_search.TagSearch.begin.Goals as goal

pub returns-clause-found : goal.returns-clause-found
returns-clause-found c = λ few good.
    let sorted = c.in-Some.ensures.value ∙ ap sorted_keys c.as_slice.ensures.value in
    let ready = opened c.as_slice-2.result.now (sorted_keys c.args.self.now.keys) (c.as_slice-2.ensures.keys ∙ sorted) c.as_slice-2.ensures.valid c.reset-self.result c.reset-self.ensures.refused c.reset-self.new.self c.reset-self.ensures.stands in
    (ap Begin (c.extend_from_slice.ensures ∙ ap (λ ks. ks ++ c.as_slice-3.result.now) c.empty-found.ensures ∙ c.as_slice-3.ensures.keys ∙ sorted), refl, refl, refl, refl, ready.0, ready.1)
