use Rattle.std.proofs.Common.{◌<◌, ◌++◌, List, length, get_or, sym, ap, ◌∙◌, arith}
use Rattle.prepare_commit.specs.declared.parts.EntryPosition.{EntryPosition}
use Rattle.prepare_commit.specs.Begun.{none_held, no_place}
use Rattle.version_chain.specs.declared.version.Version.{Version}
use Rattle.prepare_commit.proofs.Places.{as_many, seen_at, place_there}
use Rattle.prepare_commit.proofs.Holding.{lists_more}
use Rattle.prepare_commit.proofs.held.Held.versions.Goals as goal

pub put_to-requires : goal.put_to-requires
put_to-requires c =
    let h = c.self.inside in
    let many = as_many h.parts h.places.items c.args.self.now (seen_at h.parts h.places.items _ c.args.self.now c.self.invariant c.self.view_is) in
    let is = c.deref-place-items.ensures.value in
    let less : c.loop-place.place-index < length c.args.self.now = omega (arith, many, ap (λ (ps : List EntryPosition). length ps) is, c.loop-place-test.true) in
    (get_or c.args.self.now c.loop-place.place-index none_held, place_there h.parts h.places.items _ c.args.self.now c.self.invariant c.self.view_is c.loop-place.place-index no_place _ (ap (λ (ps : List EntryPosition). get_or ps c.loop-place.place-index no_place) is) less)

pub loop-place-preserved : goal.loop-place-preserved
loop-place-preserved c =
    let h = c.self.inside in
    let many = as_many h.parts h.places.items c.args.self.now (seen_at h.parts h.places.items _ c.args.self.now c.self.invariant c.self.view_is) in
    let is = c.deref-place-items.ensures.value in
    let less : c.loop-place.place-index < length c.args.self.now = omega (arith, many, ap (λ (ps : List EntryPosition). length ps) is, c.loop-place-test.true) in
    c.in_ok-put_to.ensures (get_or c.args.self.now c.loop-place.place-index none_held) (place_there h.parts h.places.items _ c.args.self.now c.self.invariant c.self.view_is c.loop-place.place-index no_place _ (ap (λ (ps : List EntryPosition). get_or ps c.loop-place.place-index no_place) is) less)
    ∙ ap (λ (vs : List Version). vs ++ (get_or c.args.self.now c.loop-place.place-index none_held).versions) c.loop-place.invariant
    ∙ sym (lists_more c.args.self.now c.loop-place.place-index less)
