use Rattle.std.proofs.Common.{◌≡◌, ℕ, suc, Some, List, true, false, map, get_or, set, ap, sym, ◌∙◌, refl, subst, arith}
use Rattle.plain_store.specs.Words.{Key}
use Rattle.std.specs.Prelude.{is_some, position}
use Rattle.std.specs.List.{list_any}
use Rattle.put_all.specs.WriteProgress.{AreApart, count_awaited, with_prepared, awaits_prepared}
use Rattle.put_all.specs.declared.write_progress.ItemProgress.{ItemProgress}
use Rattle.put_all.proofs.OnePlace.{awaits_found, none_marked, one_place, place_within, place_unprepared, still_apart}
use Rattle.put_all.proofs.CountAwaited.{one_fewer}
use Rattle.put_all.proofs.write_progress.WriteProgress.mark_prepared.Goals as goal

-- one fewer is awaited
one_less : (key : Key) (places : List ItemProgress) (at : ℕ) (found : position (awaits_prepared key) places ≡ Some at) (x : ItemProgress) → x ≡ get_or places at x
    → count_awaited places ≡ suc (count_awaited (set places at (record x { is_prepared = true })))
one_less key places at found x is = one_fewer places at x (place_within key places at found x) is (place_unprepared key places at found x is)

pub overflow_sub-self : goal.overflow_sub-self
overflow_sub-self c = let fewer = one_less c.args.key.now c.self.inside.places c.in-Some.at (ap (position (awaits_prepared c.args.key.now)) c.self.view_is ∙ sym c.awaited_place.ensures ∙ c.in-Some.is) c.index-as_slice-at.result (c.index-as_slice-at.is ∙ ap (λ (zs : List ItemProgress). get_or zs c.in-Some.at c.index-as_slice-at.result) (c.as_slice.ensures.places ∙ sym c.self.view_is)) in
    omega (arith, fewer, c.self.invariant.1)

pub invariant_of-self : goal.invariant_of-self
invariant_of-self c =
    let key = c.args.key.now in
    let places = c.self.inside.places in
    let x = c.index-as_slice-at.result in
    let found = ap (position (awaits_prepared key)) c.self.view_is ∙ sym c.awaited_place.ensures ∙ c.in-Some.is in
    let is : x ≡ get_or places c.in-Some.at x = c.index-as_slice-at.is ∙ ap (λ (zs : List ItemProgress). get_or zs c.in-Some.at x) (c.as_slice.ensures.places ∙ sym c.self.view_is) in
    let marked = c.set.ensures ∙ one_place key places c.in-Some.at found x c.self.invariant.0 is in
    let fewer = one_less key places c.in-Some.at found x is in (
      subst AreApart (sym marked) (still_apart (with_prepared key) (λ place. refl) places c.self.invariant.0),
      omega (arith, fewer, c.self.invariant.1, ap count_awaited c.set.ensures),
    )

pub returns-in_default : goal.returns-in_default
returns-in_default c =
    let key = c.args.key.now in
    let places = c.args.self.now in
    let none : list_any (awaits_prepared key) places ≡ false = awaits_found (awaits_prepared key) places ∙ ap is_some (sym c.awaited_place.ensures ∙ c.in_default.is) in
    record {
      places = sym (none_marked key places none);
      awaited = sym none;
      all = c.are_prepared.ensures;
    }

pub returns : goal.returns
returns c =
    let key = c.args.key.now in
    let places = c.self.inside.places in
    let x = c.index-as_slice-at.result in
    let found = ap (position (awaits_prepared key)) c.self.view_is ∙ sym c.awaited_place.ensures ∙ c.in-Some.is in
    let is : x ≡ get_or places c.in-Some.at x = c.index-as_slice-at.is ∙ ap (λ (zs : List ItemProgress). get_or zs c.in-Some.at x) (c.as_slice.ensures.places ∙ sym c.self.view_is) in
    record {
      places = c.set.ensures ∙ one_place key places c.in-Some.at found x c.self.invariant.0 is ∙ ap (map (with_prepared key)) c.self.view_is;
      awaited = sym (awaits_found (awaits_prepared key) c.args.self.now ∙ ap is_some (sym c.awaited_place.ensures ∙ c.in-Some.is));
      all = c.are_prepared-2.ensures;
    }
