use Rattle.std.proofs.Common.{◌≡◌, not, refl, ap, sym, ◌∙◌, arith}
use Rattle.std.proofs.lemmas.Bool.{both_ways}
use Rattle.get_all.specs.declared.tag_search.FindMove.TheVariants.{Torn}
use Rattle.std.proofs.Common.{◌==◌}
use Rattle.std.specs.List.{list_all}
use Rattle.stamps.specs.Key.{home_of}
use Rattle.get_all.specs.TagSearch.{calls_left}
use Rattle.get_all.specs.declared.tag_search.TagSearch.{TagSearch}
use Rattle.get_all.proofs.SearchTurns.{ignores, wanted_over, wanted_told, tears, waits_on, finishes, stray_test}
use Rattle.get_all.proofs.CallsLeft.{found_waits, found_begins}
use Rattle.get_all.proofs.tag_search.TagSearch.take_found.Goals as goal
use Rattle.get_all.proofs.tag_search.TagSearch.take_found.Goals.{then-self-via-then-self, then-self-via-else-self+then-not-await_told}

pub returns-then-self : goal.returns-then-self
returns-then-self c = record {
  takes = λ setup tag taken message s is.
      let f = c.args.self.now in
      ignores setup tag taken message f c.args.reader.now s
      (elim c.then-self.branch [
        | then-self-via-then-self w ↦ wanted_over setup tag taken message c.args.partition c.args.found.now is f c.args.reader.now s w.if-self.true
        | then-self-via-else-self+then-not-await_told w ↦
            wanted_told setup tag taken message c.args.partition c.args.found.now is f c.args.reader.now s w.if-self.false ∙ sym w.await_told.ensures ∙ w.if-not-await_told.true
      ]);
  ended = λ over. (refl, refl, refl);
  few = omega arith;
}

pub returns-then-not-are_at_home : goal.returns-then-not-are_at_home
returns-then-not-are_at_home c = record {
  takes = λ setup tag taken message s is.
      let f = c.args.self.now in
      let p = c.args.partition in
      let found = c.args.found.now in
      let stray = stray_test setup tag taken message p found is f c.args.reader.now s
      ∙ ap (λ keys. not (list_all (λ key. home_of key f.parts == p) keys)) (sym c.keys.ensures.keys) ∙ ap not (sym c.are_at_home.ensures ∙ c.if-not-are_at_home.true) in
      tears setup tag taken message p found is f c.args.reader.now s c.if-self.false c.end.new.self (sym c.await_told.ensures ∙ c.if-not-await_told.false) stray
      (ap (λ a. a.tag) c.end.ensures.ended) (ap (λ a. a.parts) c.end.ensures.ended) (ap (λ a. a.has_ended) c.end.ensures.ended) Torn refl;
  ended = λ over. absurd (both_ways _ c.if-self.false over);
  few =
      let none : calls_left c.end.new.self c.args.reader.now ≡ 0 = ap (λ (a : TagSearch). calls_left a c.args.reader.now) c.end.ensures.ended in
      omega (arith, none);
}

pub returns-then-not-have_told : goal.returns-then-not-have_told
returns-then-not-have_told c = record {
  takes = λ setup tag taken message s is.
      let f = c.args.self.now in
      let p = c.args.partition in
      let found = c.args.found.now in
      let added = c.add.new.self in
      let honest = stray_test setup tag taken message p found is f c.args.reader.now s
      ∙ ap (λ keys. not (list_all (λ key. home_of key f.parts == p) keys)) (sym c.keys.ensures.keys) ∙ ap not (sym c.are_at_home.ensures ∙ c.if-not-are_at_home.false) in
      waits_on setup tag taken message p found is f c.args.reader.now s c.if-self.false (sym c.await_told.ensures ∙ c.if-not-await_told.false) c.add.ensures.valid honest
      added c.add.ensures.asked c.add.ensures.total c.add.ensures.keys (ap (λ a. a.reads) c.add.ensures.same)
      (ap (λ a. a.tag) c.add.ensures.same) (ap (λ a. a.parts) c.add.ensures.same) (ap (λ a. a.has_ended) c.add.ensures.same)
      (sym c.have_told.ensures ∙ c.if-not-have_told.true);
  ended = λ over. absurd (both_ways _ c.if-self.false over);
  few =
      found_waits c.args.self.now c.args.reader.now c.args.partition c.if-self.false (sym c.await_told.ensures ∙ c.if-not-await_told.false) c.add.new.self
      (ap (λ a. a.reads) c.add.ensures.same);
}

pub returns : goal.returns
returns c = record {
  takes = λ setup tag taken message s is.
      let f = c.args.self.now in
      let p = c.args.partition in
      let found = c.args.found.now in
      let added = c.add.new.self in
      let honest = stray_test setup tag taken message p found is f c.args.reader.now s
      ∙ ap (λ keys. not (list_all (λ key. home_of key f.parts == p) keys)) (sym c.keys.ensures.keys) ∙ ap not (sym c.are_at_home.ensures ∙ c.if-not-are_at_home.false) in
      finishes setup tag taken message p found is f c.args.reader.now s c.if-self.false (sym c.await_told.ensures ∙ c.if-not-await_told.false) c.add.ensures.valid honest
      added c.add.ensures.asked c.add.ensures.total c.add.ensures.keys (ap (λ a. a.reads) c.add.ensures.same)
      (sym c.have_told.ensures ∙ c.if-not-have_told.false) c.begin.new.self c.begin.new.reader c.begin.result
      (ap (λ a. a.tag) c.add.ensures.same) (ap (λ a. a.parts) c.add.ensures.same) (ap (λ a. a.has_ended) c.add.ensures.same)
      c.begin.ensures.too_many c.begin.ensures.nothing c.begin.ensures.found;
  ended = λ over. absurd (both_ways _ c.if-self.false over);
  few =
      found_begins c.args.self.now c.args.reader.now c.args.partition c.if-self.false (sym c.await_told.ensures ∙ c.if-not-await_told.false) _
      (c.begin.ensures.few (sym c.have_told.ensures ∙ c.if-not-have_told.false));
}
