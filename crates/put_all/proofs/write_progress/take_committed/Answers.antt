use Rattle.std.proofs.Common.{◌≡◌, ℕ, ◌-◌, ◌<◌, ◌≤◌, ◌&&◌, ◌||◌, List, [], ◌∷◌, ◌++◌, length, get_or, set, map, take, drop, ap, sym, ◌∙◌, arith}
use Rattle.std.specs.List.{list_any, list_all}
use Rattle.std.proofs.lemmas.List.{take_all, take_more, map-append, length-map, length-take-le, get_or-append_right, get_or-drop}
use Rattle.std.proofs.lemmas.List.Edits.{map_over_more}
use Rattle.plain_store.proofs.ListTests.{any_push, all_push}
use Rattle.plain_store.proofs.Marking.{mapped_all}
use Rattle.put_all.specs.WriteProgress.{with_committed, awaits_committed}
use Rattle.put_all.specs.declared.write_progress.ItemProgress.{ItemProgress}
use Rattle.put_all.proofs.write_progress.take_committed.Goals as goal

-- what is not written over yet stands as it did
still_there : {X : Type 0} (f : X → X) (xs ys : List X) (i : ℕ) (x : X) → i < length xs → ys ≡ map f (take i xs) ++ drop i xs → x ≡ get_or ys i x → x ≡ get_or xs i x
still_there f xs ys i x within so_far is =
    let long : length (map f (take i xs)) ≡ i = length-map (take i xs) f ∙ length-take-le i xs (omega arith) in
    is ∙ ap (λ zs. get_or zs i x) so_far ∙ get_or-append_right (map f (take i xs)) (drop i xs) i i x long (omega arith)
    ∙ get_or-drop i xs (i - i) x ∙ ap (λ n. get_or xs n x) (omega arith)

pub loop-place-preserved : goal.loop-place-preserved
loop-place-preserved c =
    let mark = with_committed c.args.partition in
    let awaits = awaits_committed c.args.partition in
    let done = λ (place : ItemProgress). place.is_committed in
    let xs = c.args.places.now in
    let i = c.loop-place.place-index in
    let within : i < length xs = omega arith in
    let so_far = c.loop-place.invariant in
    let x = c.place-item.result in
    let read = still_there mark xs c.loop-place.places i x within so_far.places c.place-item.is in
    let more = take_more xs i x within in
    let taken = c.take_committed-awaits.ensures in
    record {
      places =
          ap (set c.loop-place.places i) (taken.place ∙ ap mark (sym c.place-item.is))
          ∙ map_over_more mark xs c.loop-place.places i x within so_far.places c.place-item.is;
      awaited =
          ap (λ b. b || c.take_committed-awaits.result) so_far.awaited
          ∙ ap (λ b. list_any awaits (take i xs) || b) (taken.awaited ∙ ap awaits (sym c.place-item.is ∙ read))
          ∙ sym (ap (list_any awaits) more ∙ any_push awaits (take i xs) (get_or xs i x));
      prepared =
          ap (λ b. b && c.take_committed-awaits.new.self.is_committed) so_far.prepared
          ∙ ap (λ b. list_all done (map mark (take i xs)) && b) (ap done (taken.place ∙ ap mark (sym c.place-item.is ∙ read)))
          ∙ sym (ap (λ zs. list_all done (map mark zs)) more ∙ ap (list_all done) (map-append mark (take i xs) (get_or xs i x ∷ []))
          ∙ all_push done (map mark (take i xs)) (mark (get_or xs i x)));
    }

pub returns : goal.returns
returns c =
    let mark = with_committed c.args.partition in
    let awaits = awaits_committed c.args.partition in
    let done = λ (place : ItemProgress). place.is_committed in
    let xs = c.args.places.now in
    let so_far = c.loop-place.invariant in
    let past : length xs ≤ c.loop-place.place-index = omega arith in
    let whole = mapped_all mark xs c.loop-place.places c.loop-place.place-index past so_far.places in
    record {
      places = whole;
      awaited = so_far.awaited ∙ ap (list_any awaits) (take_all c.loop-place.place-index xs past);
      all = so_far.prepared ∙ ap (λ zs. list_all done (map mark zs)) (take_all c.loop-place.place-index xs past) ∙ sym (ap (list_all done) whole);
    }
