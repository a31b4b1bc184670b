use Rattle.std.proofs.Common.{◌≡◌, ◌++◌, map, take, drop}
use Rattle.std.specs.List.{list_any, list_all}
use Rattle.put_all.specs.WriteProgress.{with_committed, awaits_committed}
use Rattle.put_all.specs.declared.write_progress.ItemProgress.{ItemProgress}
use Rattle.put_all.proofs.write_progress.take_committed.Given as goal

-- the places so far are marked, and it is known whether one of them waited and whether each is prepared
abbrev pub invariant-loop-place : goal.invariant-loop-place
invariant-loop-place l = record {
  places : l.places ≡ map (with_committed l.partition) (take l.place-index l.initial.places) ++ drop l.place-index l.initial.places;
  awaited : l.marked.was_awaited ≡ list_any (awaits_committed l.partition) (take l.place-index l.initial.places);
  prepared : l.marked.are_committed ≡ list_all (λ (place : ItemProgress). place.is_committed) (map (with_committed l.partition) (take l.place-index l.initial.places));
}
