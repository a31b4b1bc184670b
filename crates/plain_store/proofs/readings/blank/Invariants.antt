use Rattle.std.proofs.Common.{◌≡◌, ◌-◌, ◌++◌, take, drop, replicate}
use Rattle.plain_store.specs.ReadingList.{unused}
use Rattle.plain_store.proofs.readings.blank.Given as goal

-- those so far are blank, and the others are as they were
abbrev pub invariant-loop-at : goal.invariant-loop-at
invariant-loop-at l = record {
  kept : take l.from l.readings ≡ take l.from l.initial.readings;
  blank : drop l.from l.readings ≡ replicate (l.at - l.from) unused ++ drop l.at l.initial.readings;
}
