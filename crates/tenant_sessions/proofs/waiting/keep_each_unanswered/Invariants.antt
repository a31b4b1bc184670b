use Rattle.std.proofs.Common.{◌≡◌, ℕ, ◌<◌, ◌≤◌, true, not, filter, take, drop, length, get_or}
use Rattle.tenant_sessions.specs.Parts.{batch_calls, is_answered_at}
use Rattle.tenant_sessions.proofs.waiting.keep_each_unanswered.Given as goal

-- of the places so far those are kept at which the message answers no call, and what follows stands as it did; where one was found,
-- the message answers the call at a place so far, and no other
abbrev pub invariant-loop-at : goal.invariant-loop-at
invariant-loop-at l = record {
  kept : take l.kept l.places ≡ filter (λ i. not (is_answered_at (batch_calls l.parts l.part) l.message i)) (take l.at l.initial.places);
  rest : drop l.at l.places ≡ drop l.at l.initial.places;
  few : l.kept ≤ l.at;
  long : length l.places ≡ length l.initial.places;
  found : l.is_found ≡ true
      → (k : ℕ) × (k < l.at) × (is_answered_at (batch_calls l.parts l.part) l.message (get_or l.initial.places k 0) ≡ true) × (l.are_apart ≡ true);
}
