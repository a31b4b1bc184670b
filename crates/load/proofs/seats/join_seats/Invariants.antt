use Rattle.std.proofs.Common.{◌≡◌, ◌++◌, All, map, false}
use Rattle.closed_store.specs.declared.transcript.Transcript.{Transcript}
use Rattle.server_sessions.specs.Ports.{transcripts_of}
use Rattle.load.specs.Rounds.{IsOfSeat, seat_of}
use Rattle.load.proofs.seats.join_seats.Given as goal

abbrev pub invariant-loop-handle : goal.invariant-loop-handle
invariant-loop-handle g l = record {
  named : l.lacks_memory ≡ false → map seat_of (transcripts_of l.kept) ++ map (λ h. (h.promise.tenant, h.promise.number)) l.handle-iterator.rest.items ≡ map (λ h. (h.promise.tenant, h.promise.number)) l.fn.handles.items;
  drawn : All (λ (t : Transcript). IsOfSeat l.fn.orders.seed l.fn.orders.rounds l.fn.orders.keys t.tenant t.client t) (transcripts_of l.kept);
  left : All (λ h. h.promise.orders ≡ l.fn.orders) l.handle-iterator.rest.items;
}
