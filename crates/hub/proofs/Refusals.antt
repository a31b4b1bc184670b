-- What an open session refuses stands in the transcript: for `RunningOperation::begin`.
use Rattle.std.proofs.Common.{◌≡◌, Bool, true, false, sym, ap, cond, is_some, nat_le}
use Rattle.std.specs.Prelude.{Result, Ok, Err}
use Rattle.plain_store.specs.declared.refusal.Refusal.{Refusal}
use Rattle.plain_store.specs.declared.refusal.Refusal.TheVariants.{Busy, BadItems, StampsUsed, Stopped}
use Rattle.plain_store.specs.Run.{are_bad, counter_limit}
use Rattle.plain_store.specs.Writing.{keys_written}
use Rattle.tenant_sessions.specs.declared.session.ClientSession.{ClientSession}
use Rattle.hub.specs.declared.seat_request.SeatRequest.{SeatRequest}
use Rattle.hub.specs.declared.seat_request.SeatRequest.TheVariants.{Put, Get, Find}
use Rattle.hub.specs.Requests.{test_of}
use Rattle.hub.specs.Seats.{is_outside}

abbrev pub passed : Result (Unit {0}) Refusal
passed = Ok tt

-- what may be refused: that a transaction runs, the items or keys, and that no stamp is left
inside : (refusal : Refusal) (opened runs bad used : Bool) → opened ≡ true → cond opened (cond runs (Err Busy) (cond bad (Err BadItems) (cond used (Err StampsUsed) passed))) (Err Stopped) ≡ Err refusal → is_outside refusal ≡ false
inside refusal false runs bad used opened e = cc
inside refusal true true bad used opened e = let same : Busy ≡ refusal = cc in ap is_outside (sym same)
inside refusal true false true used opened e = let same : BadItems ≡ refusal = cc in ap is_outside (sym same)
inside refusal true false false true opened e = let same : StampsUsed ≡ refusal = cc in ap is_outside (sym same)
inside refusal true false false false opened e = cc

pub refused-inside : (session : ClientSession) (request : SeatRequest) (refusal : Refusal) → session.is_open ≡ true → test_of session request ≡ Err refusal → is_outside refusal ≡ false
refused-inside session (Put items) refusal opened e = inside refusal session.is_open (is_some session.running) (are_bad (keys_written items.now)) (nat_le counter_limit session.counter) opened e
refused-inside session (Get keys) refusal opened e = inside refusal session.is_open (is_some session.running) (are_bad keys.now) false opened e
refused-inside session (Find tag) refusal opened e = inside refusal session.is_open (is_some session.running) false false opened e

-- no test is passed and fails, or fails for two causes
pub apart : {P : Type 0} (test : Result (Unit {0}) Refusal) (refusal : Refusal) → test ≡ passed → test ≡ Err refusal → P
apart test refusal passes fails = cc

pub same_refusal : (test : Result (Unit {0}) Refusal) (one other : Refusal) → test ≡ Err one → test ≡ Err other → one ≡ other
same_refusal test one other first second = cc
