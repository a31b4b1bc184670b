-- What an operation made room for, as its calls go out: for the functions of the queues and of an operation.
use Rattle.std.proofs.Common.{◌≡◌, ℕ, ◌≤◌, ◌+◌, ◌-◌, ◌*◌, List, true, false, cond, length, min, arith, ap, sym, ◌∙◌, refl, subst, vec_len, Result, Ok, Err}
use Rattle.std.specs.Prelude.{IfErr, IsOk}
use Rattle.plain_store.specs.declared.refusal.Refusal.{Refusal}
use Rattle.plain_store.specs.declared.refusal.Refusal.TheVariants.{Stopped}
use Rattle.tenant_sessions.specs.Held.{test_open}
use Rattle.tenant_sessions.specs.declared.session.ClientSession.{ClientSession}
use Rattle.std.specs.VecDeque.{deque_capacity, deque_len}
use Rattle.plain_store.specs.History.{Intent as Asked}
use Rattle.std.proofs.lemmas.List.{length-map}
use Rattle.stamps.specs.Limits.{max_keys}
use Rattle.plain_store.proofs.BadKeys.{transaction_keys}
use Rattle.plain_store.specs.Words.{Item, Key, Stamp}
use Rattle.plain_store.specs.Run.{are_bad}
use Rattle.plain_store.specs.Writing.{keys_written}
use Rattle.tenant_sessions.specs.CallsLeft.{calls_sent, most_calls}
use Rattle.tenant_sessions.specs.declared.moves.MoveKind.{MoveKind}
use Rattle.tenant_sessions.specs.declared.moves.MoveKind.TheVariants as turns
use Rattle.plain_store.specs.declared.reading.Reading.{Reading}
use Rattle.tenant_sessions.specs.declared.moves.Move.{Move}
use Rattle.tenant_sessions.specs.declared.moves.Move.TheVariants.{Wait, Decided, Done, Ask, Begins as BeginsCalls, Read, Listed, Restart, Ended, Ignored}
use Rattle.tenant_sessions.specs.Moves.{moved, is_last, sends_calls, ending}
use Rattle.tenant_sessions.specs.Running.{MayBegin}
use Rattle.history.specs.declared.rule.Naming.{Ghosts}
use Rattle.hub.specs.Requests.{calls_for, intent_of}
use Rattle.hub.specs.Rooms.{HasPlaces, HasRoom, SameRoom}
use Rattle.hub.specs.Staging.{unserved}
use Rattle.hub.proofs.Staging.{unserved-staged}
use Rattle.hub.specs.declared.dispatcher.Dispatcher.{Dispatcher}
use Rattle.hub.specs.declared.seat_request.SeatRequest.{SeatRequest}
use Rattle.hub.specs.declared.seat_request.SeatRequest.TheVariants as ask

module _ {G : Type 0} {naming : Ghosts G} where
  -- room for so many calls is room for fewer
  pub places_for_fewer : (m n : ℕ) (queues : Dispatcher G naming) → m ≤ n → HasPlaces n queues → HasPlaces m queues
  places_for_fewer m n queues fewer has = record {
    numbers = omega (arith, has.numbers, fewer);
    places = omega (arith, has.places, fewer);
    ends = omega (arith, has.ends, fewer);
  }

  -- nor of what they need but boxes anything is used where these stay
  pub places_with : (old new : Dispatcher G naming) → new.sent ≡ old.sent → new.calls ≡ old.calls → new.served ≡ old.served → new.spare ≡ old.spare → (n : ℕ) → HasPlaces n old → HasPlaces n new
  places_with old new sent calls served spare n has = record {
    numbers = omega (arith, has.numbers, sent);
    places = omega (arith, has.places, ap deque_len calls, ap deque_capacity calls);
    ends = omega (arith, has.ends, ap deque_len calls, served, ap vec_len spare);
  }

  pub room_for_fewer : (m n : ℕ) (queues : Dispatcher G naming) → m ≤ n → HasRoom n queues → HasRoom m queues
  room_for_fewer m n queues fewer has = record {
    boxes = omega (arith, has.boxes, fewer);
    there = places_for_fewer m n queues fewer has.there;
  }

  -- so in the queues that they were
  pub room_stays : (queues after : Dispatcher G naming) (m n : ℕ) → after ≡ queues → m ≤ n → HasRoom n queues → HasRoom m after
  room_stays queues after m n is fewer has =
      let P : Dispatcher G naming → Type 0 = λ q. HasRoom m q in
      subst P (sym is) (room_for_fewer m n queues fewer has)

  -- where no more are sent or staged, and none of it is used, there is no less
  pub room_kept : (old new : Dispatcher G naming) → deque_len old.pool.boxes ≤ deque_len new.pool.boxes → vec_len old.spare ≤ vec_len new.spare → deque_capacity new.calls ≡ deque_capacity old.calls → new.sent ≤ old.sent
      → deque_len new.calls ≤ deque_len old.calls → deque_len new.calls - new.served ≤ deque_len old.calls - old.served → (n : ℕ) → HasRoom n old → HasRoom n new
  room_kept old new boxes ends places sent calls staged n has = record {
    boxes = omega (arith, has.boxes, boxes);
    there = record {
      numbers = omega (arith, has.there.numbers, sent);
      places = omega (arith, has.there.places, calls, places);
      ends = omega (arith, has.there.ends, staged, ends);
    };
  }

  -- so where as many are sent and staged
  pub same_room : (old new : Dispatcher G naming) → SameRoom old new → new.sent ≡ old.sent → deque_len new.calls ≡ deque_len old.calls → new.served ≡ old.served → (n : ℕ) → HasRoom n old → HasRoom n new
  same_room old new same sent calls served =
      let boxes : deque_len new.pool.boxes ≡ deque_len old.pool.boxes = ap (λ p. deque_len p.boxes) same.pool in
      let ends : vec_len new.spare ≡ vec_len old.spare = ap vec_len same.ends in
      room_kept old new (omega (arith, boxes)) (omega (arith, ends)) same.places (omega (arith, sent)) (omega (arith, calls)) (omega (arith, calls, served))

  -- an end for each that was not served
  pub ends_there : (queues : Dispatcher G naming) (n : ℕ) → HasRoom n queues → unserved queues.served queues.calls.items ≤ vec_len queues.spare
  ends_there queues n has = omega (arith, has.there.ends, unserved-staged queues.calls.items queues.served, queues.calls.ok.0)

-- ---- what a move sends

-- one that ends a transaction sends the calls of its end
pub sent_at_end : (move : Move) (waiting : ℕ) → is_last move ≡ true → calls_sent move waiting ≡ length (ending move)
sent_at_end (Done stamp) waiting last = refl
sent_at_end (Read readings) waiting last = refl
sent_at_end (Listed readings) waiting last = refl
sent_at_end (Restart key floor) waiting last = refl
sent_at_end (Ended refusal calls) waiting last = refl
sent_at_end Wait waiting last = cc
sent_at_end (Decided stamp) waiting last = cc
sent_at_end Ask waiting last = cc
sent_at_end BeginsCalls waiting last = cc
sent_at_end Ignored waiting last = cc

-- one that sends calls sends those that are waited for
pub sent_on : (move : Move) (waiting : ℕ) → sends_calls move ≡ true → calls_sent move waiting ≡ waiting
sent_on move waiting sends = ap (λ b. cond b waiting (length (ending move))) sends

-- and any other sends none
pub none_sent : (move : Move) (waiting : ℕ) → is_last move ≡ false → sends_calls move ≡ false → calls_sent move waiting ≡ 0
none_sent Wait waiting last sends = refl
none_sent Ignored waiting last sends = refl
none_sent (Decided stamp) waiting last sends = cc
none_sent Ask waiting last sends = cc
none_sent BeginsCalls waiting last sends = cc
none_sent (Done stamp) waiting last sends = cc
none_sent (Read readings) waiting last sends = cc
none_sent (Listed readings) waiting last sends = cc
none_sent (Restart key floor) waiting last sends = cc
none_sent (Ended refusal calls) waiting last sends = cc

-- the calls of its end are the same, whatever was read
pub same-ending : (turn : MoveKind) (told other : List Reading) → ending (moved turn told) ≡ ending (moved turn other)
same-ending turns.Wait told other = refl
same-ending (turns.Decided stamp) told other = refl
same-ending (turns.Done stamp) told other = refl
same-ending turns.Ask told other = refl
same-ending turns.Begins told other = refl
same-ending turns.Read told other = refl
same-ending turns.Listed told other = refl
same-ending (turns.Restart key floor) told other = refl
same-ending (turns.Ended refusal calls) told other = refl
same-ending turns.Ignored told other = refl

-- so there is room for the calls of its end, and for those after them
pub room_at_end : {G : Type 0} {naming : Ghosts G} (queues after : Dispatcher G naming) (move same : Move) (waiting left : ℕ) → is_last move ≡ true → after ≡ queues → same ≡ move → HasRoom (calls_sent move waiting + left) queues → HasRoom (length (ending same) + left) after
room_at_end queues after move same waiting left last is moved room =
    let calls = ap (λ m. length (ending m)) moved in
    room_stays queues after _ _ is (omega (arith, calls, sent_at_end move waiting last)) room

-- or for those that are waited for
pub room_going_on : {G : Type 0} {naming : Ghosts G} (queues : Dispatcher G naming) (move : Move) (waiting left : ℕ) → sends_calls move ≡ true → HasRoom (calls_sent move waiting + left) queues → HasRoom (waiting + left) queues
room_going_on queues move waiting left sends room = room_for_fewer (waiting + left) _ queues (omega (arith, sent_on move waiting sends)) room

-- ---- what a request makes room for

few_items : (items : List Item) → are_bad (keys_written items) ≡ false → 2 * length items ≡ 2 * min (length items) max_keys
few_items items good = let fits = (transaction_keys (keys_written items) good).at_most in omega (arith, fits, length-map items (λ (item : Item). item.key))

few_keys : (keys : List Key) → are_bad keys ≡ false → 2 * length keys ≡ 2 * min (length keys) max_keys
few_keys keys good = let fits = (transaction_keys keys good).at_most in omega (arith, fits)

-- what begins for it sends no more
pub makes_room : (parts : ℕ) (own : Stamp) (request : SeatRequest) (asked : Asked) → asked ≡ intent_of own request → MayBegin asked → most_calls parts asked ≡ calls_for parts request
makes_room parts own (ask.Put items) asked begins may =
    ap (most_calls parts) begins ∙ few_items items.now (subst MayBegin begins may)
makes_room parts own (ask.Get keys) asked begins may =
    ap (most_calls parts) begins ∙ few_keys keys.now (subst MayBegin begins may)
makes_room parts own (ask.Find tag) asked begins may = ap (most_calls parts) begins

-- an open session reports how many calls are waited for
pub open_retry : (session : ClientSession) → session.is_open ≡ true → (told : Result ℕ Refusal) → IfErr told (λ refusal. test_open session ≡ Err refusal) → IsOk told
open_retry session open_now (Ok count) refused = refl
open_retry session open_now (Err refusal) refused = let none : Ok tt ≡ Err refusal = sym (ap (λ b. cond b (Ok tt) (Err Stopped)) open_now) ∙ refused in absurd cc
