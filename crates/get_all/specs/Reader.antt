-- What a reader stands for.
use Rattle.std.specs.Prelude.{◌≡◌, ◌≢◌, ◌+◌, ◌≤◌, ℕ, List, [], ◌∷◌, ◌++◌}
use Rattle.std.specs.Prelude.{Bool, true, false, ◌||◌, ◌==◌, map, Option, Some, None}
use Rattle.std.specs.Prelude.{is_some, length, cond}
use Rattle.std.specs.List.{list_any, list_all}
use Rattle.stamps.specs.Record.{Record}
use Rattle.plain_store.specs.declared.calls.Call.TheVariants.{Get}
use Rattle.plain_store.specs.declared.calls.ReadReply.{ReadReply}
use Rattle.plain_store.specs.declared.message.Message.{Message}
use Rattle.plain_store.specs.declared.reading.Reading.{Reading}
use Rattle.plain_store.specs.declared.refusal.Refusal.TheVariants.{Torn as IsTorn}
use Rattle.plain_store.specs.Words.{Key, Stamp, Setup, home}
use Rattle.plain_store.specs.Writing.{Outgoing}
use Rattle.plain_store.specs.Rounds.{seen_first, seen_second, needed, round_one_complete, shows_writes, round_of}
use Rattle.plain_store.specs.Moves.{Move, Waits, Asks, Restarts, Fails, is_answered}
use Rattle.get_all.specs.ReadProgress.{first_shows, has_first, late_by, readings_by}
use Rattle.get_all.specs.Reading.{any_last, has_ended, read_answer, taken_with, IsFirst, IsSecond, ReadsWhole}
use Rattle.get_all.specs.declared.late.Late.{Late}
use Rattle.get_all.specs.declared.read_progress.KeyProgress.{KeyProgress}
use Rattle.get_all.specs.declared.reader.Reader.{Reader}
use Rattle.get_all.specs.declared.reader.ReadMove.{ReadMove}
use Rattle.get_all.specs.declared.reader.ReadMove.TheVariants.{Wait, Ask, Read, Restart, Torn, Ignored}
use Rattle.get_all.specs.declared.reader.ReadMoveKind.{ReadMoveKind}
use Rattle.get_all.specs.declared.reader.ReadMoveKind.TheVariants.{Wait as WaitKind, Ask as AskKind, Read as WholeKind}
use Rattle.get_all.specs.declared.reader.ReadMoveKind.TheVariants.{Restart as RestartKind, Torn as TornKind}
use Rattle.get_all.specs.declared.reader.ReadMoveKind.TheVariants.{Ignored as IgnoredKind}

-- the call by which a late key is asked for
abbrev pub ask_for : Setup → Late → Outgoing
ask_for setup late = record { partition = home setup late.key; call = Get late.key (Some late.stamp) }

-- the move that a reader's answer reports, None where the reply is ignored
abbrev pub told : Setup → (List Reading → Move) → ReadMove → Option Move
told setup tells Wait = Some Waits
told setup tells (Ask late) = Some (Asks (map (ask_for setup) late))
told setup tells (Read readings) = Some (tells readings)
told setup tells (Restart key floor) = Some (Restarts key floor)
told setup tells Torn = Some (Fails IsTorn [])
told setup tells Ignored = None

-- what a turn of this reader reports, with what it asks for or read
abbrev pub told_by : Reader → ReadMoveKind → ReadMove
told_by reader WaitKind = Wait
told_by reader AskKind = Ask (late_by reader.slots)
told_by reader WholeKind = Read (readings_by reader.slots)
told_by reader (RestartKind key floor) = Restart key floor
told_by reader TornKind = Torn
told_by reader IgnoredKind = Ignored

-- a key, and what the replies show of it
abbrev pub slot_after : List Key → List Message → Key → KeyProgress
slot_after keys taken key = record {
  key = key;
  first = seen_first taken key;
  second = seen_second taken key (needed keys taken key);
}

-- what holds of the replies that a read took and that did not end it
pub record IsOrderly (keys : List Key) (taken : List Message) : Type 0 where
  pub all_true : any_last taken taken ≡ false
  pub first_answers : (p : ℕ) (key : Key) → is_answered taken p (Get key None) ≡ is_some (seen_first taken key)
  pub second_answers : (p : ℕ) (key : Key) (s : Stamp)
      → is_answered taken p (Get key (Some s)) ≡ is_some (seen_second taken key (needed keys taken key))
  pub in_order : round_one_complete keys taken ≡ false → (p : ℕ) (key : Key) (s : Stamp)
      → is_answered taken p (Get key (Some s)) ≡ false
  pub first_writes : (s : Stamp) (writes : List Key)
      → list_any (λ message. shows_writes s writes message.call message.reply) taken
      ≡ list_any (λ key. first_shows s writes (seen_first taken key)) keys
  pub second_stamps : (key : Key) (version : Record) → seen_second taken key (needed keys taken key) ≡ Some version
      → version.stamp ≡ needed keys taken key
  pub second_writes : (key : Key) (version : Record) → seen_second taken key (needed keys taken key) ≡ Some version
      → list_any (λ message. shows_writes (needed keys taken key) version.writes message.call message.reply) taken
      ≡ true

-- the reader of a read that has not ended holds what the replies show
pub record HoldsShown (keys : List Key) (reader : Reader) (taken : List Message) : Type 0 where
  pub slots : reader.slots ≡ map (slot_after keys taken) keys
  pub orderly : IsOrderly keys taken

-- a reader of these keys which took these replies, in order, and no others
pub record StandsFor (keys : List Key) (reader : Reader) (taken : List Message) : Type 0 where
  pub ended : reader.has_ended ≡ has_ended keys taken
  pub holds : has_ended keys taken ≡ false → HoldsShown keys reader taken

-- what is reported by an answer that ends a read whole
abbrev pub IfRead : ReadMove → (List Reading → Type 0) → Type 0
IfRead Wait P = Unit {0}
IfRead (Ask late) P = Unit {0}
IfRead (Read readings) P = P readings
IfRead (Restart key floor) P = Unit {0}
IfRead Torn P = Unit {0}
IfRead Ignored P = Unit {0}

-- whether an answer ends the read
abbrev pub is_last : ReadMove → Bool
is_last Wait = false
is_last (Ask late) = false
is_last (Read readings) = true
is_last (Restart key floor) = true
is_last Torn = true
is_last Ignored = false

-- it takes the message as the read does, or ignores it
pub record TakesRead (keys : List Key) (taken : List Message) (message : Message) (answer : ReadMove) (after : Reader)
    : Type 0 where
  pub answered : (setup : Setup) (tells : List Reading → Move)
      → told setup tells answer ≡ read_answer setup keys tells taken message
  pub stands : StandsFor keys after (taken_with keys taken message)
  pub last : has_ended keys (taken_with keys taken message) ≡ (has_ended keys taken || is_last answer)
  pub whole : IfRead answer (ReadsWhole keys (taken ++ message ∷ []))

-- whether no reply is to a GET
abbrev pub is_no_read : Message → Bool
is_no_read message = round_of message.call == 0

-- ---- the calls to come

-- How many calls a reader may still ask for: until round one is complete, one for each key. Then, and once the read has
-- ended, none.
abbrev pub calls_left : Reader → ℕ
calls_left reader = cond (reader.has_ended || list_all has_first reader.slots) 0 (length reader.slots)

-- how many an answer asks for
abbrev pub calls_asked : ReadMove → ℕ
calls_asked Wait = 0
calls_asked (Ask late) = length late
calls_asked (Read readings) = 0
calls_asked (Restart key floor) = 0
calls_asked Torn = 0
calls_asked Ignored = 0

-- The reply to the GET of a key in round 1 or 2 was offered to a reader, which takes it as the read does; in any other
-- round it ignores it. Once the read has ended it ignores it too, and nothing changes. What it asks for, and may ask
-- for after it, is no more than what it might before.
pub record TakesInRound (key : Key) (round : ℕ) (reply : ReadReply) (old : Reader) (move : ReadMove)
    (new : Reader) : Type 0 where
  pub first : (keys : List Key) (taken : List Message) (message : Message) → round ≡ 1 → StandsFor keys old taken
      → IsFirst key reply message → TakesRead keys taken message move new
  pub second : (keys : List Key) (taken : List Message) (message : Message) → round ≡ 2 → StandsFor keys old taken
      → IsSecond keys taken key reply message → TakesRead keys taken message move new
  pub no_round : round ≢ 1 → round ≢ 2 → (move ≡ Ignored) × (new ≡ old)
  pub ended : old.has_ended ≡ true → (move ≡ Ignored) × (new ≡ old)
  pub few : calls_asked move + calls_left new ≤ calls_left old
