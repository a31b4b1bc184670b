-- What a running transaction stands for.
use Rattle.std.specs.Prelude.{◌≡◌, ℕ, ◌≤◌, List, [], ◌∷◌, ◌++◌, Bool, true, false, cond, not, filter, length, Option}
use Rattle.std.specs.Prelude.{Some}
use Rattle.std.specs.List.{list_all}
use Rattle.stamps.specs.Limits.{max_keys, max_found}
use Rattle.stamps.specs.declared.record.Item.{Item}
use Rattle.plain_store.specs.declared.calls.Call.{Call}
use Rattle.plain_store.specs.declared.calls.Call.TheVariants.{Prepare, Commit, Get, Found, Collect, Discard}
use Rattle.plain_store.specs.declared.calls.Reply.{Reply}
use Rattle.plain_store.specs.declared.calls.Reply.TheVariants.{Prepare as ToPrepare, Committed as ToCommit}
use Rattle.plain_store.specs.declared.calls.Reply.TheVariants.{Get as ToGet, Found as ToFound, Discard as ToDiscard}
use Rattle.plain_store.specs.declared.message.Message.{Message}
use Rattle.plain_store.specs.Words.{◌∈◌, Key, Tag, Stamp, Setup}
use Rattle.plain_store.specs.History.{Intent, Writes, Gets, Finds}
use Rattle.plain_store.specs.Run.{are_bad}
use Rattle.plain_store.specs.Writing.{Outgoing, keys_written, prepare_calls, commit_calls, all_prepared}
use Rattle.plain_store.specs.Rounds.{first_calls, second_calls, round_one_complete}
use Rattle.plain_store.specs.Finding.{found_calls, all_found, all_keys_found}
use Rattle.plain_store.specs.Moves.{move_of, calls_of, is_answered}
use Rattle.put_all.specs.declared.writer.Writer.{Writer}
use Rattle.put_all.specs.Writer.{StandsFor as StandsForWrite}
use Rattle.put_all.specs.Writing.{has_ended as has_written}
use Rattle.get_all.specs.declared.reader.Reader.{Reader}
use Rattle.get_all.specs.Reader.{StandsFor as StandsForRead}
use Rattle.get_all.specs.Reading.{has_ended as has_read}
use Rattle.get_all.specs.declared.tag_search.TagSearch.{TagSearch}
use Rattle.get_all.specs.TagSearch.{StandsFor as StandsForFind}
use Rattle.get_all.specs.Finding.{has_ended as has_found}
use Rattle.tenant_sessions.specs.Moves.{Move}
use Rattle.tenant_sessions.specs.Moves.{Ignored}
use Rattle.tenant_sessions.specs.Holding.{Machine, Write, Read, Find}
use Rattle.tenant_sessions.specs.declared.running.Running.{Running}
use Rattle.tenant_sessions.specs.Moves.{told, calls_out, sends_calls, is_last, ending}

-- ---- the calls that it waits for

-- the second part of a write is that of its COMMITs
abbrev pub is_past : Intent → List Message → Bool
is_past (Writes stamp items) taken = all_prepared stamp items taken
is_past (Gets keys) taken = false
is_past (Finds tag) taken = false

-- the calls of its part that have no reply taken
abbrev pub waiting_calls : Setup → Intent → List Message → List Outgoing
waiting_calls setup request taken =
    filter (λ out. not (is_answered taken out.partition out.call))
    (calls_of setup (is_past request taken) request taken)

-- ---- the replies that it is offered

-- the calls of a read's rounds so far
abbrev pub read_so_far : Setup → List Key → List Message → List Outgoing
read_so_far setup keys taken =
    first_calls setup keys ++ cond (round_one_complete keys taken) (second_calls setup keys taken) []

-- the calls of the parts that it has come to
abbrev pub calls_so_far : Setup → Intent → List Message → List Outgoing
calls_so_far setup (Writes stamp items) taken =
    prepare_calls setup stamp items ++ cond (all_prepared stamp items taken) (commit_calls setup stamp items) []
calls_so_far setup (Gets keys) taken = read_so_far setup keys taken
calls_so_far setup (Finds tag) taken =
    found_calls setup tag ++ cond (all_found setup taken) (read_so_far setup (all_keys_found taken) taken) []

-- whether a reply is one to such a call
abbrev pub is_reply_of : Call → Option Reply → Bool
is_reply_of (Prepare version) (Some (ToPrepare reply)) = true
is_reply_of (Commit stamp) (Some (ToCommit count)) = true
is_reply_of (Get key stamp) (Some (ToGet reply)) = true
is_reply_of (Found tag) (Some (ToFound told)) = true
is_reply_of (Discard stamp) (Some (ToDiscard reply)) = true
is_reply_of (Prepare version) reply = false
is_reply_of (Commit stamp) reply = false
is_reply_of (Get key stamp) reply = false
is_reply_of (Found tag) reply = false
is_reply_of (Collect keep) reply = false
is_reply_of (Discard stamp) reply = false

-- the message is a reply to one of the transaction's calls
pub record IsReplyTo (setup : Setup) (request : Intent) (taken : List Message) (message : Message) : Type 0 where
  pub asked : record { partition = message.partition; call = message.call } ∈ calls_so_far setup request taken
  pub of_kind : is_reply_of message.call message.reply ≡ true

-- ---- a transaction that has not ended, which took these replies

-- a write. No COMMIT is answered before each item is prepared
pub record IsWriting (setup : Setup) (stamp : Stamp) (items : List Item) (taken : List Message) (writer : Writer)
    (waiting : List Outgoing) : Type 0 where
  pub stands : StandsForWrite setup stamp items writer taken
  pub goes_on : has_written setup stamp items taken ≡ false
  pub few : length items ≤ max_keys
  pub in_order : all_prepared stamp items taken ≡ false → (p : ℕ) (s : Stamp) → is_answered taken p (Commit s) ≡ false
  pub waits : waiting ≡ waiting_calls setup (Writes stamp items) taken

-- a read
pub record IsReading (setup : Setup) (keys : List Key) (taken : List Message) (reader : Reader)
    (waiting : List Outgoing) : Type 0 where
  pub stands : StandsForRead keys reader taken
  pub goes_on : has_read keys taken ≡ false
  pub few : length keys ≤ max_keys
  pub waits : waiting ≡ waiting_calls setup (Gets keys) taken

-- a search. It reads no more than `max_found` keys
pub record IsFinding (setup : Setup) (tag : Tag) (taken : List Message) (search : TagSearch) (reader : Reader)
    (waiting : List Outgoing) : Type 0 where
  pub stands : StandsForFind setup tag search reader taken
  pub goes_on : has_found setup taken ≡ false
  pub few : all_found setup taken ≡ true → length (all_keys_found taken) ≤ max_found
  pub of_kind : list_all (λ message. is_reply_of message.call message.reply) taken ≡ true
  pub waits : waiting ≡ waiting_calls setup (Finds tag) taken

abbrev pub RunsAs : Setup → Intent → List Message → Machine → List Outgoing → Type 0
RunsAs setup (Writes stamp items) taken (Write own writer) waiting =
    (own ≡ stamp) × IsWriting setup stamp items taken writer waiting
RunsAs setup (Gets keys) taken (Read reader) waiting = IsReading setup keys taken reader waiting
RunsAs setup (Finds tag) taken (Find search reader) waiting = IsFinding setup tag taken search reader waiting
RunsAs setup request taken machine waiting = ⊥

pub record RunningStands (setup : Setup) (request : Intent) (taken : List Message) (running : Running) : Type 0 where
  pub parts : running.parts ≡ setup.partitions
  pub runs : RunsAs setup request taken running.machine running.waiting

-- a write may have such items and a read such keys: 1 to `max_keys`, and none twice
abbrev pub MayBegin : Intent → Type 0
MayBegin (Writes stamp items) = are_bad (keys_written items) ≡ false
MayBegin (Gets keys) = are_bad keys ≡ false
MayBegin (Finds tag) = Unit {0}

-- a transaction that has just begun waits for all calls of its first part
pub record Starts (setup : Setup) (request : Intent) (running : Running) : Type 0 where
  pub stands : RunningStands setup request [] running
  pub calls : waiting_calls setup request [] ≡ calls_of setup false request []

-- ---- what it does when a reply comes

-- A reply in whose place one was taken is ignored. Any other is taken, and the answer reports the plain store's move:
-- unless this ends the transaction it then stands for the replies with this one, and where calls are sent, at most
-- `max_keys`, they are all that it waits for, or those of its end. Stands: for which replies it then stands
pub record TakesMessage (setup : Setup) (request : Intent) (taken : List Message) (message : Message) (answer : Move)
    (Stands : List Message → Type 0) : Type 0 where
  pub repeated : is_answered taken message.partition message.call ≡ true → (answer ≡ Ignored) × Stands taken
  pub answered : is_answered taken message.partition message.call ≡ false
      → answer ≡ told (move_of setup request (taken ++ message ∷ []) message)
  pub goes_on : is_answered taken message.partition message.call ≡ false → is_last answer ≡ false
      → Stands (taken ++ message ∷ [])
  pub sent : is_answered taken message.partition message.call ≡ false
      → calls_out (move_of setup request (taken ++ message ∷ []) message)
      ≡ cond (sends_calls answer) (waiting_calls setup request (taken ++ message ∷ [])) (ending answer)
  pub few : is_answered taken message.partition message.call ≡ false
      → length (calls_out (move_of setup request (taken ++ message ∷ []) message)) ≤ max_keys
