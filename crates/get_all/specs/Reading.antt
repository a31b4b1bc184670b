-- What a read answers to a reply, after the replies that it took.
use Rattle.std.specs.Prelude.{◌≡◌, ◌≤◌, List, [], ◌∷◌, ◌++◌, Bool, true, false, ◌&&◌, ◌||◌, ◌==◌, cond, not, Option}
use Rattle.std.specs.Prelude.{Some, None}
use Rattle.std.specs.List.{list_any}
use Rattle.stamps.specs.Record.{Record}
use Rattle.stamps.specs.WriteSet.{contains_key}
use Rattle.plain_store.specs.declared.calls.Call.{Call}
use Rattle.plain_store.specs.declared.calls.Call.TheVariants.{Get}
use Rattle.plain_store.specs.declared.calls.ReadReply.{ReadReply}
use Rattle.plain_store.specs.declared.calls.ReadReply.TheVariants.{Version}
use Rattle.plain_store.specs.declared.calls.Reply.{Reply}
use Rattle.plain_store.specs.declared.calls.Reply.TheVariants.{Get as ToGet}
use Rattle.plain_store.specs.declared.message.Message.{Message}
use Rattle.plain_store.specs.declared.reading.Reading.{Reading}
use Rattle.plain_store.specs.Words.{◌∈◌, Key, Stamp, Setup}
use Rattle.plain_store.specs.Rounds.{round_one_complete, round_two_complete, late_keys, needed, version_read}
use Rattle.plain_store.specs.Rounds.{reading_of, readings, is_false_first, is_false_second}
use Rattle.plain_store.specs.Moves.{Move, Reads, read_move, is_answered}

-- whether a reply ends the read: it is inconsistent, or what it was asked for was collected
abbrev pub is_last_reply : List Message → Call → Option Reply → Bool
is_last_reply replies (Get key None) (Some (ToGet reply)) = is_false_first key reply
is_last_reply replies (Get key (Some stamp)) (Some (ToGet (Version version))) =
    is_false_second replies key stamp (Version version)
is_last_reply replies (Get key (Some stamp)) (Some (ToGet reply)) = true
is_last_reply replies call reply = false

abbrev pub any_last : List Message → List Message → Bool
any_last replies taken = list_any (λ message. is_last_reply replies message.call message.reply) taken

-- whether the read has ended: by such a reply, or because both rounds are complete
abbrev pub has_ended : List Key → List Message → Bool
has_ended keys taken = any_last taken taken || (round_one_complete keys taken && round_two_complete keys taken)

-- whether a reply is to one of the read's calls: to one of its keys, or once round one is complete to a late key by
-- the stamp that it is asked for
abbrev pub is_of_read : List Key → List Message → Call → Option Reply → Bool
is_of_read keys taken (Get key None) (Some (ToGet reply)) = contains_key keys key
is_of_read keys taken (Get key (Some stamp)) (Some (ToGet reply)) =
    round_one_complete keys taken && (contains_key (late_keys keys taken) key && (stamp == needed keys taken key))
is_of_read keys taken call reply = false

-- the first reply to each call of a read that has not ended
abbrev pub is_wanted : List Key → List Message → Message → Bool
is_wanted keys taken message =
    not (has_ended keys taken)
    && (is_of_read keys taken message.call message.reply && not (is_answered taken message.partition message.call))

-- what the read does once the message is offered to it; None where it is ignored. `tells`: how the answer is reported
abbrev pub read_answer : Setup → List Key → (List Reading → Move) → List Message → Message → Option Move
read_answer setup keys tells taken message =
    cond (is_wanted keys taken message)
    (Some (read_move setup keys (taken ++ message ∷ []) tells message.call message.reply)) None

-- the replies that were then taken, in order
abbrev pub taken_with : List Key → List Message → Message → List Message
taken_with keys taken message = cond (is_wanted keys taken message) (taken ++ message ∷ []) taken

-- the replies that are taken of those that are offered, in order
abbrev pub taken_of : List Key → List Message → List Message → List Message
taken_of keys taken [] = taken
taken_of keys taken (message ∷ offered) = taken_of keys (taken_with keys taken message) offered

-- the message is this reply to the key's GET of the latest version
pub record IsFirst (key : Key) (reply : ReadReply) (message : Message) : Type 0 where
  pub call : message.call ≡ Get key None
  pub replied : message.reply ≡ Some (ToGet reply)

-- the message is this reply to the key's GET of the version that is needed
pub record IsSecond (keys : List Key) (taken : List Message) (key : Key) (reply : ReadReply) (message : Message)
    : Type 0 where
  pub call : message.call ≡ Get key (Some (needed keys taken key))
  pub replied : message.reply ≡ Some (ToGet reply)

-- the stamp that is read at the key
abbrev pub stamp_read : List Key → List Message → Key → Stamp
stamp_read keys replies key = (reading_of key (version_read keys replies key)).stamp

-- Where the record that is read at one key has another key in its write set, what is read at that one is no older.
abbrev pub IsUnfractured : List Key → List Message → Type 0
IsUnfractured keys replies =
    (one other : Key) (version : Record) → one ∈ keys → other ∈ keys → version_read keys replies one ≡ Some version
    → contains_key version.writes other ≡ true
    → version.stamp ≤ stamp_read keys replies other

-- what is reported of a whole read is what the replies showed, unfractured
pub record ReadsWhole (keys : List Key) (replies : List Message) (told : List Reading) : Type 0 where
  pub shown : told ≡ readings keys replies
  pub unfractured : IsUnfractured keys replies

-- Whatever replies were offered to a read of whatever keys, true or false and in whatever order: what it reads once
-- it is whole is unfractured.
abbrev pub ReadsAreUnfractured : Type 0
ReadsAreUnfractured =
    (setup : Setup) (keys : List Key) (offered : List Message) (message : Message) (told : List Reading)
    → read_answer setup keys Reads (taken_of keys [] offered) message ≡ Some (Reads told)
    → ReadsWhole keys (taken_of keys [] offered ++ message ∷ []) told
