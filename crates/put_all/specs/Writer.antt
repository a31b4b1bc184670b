-- What a writer stands for.
use Rattle.std.specs.Prelude.{◌≡◌, ℕ, List, [], Bool, true, false, ◌||◌, ◌==◌, map, length, cond, Option, Some, None}
use Rattle.std.specs.List.{list_any, list_all}
use Rattle.stamps.specs.declared.record.Item.{Item}
use Rattle.plain_store.specs.declared.calls.Call.{Call}
use Rattle.plain_store.specs.declared.calls.Call.TheVariants.{Prepare, Commit}
use Rattle.plain_store.specs.declared.calls.Reply.{Reply}
use Rattle.plain_store.specs.declared.calls.Reply.TheVariants.{Prepare as ToPrepare, Committed as ToCommit}
use Rattle.plain_store.specs.declared.message.Message.{Message}
use Rattle.plain_store.specs.declared.refusal.Refusal.{Refusal}
use Rattle.plain_store.specs.declared.refusal.Refusal.TheVariants.{FullSlots as NoSlot, FullItems as NoItem}
use Rattle.plain_store.specs.Words.{Stamp, Setup, home}
use Rattle.plain_store.specs.Writing.{Outgoing, says_prepared, says_committed, commit_calls}
use Rattle.plain_store.specs.Writing.{discard_calls}
use Rattle.plain_store.specs.Moves.{Move, Waits, Decides, Finishes, Fails}
use Rattle.put_all.specs.Writing.{has_ended, write_answer, taken_with}
use Rattle.put_all.specs.declared.write_progress.ItemProgress.{ItemProgress}
use Rattle.put_all.specs.declared.writer.Writer.{Writer}
use Rattle.put_all.specs.declared.writer.WriteMove.{WriteMove}
use Rattle.put_all.specs.declared.writer.WriteMove.TheVariants.{Wait, Decide, Done, Refused, Ignored}

-- the calls with which a refused write ends: DISCARDs where there was no room, and none else
abbrev pub ending_calls : Setup → Stamp → List Item → Refusal → List Outgoing
ending_calls setup stamp items NoSlot = discard_calls setup stamp items
ending_calls setup stamp items NoItem = discard_calls setup stamp items
ending_calls setup stamp items refusal = []

-- the move that a writer's answer reports, None where the reply is ignored
abbrev pub told : Setup → Stamp → List Item → WriteMove → Option Move
told setup stamp items Wait = Some Waits
told setup stamp items Decide = Some (Decides stamp (commit_calls setup stamp items))
told setup stamp items (Done s) = Some (Finishes s)
told setup stamp items (Refused refusal) = Some (Fails refusal (ending_calls setup stamp items refusal))
told setup stamp items Ignored = None

-- whether a message is a reply to a PREPARE or a COMMIT of the stamp
abbrev pub is_reply_of_put : Stamp → Call → Option Reply → Bool
is_reply_of_put stamp (Prepare version) (Some (ToPrepare reply)) = version.stamp == stamp
is_reply_of_put stamp (Commit s) (Some (ToCommit count)) = s == stamp
is_reply_of_put stamp call reply = false

-- an item, and what the replies say of it
abbrev pub place_after : Setup → Stamp → List Message → Item → ItemProgress
place_after setup stamp taken item = record {
  key = item.key;
  home = home setup item.key;
  is_prepared = list_any (λ message. says_prepared stamp item.key message.call message.reply) taken;
  is_committed =
      list_any (λ message. says_committed stamp
      (home setup item.key) message.partition message.call message.reply) taken;
}

-- a writer of these items which took these replies, in order, and no others
pub record StandsFor (setup : Setup) (stamp : Stamp) (items : List Item) (writer : Writer) (taken : List Message)
    : Type 0 where
  pub stamped : writer.stamp ≡ stamp
  pub parts : writer.parts ≡ setup.partitions
  pub places : writer.places ≡ map (place_after setup stamp taken) items
  pub ended : writer.has_ended ≡ has_ended setup stamp items taken
  pub replies : list_all (λ message. is_reply_of_put stamp message.call message.reply) taken ≡ true

-- whether an answer ends the write
abbrev pub is_last : WriteMove → Bool
is_last Wait = false
is_last Decide = false
is_last (Done stamp) = true
is_last (Refused refusal) = true
is_last Ignored = false

-- it takes the message as the write does, or ignores it
pub record TakesWrite (setup : Setup) (stamp : Stamp) (items : List Item) (taken : List Message) (message : Message)
    (answer : WriteMove) (after : Writer) : Type 0 where
  pub answered : told setup stamp items answer ≡ write_answer setup stamp items taken message
  pub stands : StandsFor setup stamp items after (taken_with setup stamp items taken message)
  pub last : has_ended setup stamp items (taken_with setup stamp items taken message)
      ≡ (has_ended setup stamp items taken || is_last answer)

-- ---- the calls to come

-- How many calls a writer may still ask for: until each item is prepared one to each home of its items, a COMMIT or a
-- DISCARD, and no more than there are items. Then, and once the write has ended, none.
abbrev pub calls_left : Writer → ℕ
calls_left writer =
    cond (writer.has_ended || list_all (λ place. place.is_prepared) writer.places) 0 (length writer.places)

-- how many an answer of this writer asks for at most
abbrev pub calls_asked : WriteMove → Writer → ℕ
calls_asked Wait writer = 0
calls_asked Decide writer = length writer.places
calls_asked (Done stamp) writer = 0
calls_asked (Refused refusal) writer = length writer.places
calls_asked Ignored writer = 0
