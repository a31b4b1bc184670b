-- What a cell that stood for some log stands for after a call: for `Replica::serve`.
use Rattle.std.proofs.Common.{◌≡◌, ◌∷◌, Option, Some, None, sym, subst}
use Rattle.std.specs.Prelude.{IsSomeAnd}
use Rattle.plain_store.specs.Log.{Log}
use Rattle.plain_store.specs.Replies.{IsSound, reply_after}
use Rattle.plain_store.specs.Words.{Room}
use Rattle.plain_store.specs.declared.calls.Call.{Call}
use Rattle.plain_store.specs.declared.calls.Reply.{Reply}
use Rattle.version_chain.specs.Chain.{Cells}
use Rattle.prepare_commit.specs.InBlock.{Parts, content_in}
use Rattle.prepare_commit.specs.Serving.{StandsFor, Serves}
use Rattle.prepare_commit.specs.Bases.{Leaves, HasStood, base_of}
use Rattle.prepare_commit.proofs.Standing.{one_content}

-- a log that the cell stands for leaves what it holds
leaves_of : (block : Cells) (cell : Parts) (log : Log) → StandsFor (content_in block cell) log → Leaves (base_of block cell) log
leaves_of block cell log s = record { versions = s.versions; entries = s.entries; marks = s.marks; clients = s.clients }

-- and each log that leaves it is one that it stands for
stands_of : (block : Cells) (cell : Parts) (log : Log) → HasStood block cell → Leaves (base_of block cell) log → StandsFor (content_in block cell) log
stands_of block cell log stood l = one_content (content_in block cell) (base_of block cell) stood.0 log stood.2 (leaves_of block cell stood.0 stood.2) l

module _ (block new_block : Cells) (cell new : Parts) (call : Call) (stood : HasStood block cell) where
  pub has_stood : (reply : Option Reply) → IsSomeAnd reply (λ told. Serves (content_in block cell) (content_in new_block new) call told) → HasStood new_block new
  has_stood None serves = absurd serves
  has_stood (Some told) serves = (
    record { call = call; reply = told } ∷ stood.0,
    subst (λ (room : Room). IsSound room (record { call = call; reply = told } ∷ stood.0)) (sym serves.room) (serves.reply stood.0 stood.2, stood.1),
    serves.history stood.0 stood.2,
  )

  pub told_after : (reply : Option Reply) → IsSomeAnd reply (λ told. Serves (content_in block cell) (content_in new_block new) call told)
      → IsSomeAnd reply (λ told. (log : Log) → Leaves (base_of block cell) log → told ≡ reply_after cell.room log call)
  told_after None serves = serves
  told_after (Some told) serves = λ log l. serves.reply log (stands_of block cell log stood l)

  pub left_after : (reply : Option Reply) → IsSomeAnd reply (λ told. Serves (content_in block cell) (content_in new_block new) call told)
      → IsSomeAnd reply (λ told. (log : Log) → Leaves (base_of block cell) log → Leaves (base_of new_block new) (record { call = call; reply = told } ∷ log))
  left_after None serves = serves
  left_after (Some told) serves = λ log l. leaves_of new_block new (record { call = call; reply = told } ∷ log) (serves.history log (stands_of block cell log stood l))
