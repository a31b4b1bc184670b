use Rattle.std.proofs.Common.{◌≡◌, map}
use Rattle.std.specs.VecDeque.{deque_len, deque_capacity}
use Rattle.shard.specs.Asked.{asked_by}
use Rattle.shard.specs.Counted.{NotesEvents, nothing_due}
use Rattle.shard.specs.Held.{StaysAt}
use Rattle.shard.specs.Rounds.{AreShort}
use Rattle.shard.proofs.Rounds.{ArePassed}
use Rattle.shard.proofs.shard.ShardState.serve_round.Given as goal

-- So far the journals are short if they were, and the same calls are there, with as much room. Those before this place were served or
-- left where they are for this partition. The events that came are counted, and what is due is noted.
abbrev pub invariant-loop-at : goal.invariant-loop-at
invariant-loop-at g l =
    (AreShort l.config.epoch l.fn.self.book.accounts → AreShort l.config.epoch l.self.book.accounts)
    × (deque_len l.calls ≡ deque_len l.fn.calls)
    × (deque_capacity l.calls ≡ deque_capacity l.fn.calls)
    × (map asked_by l.calls.items ≡ map asked_by l.fn.calls.items)
    × ArePassed l.fn.self.partition l.fn.self.parts l.calls.items l.at
    × StaysAt l.fn.self l.self
    × NotesEvents l.config.every l.config.epoch l.fn.self.book.accounts l.self.book.accounts l.fn.self.events l.self.events nothing_due l.follow_up
