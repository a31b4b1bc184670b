-- A call and its reply as an event keeps them.
use Rattle.std.specs.Prelude.{◌≡◌, refl}
use Rattle.plain_store.specs.declared.calls.Call.{Call}
use Rattle.plain_store.specs.declared.calls.Call.TheVariants.{Prepare, Commit, Get, Found, Collect, Discard}
use Rattle.plain_store.specs.declared.calls.Reply.{Reply}
use Rattle.plain_store.specs.declared.calls.Reply.TheVariants.{Prepare as ToPrepare, Committed as ToCommit}
use Rattle.plain_store.specs.declared.calls.Reply.TheVariants.{Get as ToGet, Found as ToFound, Freed as ToCollect}
use Rattle.plain_store.specs.declared.calls.Reply.TheVariants.{Discard as ToDiscard}
use Rattle.partition.specs.declared.journal.CallAndReply.{CallAndReply}
use Rattle.partition.specs.declared.journal.CallAndReply.TheVariants.{Prepare as Prepares, Commit as Commits, Get as Gets}
use Rattle.partition.specs.declared.journal.CallAndReply.TheVariants.{Found as Finds, Collect as Collects, Discard as Discards}

abbrev pub call_of : CallAndReply → Call
call_of (Prepares version reply) = Prepare version
call_of (Commits stamp count) = Commit stamp
call_of (Gets key stamp reply) = Get key stamp
call_of (Finds tag found) = Found tag
call_of (Collects keep count) = Collect keep
call_of (Discards stamp reply) = Discard stamp

abbrev pub reply_in_pair : CallAndReply → Reply
reply_in_pair (Prepares version reply) = ToPrepare reply
reply_in_pair (Commits stamp count) = ToCommit count
reply_in_pair (Gets key stamp reply) = ToGet reply
reply_in_pair (Finds tag found) = ToFound found
reply_in_pair (Collects keep count) = ToCollect count
reply_in_pair (Discards stamp reply) = ToDiscard reply

-- the call with its reply; where the reply is not one to such a call, any
abbrev pub pair_of : Call → Reply → CallAndReply
pair_of (Prepare version) (ToPrepare reply) = Prepares version reply
pair_of (Commit stamp) (ToCommit count) = Commits stamp count
pair_of (Get key stamp) (ToGet reply) = Gets key stamp reply
pair_of (Found tag) (ToFound found) = Finds tag found
pair_of (Collect keep) (ToCollect count) = Collects keep count
pair_of (Discard stamp) (ToDiscard reply) = Discards stamp reply
pair_of call reply = Commits 0 0

pub pair_of-parts : (both : CallAndReply) → pair_of (call_of both) (reply_in_pair both) ≡ both
pair_of-parts (Prepares version reply) = refl
pair_of-parts (Commits stamp count) = refl
pair_of-parts (Gets key stamp reply) = refl
pair_of-parts (Finds tag found) = refl
pair_of-parts (Collects keep count) = refl
pair_of-parts (Discards stamp reply) = refl
