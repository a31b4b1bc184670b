-- The replies of one cell to the calls that it gets.
use Rattle.std.specs.Prelude.{List, map, reverse}
use Rattle.plain_store.specs.Words.{Room, Call, Reply}
use Rattle.plain_store.specs.Log.{Exchange, Log}
use Rattle.plain_store.specs.Replies.{log_of}

-- the replies in a log, the first one first
abbrev pub replies_in : Log → List Reply
replies_in log = reverse (map (λ (e : Exchange). e.reply) log)

-- the replies to these calls, in their order: each is that after the log of the calls before it
abbrev pub cell_replies : Room → List Call → List Reply
cell_replies room calls = replies_in (log_of room (reverse calls))
