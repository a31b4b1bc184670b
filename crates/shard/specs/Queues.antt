-- The queues of tasks.
use Rattle.std.specs.Prelude.{ℕ}

-- what contracts see of an end of a queue: how many tasks the queue has room for, and how many this end sent or took
pub record QueueEnd : Type 0 where
  pub capacity : ℕ
  pub count : ℕ

-- another end of the same queue, which has sent nothing
abbrev pub unsent : QueueEnd → QueueEnd
unsent queue = record queue { count = 0 }
