-- A client's running transaction, as contracts see it.
use Rattle.std.specs.Prelude.{ℕ, List}
use Rattle.plain_store.specs.Words.{Stamp}
use Rattle.plain_store.specs.Writing.{Outgoing}
use Rattle.put_all.specs.declared.writer.Writer.{Writer}
use Rattle.get_all.specs.declared.reader.Reader.{Reader}
use Rattle.get_all.specs.declared.tag_search.TagSearch.{TagSearch}
use Rattle.tenant_sessions.specs.declared.running.TransactionKind.{TransactionKind}
use Rattle.tenant_sessions.specs.declared.running.TransactionKind.TheVariants.{Put, Get, Find as Searching}

-- the machine that takes a transaction's replies: of a write of this stamp, of a read, and of a search with its reader
pub data Machine : Type 0 where
  Write : Stamp → Writer → Machine
  Read : Reader → Machine
  Find : TagSearch → Reader → Machine

-- the machine of what runs
abbrev pub machine_of : TransactionKind → Stamp → Writer → Reader → TagSearch → Machine
machine_of Put stamp writer reader search = Write stamp writer
machine_of Get stamp writer reader search = Read reader
machine_of Searching stamp writer reader search = Find search reader

-- a running transaction: its machine, the calls that it waits for, and how many partitions there are
pub record RunningMachine : Type 0 where
  pub machine : Machine
  pub waiting : List Outgoing
  pub parts : ℕ
