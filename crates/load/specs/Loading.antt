-- What a load reports.
use Rattle.std.specs.Prelude.{◌≡◌, ◌+◌, ◌<◌, ◌⊎◌, ◌-◌, ℕ, List, [], Option, Some, Result, Ok, Err, false, codes, length, map}
use Rattle.std.specs.Prelude.{IsPermutation}
use Rattle.std.specs.List.{range_with_len}
use Rattle.std.specs.Io.KnownBytes.{Keeps}
use Rattle.hub.specs.Hubs.{ConfigView}
use Rattle.closed_store.specs.declared.closed.Closed.{Closed}
use Rattle.closed_store.specs.declared.transcript.Transcript.{Transcript}
use Rattle.closed_store.specs.Joins.{AllRise, AreJoined, AreKnown, NoneRise, given_for, journal_at}
use Rattle.closed_store.specs.Filling.{AreFilled}
use Rattle.closed_store.specs.declared.join.joining.JoinFault.{JoinFault}
use Rattle.closed_store.specs.declared.join.joining.JoinFault.TheVariants.{Base, Numbers, OutOfMemory as NoMemory}
use Rattle.partition.specs.declared.journal.Epoch.{Epoch}
use Rattle.partition.specs.declared.journal.Journal.{Journal}
use Rattle.line_runs.specs.declared.fault.ProgramFault.{ProgramFault}
use Rattle.line_runs.specs.declared.fault.ProgramFault.TheVariants.{OutOfMemory, Device}
use Rattle.server_verdicts.specs.Begun.{told_count}
use Rattle.server_verdicts.specs.Verdicts.{TellsBegun, TellsEach, TellsVerdicts}
use Rattle.load.specs.declared.tally.Begun.{Begun}
use Rattle.load.specs.Rounds.{AreOfSeats, seats_of}
use Rattle.load.specs.Stores.{IsClosed}

-- What a load wrote of one store that was closed: how many operations its tenants' seats began, and then the verdicts
-- over the same store.
pub record TellsLoad (closed : Closed) (names : List (List ℕ)) (old new : Option (List ℕ))
    (ended : Result (Unit {0}) ProgramFault) : Type 0 where
  pub between : Option (List ℕ)
  pub counts : TellsBegun closed names old between (Ok tt)
  pub verdicts : TellsVerdicts closed names between new ended

-- What was reported of one load that ended so: its counts and all verdicts, which are all yes where it ended well, and not
-- all where it ended with Settle. Where an allocation failed or a device failed, it told some counts, or all and some
-- verdicts. It ends in no other way.
abbrev pub IsToldOfLoad : Closed → List (List ℕ) → Option (List ℕ) → Option (List ℕ)
    → Result (Unit {0}) ProgramFault → Type 0
IsToldOfLoad closed names old new (Ok done) = TellsLoad closed names old new (Ok done)
IsToldOfLoad closed names old new (Err fault) =
    TellsBegun closed names old new (Err fault) ⊎ TellsLoad closed names old new (Err fault)

-- What these epochs, and what was left in a store that was closed, join to. The entries of its sessions stay: none were
-- returned before.
pub record IsJoinedTo (closed : Closed) (epochs : List (ℕ × ℕ × Epoch)) (joined : Closed) : Type 0 where
  pub config : joined.config ≡ closed.config
  pub journals : AreJoined closed.config.limits.items epochs closed.journals.items joined.journals.items
  pub rise : AllRise joined.journals.items
  pub transcripts : AreFilled [] closed.transcripts.items joined.transcripts.items

-- these epochs, and what was left in a store that was closed, join to nothing the numbers of whose seats rise
abbrev pub DoNotJoin : Closed → List (ℕ × ℕ × Epoch) → Type 0
DoNotJoin closed epochs = NoneRise closed.config.limits.items epochs closed.journals.items

-- what was reported of so many tenants, none of which is settled, and that ended so
abbrev pub TellsNone : ℕ → List (List ℕ) → Option (List ℕ) → Option (List ℕ)
    → Result (Unit {0}) ProgramFault → Type 0
TellsNone = TellsEach (λ tenant verdict. verdict ≡ false) (codes "settled ")

-- what a store that was closed answers where it is joined with these epochs
abbrev pub IsJoinAnswer : Closed → List (ℕ × ℕ × Epoch) → Result Closed JoinFault → Type 0
IsJoinAnswer closed epochs (Ok joined) = IsJoinedTo closed epochs joined
IsJoinAnswer closed epochs (Err Base) = DoNotJoin closed epochs
IsJoinAnswer closed epochs (Err Numbers) = DoNotJoin closed epochs
IsJoinAnswer closed epochs (Err NoMemory) = Unit {0}

-- What was reported of so many tenants of a store whose join with its epochs answered this: the verdicts over what they
-- join to; a no of each, where they do not join; or nothing, where the join found no memory.
abbrev pub TellsAnswer : ℕ → Result Closed JoinFault → List (List ℕ) → Option (List ℕ) → Option (List ℕ)
    → Result (Unit {0}) ProgramFault → Type 0
TellsAnswer tenants (Ok joined) names old new ended = TellsVerdicts joined names old new ended
TellsAnswer tenants (Err Base) names old new ended = TellsNone tenants names old new ended
TellsAnswer tenants (Err Numbers) names old new ended = TellsNone tenants names old new ended
TellsAnswer tenants (Err NoMemory) names old new ended = (ended ≡ Err OutOfMemory) × Keeps old new

-- What was reported of the tenants of a store that was closed and whose epochs these are: what the answer of their join
-- asks for.
abbrev pub TellsJoined : Closed → List (ℕ × ℕ × Epoch) → List (List ℕ) → Option (List ℕ) → Option (List ℕ)
    → Result (Unit {0}) ProgramFault → Type 0
TellsJoined closed epochs names old new ended =
    (answer : Result Closed JoinFault) × IsJoinAnswer closed epochs answer
    × TellsAnswer (length closed.config.limits.items) answer names old new ended

-- What a load wrote of one store that was closed and whose epochs these are: how many operations its tenants' seats
-- began, and then what was reported of its tenants.
pub record TellsKept (closed : Closed) (epochs : List (ℕ × ℕ × Epoch)) (names : List (List ℕ))
    (old new : Option (List ℕ)) (ended : Result (Unit {0}) ProgramFault) : Type 0 where
  pub between : Option (List ℕ)
  pub counts : TellsBegun closed names old between (Ok tt)
  pub verdicts : TellsJoined closed epochs names between new ended

-- What was reported of one load whose epochs these are, and that ended so: its counts and all verdicts; or, where memory
-- was refused or a device failed, some counts, or all and some verdicts. It ends in no other way.
abbrev pub IsToldOfKept : Closed → List (ℕ × ℕ × Epoch) → List (List ℕ) → Option (List ℕ) → Option (List ℕ)
    → Result (Unit {0}) ProgramFault → Type 0
IsToldOfKept closed epochs names old new (Ok done) = TellsKept closed epochs names old new (Ok done)
IsToldOfKept closed epochs names old new (Err fault) =
    TellsBegun closed names old new (Err fault) ⊎ TellsKept closed epochs names old new (Err fault)

-- the epochs of one journal are just those numbered below this, each once
abbrev pub AreAllBelow : ℕ → List Epoch → Type 0
AreAllBelow number given = IsPermutation (map (λ e. e.number) given) (range_with_len 1 (number - 1))

-- These are all epochs into which the journals of a store that was closed were cut: of each journal those numbered
-- below the one that is left in it, each once, and none of a journal that is not there.
pub record AreAllThere (closed : Closed) (epochs : List (ℕ × ℕ × Epoch)) : Type 0 where
  pub known : AreKnown epochs closed.journals.items
  pub each : (partition tenant : ℕ) (journal : Journal)
      → journal_at closed.journals.items partition tenant ≡ Some journal
      → AreAllBelow journal.number (given_for epochs partition tenant)

-- what was reported of one load of a store: one that is cut after so many events, with epochs that are all there; or one
-- that is never cut, where this is 0
pub record IsToldOf (epoch : ℕ) (closed : Closed) (names : List (List ℕ)) (old new : Option (List ℕ))
    (ended : Result (Unit {0}) ProgramFault) : Type 0 where
  pub whole : epoch ≡ 0 → IsToldOfLoad closed names old new ended
  pub cut : 0 < epoch
      → (epochs : List (ℕ × ℕ × Epoch)) × AreAllThere closed epochs × IsToldOfKept closed epochs names old new ended

-- nothing was written, since an allocation failed or a thread could not be started
abbrev pub TellsNothing : Option (List ℕ) → Option (List ℕ) → Result (Unit {0}) ProgramFault → Type 0
TellsNothing old new ended = ((ended ≡ Err OutOfMemory) ⊎ (ended ≡ Err Device)) × Keeps old new

-- How many clients of each tenant a load has, how many rounds each does, what their draws begin with, and among how
-- many keys they draw.
pub record LoadView : Type 0 where
  pub seats : ℕ
  pub rounds : ℕ
  pub seed : ℕ
  pub keys : ℕ

-- the transcripts are those of the seats of a load that has so many tenants
abbrev pub AreOfLoad : LoadView → ℕ → List Transcript → Type 0
AreOfLoad load tenants = AreOfSeats load.seed load.rounds load.keys (seats_of tenants load.seats)

-- a load of a store that was opened so ended so, and told what it wrote of what the close of that store answered, with
-- the transcripts of the load's seats, or nothing
abbrev pub HasLoaded : ConfigView → LoadView → List (List ℕ) → Option (List ℕ) → Option (List ℕ)
    → Result (Unit {0}) ProgramFault → Type 0
HasLoaded view load names old new ended =
    TellsNothing old new ended
    ⊎ ((closed : Closed) × IsClosed view closed × AreOfLoad load (length view.limits) closed.transcripts.items
    × IsToldOf view.epoch closed names old new ended)

-- so many more were begun, up to the greatest number of each
pub record CountsMore (old : Begun) (more_puts more_gets more_finds : ℕ) (new : Begun) : Type 0 where
  pub puts : new.puts ≡ told_count (old.puts + more_puts)
  pub gets : new.gets ≡ told_count (old.gets + more_gets)
  pub finds : new.finds ≡ told_count (old.finds + more_finds)
