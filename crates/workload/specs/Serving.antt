-- What a server reports about itself, and what one did that the words ask for.
use Rattle.std.specs.Prelude.{◌≡◌, ◌⊎◌, ℕ, ◌<◌, ◌≤◌, ◌^◌, ◌++◌, length, List, Option, None, Some, Result, Ok, Err, OnOk}
use Rattle.std.specs.Prelude.{Bool, IsTrue, ◌&&◌, codes, cond, decimal, false, true, if◌then◌else◌, map, nat_eq, nat_lt, not, take}
use Rattle.std.specs.Io.KnownBytes.{Appends, Keeps}
use Rattle.stamps.specs.Bounds.{IsParts}
use Rattle.stamps.specs.declared.bounds.Limits.{Limits}
use Rattle.hub.specs.Hubs.{ConfigView}
use Rattle.closed_store.specs.declared.closed.Closed.{Closed}
use Rattle.line_protocol.specs.Stream.{terminated}
use Rattle.line_runs.specs.Statuses.{status_of}
use Rattle.line_runs.specs.declared.fault.ProgramFault.{ProgramFault}
use Rattle.line_runs.specs.declared.fault.ProgramFault.TheVariants.{LineTooLong, Cut, Settle, Options}
use Rattle.line_runs.specs.declared.fault.ProgramFault.TheVariants.{OutOfMemory, Device}
use Rattle.command_line.specs.declared.options.StoreOptions.{StoreOptions}
use Rattle.command_line.specs.declared.server_options.ServerOptions.{ServerOptions}
use Rattle.server_verdicts.specs.declared.epochs.ending.LastEpochs.{LastEpochs}
use Rattle.workload.specs.declared.serve.StoreLeft.{StoreLeft}
use Rattle.workload.specs.declared.serve.StoreLeft.TheVariants.{Whole, Endings}
use Rattle.server_verdicts.specs.Judged.{AreLeft, TellsChecks}
use Rattle.server_verdicts.specs.Verdicts.{TellsVerdicts}
use Rattle.command_line.specs.Words.{AreTenants, AsksForServer}
use Rattle.server_sessions.specs.Places.{failed_in, refused_in}
use Rattle.server_sessions.specs.Ports.{IsPortFor}
use Rattle.server_sessions.specs.declared.served.ServerFaults.{ServerFaults}
use Rattle.server_sessions.specs.declared.session_options.SessionOptions.{SessionOptions}
use Rattle.load.specs.Stores.{IsClosed}
use Rattle.workload.specs.Amounts.{TellsAmounts}
use Rattle.workload.specs.Unrecorded.{TellsServed}

-- the line that reports at which port a server listens
abbrev pub listening_line : ℕ → List ℕ
listening_line port = terminated (codes "listening " ++ decimal port)

-- What a server wrote of its port that went so: the line of a port; where an allocation failed, nothing; where a device
-- failed, a beginning of that line, which may be none or all of it. It goes in no other way.
abbrev pub HasListened : Option (List ℕ) → Option (List ℕ) → Result (Unit {0}) ProgramFault → Type 0
HasListened old new (Ok done) = (port : ℕ) × (port < 2 ^ 16) × Appends old new (listening_line port)
HasListened old new (Err LineTooLong) = ⊥
HasListened old new (Err Cut) = ⊥
HasListened old new (Err Settle) = ⊥
HasListened old new (Err Options) = ⊥
HasListened old new (Err OutOfMemory) = Keeps old new
HasListened old new (Err Device) =
    (port : ℕ) × (port < 2 ^ 16) × ((n : ℕ) × Appends old new (take n (listening_line port)))

-- where a server told all verdicts, it had told this port before them
abbrev pub TellsPortFirst : ℕ → Option (List ℕ) → Option (List ℕ) → Result (Unit {0}) ProgramFault → Type 0
TellsPortFirst port old new (Ok done) = (rest : List ℕ) × Appends old new (listening_line port ++ rest)
TellsPortFirst port old new (Err Settle) = (rest : List ℕ) × Appends old new (listening_line port ++ rest)
TellsPortFirst port old new (Err LineTooLong) = Unit {0}
TellsPortFirst port old new (Err Cut) = Unit {0}
TellsPortFirst port old new (Err Options) = Unit {0}
TellsPortFirst port old new (Err OutOfMemory) = Unit {0}
TellsPortFirst port old new (Err Device) = Unit {0}

-- the port is the one that was asked for, or any where 0 was
abbrev pub TellsPortFor : ℕ → Option (List ℕ) → Option (List ℕ) → Result (Unit {0}) ProgramFault → Type 0
TellsPortFor asked old new ended = (port : ℕ) × IsPortFor asked port × TellsPortFirst port old new ended

-- What a server whose epochs were checked told of its tenants: nothing, where an allocation failed; or, of what was left
-- of their journals in the store that it closed, that it is right with some epochs before it, or that an epoch is not.
abbrev pub HasChecked : ConfigView → Closed → List (List ℕ) → Option (List ℕ) → Option (List ℕ)
    → Result (Unit {0}) ProgramFault → Type 0
HasChecked view closed names old new ended =
    ((ended ≡ Err OutOfMemory) × Keeps old new)
    ⊎ ((endings : LastEpochs) × (endings.limits.items ≡ view.limits) × (length endings.rows.items ≡ view.parts)
    × AreLeft closed.journals.items endings.rows.items × TellsChecks endings names old new ended)

-- these names are the ones that are asked for, and so are a session's options
pub record IsAskedFor (names : List (List ℕ)) (options : ServerOptions) (its : List (List ℕ)) (manner : SessionOptions) : Type 0 where
  pub tenants : its ≡ names
  pub strict : manner.strict ≡ options.strict
  pub newest : manner.newest ≡ options.newest

-- what may have kept a server from some of its connections: nothing, an allocation failure or a device
abbrev pub IsFaultBefore : Result (Unit {0}) ProgramFault → Type 0
IsFaultBefore (Ok done) = Unit {0}
IsFaultBefore (Err LineTooLong) = ⊥
IsFaultBefore (Err Cut) = ⊥
IsFaultBefore (Err Settle) = ⊥
IsFaultBefore (Err Options) = ⊥
IsFaultBefore (Err OutOfMemory) = Unit {0}
IsFaultBefore (Err Device) = Unit {0}

-- Of two faults the greater is reported, which is the one of the lower status: answers that were not right come before an
-- allocation failure, and that before a device.
abbrev pub greater_fault : Result (Unit {0}) ProgramFault → Result (Unit {0}) ProgramFault
    → Result (Unit {0}) ProgramFault
greater_fault (Ok done) told = told
greater_fault (Err before) (Ok done) = Err before
greater_fault (Err before) (Err told) = if nat_lt (status_of told) (status_of before) then Err told else Err before

-- what kept a server from some connections, as it is reported: an allocation failure comes before a device
abbrev pub fault_before : ServerFaults → Result (Unit {0}) ProgramFault
fault_before faults = cond (refused_in faults) (Err OutOfMemory) (cond (failed_in faults) (Err Device) (Ok tt))

-- all verdicts were reported that came to this
abbrev pub is_told : Result (Unit {0}) ProgramFault → Bool
is_told (Ok done) = true
is_told (Err Settle) = true
is_told (Err LineTooLong) = false
is_told (Err Cut) = false
is_told (Err Options) = false
is_told (Err OutOfMemory) = false
is_told (Err Device) = false

-- What stands behind lines that came to `told`, and what both came to: what is reported there, and the greater fault; or nothing.
abbrev pub ComesBehind : Bool → (Option (List ℕ) → Option (List ℕ) → Result (Unit {0}) ProgramFault → Type 0)
    → Option (List ℕ) → Option (List ℕ) → Result (Unit {0}) ProgramFault → Result (Unit {0}) ProgramFault → Type 0
ComesBehind true Tells old new told came =
    (counted : Result (Unit {0}) ProgramFault) × Tells old new counted × (came ≡ greater_fault told counted)
ComesBehind false Tells old new told came = (new ≡ old) × (came ≡ told)

-- What a server wrote that closed its store: the line of a port, and then the verdicts over what the close answered,
-- or, where its journals were cut, those over what was left of them; or, where it records nothing, how many lines of each
-- tenant it answered. It told them also where an allocation failed to a connection or a device failed before. Where counts are
-- asked for and all verdicts were reported, whether yes or no, it reported behind them of how much of what the close answered they are.
-- What the close answered is of the store that is meant, and what kept the server from some connections is what is meant, unless an
-- allocation failed before any of these lines.
pub record HasClosed (IsMeant : Closed → Result (Unit {0}) ProgramFault → Type 0) (unrecorded counts : Bool) (view : ConfigView) (names : List (List ℕ)) (old new : Option (List ℕ))
    (ended : Result (Unit {0}) ProgramFault) : Type 0 where
  pub between : Option (List ℕ)
  pub listened : HasListened old between (Ok tt)
  pub closed : Closed
  pub opened : IsClosed view closed
  pub behind : Option (List ℕ)
  pub told : Result (Unit {0}) ProgramFault
  pub before : Result (Unit {0}) ProgramFault
  pub may_be : IsFaultBefore before
  pub meant : IsMeant closed before ⊎ ((told ≡ Err OutOfMemory) × Keeps between behind)
  pub verdicts : unrecorded ≡ false → view.epoch ≡ 0 → TellsVerdicts closed names between behind told
  pub checks : unrecorded ≡ false → 0 < view.epoch → HasChecked view closed names between behind told
  pub served : IsTrue unrecorded → TellsServed (length view.limits) names between behind told
  pub came : Result (Unit {0}) ProgramFault
  pub amounts : ComesBehind (not unrecorded && is_told told && counts)
      (TellsAmounts (nat_eq view.epoch 0) closed names) behind new told came
  pub ends : ended ≡ greater_fault before came

-- What a server of such a store wrote that ended so, whether it served so many connections or stayed until its input
-- ended: its port and all verdicts, which are all yes where it ended well, and not all where it ended with Settle; one that
-- records nothing has its counts in their place, and never ends with Settle.
-- Where an allocation failed, it told its port at most, or its port and some verdicts: all, where it was refused to a
-- connection alone. Where a device failed, it told a beginning of the line of its port, or its port and the verdicts:
-- all, unless that device was the one that takes them. It ends in no other way.
abbrev pub HasServedOf : (Closed → Result (Unit {0}) ProgramFault → Type 0) → Bool → Bool → ConfigView → List (List ℕ) → Option (List ℕ) → Option (List ℕ)
    → Result (Unit {0}) ProgramFault → Type 0
HasServedOf IsMeant unrecorded counts view names old new (Ok done) = HasClosed IsMeant unrecorded counts view names old new (Ok done)
HasServedOf IsMeant unrecorded counts view names old new (Err fault) =
    HasListened old new (Err fault) ⊎ HasClosed IsMeant unrecorded counts view names old new (Err fault)

-- the same of some store that was closed
abbrev pub HasServed : Bool → Bool → ConfigView → List (List ℕ) → Option (List ℕ) → Option (List ℕ)
    → Result (Unit {0}) ProgramFault → Type 0
HasServed unrecorded counts view names old new ended = HasServedOf (λ closed before. Unit {0}) unrecorded counts view names old new ended

-- What was left, as it is returned, is of the store that was closed: all of it, or, where journals are cut, what was left of them. What kept
-- the server from some connections is what is returned too.
abbrev pub IsLeftIn : {J : Type 0} → Option (StoreLeft J) → Closed → Result (Unit {0}) ProgramFault → Type 0
IsLeftIn None closed before = ⊥
IsLeftIn (Some (Whole its faults)) closed before = (its ≡ closed) × (before ≡ fault_before faults)
IsLeftIn (Some (Endings endings faults)) closed before =
    AreLeft closed.journals.items endings.rows.items × (before ≡ fault_before faults)

-- A store of so many partitions and a tenant of these limits for each name. As many calls may wait at a partition, and
-- it is collected after so many. It keeps journals, and one is cut after so many events, or never.
abbrev pub store_view : ℕ → Limits → List (List ℕ) → ℕ → ℕ → ℕ → ConfigView
store_view parts limits names queue every epoch =
    record { parts = parts; limits = map (λ name. limits) names; queue = queue; every = every; epoch = epoch; journals = true }

-- After how many events a journal of such a server is cut. One that records nothing has no journal, and seats that are as where one is
-- cut.
abbrev pub server_epoch : ServerOptions → ℕ
server_epoch options = if options.unrecorded then 1 else options.epoch

-- that of a server with these options, which keeps journals unless it records nothing
abbrev pub server_view : ℕ → Limits → List (List ℕ) → ServerOptions → ConfigView
server_view parts limits names options =
    record (store_view parts limits names options.queue options.every (server_epoch options)) { journals = not options.unrecorded }

-- the words ask for a server, which ended so
abbrev pub RunsServer : List (List ℕ) → Option (List ℕ) → Option (List ℕ) → Result (Unit {0}) ProgramFault → Type 0
RunsServer words old new ended =
    (parts : ℕ) × (limits : Limits) × (names : List (List ℕ)) × (options : ServerOptions)
    × AsksForServer words parts limits names options
    × HasServed options.unrecorded options.counts
    (server_view parts limits names options) names old new ended
    × TellsPortFor options.port old new ended

-- the server wrote so, and told a port as is asked
pub record ServesAndTells (unrecorded counts : Bool) (view : ConfigView) (names : List (List ℕ))
    (TellsPort : Option (List ℕ) → Option (List ℕ) → Result (Unit {0}) ProgramFault → Type 0)
    (old new : Option (List ℕ)) (ended : Result (Unit {0}) ProgramFault) : Type 0 where
  pub served : HasServed unrecorded counts view names old new ended
  pub port : TellsPort old new ended

-- what was written of this port went so
pub record TellsOfPort (number : ℕ) (old new : Option (List ℕ)) (told : Result (Unit {0}) ProgramFault) : Type 0 where
  pub listened : HasListened old new told
  pub port : OnOk told (Appends old new (listening_line number))

-- ---- what the words ask for

-- a store has some partitions, and tenants that are named once each
pub record IsAskedStore (store : StoreOptions) : Type 0 where
  pub parts : IsParts store.parts
  pub tenants : AreTenants store.names.items

-- how many calls may wait at a partition, after how many it is collected, and after how many events a journal is cut
pub record IsPace (queue every epoch : ℕ) : Type 0 where
  pub some_room : 0 < queue
  pub little_room : queue ≤ 1024
  pub some_calls : 0 < every
  pub few_calls : every ≤ 65536
  pub few_events : epoch ≤ 1048576
