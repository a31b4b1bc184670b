-- The exit status of a program.
use Rattle.std.specs.Prelude.{◌≡◌, ◌⊎◌, ℕ, Result, Ok, Err}
use Rattle.line_runs.specs.declared.fault.RunFault.{RunFault}
use Rattle.line_runs.specs.declared.fault.RunFault.TheVariants.{Read, ReadsUsed, Write, OutOfMemory as NoMemory}
use Rattle.line_runs.specs.declared.fault.ProgramFault.{ProgramFault}
use Rattle.line_runs.specs.declared.fault.ProgramFault.TheVariants.{LineTooLong, Cut, Settle, Options}
use Rattle.line_runs.specs.declared.fault.ProgramFault.TheVariants.{OutOfMemory, Device}

abbrev pub status_of : ProgramFault → ℕ
status_of LineTooLong = 1
status_of Cut = 1
status_of Settle = 1
status_of Options = 2
status_of OutOfMemory = 3
status_of Device = 4

-- the exit status of a program that ended so
abbrev pub exit_status : Result (Unit {0}) ProgramFault → ℕ
exit_status (Ok done) = 0
exit_status (Err fault) = status_of fault

-- the program's fault where a run failed so
abbrev pub fault_of_run : RunFault → ProgramFault
fault_of_run Read = Device
fault_of_run ReadsUsed = Device
fault_of_run Write = Device
fault_of_run NoMemory = OutOfMemory

-- the exit status of a program that was asked for help: 0, or that of an allocation failure or of a device
abbrev pub IsHelpStatus : ℕ → Type 0
IsHelpStatus status = (status ≡ 0) ⊎ ((status ≡ status_of OutOfMemory) ⊎ (status ≡ status_of Device))
