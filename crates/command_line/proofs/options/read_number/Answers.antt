use Rattle.std.proofs.Common.{ℕ, List, Result}
use Rattle.std.specs.Str.Parse.{ParsesUnsigned, ExplainsUnsignedError, HasUnsignedDigitsIfOk}
use Rattle.std.specs.declared.num.ParseIntError.{ParseIntError}
use Rattle.clap.specs.Words.{found_of}
use Rattle.command_line.proofs.WordsRead.{IsReadBy, read_number, read_none}
use Rattle.command_line.proofs.options.read_number.Goals as goal

abbrev gives : List ℕ → Result ℕ ParseIntError → Type 0
gives text r = ParsesUnsigned 32 10 text r × ExplainsUnsignedError 10 text r × HasUnsignedDigitsIfOk text r

is_read : (c : goal.After-get_one) → IsReadBy gives (found_of c.args.matches.now) c.args.name.now c.get_one.result
is_read c = record { none = c.get_one.ensures.none; value = c.get_one.ensures.value; parses = λ text r h. h.0 }

pub returns-clause-number : goal.returns-clause-number
returns-clause-number c = read_number gives (found_of c.args.matches.now) c.args.name.now c.get_one.result (is_read c)

pub returns-clause-none : goal.returns-clause-none
returns-clause-none c = read_none gives (found_of c.args.matches.now) c.args.name.now c.get_one.result (is_read c)
