use Rattle.clap.specs.Words.{found_of}
use Rattle.command_line.proofs.WordsRead.{flag_read, no_flag_read}
use Rattle.command_line.proofs.options.read_flag.Goals as goal

pub returns-clause-flag : goal.returns-clause-flag
returns-clause-flag c = flag_read _ (found_of c.args.matches.now) c.args.name.now c.get_one.result c.get_one.ensures.none c.get_one.ensures.value

pub returns-clause-none : goal.returns-clause-none
returns-clause-none c = no_flag_read _ (found_of c.args.matches.now) c.args.name.now c.get_one.result c.get_one.ensures.none c.get_one.ensures.value
