use Rattle.command_line.proofs.WordsRead.{cell_help, load_help, program_help, serve_help, sim_help}
use Rattle.command_line.proofs.parsed_words.help_is_asked_for.Goals as goal

pub returns-clause-program : goal.returns-clause-program
returns-clause-program c = program_help

pub returns-clause-cell : goal.returns-clause-cell
returns-clause-cell c = cell_help

pub returns-clause-sim : goal.returns-clause-sim
returns-clause-sim c = sim_help

pub returns-clause-serve : goal.returns-clause-serve
returns-clause-serve c = serve_help

pub returns-clause-load : goal.returns-clause-load
returns-clause-load c = load_help
