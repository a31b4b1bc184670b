use Rattle.command_line.proofs.WordsRead.{program_version}
use Rattle.command_line.proofs.parsed_words.version_is_asked_for.Goals as goal

pub returns : goal.returns
returns c = program_version
