use Rattle.history.proofs.Committing.{commits_keys}
use Rattle.history.proofs.history_laws.commits_are_of_each_key.Goals as goal

pub returns : goal.returns
returns c log legal = commits_keys log legal
