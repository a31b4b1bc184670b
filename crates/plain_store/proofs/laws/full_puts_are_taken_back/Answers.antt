use Rattle.plain_store.proofs.TakenBack.{taken_back}
use Rattle.plain_store.proofs.laws.full_puts_are_taken_back.Goals as goal

pub returns : goal.returns
returns c = taken_back
