use Rattle.get_all.proofs.Law.{reads_unfractured}
use Rattle.get_all.proofs.reads_are_unfractured.Goals as goal

pub returns : goal.returns
returns c = reads_unfractured
