use Rattle.stamps.proofs.MakingLemmas.{writes_from-read}
use Rattle.packed.proofs.value_decoding.writes_from.Goals as goal

pub returns : goal.returns
returns c = writes_from-read c.args.keys.now c.new.result c.requires c.new.ensures.exact c.new.ensures.value
