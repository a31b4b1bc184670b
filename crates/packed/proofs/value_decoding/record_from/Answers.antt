use Rattle.stamps.proofs.MakingLemmas.{record_from-read}
use Rattle.packed.proofs.value_decoding.record_from.Goals as goal

pub returns : goal.returns
returns c = record_from-read c.args.key c.args.tag c.args.value c.args.stamp c.args.writes c.new.result c.new.ensures.exact c.new.ensures.value
