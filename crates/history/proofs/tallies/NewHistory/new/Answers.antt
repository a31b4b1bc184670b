use Rattle.history.proofs.Steps.{opened_kept}
use Rattle.history.proofs.tallies.NewHistory.new.Goals as goal

pub open_row-seen-requires : goal.open_row-seen-requires
open_row-seen-requires c = (opened_kept (record { parts = c.args.parts; limits = c.args.limits.now }), (λ _. tt), c.alone.ensures.1)
