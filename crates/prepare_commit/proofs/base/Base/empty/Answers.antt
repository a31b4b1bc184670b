use Rattle.std.proofs.Common.{All}
use Rattle.std.proofs.lemmas.List.Elements.{All-nil}
use Rattle.prepare_commit.specs.Begun.{Holding}
use Rattle.prepare_commit.specs.Layout.{IsVersionOf}
use Rattle.prepare_commit.proofs.Freezing.{empty_is_base}
use Rattle.prepare_commit.proofs.base.Base.empty.Goals as goal

pub invariant_of-result : goal.invariant_of-result
invariant_of-result c =
    rw (c.nothing.ensures, c.new.ensures.items) (All-nil (λ (h : Holding). All (IsVersionOf h.entry.key) h.versions), empty_is_base (record { slots = c.args.slots; items = c.args.items; clients = c.args.clients }))
