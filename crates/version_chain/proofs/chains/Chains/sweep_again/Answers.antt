use Rattle.std.proofs.Common.{sym, subst}
use Rattle.version_chain.specs.Heads.{Heads}
use Rattle.version_chain.specs.Listed.{Lists}
use Rattle.version_chain.proofs.Listing.{lists_swept, swept_at}
use Rattle.version_chain.proofs.chains.Chains.sweep_again.Goals as goal

pub returns-clause-run : goal.returns-clause-run
returns-clause-run c =
    let before : Heads = record { tenant = c.self.inside.tenant; share = c.self.inside.share; used = c.self.inside.used; heads = c.self.inside.slots.heads; latest = c.self.inside.slots.latest; kept = c.self.inside.kept.kept } in
    record {
      list = lists_swept c.args.block.now before c.sweep.new.self.kept c.sweep.ensures.swept (subst (λ (h : Heads). Lists c.args.block.now h) (sym c.self.view_is) c.requires);
      swept = swept_at c.args.block.now before c.sweep.new.self.kept c.sweep.ensures.swept c.args.stamp;
      run = c.places_at.ensures;
    }
