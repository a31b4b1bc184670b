use Rattle.prepare_commit.proofs.Owning.{still_stands}
use Rattle.prepare_commit.proofs.versions.Versions.sweep_at.Goals as goal

pub sweep_at-requires : goal.sweep_at-requires
sweep_at-requires c = c.requires.listed

pub returns : goal.returns
returns c =
    let done = c.sweep_at.ensures in
    record {
      lies = record { stands = still_stands c.args.block.now c.args.self.now.chains c.sweep_at.new.self done.rest c.requires.stands; listed = done.run.list };
      swept = done.run.swept;
      run = done.run.run;
      rest = done.rest;
    }
