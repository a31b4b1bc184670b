use Rattle.std.proofs.Common.{ap, arith, length, vec_capacity, vec_len}
use Rattle.hub.proofs.start.start.Goals as goal

-- the lists were empty before, with room for each partition
pub returns : goal.returns
returns g c =
    let empty = c.in_ok-lists.ensures in
    let started = c.in_default.ensures.started in
    let rest = c.start_all-all.ensures.rest in
    record {
      started = omega (arith, started.started, ap length empty.shards.0);
      shards = started.shards empty.shards.0;
      journals_kept = started.journals_kept empty.shards.0;
      calls = (omega (arith, ap vec_len rest.0, empty.calls.0), omega (arith, ap vec_capacity rest.0, empty.calls.1));
      left = (omega (arith, ap vec_len rest.1, empty.journals.0), omega (arith, ap vec_capacity rest.1, empty.journals.1));
      counts = (omega (arith, ap vec_len rest.2, empty.counts.0), omega (arith, ap vec_capacity rest.2, empty.counts.1));
    }
