use Rattle.std.proofs.Common.{length, arith, refl}
use Rattle.shard.proofs.LongAmong.{long_all}
use Rattle.shard.proofs.epoch_cut.Search.cut_next.Goals as goal

pub returns-clause-over : goal.returns-clause-over
returns-clause-over g c =
    let accounts = c.args.state.now.book.accounts in
    record {
      passed = λ none tenant behind there. c.loop-tenant.invariant.passed none tenant behind (omega (arith, c.tenants-tenant-end.ensures, c.loop-tenant-test.false, there));
      counted = long_all c.args.least accounts c.args.self.now.from c.loop-tenant.tenant (length accounts) c.loop-tenant.refused
          c.loop-tenant.invariant.within (omega (arith, c.tenants-tenant-end.ensures, c.loop-tenant-test.false)) c.loop-tenant.invariant.counted;
      over = refl;
    }
