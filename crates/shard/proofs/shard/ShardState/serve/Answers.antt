use Rattle.std.proofs.Common.{◌<◌, length, refl, subst, sym, ap, ◌∙◌, arith}
use Rattle.std.proofs.Math.Logic.{∥∥₁_map}
use Rattle.plain_store.specs.declared.calls.Call.{Call}
use Rattle.plain_store.specs.declared.message.Message.{Message}
use Rattle.history.specs.Legal.{MayServe}
use Rattle.history.proofs.Counts.{mark_later}
use Rattle.history.proofs.Following.{serve_later}
use Rattle.shard.specs.Homes.{HasHome}
use Rattle.shard.proofs.Journals.{called-of, came-so}
use Rattle.shard.proofs.Short.{served-short}
use Rattle.shard.proofs.shard.ShardState.serve.Goals as goal

-- its journals are as before, or have one event more of this call
pub invariant_of-self : goal.invariant_of-self
invariant_of-self g c =
    let call = c.args.call.now in
    let within : call.tenant < length c.args.self.now.book.accounts = omega (arith, c.if-call-tenants.false, c.tenants.ensures) in
    let home = subst (λ (m : Message). HasHome m.call call.parts call.partition) (sym c.deref_mut-message.ensures.value) call.at_home in
    let e = c.serve_into-served.ensures in
    record {
      journals = called-of _ _ _ _ _ call.tenant call.seat call.number c.args.self.now.book.accounts c.serve_into-served.new.self.accounts c.deref_mut-message.result.now.call
          c.serve_into-served.new.reply c.serve_into-served.result within e.late e.takes.taken e.takes.reply e.takes.unchanged home c.requires.home c.args.self.now.journals;
      its = e.partition.0 ∙ c.args.self.now.its;
    }

-- the call is for this partition
pub invariant_of-call : goal.invariant_of-call
invariant_of-call g c =
    let call = c.args.call.now in
    let seen = c.serve_into-served.new.evidence in
    let same = ap (λ (m : Message). m.call) (sym c.deref_mut-message.ensures.value) in
    record {
      at_home = subst (λ (k : Call). HasHome k call.parts call.partition) same call.at_home;
      marked = mark_later call.front seen call.mark c.serve_into-served.ensures.evidence call.marked;
      may = subst (λ (k : Call). ∥ MayServe seen call.partition call.tenant k ∥₁) same
          (∥∥₁_map call.may (λ m. serve_later call.front seen call.partition call.tenant call.message.value.call c.serve_into-served.ensures.evidence m));
    }

pub returns-then-is_long-clause-came : goal.returns-then-is_long-clause-came
returns-then-is_long-clause-came g c =
    let call = c.args.call.now in
    came-so c.serve_into-served.new.evidence call.front call.mark c.args.self.now.partition c.args.self.now.book.partition call.partition call.tenant call.seat call.number c.in-Ok.place
    c.deref_mut-message.result.now _ refl c.in-Ok.ensures.served call.marked c.requires.home.0 c.args.self.now.its

pub returns-else-is_long-clause-came : goal.returns-else-is_long-clause-came
returns-else-is_long-clause-came g c =
    let call = c.args.call.now in
    came-so c.serve_into-served.new.evidence call.front call.mark c.args.self.now.partition c.args.self.now.book.partition call.partition call.tenant call.seat call.number c.in-Ok.place
    c.deref_mut-message.result.now _ refl c.in-Ok.ensures.served call.marked c.requires.home.0 c.args.self.now.its

-- one event more, and then its count
pub returns-then-is_long-clause-short : goal.returns-then-is_long-clause-short
returns-then-is_long-clause-short g c room short =
    rw c.count.ensures.book (served-short _ _ _ _ _ _ _ (omega (arith, c.if-call-tenants.false, c.tenants.ensures)) c.in-Ok.ensures.takes.taken room short)

pub returns-else-is_long-clause-short : goal.returns-else-is_long-clause-short
returns-else-is_long-clause-short g c room short =
    rw c.count.ensures.book (served-short _ _ _ _ _ _ _ (omega (arith, c.if-call-tenants.false, c.tenants.ensures)) c.in-Ok.ensures.takes.taken room short)

pub returns-in-Err-clause-came : goal.returns-in-Err-clause-came
returns-in-Err-clause-came g c = ∣ tt ∣₁
