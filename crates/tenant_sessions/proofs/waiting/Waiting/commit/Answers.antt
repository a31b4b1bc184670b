use Rattle.std.proofs.Common.{◌≡◌, ℕ, ◌<◌, sym, subst}
use Rattle.plain_store.specs.declared.calls.Call.TheVariants.{Commit}
use Rattle.std.specs.Prelude.{All, AllPairs}
use Rattle.plain_store.specs.Writing.{Outgoing}
use Rattle.tenant_sessions.specs.Parts.{BatchView, AreApart, batch_calls}
use Rattle.tenant_sessions.proofs.Placed.{commits_apart}
use Rattle.tenant_sessions.proofs.Sent.{all_placed, all_commits}
use Rattle.tenant_sessions.proofs.waiting.Waiting.commit.Goals as goal

pub invariant_of-self : goal.invariant_of-self
invariant_of-self c = (
  c.requires.parts,
  c.fill_all.ensures.within,
  c.fill_all.ensures.once,
  λ are.
      let ascending = subst (AllPairs (λ (i j : ℕ). i < j)) c.as_slice.ensures (c.are_ascending-are_apart.ensures are) in
      subst (λ part. AreApart (batch_calls c.args.parts part)) (sym c.commit.ensures) (commits_apart c.args.parts c.args.stamp c.args.partitions ascending),
)

pub returns-clause-commits : goal.returns-clause-commits
returns-clause-commits c =
    let P : Outgoing → Type 0 = λ out. out.call ≡ Commit c.args.stamp in
    let Q : BatchView → Type 0 = λ batch. All P (batch_calls c.args.parts batch) in
    all_placed P _ c.fill_all.new.places (subst Q (sym c.commit.ensures) (all_commits c.args.parts c.args.stamp c.args.partitions))
