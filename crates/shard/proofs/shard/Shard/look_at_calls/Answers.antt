use Rattle.std.proofs.Common.{◌≡◌, ◌+◌, ◌∙◌, ℕ, inl, subst}
use Rattle.history.specs.Entries.{count}
use Rattle.shard.proofs.shard.Shard.look_at_calls.Goals as goal

-- the book is that of the partition that was asked for
pub returns-clause-calls : goal.returns-clause-calls
returns-clause-calls g c =
    let P : ℕ → Type 0 = λ n. c.look.result ≡ count (n + 1) c.look.new.seen in
    inl (subst P (c.deref-state.result.now.its ∙ c.if-state-partition.false) c.look.ensures.calls)
