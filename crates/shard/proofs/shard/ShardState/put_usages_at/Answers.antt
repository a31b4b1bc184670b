use Rattle.std.proofs.Common.{ℕ, Bool, Result, Ok, Err, IfOk, subst}
use Rattle.std.specs.Prelude.{IsTrue}
use Rattle.std.proofs.Math.Logic.{∥∥₁_map}
use Rattle.traced_book.specs.Traced.{AreTraced}
use Rattle.shard.specs.Journals.{AreOf}
use Rattle.shard.proofs.shard.ShardState.put_usages_at.Goals as goal

-- what is told where all is there is told with more
told_with : {A B E : Type 0} (result : Result Bool E) → (A → B) → IfOk result (λ is_there. IsTrue is_there → A) → IfOk result (λ is_there. IsTrue is_there → B)
told_with (Ok is_there) more told = λ is. more (told is)
told_with (Err e) more told = tt

pub returns-clause-used : goal.returns-clause-used
returns-clause-used g c =
    let self = c.args.self.now in
    let P : ℕ → Type 0 = λ n. ∥ AreOf n self.partition self.book.accounts ∥₁ in
    let Q : ℕ → Type 0 = λ n. ∥ AreOf c.args.parts n self.book.accounts ∥₁ in
    let journals = subst Q c.if-self-partition.false (subst P c.if-self-parts.false self.journals) in
    let T : ℕ → Type 0 = λ n. AreTraced c.has_all.new.seen n self.book.accounts in
    let traced = subst T c.if-self-partition.false (subst T self.its (c.has_all.ensures.all c.if-not-has_all.false)) in
    told_with c.put_usages.result
    (λ used. ∥∥₁_map journals (λ of. record { accounts = self.book.accounts; collections = self.collections; journals = of; traced = traced; of_each = used }))
    c.put_usages.ensures.used
