use Rattle.std.proofs.Common.{subst}
use Rattle.std.specs.Prelude.{IfSome}
use Rattle.shard.specs.Held.{IsHandedOut}
use Rattle.shard.specs.declared.shard.Shard.{Shard}
use Rattle.hub.proofs.closing.book_of.Goals as goal

-- the shard is that which was shared
pub returns-in-Some : goal.returns-in-Some
returns-in-Some g c =
    let P : Shard g.row.G.Denot g.G.Naming → Type 0 = λ d. IfSome c.into_book.result (λ book. IsHandedOut d.config book) in
    subst P c.in-Some.ensures c.into_book.ensures
