-- The cell of a tenant stands for its journal: for `Book::parts` and `Book::holdings`.
use Rattle.std.proofs.Common.{◌≡◌, ℕ, ◌++◌, Option, Some, None, subst}
use Rattle.indexmap.specs.IndexMap.{IndexMap}
use Rattle.plain_store.specs.Log.{Log}
use Rattle.prepare_commit.specs.Bases.{Leaves}
use Rattle.partition.specs.Accounts.{Account}
use Rattle.partition.specs.Books.{ArePaired}
use Rattle.partition.specs.Journals.{log_after}
use Rattle.partition.specs.Shelf.{ShelfCells, StandsFor}

-- the cell of a tenant that is there stands for its journal
pub stands_of : {S : Type 0} (cells : ShelfCells) (tenant : ℕ) (a : Option Account) (t : Option (IndexMap ℕ ℕ S)) (account : Account) → a ≡ Some account → ArePaired cells tenant a t
    → (log : Log) → Leaves account.start.base log → StandsFor cells tenant (log_after account.events ++ log)
stands_of cells tenant None t account is paired = cc
stands_of cells tenant (Some own) None account is paired = absurd paired
stands_of cells tenant (Some own) (Some table) account is paired =
    let same : own ≡ account = cc in
    let P : Account → Type 0 = λ a. (log : Log) → Leaves a.start.base log → StandsFor cells tenant (log_after a.events ++ log) in
    subst P same paired.stands
