-- What a partition keeps of the calls that it served.
use Rattle.std.specs.Prelude.{Bool, true, false, List}
use Rattle.partition.specs.Accounts.{Account}
use Rattle.traced_book.specs.declared.keeping.Keeping.{Keeping}
use Rattle.traced_book.specs.declared.keeping.Keeping.TheVariants.{Journals, CellsAlone}

abbrev pub has_journals : Keeping → Bool
has_journals (Journals accounts) = true
has_journals (CellsAlone accounts) = false

abbrev pub accounts_in : Keeping → List Account
accounts_in (Journals accounts) = accounts
accounts_in (CellsAlone accounts) = accounts
