-- What a finder stands for: its search, with its reader.
use Rattle.std.specs.Prelude.{List}
use Rattle.plain_store.specs.declared.message.Message.{Message}
use Rattle.plain_store.specs.Words.{Tag, Setup}
use Rattle.get_all.specs.TagSearch.{StandsFor as StandsForSearch}
use Rattle.get_all.specs.declared.finder.Finder.{Finder}

-- a finder of this tag's items which took these replies, in order, and no others
abbrev pub StandsFor : Setup → Tag → Finder → List Message → Type 0
StandsFor setup tag finder taken = StandsForSearch setup tag finder.search finder.reader taken
