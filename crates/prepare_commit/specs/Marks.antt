-- The marks that DISCARDs leave in a cell.
use Rattle.std.specs.Prelude.{ℕ, ◌==◌, if◌then◌else◌, List, map, Option, Some, None, unwrap_or, max}
use Rattle.std.specs.Coded.{Coded, coded_ℕ}
use Rattle.std.specs.FinMap.{FinMap, code, get, insert, from_sorted}
use Rattle.std.specs.Ordering.{nat_cmp}
use Rattle.stamps.specs.Stamp.{client_of}
use Rattle.plain_store.specs.Words.{Stamp}

-- the clients of which a stamp was discarded, each with the greatest of these stamps
abbrev pub Marks : Type 0
Marks = FinMap nat_cmp Stamp

-- marks are stored as the list of their entries
abbrev pub marks_code : Coded Marks
marks_code = code coded_ℕ coded_ℕ

-- a client's mark, 0 where it has none
abbrev pub mark_in : Marks → ℕ → Stamp
mark_in marks client = unwrap_or (get marks client) 0

-- the mark, if it is one: 0 is none
abbrev pub if_marked : Stamp → Option Stamp
if_marked stamp = if stamp == 0 then None else Some stamp

-- the marks with that of the stamp's client raised to it
abbrev pub raised_mark : Marks → Stamp → Marks
raised_mark marks stamp = insert marks (client_of stamp) (max stamp (mark_in marks (client_of stamp)))

-- ---- how they lie in their list

-- a mark says whose it is
abbrev pub mark_row : Stamp → ℕ × Stamp
mark_row stamp = (client_of stamp, stamp)

abbrev pub marks_of : List Stamp → Marks
marks_of stamps = from_sorted (map mark_row stamps)
