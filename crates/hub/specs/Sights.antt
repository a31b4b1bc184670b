-- What a seat has seen of the store's history.
use Rattle.std.specs.Prelude.{ℕ, List}
use Rattle.history.specs.declared.entry.HistoryEntry.{HistoryEntry}
use Rattle.history.specs.declared.entry.Mark.{Mark}
use Rattle.shard.specs.declared.seat_name.SeatName.{SeatName}

-- whose seat it is, and what it has seen
pub record SeatSight : Type 0 where
  pub tenant : ℕ
  pub seat : ℕ
  pub seen : List HistoryEntry

abbrev pub sight_of : SeatName → List HistoryEntry → SeatSight
sight_of name seen = record { tenant = name.tenant; seat = name.seat; seen = seen }

-- so of one operation of the seat, which has a mark
pub record OperationSight : Type 0 where
  pub tenant : ℕ
  pub seat : ℕ
  pub mark : Mark
  pub seen : List HistoryEntry

abbrev pub operation_of : SeatName → Mark → List HistoryEntry → OperationSight
operation_of name mark seen = record { tenant = name.tenant; seat = name.seat; mark = mark; seen = seen }
