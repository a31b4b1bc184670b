-- What a block of places owns, and what a `&` to one holds, at any type R of values. No public clause cites this
-- module.
use Rattle.std.specs.Prelude.{◌*◌, ◌^◌, List, [], ◌∷◌, length, Option, Some, None}
use base.Fraction.{full_share}
use base.Fml.{Lft, Fml, ftrue, fsep, flt}
use mir.Syntax.{Ty, ty_array}
use mir.Raw.{raw}
use denote.Memory.{lone}
use denote.RattleType.{RattleType}
use denote.RawPtr.{Ptr, lies_at, room_for, in_block, ◌+ₚ◌}
use denote.Sharing.{nothing, said, beside}
use denote.Struct.Lending.{lent_at}
use Rattle.core.specs.Mem.{type_size}

-- a place: its value, or room for one
abbrev pub place_at : (R : RattleType) → Ptr → Option R.Denot → Fml
place_at R p None = room_for (raw (lone R.mir)) p
place_at R p (Some value) = lies_at R full_share p value

-- places side by side
abbrev pub places_at : (R : RattleType) → Ptr → List (Option R.Denot) → Fml
places_at R p [] = ftrue
places_at R p (place ∷ places) = fsep (place_at R p place) (places_at R (p +ₚ type_size R) places)

-- a block that takes fewer than 2 ^ 63 bytes, and the right, t's, to free it
abbrev pub block_at : (Ty → Ptr → Fml) → (R : RattleType) → Ptr → List (Option R.Denot) → Fml
block_at t R p places =
    fsep (flt (length places * type_size R) (2 ^ 63))
    (fsep (in_block p ftrue) (fsep (places_at R p places) (t (raw (ty_array (lone R.mir) (length places))) p)))

-- behind a `&`: each value that the places hold
abbrev pub place_lent : (R : RattleType) → Ptr → Option R.Denot → Lft → Fml
place_lent R p None = nothing
place_lent R p (Some value) = lent_at R p value

abbrev pub places_lent : (R : RattleType) → Ptr → List (Option R.Denot) → Lft → Fml
places_lent R p [] = nothing
places_lent R p (place ∷ places) = beside (place_lent R p place) (places_lent R (p +ₚ type_size R) places)

abbrev pub block_lent : (R : RattleType) → Ptr → List (Option R.Denot) → Lft → Fml
block_lent R p places =
    beside (said (flt (length places * type_size R) (2 ^ 63)))
    (beside (said (in_block p ftrue)) (places_lent R p places))
