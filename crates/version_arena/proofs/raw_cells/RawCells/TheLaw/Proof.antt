-- A borrow of a block of places makes a `&` to it, which lends each value that the places hold. Assumes `Logic`.
use Rattle.std.proofs.Common.{◌*◌, ◌^◌, length, List, [], ◌∷◌, ◌++◌, Option, Some, None}
use seplogic.Ra.Ura.{Ura}
use base.Fml.{Lft, ftrue, flt, fsep, Incl-trans}
use contract.BorrowLft.{meet_⊑_left}
use mir.Raw.{raw as bare}
use mir.Syntax.{ty_array}
use types.Logic.{Logic}
use denote.Memory.{lone}
use denote.Param.Laws.{Laws}
use denote.Param.Shared.{copy_shared}
use denote.RattleType.{RattleType}
use denote.RawPtr.{Ptr, in_block, ◌+ₚ◌}
use denote.Shares.{Shares, Shares-less}
use denote.Sharing.{ShrLaws, said, beside}
use denote.SharingLaws.{nothing_shr_laws, said_shr_laws, beside_shr_laws}
use denote.Struct.Field.{RawPtr-field}
use denote.Struct.Laws.{RawPtr-copy, field_copy}
use denote.Struct.Lending.{in_block_pure, lent_at_shr_laws, Lends, Lends-lies, Lends-said, Lends-nothing, Lends-first, Lends-both, of_Lends}
use Rattle.core.specs.Mem.{type_size}
use Rattle.core.specs.contracts.marker.PhantomData as PhantomData
use Rattle.core.specs.declared.alloc.Allocator.{Ghosts}
use Rattle.version_arena.specs.Ownership.{place_at, places_at, place_lent, places_lent, block_lent}
use Rattle.version_arena.specs.contracts.raw_cells.RawCells as RawCells
use Rattle.version_arena.proofs.raw_cells.RawCells.TheLaw.Statement.{statement}

-- what is lent can be had twice, and for less long
module _ (R : RattleType) (laws : Laws R) where
  place_laws : (p : Ptr) (place : Option R.Denot) → ShrLaws (place_lent R p place)
  place_laws p None = nothing_shr_laws
  place_laws p (Some value) = lent_at_shr_laws R laws.shr_laws p value

  places_laws : (p : Ptr) (places : List (Option R.Denot)) → ShrLaws (places_lent R p places)
  places_laws p [] = nothing_shr_laws
  places_laws p (place ∷ places) = beside_shr_laws (place_lent R p place) (places_lent R (p +ₚ type_size R) places) (place_laws p place) (places_laws (p +ₚ type_size R) places)

  block_laws : (p : Ptr) (places : List (Option R.Denot)) → ShrLaws (block_lent R p places)
  block_laws p places =
      let small = flt (length places * type_size R) (2 ^ 63) in let lies = in_block p ftrue in
      beside_shr_laws (said small) (beside (said lies) (places_lent R p places)) (said_shr_laws small tt)
      (beside_shr_laws (said lies) (places_lent R p places) (said_shr_laws lies (in_block_pure p)) (places_laws p places))

-- it is lent by a borrow of what is owned
module _ {M : Type 1} {𝓤 : Ura M} (𝓛 : Logic 𝓤) (R : RattleType) (l : Lft) (shares : Shares 𝓛 R l) where
  lends_place : (p : Ptr) (place : Option R.Denot) → Lends 𝓛 (place_at R p place) (place_lent R p place) l
  lends_place p None = Lends-nothing 𝓛 (place_at R p None) l
  lends_place p (Some value) = Lends-lies 𝓛 R l p value (shares value)

  lends_places : (p : Ptr) (places : List (Option R.Denot)) → Lends 𝓛 (places_at R p places) (places_lent R p places) l
  lends_places p [] = Lends-nothing 𝓛 ftrue l
  lends_places p (place ∷ places) =
      let next = p +ₚ type_size R in
      Lends-both 𝓛 (place_at R p place) (places_at R next places) (place_lent R p place) (places_lent R next places) l (lends_place p place) (lends_places next places)

pub shares : (C A : RattleType) (g : Ghosts A.Denot) (C-laws : Laws C) (A-laws : Laws A) → statement C A g C-laws A-laws
shares C A g C-laws A-laws = of_Lends (RawCells.struct C A g) (RawCells.the_codes C.Denot A.Denot C.coded A.coded (PhantomData.the_row A).coded) (RawCells.the_heap C A g) (RawCells.the_lent C A g)
    (λ d p. block_laws C C-laws d.at d.held) (copy_shared RawPtr-field RawPtr-copy, (copy_shared (PhantomData.the_field A) (field_copy (PhantomData.the_type A) tt), tt))
    (λ M 𝓤 𝓛 d p.
    let l : Lft = (RawCells.the_row C A g).lives in
    let small = flt (length d.held * type_size C) (2 ^ 63) in let lies = in_block d.at ftrue in
    let places = places_at C d.at d.held in let lent = places_lent C d.at d.held in let token = g.dealloc_token d.alloc (bare (ty_array (lone C.mir) (length d.held))) d.at in
    let less : Shares 𝓛 C l = Shares-less 𝓛 C C.lives l (Incl-trans (meet_⊑_left (C.lives ++ (A.lives ++ [])) _) (meet_⊑_left C.lives (A.lives ++ []))) (C-laws.shares 𝓛) in
    Lends-both 𝓛 small (fsep lies (fsep places token)) (said small) (beside (said lies) lent) l (Lends-said 𝓛 small tt l)
    (Lends-both 𝓛 lies (fsep places token) (said lies) lent l (Lends-said 𝓛 lies (in_block_pure d.at) l)
    (Lends-first 𝓛 places token lent l (lends_places 𝓛 C l less d.at d.held))))
