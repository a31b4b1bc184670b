-- For `RawCells`, all its functions. One place comes out of a row of places and goes back. Assumes `Logic`.
--     place_out, place_in        the place at an index, beside the others; the row with what that place holds now
--     room_of, room_to           the room in an empty place, as a place's and as the machine's
--     empty_row, room_of_row     room for an array is a row of empty places, and back
--     lent_out                   what a `&` to a row holds at a place that holds a value
use Rattle.std.proofs.Common.{◌≡◌, ℕ, zero, suc, ◌+◌, ◌*◌, ◌<◌, List, [], ◌∷◌, length, get_or, set, replicate, Option, Some, None, refl, subst, arith}
use seplogic.Ra.Ura.{Ura}
use base.Logic.{ent}
use base.Fml.{Lft, Fml, ftrue, fsep, froom}
use mir.Syntax.{ty_array}
use types.Logic.{Logic, sem}
use types.Kit.{‵, ◌⊛◌, ◌$◌, ◌∵◌, !, qed, by, move, keep, drop, use1, split, rewrite, fsplit, frame, done}
use denote.Index.{place, place_is}
use denote.Memory.{hidden_shr}
use denote.RawPtr.{block_ptr}
use Rattle.core.proofs.mem.Param.{El, R, el_x, elτ}
use Rattle.core.specs.Mem.{type_size}
use Rattle.version_arena.specs.Ownership.{place_at, places_at, place_lent, places_lent}
use Rattle.version_arena.specs.RawCells.{IsFilled}

module _ (E : El) where
  abbrev pub Held : Type 0
  Held = List (Option (el_x E))

  -- a place that holds a value is one of the row
  pub within : (places : Held) (index : ℕ) → IsFilled places index → index < length places
  within [] index full = let is = full.1 in absurd cc
  within (first ∷ places) zero full = omega arith
  within (first ∷ places) (suc index) full = let below = within places index full in omega arith

  -- the bytes of a place
  abbrev pub size : ℕ
  size = type_size (R E)

  -- the row without the place at the index
  abbrev pub others : ℕ → ℕ → Held → ℕ → Fml
  others b o [] index = ftrue
  others b o (first ∷ places) zero = places_at (R E) (block_ptr b (o + size)) places
  others b o (first ∷ places) (suc index) = fsep (place_at (R E) (block_ptr b o) first) (others b (o + size) places index)

module _ (E : El) {M : Type 1} {𝓤 : Ura M} (𝓛 : Logic 𝓤) (b : ℕ) where
  open 𝓛 use {H}

  abbrev ◌⊢◌ : Fml → Fml → Type 1
  P ⊢ Q = ent 𝓤 (sem 𝓛 P) (sem 𝓛 Q)

  infix 26 ◌⊢◌
  abbrev one : ℕ → Option (el_x E) → Fml
  one o held = place_at (R E) (block_ptr b o) held

  abbrev row : ℕ → Held E → Fml
  row o places = places_at (R E) (block_ptr b o) places

  abbrev rest : ℕ → Held E → ℕ → Fml
  rest o places index = others E b o places index

  taken : (places : Held E) (index o : ℕ) → index < length places → row o places ⊢ fsep (one (place (size E) o index) (get_or places index None)) (rest o places index)
  taken [] index o below = absurd (omega arith)
  taken (first ∷ places) zero o below = qed 𝓛 (‵ (row o (first ∷ places)) ∷ []) ∵ done !
  taken (first ∷ places) (suc index) o below =
      let Out : Fml = fsep (one (place (size E) (o + size E) index) (get_or places index None)) (rest (o + size E) places index) in
      qed 𝓛 (‵ (row o (first ∷ places)) ∷ []) ∵ fsplit ! $ move ! (1 ∷ []) $ use1 𝓛 (‵ Out) (taken places index (o + size E) (omega arith)) $ fsplit ! $ frame ! $ move ! (1 ∷ 0 ∷ []) $ done !

  given : (places : Held E) (index o : ℕ) (held : Option (el_x E)) → index < length places → fsep (one (place (size E) o index) held) (rest o places index) ⊢ row o (set places index held)
  given [] index o held below = absurd (omega arith)
  given (first ∷ places) zero o held below = qed 𝓛 (‵ (row o (held ∷ places)) ∷ []) ∵ done !
  given (first ∷ places) (suc index) o held below =
      qed 𝓛 (‵ (fsep (one (place (size E) (o + size E) index) held) (rest o (first ∷ places) (suc index))) ∷ []) ∵ fsplit ! $ move ! (1 ∷ []) $ fsplit ! $ frame ! $ move ! (1 ∷ 0 ∷ []) $
      by ! (given places index (o + size E) held (omega arith))

  module _ (places : Held E) (index o : ℕ) (below : index < length places) where
    pub place_out : row o places ⊢ fsep (one (index * size E + o) (get_or places index None)) (rest o places index)
    place_out = subst (λ (at : ℕ). row o places ⊢ fsep (one at (get_or places index None)) (rest o places index)) (place_is (size E) o index) (taken places index o below)

    pub place_in : (held : Option (el_x E)) → fsep (one (index * size E + o) held) (rest o places index) ⊢ row o (set places index held)
    place_in held = subst (λ (at : ℕ). fsep (one at held) (rest o places index) ⊢ row o (set places index held)) (place_is (size E) o index) (given places index o held below)

  pub room_of : (o : ℕ) → one o None ⊢ froom (elτ E) b o
  room_of o = 𝓛.laws.raw-room (elτ E) b o

  pub room_to : (o : ℕ) → froom (elτ E) b o ⊢ one o None
  room_to o = 𝓛.laws.room-raw (elτ E) b o

  pub empty_row : (count o : ℕ) → froom (ty_array (elτ E) count) b o ⊢ row o (replicate count None)
  empty_row zero o = qed 𝓛 (‵ (froom (ty_array (elτ E) 0) b o) ∷ []) ∵ keep ! [] $ done !
  empty_row (suc count) o = qed 𝓛 (‵ (froom (ty_array (elτ E) (suc count)) b o) ∷ []) ∵
      use1 𝓛 (‵ (froom (elτ E) b o) ⊛ ‵ (froom (ty_array (elτ E) count) b (o + size E))) (𝓛.laws.room_uncons (elτ E) count b o) $ split ! $
      use1 𝓛 (‵ (one o None)) (room_to o) $ frame ! $ by ! (empty_row count (o + size E))

  pub room_of_row : (count o : ℕ) → row o (replicate count None) ⊢ froom (ty_array (elτ E) count) b o
  room_of_row zero o = 𝓛.laws.room_nil (elτ E) b o
  room_of_row (suc count) o = qed 𝓛 (‵ (row o (replicate (suc count) None)) ∷ []) ∵ fsplit ! $
      use1 𝓛 (‵ (froom (elτ E) b o)) (room_of o) $ move ! (1 ∷ []) $
      use1 𝓛 (‵ (froom (ty_array (elτ E) count) b (o + size E))) (room_of_row count (o + size E)) $ move ! (1 ∷ []) $ by ! (𝓛.laws.room_cons (elτ E) count b o)

  module _ (κ : Lft) where
    lent_at_place : (places : Held E) (index o : ℕ) (value : el_x E) → get_or places index None ≡ Some value
        → places_lent (R E) (block_ptr b o) places κ ⊢ hidden_shr (R E) κ value b (place (size E) o index)
    lent_at_place [] index o value is = absurd cc
    lent_at_place (first ∷ places) zero o value is = qed 𝓛 (‵ (places_lent (R E) (block_ptr b o) (first ∷ places) κ) ∷ []) ∵ fsplit ! $
        rewrite ! 0 (λ (held : Option (el_x E)). ‵ (place_lent (R E) (block_ptr b o) held κ)) is refl $ fsplit ! $ keep ! (1 ∷ []) $ done !
    lent_at_place (first ∷ places) (suc index) o value is = qed 𝓛 (‵ (places_lent (R E) (block_ptr b o) (first ∷ places) κ) ∷ []) ∵ fsplit ! $ drop ! $
        by ! (lent_at_place places index (o + size E) value is)

    pub lent_out : (places : Held E) (index o : ℕ) (value : el_x E) → get_or places index None ≡ Some value
        → places_lent (R E) (block_ptr b o) places κ ⊢ hidden_shr (R E) κ value b (index * size E + o)
    lent_out places index o value is = subst (λ (at : ℕ). places_lent (R E) (block_ptr b o) places κ ⊢ hidden_shr (R E) κ value b at) (place_is (size E) o index) (lent_at_place places index o value is)
