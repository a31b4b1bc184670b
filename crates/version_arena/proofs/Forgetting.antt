-- For `RawCells`: a place, or a row of places, without what it holds. Assumes `Logic`.
use Rattle.std.proofs.Common.{ℕ, ◌+◌, [], ◌∷◌, length, replicate, Option, Some, None}
use seplogic.Ra.Ura.{Ura}
use base.Logic.{ent, id⊢}
use base.Fml.{Fml, fat, froom}
use base.Fraction.{full_share}
use mir.Val.{Val}
use types.Logic.{Logic, sem}
use types.Kit.{‵, ◌⊛◌, some, given, ◌$◌, ◌∵◌, !, qed, by, keep, use1, split, pick, learn, fsplit, frame}
use denote.RawPtr.{block_ptr}
use Rattle.core.proofs.mem.Param.{El, R, el_x, elτ, Good}
use Rattle.core.proofs.slice.Rows.{el_out}
use Rattle.version_arena.specs.Ownership.{place_at, places_at}
use Rattle.version_arena.proofs.Rows.{Held, size, room_to}

module _ (E : El) {M : Type 1} {𝓤 : Ura M} (𝓛 : Logic 𝓤) (b : ℕ) where
  abbrev one : ℕ → Option (el_x E) → Fml
  one o held = place_at (R E) (block_ptr b o) held

  abbrev row : ℕ → Held E → Fml
  row o places = places_at (R E) (block_ptr b o) places

  pub forgotten : (o : ℕ) (held : Option (el_x E)) → ent 𝓤 (sem 𝓛 (one o held)) (sem 𝓛 (one o None))
  forgotten o None = id⊢ 𝓤 (sem 𝓛 (one o None))
  forgotten o (Some value) = qed 𝓛 (‵ (one o (Some value)) ∷ []) ∵
      use1 𝓛 (some (λ (v : Val). given (Good E v) (‵ (fat full_share (elτ E) b o v) ⊛ ‵ (E.row.own_val value (v ∷ []))))) (el_out E 𝓛 b value o) $ pick ! (λ v. learn ! (λ good. split ! $
      use1 𝓛 (‵ (froom (elτ E) b o)) (𝓛.laws.at_room (elτ E) b o v) $ keep ! (0 ∷ []) $ by ! (room_to E 𝓛 b o)))

  pub forgotten_row : (places : Held E) (o : ℕ) → ent 𝓤 (sem 𝓛 (row o places)) (sem 𝓛 (row o (replicate (length places) None)))
  forgotten_row [] o = id⊢ 𝓤 (sem 𝓛 (row o []))
  forgotten_row (first ∷ places) o = qed 𝓛 (‵ (row o (first ∷ places)) ∷ []) ∵ fsplit ! $ use1 𝓛 (‵ (one o None)) (forgotten o first) $ frame ! $ by ! (forgotten_row places (o + size E))
