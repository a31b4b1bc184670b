-- For `RawCells`, all its functions. What a block of places owns is taken apart and made again, and a `&mut` to one is opened and closed. Assumes `Logic`.
--     Block, block_val           a block of places as the logic holds it, and its machine value
--     freeing                    the right to give its memory back
--     block_had, block_made      a block, as [its places; the right to free them]
--     block_opens, block_closes  the same behind a `&mut`, with the open borrow beside
--     block_shown                what a `&` to one holds
use Rattle.std.proofs.Common.{◌≡◌, ℕ, ◌+◌, ◌*◌, ◌^◌, ◌<◌, List, [], ◌∷◌, ◌++◌, length, refl, sym, ap, ◌∙◌, arith}
use seplogic.Ra.Ura.{Ura}
use base.Fml.{Lft, GName, Share, Fml, ftrue, flft, fobs, fauth, fbor, fobor, fhide}
use base.Fraction.{full_share}
use base.Logic.{ent, sep, id⊢, never}
use base.Stored.{Gv}
use mir.Val.{Val, vptr, vstruct, vcons, vnil, of_list}
use types.Logic.{Logic, sem}
use types.Kit.{Goal, Soaks, Step, step, Seq, Item, ‵, ◌⊛◌, ◌$◌, ◌∵◌, !, qed, done, use1, split, keep, move, drop, rewrite, fsplit, fjoin, fpick, feq_l, flt_l, flt_i}
use types.SemTy.{Body}
use denote.Memory.{cell_at, hidden_shr, mem}
use denote.Opens.{unhide}
use denote.RattleType.{RattleType}
use denote.RawPtr.{Ptr, RawPtr, block_ptr, ptr_val, in_block, in_a_block}
use denote.Shadow.{pure_i}
use denote.Steps.{opens, closes, nothing}
use denote.Struct.Lending.{lent_out}
use denote.Struct.Struct.{Struct}
use denote.Struct.Owning.{shape}
use Rattle.core.proofs.alloc.Calls.{Al, token}
use Rattle.core.proofs.mem.Param.{El, R, el_x}
use Rattle.core.proofs.ptr.Rows.{times_below, one_below}
use Rattle.core.proofs.slots.Leases.{block_ty, P}
use Rattle.core.specs.contracts.marker.PhantomData as PhantomData
use Rattle.core.specs.declared.marker.PhantomData.{PhantomData}
use Rattle.version_arena.specs.Ownership.{places_at, block_lent}
use Rattle.version_arena.specs.contracts.raw_cells.RawCells as RawCells
use Rattle.version_arena.proofs.Rows.{Held, size}

abbrev pub block_val : ℕ → ℕ → Val
block_val b o = vstruct (vcons (vptr b o) (vcons (vstruct vnil) vnil))

module _ (E : El) where
  -- so many places fit into a block
  abbrev pub Fits : Held E → Type 0
  Fits held = length held * size E < 2 ^ 63

  -- so does the offset of one of them
  pub offset_fits : (index count : ℕ) → index < count → count * size E < 2 ^ 63 → index * size E < 2 ^ 63
  offset_fits index count below fits = times_below index count (size E) (2 ^ 63) (omega arith) fits

  pub one_fits : (index count : ℕ) → index < count → count * size E < 2 ^ 63 → size E < 2 ^ 64
  one_fits index count below fits = let low : size E < 2 ^ 63 = one_below count (size E) (2 ^ 63) (omega arith) fits in omega arith

module _ (E : El) (Z : Al) where
  abbrev pub Block : RattleType
  Block = RawCells.the_row (R E) (P E Z) Z.g

  abbrev pub of : Ptr → PhantomData Z.row.Denot → Held E → Z.row.Denot → Block.Denot
  of p by held alloc = record { at = p; by = by; held = held; alloc = alloc }

  abbrev pub freeing : Block.Denot → Fml
  freeing d = token Z d.alloc (block_ty E (length d.held)) d.at

module _ (E : El) (Z : Al) {M : Type 1} {𝓤 : Ura M} {𝓛 : Logic 𝓤} {K : Type 0} {Γ : List (Item 𝓤)} {G : Goal 𝓤 𝓛.H} where
  pub block_had : K → (d : (Block E Z).Denot) (vs : List Val)
      → ((b o : ℕ) → d.at ≡ block_ptr b o → vs ≡ block_val b o ∷ [] → Fits E d.held → Seq K 𝓛 (‵ (places_at (R E) (block_ptr b o) d.held) ∷ ‵ (freeing E Z d) ∷ Γ) G)
      → Seq K 𝓛 (‵ ((Block E Z).own_val d vs) ∷ Γ) G
  block_had t d vs rest =
      fsplit t $ fpick t (λ vss. fsplit t $ feq_l t (λ whole. fsplit t $ feq_l t (λ first. fsplit t $ fpick t (λ none. fsplit t $ feq_l t (λ second. drop t $ drop t $
      fsplit t $ flt_l t (λ fits. fsplit t $ in_a_block t d.at (λ p. in_block p ftrue) (id⊢ 𝓤 (never 𝓤)) (λ b o at. drop t $ fsplit t $
      rewrite t 0 (λ (p : Ptr). ‵ (places_at (R E) p d.held)) at refl $
      rest b o at (whole ∙ (λ i. vstruct (of_list (first i ++ (second i ++ []))) ∷ []) ∙ ap (λ (p : Ptr). vstruct (vcons (ptr_val p) (vcons (vstruct vnil) vnil)) ∷ []) at) fits)))))))

  pub block_made : K → (p : Ptr) (b o : ℕ) → p ≡ block_ptr b o → (by : PhantomData Z.row.Denot) (held : Held E) (alloc : Z.row.Denot) → Fits E held
      → Step K 𝓛 (‵ ((Block E Z).own_val (of E Z p by held alloc) (block_val b o ∷ [])) ∷ Γ) G
      (‵ (places_at (R E) (block_ptr b o) held) ∷ ‵ (token Z alloc (block_ty E (length held)) p) ∷ Γ) G
  block_made t p b o at by held alloc fits = step (λ rest.
      let Fields : RattleType = Struct (shape (RawCells.the_type (R E) (P E Z) Z.g)) in
      rewrite t 1 (λ (q : Ptr). ‵ (token Z alloc (block_ty E (length held)) q)) at refl $ fjoin t $ nothing t $ fjoin t $ flt_i t (length held * size E) (2 ^ 63) fits $ fjoin t $
      pure_i t (Fields.own_val (block_ptr b o, (tt, tt)) (block_val b o ∷ [])) (λ vss. (tt, (tt, ((λ uss. (tt, tt)), tt))))
      ((vptr b o ∷ [], (vstruct (of_list []) ∷ [], tt)), (refl, (refl, ((tt, (refl, tt)), tt)))) $ fjoin t $
      rewrite t 0 (λ (q : Ptr). ‵ ((Block E Z).own_val (of E Z q by held alloc) (block_val b o ∷ []))) (sym at) refl $ rest)

module _ (E : El) (Z : Al) {M : Type 1} {𝓤 : Ura M} {𝓛 : Logic 𝓤} {K : Type 0} {Γ : List (Item 𝓤)} {G : Goal 𝓤 𝓛.H} {κ : Lft} {q : Share} {γ : GName} (rb ro : ℕ) where
  -- [the places; the right to free them; the struct's cell; the open borrow, in three entries]
  pub block_opens : K → Soaks G → (d : (Block E Z).Denot)
      → ((b o : ℕ) → d.at ≡ block_ptr b o → Fits E d.held
      → Seq K 𝓛 (‵ (places_at (R E) (block_ptr b o) d.held) ∷ ‵ (freeing E Z d) ∷ ‵ (cell_at full_share (Block E Z).mir (block_val b o ∷ []) rb ro)
      ∷ ‵ (fobor κ q (Body (mem (Block E Z)) rb ro γ)) ∷ ‵ (fobs γ ((Block E Z).coded.code d)) ∷ ‵ (fauth γ ((Block E Z).coded.code d)) ∷ Γ) G)
      → Seq K 𝓛 (‵ (fobs γ ((Block E Z).coded.code d)) ∷ ‵ (fbor κ (Body (mem (Block E Z)) rb ro γ)) ∷ ‵ (flft κ q) ∷ Γ) G
  block_opens t soaks d rest =
      opens t soaks (Block E Z) {h = d} rb ro (λ vs. move t (1 ∷ []) $ block_had E Z t d vs (λ b o at is fits.
      rewrite t 2 (λ (us : List Val). ‵ (cell_at full_share (Block E Z).mir us rb ro)) is refl $ rest b o at fits))

  -- with other things in the places
  pub block_closes : K → Soaks G → {u v : Gv} (d : (Block E Z).Denot) (b o : ℕ) → d.at ≡ block_ptr b o → (held : Held E) → length held ≡ length d.held → Fits E held
      → Step K 𝓛 (‵ (fobs γ ((Block E Z).coded.code (of E Z d.at d.by held d.alloc))) ∷ ‵ (fbor κ (Body (mem (Block E Z)) rb ro γ)) ∷ ‵ (flft κ q) ∷ Γ) G
      (‵ (places_at (R E) (block_ptr b o) held) ∷ ‵ (freeing E Z d) ∷ ‵ (cell_at full_share (Block E Z).mir (block_val b o ∷ []) rb ro)
      ∷ ‵ (fobor κ q (Body (mem (Block E Z)) rb ro γ)) ∷ ‵ (fobs γ u) ∷ ‵ (fauth γ v) ∷ Γ) G
  block_closes t soaks d b o at held long fits = step (λ rest.
      rewrite t 1 (λ (count : ℕ). ‵ (token Z d.alloc (block_ty E count) d.at)) (sym long) refl $ block_made E Z t d.at b o at d.by held d.alloc fits $ move t (1 ∷ 0 ∷ []) $
      closes t soaks (Block E Z) (of E Z d.at d.by held d.alloc) (block_val b o ∷ []) rb ro $ rest)

module _ (E : El) (Z : Al) {M : Type 1} {𝓤 : Ura M} (𝓛 : Logic 𝓤) (κ : Lft) (rb ro : ℕ) where
  -- what a `&` to a block shows: its pointer, that this is not null, how much fits, and the values
  pub block_shown : (d : (Block E Z).Denot) → ent 𝓤 (sem 𝓛 (hidden_shr (Block E Z) κ d rb ro))
      (sep 𝓤 (sem 𝓛 (hidden_shr RawPtr κ d.at rb (ro + 0))) (sem 𝓛 (block_lent (R E) d.at d.held κ)))
  block_shown d =
      let N = RawCells.struct (R E) (P E Z) Z.g in let Words : RattleType = Struct (shape (RawCells.the_type (R E) (P E Z) Z.g)) in
      qed 𝓛 (‵ (hidden_shr (Block E Z) κ d rb ro) ∷ []) ∵
      use1 𝓛 (‵ (hidden_shr Words κ (d.at, (tt, tt)) rb ro) ⊛ ‵ (fhide (block_lent (R E) d.at d.held κ)))
      (lent_out 𝓛 N (RawCells.the_codes (el_x E) Z.row.Denot (R E).coded (P E Z).coded (PhantomData.the_row (P E Z)).coded) (RawCells.the_heap (R E) (P E Z) Z.g) (RawCells.the_lent (R E) (P E Z) Z.g) κ d rb ro) $
      split ! $ unhide ! $ fsplit ! $ fsplit ! $ keep ! (0 ∷ 3 ∷ []) $ done !
