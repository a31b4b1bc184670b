-- `get_mut` lends the cell of a value, and whatever is written there the block has with it. Assumes `Logic`.
use Rattle.std.proofs.Common.{◌≡◌, ℕ, ◌*◌, ◌+◌, ◌^◌, ◌<◌, List, [], ◌∷◌, length, length-set, get_or, set, Option, Some, None, refl, sym, subst, arith, w64}
use Rattle.std.proofs.raw_atomic.Walks.{proved, leaves}
use seplogic.Ra.Ura.{Ura}
use base.Logic.{SProp, ent, sep, emp}
use base.Fml.{GName, Fml, ftrue, fsep, flft}
use base.Fraction.{full_share}
use mir.Syntax.{Fn, named}
use mir.MapTy.{inst_fn}
use mir.Val.{Val, vint, vptr}
use prog.Wp.{Env}
use contract.BorrowLft.{◌⊑◌}
use contract.Monad.{fact, fact_i}
use contract.Running.{tables}
use types.ByLocal.{alloc_all, pass_all, free_all, look_at, get, through, sets, sets_last, env}
use types.Kit.{‵, raw, ◌⊛◌, some, later, at_ret, ◌$◌, ◌∵◌, !, qed, by, done, move, keep, drop, use0, use1, split, split3, join, pick, await, group, rewrite, fsplit, fsplit3, fjoin, fjoin3, fpack}
use types.Logic.{Logic, sem}
use types.Part.{sub, whole, look_in}
use types.Run.{enter, of_opd, load, addr, bin, size_lit, stop, fld, first, blocks, exec, returns}
use denote.Builtin.{usize, RefMutOf}
use denote.Exit.{yes, no}
use denote.Follow.{follows, lends_Part}
use denote.Memory.{cell_at, part_at, part_of, mem}
use denote.Plain.{uint_vals, uint_Tells}
use denote.RattleType.{owns}
use denote.RawPtr.{block_ptr}
use denote.Ref.{MutRef, mut_vals, mut_Tells}
use denote.Signature.{plain, types_at}
use denote.Steps.{heard, nothing}
use denote.Triple.Walked.{Stays, walk_of, stay_dropped, Goes-spent_ref, Goes-dropped}
use Rattle.core.proofs.alloc.Calls.{Al, token}
use Rattle.core.proofs.mem.Param.{El, R, el_x}
use Rattle.core.proofs.slots.Bodies.{after}
use Rattle.core.proofs.slots.Leases.{args, block_ty}
use Rattle.version_arena.specs.Ownership.{place_at, places_at}
use Rattle.version_arena.specs.RawCells.{IsFilled}
use Rattle.version_arena.specs.RawCellsLends.{with_value}
use Rattle.version_arena.proofs.Blocks.{Block, Fits, block_val, freeing, offset_fits, one_fits, block_opens, block_made}
use Rattle.version_arena.proofs.Rows.{Held, size, others, within, place_out, place_in}
use Rattle.version_arena.specs.contracts.raw_cells.RawCells.get_mut as f
use Rattle.version_arena.specs.contracts.raw_cells.RawCells.get_mut.Key.{name as key}
use Rattle.version_arena.proofs.raw_cells.RawCells.get_mut.Statement.{statement}
use Rattle.version_arena.proofs.raw_cells.RawCells.get_mut.Code as code

module _ (E : El) (Z : Al) {M : Type 1} {𝓤 : Ura M} (𝓛 : Logic 𝓤) (rb ro b o : ℕ) (d : (Block E Z).Denot) (index : ℕ) where
  -- all of the block but the value that is lent
  abbrev Rest : Fml
  Rest = fsep (others E b o d.held index) (fsep (freeing E Z d) (cell_at full_share (Block E Z).mir (block_val b o ∷ []) rb ro))

  back : d.at ≡ block_ptr b o → Fits E d.held → index < length d.held → (w : el_x E)
      → ent 𝓤 (sep 𝓤 (sem 𝓛 ((mem (R E)).own_at w b (index * size E + o))) (sem 𝓛 Rest)) (sem 𝓛 ((mem (Block E Z)).own_at (with_value d index w) rb ro))
  unfolding part_of
  back at fits in_row w =
      let held : Held E = set d.held index (Some w) in let long : length held ≡ length d.held = length-set d.held index (Some w) in
      qed 𝓛 (‵ (part_at (R E) full_share w b (index * size E + o)) ∷ ‵ Rest ∷ []) ∵ move ! (1 ∷ []) $ fsplit ! $ move ! (2 ∷ 0 ∷ []) $ fjoin ! $
      use1 𝓛 (‵ (places_at (R E) (block_ptr b o) held)) (place_in E 𝓛 b d.held index o in_row (Some w)) $ move ! (1 ∷ []) $ fsplit ! $ move ! (2 ∷ 0 ∷ []) $
      rewrite ! 1 (λ (count : ℕ). ‵ (token Z d.alloc (block_ty E count) d.at)) (sym long) refl $
      block_made E Z ! d.at b o at d.by held d.alloc (subst (λ (count : ℕ). count * size E < 2 ^ 63) (sym long) fits) $ move ! (1 ∷ 0 ∷ []) $ fjoin ! $
      fpack ! (List Val) (λ us. fsep (cell_at full_share (Block E Z).mir us rb ro) ((Block E Z).own_val (with_value d index w) us)) (block_val b o ∷ []) $ done !

pub get_mut_spec : {M : Type 1} → statement M
get_mut_spec 𝓤 𝓛 𝓜 𝓡 wired C A C-laws A-laws ghosts dict drops met dropped =
    let H = 𝓛.H in let 𝓣 = tables 𝓤 H 𝓜 𝓡 𝓡.env in
    let E : El = record { row = C; laws = C-laws } in let Z : Al = record { row = A; laws = A-laws; g = ghosts; d = dict; drops = drops } in
    let ended = f.ended C A ghosts dict drops in let c = f.clauses C A ghosts dict drops 𝓛 𝓜.mem 𝓡.returns in
    let here : Fn = inst_fn (args E Z) code.function in
    let stayed : Stays ended.signature.params ended.kept = (stay_dropped (RefMutOf (0 ∷ []) tt (plain (λ _. Block E Z)) (λ _. tt)) no, (stay_dropped (plain (λ _. usize)) yes, tt)) in
    proved 𝓛 ended stayed c 𝓜 𝓡 (Goes-spent_ref 𝓛 3 (0 ∷ []) tt (plain (λ _. Block E Z)), (Goes-dropped 𝓛 3 (plain (λ _. usize)) yes (λ κs x w. refl), tt))
    (key (args E Z)) here (code.unfolded 𝓤 H 𝓜 𝓡 wired (C, (A, tt)) dict drops)
    (λ κs. (mut_vals, (uint_vals w64, tt))) (λ κs. (mut_Tells (named 0) κs.0 (Block E Z), (uint_Tells w64, tt))) (λ κs qs bounds a _ are.
    let y : (walk_of 𝓛 ended stayed c).Ghost = ((κs, qs, bounds, a, (mut_vals a.0, (uint_vals w64 a.1.0, tt))), tt) in
    let rb : ℕ = a.0.ref_ptr.0 in let ro : ℕ = a.0.ref_ptr.1 in let γ : GName = a.0.ghost_name in let d : (Block E Z).Denot = a.0.now in let index : ℕ = a.1.0 in
    let Exit : Val → SProp 𝓤 = (walk_of 𝓛 ended stayed c).post y in let small : index < 2 ^ 64 = are.1.0.1 in
    qed 𝓛 (((‵ (flft κs.0 qs.0) ⊛ ‵ (flft κs.1.0 qs.1.0) ⊛ ‵ (flft κs.1.1.0 qs.1.1.0) ⊛ ‵ ftrue) ⊛ ‵ (owns (types_at ended.signature.params κs) a y.0.4))
    ∷ (raw (fact 𝓤 (κs.1.0 ⊑ C.lives)) ⊛ raw (fact 𝓤 (κs.1.1.0 ⊑ A.lives)) ⊛ raw (fact 𝓤 (IsFilled d.held index))) ∷ []) ∵
    move ! (1 ∷ []) $ split ! $ drop ! $ split ! $ drop ! $ heard ! (IsFilled d.held index) (λ full.
    let value : el_x E = full.0 in let in_row : index < length d.held = within E d.held index full in
    split ! $ split ! $ move ! (2 ∷ []) $ fsplit ! $ fsplit3 ! $ keep ! (1 ∷ 2 ∷ 4 ∷ 5 ∷ []) $
    enter ! 𝓣.C 𝓣.Λ here (vptr rb ro ∷ vint w64 index ∷ []) Exit $ alloc_all ! (λ l. pass_all ! refl ((tt, tt), ((tt, record { fits = small }), tt)) $
    let locals : Env 𝓤 H = env here.locals l in
    block_opens E Z rb ro ! tt d (λ b o at fits.
    let k : ℕ = index * size E + o in let one : size E < 2 ^ 64 = one_fits E index (length d.held) in_row fits in
    let below : index * size E < 2 ^ 63 = offset_fits E index (length d.held) in_row fits in let shift : index * size E < 2 ^ 64 = omega arith in
    -- [the places; the right to free them; the struct's cell; the open borrow, in three entries; the other tokens]
    first ! $ blocks ! $
    sets ! (of_opd ! (load ! (through ! refl (fld ! refl (stop !))) (look_in ! 2 (sub ! 0 refl (whole !))))) refl (tt, tt) $
    sets ! (bin ! (get ! refl) (size_lit ! (record { fits = one })) (record { fits = shift })) refl (tt, record { fits = shift }) $
    sets ! (bin ! (get ! refl) (get ! refl) tt) refl (tt, tt) $ sets_last ! (addr ! (through ! refl (stop !))) refl (tt, tt) $
    exec ! 𝓣.C 𝓣.Λ locals (after 1 here.body) (at_ret locals Exit) $ sets ! (of_opd ! (get ! refl)) refl (tt, tt) $
    use1 𝓛 (‵ (fsep (place_at (R E) (block_ptr b k) (get_or d.held index None)) (others E b o d.held index))) (place_out E 𝓛 b d.held index o in_row) $ fsplit ! $
    rewrite ! 0 (λ (held : Option (el_x E)). ‵ (place_at (R E) (block_ptr b k) held)) full.1 refl $
    move ! (2 ∷ 3 ∷ []) $ fjoin ! $ move ! (2 ∷ 0 ∷ []) $ fjoin ! $ move ! (2 ∷ 3 ∷ 4 ∷ 1 ∷ 0 ∷ []) $ group ! 5 $
    use1 𝓛 (later (some (λ (γ' : GName). ‵ ((MutRef (named 0) κs.0 (R E)).own_val (record { ref_ptr = (b, k); ghost_name = γ'; now = value }) (vptr b k ∷ []))
    ⊛ ‵ (flft κs.0 qs.0) ⊛ ‵ (follows (Block E Z) (R E) γ γ' (with_value d index)))))
    (lends_Part 𝓛 (Block E Z) (R E) (with_value d index) (named 0) κs.0 qs.0 rb ro b k γ (sem 𝓛 (Rest E Z 𝓛 rb ro b o d index)) (back E Z 𝓛 rb ro b o d index at fits in_row)
    ((Block E Z).coded.code d) ((Block E Z).coded.code d) value) $
    await ! tt $ pick ! (λ γ'. split3 ! $ returns ! (look_at ! 0 refl) $ free_all ! refl $
    -- [what is lent; the token of self; how self ends; the other tokens]
    use0 𝓛 (raw (fact 𝓤 (get_or d.held index None ≡ Some value))) (fact_i 𝓤 (get_or d.held index None ≡ Some value) (emp 𝓤) full.1) $ move ! (3 ∷ 0 ∷ []) $ join ! $
    nothing ! $ nothing ! $ nothing ! $ fjoin3 ! $ move ! (3 ∷ 4 ∷ []) $ join ! $ move ! (0 ∷ 1 ∷ 3 ∷ 2 ∷ []) $
    by ! (leaves 𝓛 ended stayed c y (vptr b k) (record { ref_ptr = (b, k); ghost_name = γ'; now = value }) (tt, (tt, tt)) (tt, (tt, tt))))))))
