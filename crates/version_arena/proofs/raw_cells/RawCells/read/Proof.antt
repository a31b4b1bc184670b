-- `read` takes a value and its cell out of a place, and puts the place back with the room of the cell. Assumes `Logic`.
use Rattle.std.proofs.Common.{◌≡◌, ℕ, ◌*◌, ◌+◌, ◌^◌, ◌<◌, List, [], ◌∷◌, length, length-set, get_or, set, Option, Some, None, refl, sym, subst, arith, w64}
use Rattle.std.proofs.raw_atomic.Walks.{proved, leaves}
use base.Logic.{SProp, emp}
use base.Fml.{ftrue, fsep, fat, flft}
use base.Fraction.{full_share}
use mir.Syntax.{Fn, named}
use mir.MapTy.{inst_fn}
use mir.Val.{Val, vint, vptr}
use prog.Wp.{Env}
use contract.BorrowLft.{◌⊑◌}
use contract.Monad.{fact, fact_i}
use contract.Running.{tables}
use types.ByLocal.{alloc_all, pass_all, free_all, look_at, get, through, sets, sets_last, env}
use types.Kit.{‵, raw, ◌⊛◌, some, given, at_ret, ◌$◌, ◌∵◌, !, qed, by, move, keep, drop, use0, use1, split, join, pick, learn, rewrite, fsplit, fsplit3, fjoin, fjoin3, feq_i}
use types.Part.{sub, whole, look_in}
use types.Run.{enter, of_opd, load, look, forget, bin, size_lit, stop, fld, first, blocks, exec, returns}
use denote.Builtin.{usize}
use denote.Exit.{yes}
use denote.Plain.{uint_vals, uint_Tells}
use denote.RattleType.{owns}
use denote.RawPtr.{block_ptr}
use denote.Ref.{mut_vals, mut_Tells}
use denote.Signature.{plain, types_at}
use denote.Steps.{heard, nothing}
use denote.Triple.Walked.{Stays, walk_of, stay_ref, stay_dropped, Goes-ref, Goes-dropped}
use Rattle.core.proofs.alloc.Calls.{Al}
use Rattle.core.proofs.mem.Param.{El, R, el_x, elτ, Good}
use Rattle.core.proofs.slice.Rows.{el_out}
use Rattle.core.proofs.slots.Bodies.{after}
use Rattle.core.proofs.slots.Leases.{args}
use Rattle.version_arena.specs.Ownership.{place_at, places_at}
use Rattle.version_arena.specs.RawCells.{IsFilled}
use Rattle.version_arena.proofs.Blocks.{Block, of, offset_fits, one_fits, block_opens, block_closes}
use Rattle.version_arena.proofs.Rows.{Held, size, others, within, place_out, place_in, room_to}
use Rattle.version_arena.specs.contracts.raw_cells.RawCells.read as f
use Rattle.version_arena.specs.contracts.raw_cells.RawCells.read.Key.{name as key}
use Rattle.version_arena.proofs.raw_cells.RawCells.read.Statement.{statement}
use Rattle.version_arena.proofs.raw_cells.RawCells.read.Code as code

pub read_spec : {M : Type 1} → statement M
read_spec 𝓤 𝓛 𝓜 𝓡 wired C A C-laws A-laws ghosts dict drops met dropped =
    let H = 𝓛.H in let 𝓣 = tables 𝓤 H 𝓜 𝓡 𝓡.env in
    let E : El = record { row = C; laws = C-laws } in let Z : Al = record { row = A; laws = A-laws; g = ghosts; d = dict; drops = drops } in
    let ended = f.ended C A ghosts dict drops in let c = f.clauses C A ghosts dict drops 𝓛 𝓜.mem 𝓡.returns in
    let here : Fn = inst_fn (args E Z) code.function in
    let stayed : Stays ended.signature.params ended.kept = (stay_ref (0 ∷ []) tt (plain (λ _. Block E Z)), (stay_dropped (plain (λ _. usize)) yes, tt)) in
    proved 𝓛 ended stayed c 𝓜 𝓡 (Goes-ref 𝓛 3 0 tt (plain (λ _. Block E Z)), (Goes-dropped 𝓛 3 (plain (λ _. usize)) yes (λ κs x w. refl), tt))
    (key (args E Z)) here (code.unfolded 𝓤 H 𝓜 𝓡 wired (C, (A, tt)) dict drops)
    (λ κs. (mut_vals, (uint_vals w64, tt))) (λ κs. (mut_Tells (named 0) κs.0 (Block E Z), (uint_Tells w64, tt))) (λ κs qs bounds a _ are.
    let y : (walk_of 𝓛 ended stayed c).Ghost = ((κs, qs, bounds, a, (mut_vals a.0, (uint_vals w64 a.1.0, tt))), tt) in
    let rb : ℕ = a.0.ref_ptr.0 in let ro : ℕ = a.0.ref_ptr.1 in let d : (Block E Z).Denot = a.0.now in let index : ℕ = a.1.0 in
    let Exit : Val → SProp 𝓤 = (walk_of 𝓛 ended stayed c).post y in
    let small : index < 2 ^ 64 = are.1.0.1 in let emptied : Held E = set d.held index None in let long : length emptied ≡ length d.held = length-set d.held index None in
    qed 𝓛 (((‵ (flft κs.0 qs.0) ⊛ ‵ (flft κs.1.0 qs.1.0) ⊛ ‵ (flft κs.1.1.0 qs.1.1.0) ⊛ ‵ ftrue) ⊛ ‵ (owns (types_at ended.signature.params κs) a y.0.4))
    ∷ (raw (fact 𝓤 (κs.1.0 ⊑ C.lives)) ⊛ raw (fact 𝓤 (κs.1.1.0 ⊑ A.lives)) ⊛ raw (fact 𝓤 (IsFilled d.held index))) ∷ []) ∵
    move ! (1 ∷ []) $ split ! $ drop ! $ split ! $ drop ! $ heard ! (IsFilled d.held index) (λ full.
    let value : el_x E = full.0 in let in_row : index < length d.held = within E d.held index full in
    split ! $ split ! $ move ! (2 ∷ []) $ fsplit ! $ fsplit3 ! $ keep ! (1 ∷ 2 ∷ 4 ∷ 5 ∷ []) $
    enter ! 𝓣.C 𝓣.Λ here (vptr rb ro ∷ vint w64 index ∷ []) Exit $ alloc_all ! (λ l. pass_all ! refl ((tt, tt), ((tt, record { fits = small }), tt)) $
    let locals : Env 𝓤 H = env here.locals l in
    block_opens E Z rb ro ! tt d (λ b o at fits.
    let k : ℕ = index * size E + o in let one : size E < 2 ^ 64 = one_fits E index (length d.held) in_row fits in
    let below : index * size E < 2 ^ 63 = offset_fits E index (length d.held) in_row fits in let shift : index * size E < 2 ^ 64 = omega arith in
    use1 𝓛 (‵ (fsep (place_at (R E) (block_ptr b k) (get_or d.held index None)) (others E b o d.held index))) (place_out E 𝓛 b d.held index o in_row) $ fsplit ! $
    rewrite ! 0 (λ (held : Option (el_x E)). ‵ (place_at (R E) (block_ptr b k) held)) full.1 refl $
    use1 𝓛 (some (λ (v : Val). given (Good E v) (‵ (fat full_share (elτ E) b k v) ⊛ ‵ (E.row.own_val value (v ∷ []))))) (el_out E 𝓛 b value k) $ pick ! (λ v. learn ! (λ good. split ! $
    -- [the value's cell; what it owns; the other places; the right to free them; the struct's cell; the open borrow, in three entries; the other tokens]
    first ! $ blocks ! $
    sets ! (of_opd ! (load ! (through ! refl (fld ! refl (stop !))) (look_in ! 4 (sub ! 0 refl (whole !))))) refl (tt, tt) $
    sets ! (bin ! (get ! refl) (size_lit ! (record { fits = one })) (record { fits = shift })) refl (tt, record { fits = shift }) $
    sets ! (bin ! (get ! refl) (get ! refl) tt) refl (tt, tt) $ sets_last ! (of_opd ! (load ! (through ! refl (stop !)) (look ! 0 refl))) refl good $
    exec ! 𝓣.C 𝓣.Λ locals (after 1 here.body) (at_ret locals Exit) $ sets ! (of_opd ! (get ! refl)) refl good $
    forget ! 0 refl $ use1 𝓛 (‵ (place_at (R E) (block_ptr b k) None)) (room_to E 𝓛 b k) $ move ! (0 ∷ 2 ∷ []) $ fjoin ! $
    use1 𝓛 (‵ (places_at (R E) (block_ptr b o) emptied)) (place_in E 𝓛 b d.held index o in_row None) $ move ! (0 ∷ 2 ∷ 3 ∷ 4 ∷ 5 ∷ 6 ∷ []) $
    block_closes E Z rb ro ! tt d b o at emptied long (subst (λ (count : ℕ). count * size E < 2 ^ 63) (sym long) fits) $
    returns ! (look_at ! 0 refl) $ free_all ! refl $
    -- [two parts of self; its token; what the value owns; the other tokens]
    feq_i ! (List Val) (mut_vals a.0) (vptr rb ro ∷ []) refl $ fjoin3 ! $ nothing ! $ nothing ! $ fjoin ! $ move ! (1 ∷ 0 ∷ []) $ fjoin ! $ move ! (1 ∷ 3 ∷ []) $ join ! $
    use0 𝓛 (raw (fact 𝓤 (d.alloc ≡ d.alloc))) (fact_i 𝓤 (d.alloc ≡ d.alloc) (emp 𝓤) refl) $ use0 𝓛 (raw (fact 𝓤 (emptied ≡ emptied))) (fact_i 𝓤 (emptied ≡ emptied) (emp 𝓤) refl) $ join ! $
    use0 𝓛 (raw (fact 𝓤 (get_or d.held index None ≡ Some value))) (fact_i 𝓤 (get_or d.held index None ≡ Some value) (emp 𝓤) full.1) $ join ! $ move ! (1 ∷ 2 ∷ 3 ∷ 0 ∷ []) $
    by ! (leaves 𝓛 ended stayed c y v value (of E Z d.at d.by emptied d.alloc, (tt, tt)) (tt, (tt, tt)))))))))
