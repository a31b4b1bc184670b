-- `get` hands on the `&` to a value that a `&` to the block holds. Assumes `Logic`.
use Rattle.std.proofs.Common.{◌≡◌, ℕ, ◌*◌, ◌+◌, ◌^◌, ◌<◌, List, [], ◌∷◌, length, get_or, Some, None, refl, arith, w64}
use Rattle.std.proofs.raw_atomic.Walks.{proved, leaves}
use base.Logic.{SProp, emp, never, id⊢}
use base.Fml.{ftrue, flft}
use mir.Syntax.{Fn, named}
use mir.MapTy.{inst_fn}
use mir.Val.{Val, vint, vptr}
use prog.Wp.{Env}
use contract.BorrowLft.{◌⊑◌}
use contract.Monad.{fact, fact_i}
use contract.Running.{tables}
use types.ByLocal.{alloc_all, pass_all, free_all, look_at, get, through, sets, sets_last, env}
use types.Kit.{‵, raw, ◌⊛◌, at_ret, ◌$◌, ◌∵◌, !, qed, by, move, keep, drop, use0, use1, split, join, rewrite, fsplit, fjoin, fjoin3, feq_i, flt_l}
use types.Run.{enter, of_opd, load, look, addr, bin, size_lit, stop, fld, first, blocks, exec, returns}
use denote.Builtin.{usize, RefOf}
use denote.Exit.{yes}
use denote.Memory.{hidden_shr}
use denote.Plain.{uint_vals, uint_Tells}
use denote.RattleType.{owns}
use denote.RawPtr.{Ptr, RawPtr, in_block, in_a_block}
use denote.Ref.{shr_vals, shr_Tells}
use denote.Signature.{plain, types_at}
use denote.Steps.{heard, nothing}
use denote.Triple.Walked.{Stays, walk_of, stay_dropped, Goes-dropped}
use Rattle.core.proofs.alloc.Calls.{Al}
use Rattle.core.proofs.mem.Param.{El, R, el_x}
use Rattle.core.proofs.slots.Bodies.{after}
use Rattle.core.proofs.slots.Leases.{args}
use Rattle.core.proofs.slots.Lent.{pointer_in, pointer_out}
use Rattle.version_arena.specs.Ownership.{places_lent, block_lent}
use Rattle.version_arena.specs.RawCells.{IsFilled}
use Rattle.version_arena.proofs.Blocks.{Block, offset_fits, one_fits, block_shown}
use Rattle.version_arena.proofs.Rows.{size, within, lent_out}
use Rattle.version_arena.specs.contracts.raw_cells.RawCells.get as f
use Rattle.version_arena.specs.contracts.raw_cells.RawCells.get.Key.{name as key}
use Rattle.version_arena.proofs.raw_cells.RawCells.get.Statement.{statement}
use Rattle.version_arena.proofs.raw_cells.RawCells.get.Code as code

pub get_spec : {M : Type 1} → statement M
get_spec 𝓤 𝓛 𝓜 𝓡 wired C A C-laws A-laws ghosts dict drops met dropped =
    let H = 𝓛.H in let 𝓣 = tables 𝓤 H 𝓜 𝓡 𝓡.env in
    let E : El = record { row = C; laws = C-laws } in let Z : Al = record { row = A; laws = A-laws; g = ghosts; d = dict; drops = drops } in
    let ended = f.ended C A ghosts dict drops in let c = f.clauses C A ghosts dict drops 𝓛 𝓜.mem 𝓡.returns in
    let here : Fn = inst_fn (args E Z) code.function in
    let Handle = RefOf (0 ∷ []) tt (plain (λ _. Block E Z)) (λ _. tt) in
    let stayed : Stays ended.signature.params ended.kept = (stay_dropped Handle yes, (stay_dropped (plain (λ _. usize)) yes, tt)) in
    proved 𝓛 ended stayed c 𝓜 𝓡 (Goes-dropped 𝓛 3 Handle yes (λ κs x w. refl), (Goes-dropped 𝓛 3 (plain (λ _. usize)) yes (λ κs x w. refl), tt))
    (key (args E Z)) here (code.unfolded 𝓤 H 𝓜 𝓡 wired (C, (A, tt)) dict drops)
    (λ κs. (shr_vals, (uint_vals w64, tt))) (λ κs. (shr_Tells (named 0) κs.0 (Block E Z), (uint_Tells w64, tt))) (λ κs qs bounds a _ are.
    let y : (walk_of 𝓛 ended stayed c).Ghost = ((κs, qs, bounds, a, (shr_vals a.0, (uint_vals w64 a.1.0, tt))), tt) in
    let rb : ℕ = a.0.ref_ptr.0 in let ro : ℕ = a.0.ref_ptr.1 in let d : (Block E Z).Denot = a.0.now in let index : ℕ = a.1.0 in
    let Exit : Val → SProp 𝓤 = (walk_of 𝓛 ended stayed c).post y in let small : index < 2 ^ 64 = are.1.0.1 in
    qed 𝓛 (((‵ (flft κs.0 qs.0) ⊛ ‵ (flft κs.1.0 qs.1.0) ⊛ ‵ (flft κs.1.1.0 qs.1.1.0) ⊛ ‵ ftrue) ⊛ ‵ (owns (types_at ended.signature.params κs) a y.0.4))
    ∷ (raw (fact 𝓤 (κs.1.0 ⊑ C.lives)) ⊛ raw (fact 𝓤 (κs.1.1.0 ⊑ A.lives)) ⊛ raw (fact 𝓤 (IsFilled d.held index))) ∷ []) ∵
    move ! (1 ∷ []) $ split ! $ drop ! $ split ! $ drop ! $ heard ! (IsFilled d.held index) (λ full.
    let value : el_x E = full.0 in let in_row : index < length d.held = within E d.held index full in
    split ! $ split ! $ move ! (2 ∷ []) $ fsplit ! $ fsplit ! $ drop ! $
    use1 𝓛 (‵ (hidden_shr RawPtr κs.0 d.at rb (ro + 0)) ⊛ ‵ (block_lent (R E) d.at d.held κs.0)) (block_shown E Z 𝓛 κs.0 rb ro d) $ split ! $
    move ! (1 ∷ []) $ fsplit ! $ flt_l ! (λ fits. fsplit ! $ in_a_block ! d.at (λ p. in_block p ftrue) (id⊢ 𝓤 (never 𝓤)) (λ b o at. drop ! $
    let k : ℕ = index * size E + o in let one : size E < 2 ^ 64 = one_fits E index (length d.held) in_row fits in
    let below : index * size E < 2 ^ 63 = offset_fits E index (length d.held) in_row fits in let shift : index * size E < 2 ^ 64 = omega arith in
    rewrite ! 0 (λ (p : Ptr). ‵ (places_lent (R E) p d.held κs.0)) at refl $ use1 𝓛 (‵ (hidden_shr (R E) κs.0 value b k)) (lent_out E 𝓛 b κs.0 d.held index o value full.1) $
    keep ! (1 ∷ 3 ∷ 0 ∷ 4 ∷ []) $
    -- [the struct's pointer; the token of self; the value behind a `&`; the other tokens]
    enter ! 𝓣.C 𝓣.Λ here (vptr rb ro ∷ vint w64 index ∷ []) Exit $ alloc_all ! (λ l. pass_all ! refl ((tt, tt), ((tt, record { fits = small }), tt)) $
    let locals : Env 𝓤 H = env here.locals l in
    first ! $ blocks ! $ pointer_in ! tt d.at b o at rb (ro + 0) (λ q.
    sets ! (of_opd ! (load ! (through ! refl (fld ! refl (stop !))) (look ! 0 refl))) refl (tt, tt) $ pointer_out ! tt d.at b o at rb (ro + 0) $
    sets ! (bin ! (get ! refl) (size_lit ! (record { fits = one })) (record { fits = shift })) refl (tt, record { fits = shift }) $
    sets ! (bin ! (get ! refl) (get ! refl) tt) refl (tt, tt) $ sets_last ! (addr ! (through ! refl (stop !))) refl (tt, tt) $
    exec ! 𝓣.C 𝓣.Λ locals (after 1 here.body) (at_ret locals Exit) $ sets ! (of_opd ! (get ! refl)) refl (tt, tt) $
    returns ! (look_at ! 0 refl) $ free_all ! refl $
    -- [the token of self; the value behind a `&`; the other tokens]
    move ! (0 ∷ 2 ∷ []) $ join ! $ nothing ! $ nothing ! $ nothing ! $ fjoin3 ! $ move ! (2 ∷ []) $ feq_i ! (List Val) (vptr b k ∷ []) (vptr b k ∷ []) refl $ fjoin ! $
    use0 𝓛 (raw (fact 𝓤 (get_or d.held index None ≡ Some value))) (fact_i 𝓤 (get_or d.held index None ≡ Some value) (emp 𝓤) full.1) $ move ! (3 ∷ 2 ∷ 1 ∷ 0 ∷ []) $
    by ! (leaves 𝓛 ended stayed c y (vptr b k) (record { ref_ptr = (b, k); now = value }) (tt, (tt, tt)) (tt, (tt, tt)))))))))
