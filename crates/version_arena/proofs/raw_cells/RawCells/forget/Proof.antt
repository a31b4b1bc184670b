-- `forget` takes a place out, and puts it back with room alone. Assumes `Logic`.
use Rattle.std.proofs.Common.{◌≡◌, ℕ, ◌*◌, ◌+◌, ◌^◌, ◌<◌, List, [], ◌∷◌, length, length-set, get_or, set, None, refl, sym, subst, w64}
use Rattle.std.proofs.raw_atomic.Walks.{proved, leaves}
use base.Logic.{SProp, emp}
use base.Fml.{ftrue, fsep, flft}
use mir.Syntax.{Fn, named}
use mir.MapTy.{inst_fn}
use mir.Val.{Val, vint, vptr, vunit}
use prog.Wp.{Env}
use contract.BorrowLft.{◌⊑◌}
use contract.Monad.{fact, fact_i}
use contract.Running.{tables}
use types.ByLocal.{alloc_all, pass_all, free_all, look_at, sets, env}
use types.Kit.{‵, raw, ◌⊛◌, ◌$◌, ◌∵◌, !, qed, by, move, keep, drop, use0, use1, split, join, fsplit, fsplit3, fjoin, fjoin3, feq_i}
use types.Run.{enter, of_opd, unit_lit, returns}
use denote.Builtin.{usize}
use denote.Exit.{yes}
use denote.Plain.{uint_vals, uint_Tells}
use denote.RattleType.{owns}
use denote.RawPtr.{block_ptr}
use denote.Ref.{mut_vals, mut_Tells}
use denote.Signature.{plain, types_at}
use denote.Steps.{heard, nothing}
use denote.Triple.Walked.{Stays, walk_of, stay_ref, stay_dropped, Goes-ref, Goes-dropped}
use Rattle.core.proofs.alloc.Calls.{Al}
use Rattle.core.proofs.mem.Param.{El, R}
use Rattle.core.proofs.slots.Leases.{args}
use Rattle.version_arena.specs.Ownership.{place_at, places_at}
use Rattle.version_arena.proofs.Blocks.{Block, of, block_opens, block_closes}
use Rattle.version_arena.proofs.Rows.{Held, size, others, place_out, place_in}
use Rattle.version_arena.proofs.Forgetting.{forgotten}
use Rattle.version_arena.specs.contracts.raw_cells.RawCells.forget as f
use Rattle.version_arena.specs.contracts.raw_cells.RawCells.forget.Key.{name as key}
use Rattle.version_arena.proofs.raw_cells.RawCells.forget.Statement.{statement}
use Rattle.version_arena.proofs.raw_cells.RawCells.forget.Code as code

pub forget_spec : {M : Type 1} → statement M
forget_spec 𝓤 𝓛 𝓜 𝓡 wired C A C-laws A-laws ghosts dict drops met dropped =
    let H = 𝓛.H in let 𝓣 = tables 𝓤 H 𝓜 𝓡 𝓡.env in
    let E : El = record { row = C; laws = C-laws } in let Z : Al = record { row = A; laws = A-laws; g = ghosts; d = dict; drops = drops } in
    let ended = f.ended C A ghosts dict drops in let c = f.clauses C A ghosts dict drops 𝓛 𝓜.mem 𝓡.returns in
    let here : Fn = inst_fn (args E Z) code.function in
    let stayed : Stays ended.signature.params ended.kept = (stay_ref (0 ∷ []) tt (plain (λ _. Block E Z)), (stay_dropped (plain (λ _. usize)) yes, tt)) in
    proved 𝓛 ended stayed c 𝓜 𝓡 (Goes-ref 𝓛 3 0 tt (plain (λ _. Block E Z)), (Goes-dropped 𝓛 3 (plain (λ _. usize)) yes (λ κs x w. refl), tt))
    (key (args E Z)) here (code.unfolded 𝓤 H 𝓜 𝓡 wired (C, (A, tt)) dict drops)
    (λ κs. (mut_vals, (uint_vals w64, tt))) (λ κs. (mut_Tells (named 0) κs.0 (Block E Z), (uint_Tells w64, tt))) (λ κs qs bounds a _ are.
    let y : (walk_of 𝓛 ended stayed c).Ghost = ((κs, qs, bounds, a, (mut_vals a.0, (uint_vals w64 a.1.0, tt))), tt) in
    let rb : ℕ = a.0.ref_ptr.0 in let ro : ℕ = a.0.ref_ptr.1 in let d : (Block E Z).Denot = a.0.now in let index : ℕ = a.1.0 in
    let Exit : Val → SProp 𝓤 = (walk_of 𝓛 ended stayed c).post y in
    let InRow : Type 0 = index < length d.held in
    let small : index < 2 ^ 64 = are.1.0.1 in let emptied : Held E = set d.held index None in let long : length emptied ≡ length d.held = length-set d.held index None in
    qed 𝓛 (((‵ (flft κs.0 qs.0) ⊛ ‵ (flft κs.1.0 qs.1.0) ⊛ ‵ (flft κs.1.1.0 qs.1.1.0) ⊛ ‵ ftrue) ⊛ ‵ (owns (types_at ended.signature.params κs) a y.0.4))
    ∷ (raw (fact 𝓤 (κs.1.0 ⊑ C.lives)) ⊛ raw (fact 𝓤 (κs.1.1.0 ⊑ A.lives)) ⊛ raw (fact 𝓤 InRow)) ∷ []) ∵
    move ! (1 ∷ []) $ split ! $ drop ! $ split ! $ drop ! $ heard ! InRow (λ in_row.
    split ! $ split ! $ move ! (2 ∷ []) $ fsplit ! $ fsplit3 ! $ keep ! (1 ∷ 2 ∷ 4 ∷ 5 ∷ []) $
    enter ! 𝓣.C 𝓣.Λ here (vptr rb ro ∷ vint w64 index ∷ []) Exit $ alloc_all ! (λ l. pass_all ! refl ((tt, tt), ((tt, record { fits = small }), tt)) $
    let locals : Env 𝓤 H = env here.locals l in
    block_opens E Z rb ro ! tt d (λ b o at fits.
    let k : ℕ = index * size E + o in
    use1 𝓛 (‵ (fsep (place_at (R E) (block_ptr b k) (get_or d.held index None)) (others E b o d.held index))) (place_out E 𝓛 b d.held index o in_row) $ fsplit ! $
    use1 𝓛 (‵ (place_at (R E) (block_ptr b k) None)) (forgotten E 𝓛 b k (get_or d.held index None)) $ fjoin ! $
    use1 𝓛 (‵ (places_at (R E) (block_ptr b o) emptied)) (place_in E 𝓛 b d.held index o in_row None) $
    -- [the places; the right to free them; the struct's cell; the open borrow, in three entries; the other tokens]
    block_closes E Z rb ro ! tt d b o at emptied long (subst (λ (count : ℕ). count * size E < 2 ^ 63) (sym long) fits) $
    sets ! (of_opd ! (unit_lit !)) refl (tt, tt) $ returns ! (look_at ! 0 refl) $ free_all ! refl $
    -- [two parts of self; its token; the other tokens]
    feq_i ! (List Val) (mut_vals a.0) (vptr rb ro ∷ []) refl $ fjoin3 ! $ nothing ! $ nothing ! $ fjoin ! $ move ! (1 ∷ 0 ∷ []) $ fjoin ! $ move ! (1 ∷ 2 ∷ []) $ join ! $
    use0 𝓛 (raw (fact 𝓤 (d.alloc ≡ d.alloc))) (fact_i 𝓤 (d.alloc ≡ d.alloc) (emp 𝓤) refl) $ use0 𝓛 (raw (fact 𝓤 (emptied ≡ emptied))) (fact_i 𝓤 (emptied ≡ emptied) (emp 𝓤) refl) $ join ! $
    feq_i ! (List Val) (vunit ∷ []) (vunit ∷ []) refl $ move ! (2 ∷ 3 ∷ 0 ∷ 1 ∷ []) $
    by ! (leaves 𝓛 ended stayed c y vunit tt (of E Z d.at d.by emptied d.alloc, (tt, tt)) (tt, (tt, tt)))))))
