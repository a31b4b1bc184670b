-- `forget_all` takes the places out, and puts them back with room alone. Assumes `Logic`.
use Rattle.std.proofs.Common.{◌≡◌, ℕ, ◌*◌, ◌^◌, ◌<◌, List, [], ◌∷◌, length, replicate, None, refl, sym, subst}
use Rattle.std.proofs.lemmas.List.{length-replicate}
use Rattle.std.proofs.raw_atomic.Walks.{proved, leaves}
use base.Logic.{SProp, emp}
use base.Fml.{ftrue, flft}
use mir.Syntax.{Fn, named}
use mir.MapTy.{inst_fn}
use mir.Val.{Val, vptr, vunit}
use contract.BorrowLft.{◌⊑◌}
use contract.Monad.{fact, fact_i}
use contract.Running.{tables}
use types.ByLocal.{alloc_all, pass_all, free_all, look_at, sets}
use types.Kit.{‵, raw, ◌⊛◌, ◌$◌, ◌∵◌, !, qed, by, move, keep, use0, use1, split, join, fsplit, fsplit3, fjoin, fjoin3, feq_i}
use types.Run.{enter, of_opd, unit_lit, returns}
use denote.RattleType.{owns}
use denote.RawPtr.{block_ptr}
use denote.Ref.{mut_vals, mut_Tells}
use denote.Signature.{plain, types_at}
use denote.Steps.{nothing}
use denote.Triple.Walked.{Stays, walk_of, stay_ref, Goes-ref}
use Rattle.core.proofs.alloc.Calls.{Al}
use Rattle.core.proofs.mem.Param.{El, R}
use Rattle.core.proofs.slots.Leases.{args}
use Rattle.version_arena.specs.Ownership.{places_at}
use Rattle.version_arena.proofs.Blocks.{Block, of, block_opens, block_closes}
use Rattle.version_arena.proofs.Rows.{Held, size}
use Rattle.version_arena.proofs.Forgetting.{forgotten_row}
use Rattle.version_arena.specs.contracts.raw_cells.RawCells.forget_all as f
use Rattle.version_arena.specs.contracts.raw_cells.RawCells.forget_all.Key.{name as key}
use Rattle.version_arena.proofs.raw_cells.RawCells.forget_all.Statement.{statement}
use Rattle.version_arena.proofs.raw_cells.RawCells.forget_all.Code as code

pub forget_all_spec : {M : Type 1} → statement M
forget_all_spec 𝓤 𝓛 𝓜 𝓡 wired C A C-laws A-laws ghosts dict drops met dropped =
    let H = 𝓛.H in let 𝓣 = tables 𝓤 H 𝓜 𝓡 𝓡.env in
    let E : El = record { row = C; laws = C-laws } in let Z : Al = record { row = A; laws = A-laws; g = ghosts; d = dict; drops = drops } in
    let ended = f.ended C A ghosts dict drops in let c = f.clauses C A ghosts dict drops 𝓛 𝓜.mem 𝓡.returns in
    let here : Fn = inst_fn (args E Z) code.function in
    let stayed : Stays ended.signature.params ended.kept = (stay_ref (0 ∷ []) tt (plain (λ _. Block E Z)), tt) in
    proved 𝓛 ended stayed c 𝓜 𝓡 (Goes-ref 𝓛 3 0 tt (plain (λ _. Block E Z)), tt)
    (key (args E Z)) here (code.unfolded 𝓤 H 𝓜 𝓡 wired (C, (A, tt)) dict drops)
    (λ κs. (mut_vals, tt)) (λ κs. (mut_Tells (named 0) κs.0 (Block E Z), tt)) (λ κs qs bounds a _ are.
    let y : (walk_of 𝓛 ended stayed c).Ghost = ((κs, qs, bounds, a, (mut_vals a.0, tt)), tt) in
    let rb : ℕ = a.0.ref_ptr.0 in let ro : ℕ = a.0.ref_ptr.1 in let d : (Block E Z).Denot = a.0.now in
    let Exit : Val → SProp 𝓤 = (walk_of 𝓛 ended stayed c).post y in
    let emptied : Held E = replicate (length d.held) None in let long : length emptied ≡ length d.held = length-replicate (length d.held) None in
    qed 𝓛 (((‵ (flft κs.0 qs.0) ⊛ ‵ (flft κs.1.0 qs.1.0) ⊛ ‵ (flft κs.1.1.0 qs.1.1.0) ⊛ ‵ ftrue) ⊛ ‵ (owns (types_at ended.signature.params κs) a y.0.4))
    ∷ (raw (fact 𝓤 (κs.1.0 ⊑ C.lives)) ⊛ raw (fact 𝓤 (κs.1.1.0 ⊑ A.lives)) ⊛ ‵ ftrue) ∷ []) ∵
    split ! $ split ! $ move ! (2 ∷ []) $ fsplit ! $ fsplit3 ! $ keep ! (1 ∷ 2 ∷ 4 ∷ 5 ∷ []) $
    enter ! 𝓣.C 𝓣.Λ here (vptr rb ro ∷ []) Exit $ alloc_all ! (λ l. pass_all ! refl ((tt, tt), tt) $
    block_opens E Z rb ro ! tt d (λ b o at fits.
    use1 𝓛 (‵ (places_at (R E) (block_ptr b o) emptied)) (forgotten_row E 𝓛 b d.held o) $
    -- [the places; the right to free them; the struct's cell; the open borrow, in three entries; the other tokens]
    block_closes E Z rb ro ! tt d b o at emptied long (subst (λ (count : ℕ). count * size E < 2 ^ 63) (sym long) fits) $
    sets ! (of_opd ! (unit_lit !)) refl (tt, tt) $ returns ! (look_at ! 0 refl) $ free_all ! refl $
    -- [two parts of self; its token; the other tokens]
    feq_i ! (List Val) (mut_vals a.0) (vptr rb ro ∷ []) refl $ fjoin3 ! $ nothing ! $ move ! (1 ∷ 0 ∷ []) $ fjoin ! $ move ! (1 ∷ 2 ∷ []) $ join ! $
    use0 𝓛 (raw (fact 𝓤 (d.alloc ≡ d.alloc))) (fact_i 𝓤 (d.alloc ≡ d.alloc) (emp 𝓤) refl) $ use0 𝓛 (raw (fact 𝓤 (emptied ≡ emptied))) (fact_i 𝓤 (emptied ≡ emptied) (emp 𝓤) refl) $ join ! $
    feq_i ! (List Val) (vunit ∷ []) (vunit ∷ []) refl $ move ! (2 ∷ 3 ∷ 0 ∷ 1 ∷ []) $
    by ! (leaves 𝓛 ended stayed c y vunit tt (of E Z d.at d.by emptied d.alloc, tt) (tt, tt)))))
