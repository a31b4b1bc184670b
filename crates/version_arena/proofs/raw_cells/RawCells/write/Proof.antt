-- `write` takes the room out of an empty place, and puts the place back with the value. Assumes `Logic`.
use Rattle.std.proofs.Common.{◌≡◌, ℕ, ◌*◌, ◌+◌, ◌^◌, ◌<◌, List, [], ◌∷◌, ◌++◌, length, length-set, get_or, set, Option, Some, None, refl, sym, subst, arith, w64}
use Rattle.std.proofs.raw_atomic.Walks.{proved_at, leaves}
use base.Logic.{SProp, ent, emp, id⊢}
use base.Fml.{ftrue, fsep, froom, flft}
use base.Fraction.{full_share}
use mir.Syntax.{Fn}
use mir.MapTy.{inst_fn}
use mir.Val.{Val, vint, vptr, vunit}
use prog.Wp.{Env, WpFn}
use contract.BorrowLft.{◌⊑◌}
use contract.Monad.{fact, fact_i}
use contract.Running.{tables}
use types.ByLocal.{alloc_all, pass_all, free_all, look_at, get, through, sets, env}
use types.Kit.{‵, raw, ◌⊛◌, at_ret, ◌$◌, ◌∵◌, !, qed, by, move, keep, drop, use0, use1, use2, split, join, rewrite, fsplit, fsplit3, fjoin, fjoin3, feq_i, suffices}
use types.Part.{sub, whole, look_in}
use types.Run.{enter, of_opd, load, init, bin, size_lit, unit_lit, stop, fld, assigns_last, first, blocks, exec, returns}
use denote.Builtin.{usize}
use denote.Exit.{yes, no}
use denote.Memory.{part_at}
use denote.RattleType.{owns}
use denote.RawPtr.{block_ptr}
use denote.Signature.{plain, types_at}
use denote.Steps.{heard, nothing}
use denote.Triple.Walked.{Stays, walk_of, stay_ref, stay_dropped, Goes-ref, Goes-dropped}
use Rattle.core.proofs.alloc.Calls.{Al}
use Rattle.core.proofs.mem.Param.{El, R, el_x, elτ, lawful, one, Good}
use Rattle.core.proofs.slice.Rows.{el_in}
use Rattle.core.proofs.slots.Bodies.{after}
use Rattle.core.proofs.slots.Leases.{args}
use Rattle.version_arena.specs.Ownership.{place_at, places_at}
use Rattle.version_arena.proofs.Blocks.{Block, of, offset_fits, one_fits, block_opens, block_closes}
use Rattle.version_arena.proofs.Rows.{Held, size, others, place_out, place_in, room_of}
use Rattle.version_arena.specs.contracts.raw_cells.RawCells.write as f
use Rattle.version_arena.specs.contracts.raw_cells.RawCells.write.Key.{name as key}
use Rattle.version_arena.proofs.raw_cells.RawCells.write.Statement.{statement}
use Rattle.version_arena.proofs.raw_cells.RawCells.write.Code as code

pub write_spec : {M : Type 1} → statement M
write_spec 𝓤 𝓛 𝓜 𝓡 wired C A C-laws A-laws ghosts dict drops met dropped =
    let H = 𝓛.H in let 𝓣 = tables 𝓤 H 𝓜 𝓡 𝓡.env in
    let E : El = record { row = C; laws = C-laws } in let Z : Al = record { row = A; laws = A-laws; g = ghosts; d = dict; drops = drops } in
    let ended = f.ended C A ghosts dict drops in let c = f.clauses C A ghosts dict drops 𝓛 𝓜.mem 𝓡.returns in
    let here : Fn = inst_fn (args E Z) code.function in
    let stayed : Stays ended.signature.params ended.kept = (stay_ref (0 ∷ []) tt (plain (λ _. Block E Z)), (stay_dropped (plain (λ _. usize)) yes, (stay_dropped (plain (λ _. R E)) no, tt))) in
    proved_at 𝓛 ended stayed c 𝓜 𝓡
    (Goes-ref 𝓛 3 0 tt (plain (λ _. Block E Z)), (Goes-dropped 𝓛 3 (plain (λ _. usize)) yes (λ κs x w. refl), (Goes-dropped 𝓛 3 (plain (λ _. R E)) no (λ κs x w. refl), tt)))
    (key (args E Z)) here (code.unfolded 𝓤 H 𝓜 𝓡 wired (C, (A, tt)) dict drops) (λ y are.
    let κs = y.0.0 in let qs = y.0.1 in let a = y.0.3 in let vss = y.0.4 in
    let rb : ℕ = a.0.ref_ptr.0 in let ro : ℕ = a.0.ref_ptr.1 in let d : (Block E Z).Denot = a.0.now in let index : ℕ = a.1.0 in let value : el_x E = a.1.1.0 in
    let Exit : Val → SProp 𝓤 = (walk_of 𝓛 ended stayed c).post y in
    let Empty : Type 0 = (index < length d.held) × (get_or d.held index None ≡ None) in
    let only = one E vss.1.1.0 ((lawful E 𝓛).typed value vss.1.1.0 are.1.1.0) in let v : Val = only.0 in let good : Good E v = only.2 in
    let small : index < 2 ^ 64 = are.1.0.1 in let filled : Held E = set d.held index (Some value) in
    let long : length filled ≡ length d.held = length-set d.held index (Some value) in
    qed 𝓛 (((‵ (flft κs.0 qs.0) ⊛ ‵ (flft κs.1.0 qs.1.0) ⊛ ‵ (flft κs.1.1.0 qs.1.1.0) ⊛ ‵ ftrue) ⊛ ‵ (owns (types_at ended.signature.params κs) a vss))
    ∷ (raw (fact 𝓤 (κs.1.0 ⊑ C.lives)) ⊛ raw (fact 𝓤 (κs.1.1.0 ⊑ A.lives)) ⊛ raw (fact 𝓤 Empty)) ∷ []) ∵
    move ! (1 ∷ []) $ split ! $ drop ! $ split ! $ drop ! $ heard ! Empty (λ empty.
    split ! $ split ! $ move ! (2 ∷ []) $ fsplit3 ! $ fsplit3 ! $ move ! (4 ∷ []) $ fsplit ! $
    rewrite ! 0 (λ (us : List Val). ‵ ((R E).own_val value us)) only.1 refl $ keep ! (3 ∷ 4 ∷ 6 ∷ 0 ∷ 7 ∷ []) $
    let words : List Val = vptr rb ro ∷ vint w64 index ∷ v ∷ [] in let Run : List Val → SProp 𝓤 = λ vs. WpFn 𝓤 H 𝓣.C 𝓣.Λ here vs Exit in
    suffices ! (Run words) (subst (λ (vs : List Val). ent 𝓤 (Run words) (Run vs)) (sym (λ i. are.0.0 i ++ (are.1.0.0 i ++ (only.1 i ++ [])))) (id⊢ 𝓤 (Run words))) $
    enter ! 𝓣.C 𝓣.Λ here words Exit $ alloc_all ! (λ l. pass_all ! refl ((tt, tt), ((tt, record { fits = small }), (good, tt))) $
    let locals : Env 𝓤 H = env here.locals l in
    block_opens E Z rb ro ! tt d (λ b o at fits.
    let k : ℕ = index * size E + o in let one : size E < 2 ^ 64 = one_fits E index (length d.held) empty.0 fits in
    let below : index * size E < 2 ^ 63 = offset_fits E index (length d.held) empty.0 fits in let shift : index * size E < 2 ^ 64 = omega arith in
    use1 𝓛 (‵ (fsep (place_at (R E) (block_ptr b k) (get_or d.held index None)) (others E b o d.held index))) (place_out E 𝓛 b d.held index o empty.0) $ fsplit ! $
    rewrite ! 0 (λ (held : Option (el_x E)). ‵ (place_at (R E) (block_ptr b k) held)) empty.1 refl $ use1 𝓛 (‵ (froom (elτ E) b k)) (room_of E 𝓛 b k) $
    -- [the room; the other places; the right to free them; the struct's cell; the open borrow, in three entries; what the value owns; the other tokens]
    first ! $ blocks ! $
    sets ! (of_opd ! (load ! (through ! refl (fld ! refl (stop !))) (look_in ! 3 (sub ! 0 refl (whole !))))) refl (tt, tt) $
    sets ! (bin ! (get ! refl) (size_lit ! (record { fits = one })) (record { fits = shift })) refl (tt, record { fits = shift }) $
    sets ! (bin ! (get ! refl) (get ! refl) tt) refl (tt, tt) $ sets ! (of_opd ! (get ! refl)) refl good $
    assigns_last ! (of_opd ! (get ! refl)) (through ! refl (stop !)) (init ! 0 refl good) $
    exec ! 𝓣.C 𝓣.Λ locals (after 1 here.body) (at_ret locals Exit) $ sets ! (of_opd ! (unit_lit !)) refl (tt, tt) $
    move ! (0 ∷ 7 ∷ []) $ use2 𝓛 (‵ (part_at (R E) full_share value b k)) (el_in E 𝓛 b value k v) $ fjoin ! $
    use1 𝓛 (‵ (places_at (R E) (block_ptr b o) filled)) (place_in E 𝓛 b d.held index o empty.0 (Some value)) $
    block_closes E Z rb ro ! tt d b o at filled long (subst (λ (count : ℕ). count * size E < 2 ^ 63) (sym long) fits) $
    returns ! (look_at ! 0 refl) $ free_all ! refl $
    -- [two parts of self; its token; the other tokens]
    feq_i ! (List Val) vss.0 (vptr rb ro ∷ []) are.0.0 $ fjoin3 ! $ nothing ! $ nothing ! $ nothing ! $ fjoin3 ! $ move ! (1 ∷ 0 ∷ []) $ fjoin ! $ move ! (1 ∷ 2 ∷ []) $ join ! $
    use0 𝓛 (raw (fact 𝓤 (d.alloc ≡ d.alloc))) (fact_i 𝓤 (d.alloc ≡ d.alloc) (emp 𝓤) refl) $ use0 𝓛 (raw (fact 𝓤 (filled ≡ filled))) (fact_i 𝓤 (filled ≡ filled) (emp 𝓤) refl) $ join ! $
    feq_i ! (List Val) (vunit ∷ []) (vunit ∷ []) refl $ move ! (2 ∷ 3 ∷ 0 ∷ 1 ∷ []) $
    by ! (leaves 𝓛 ended stayed c y vunit tt (of E Z d.at d.by filled d.alloc, (tt, (tt, tt))) (tt, (tt, (tt, tt))))))))
