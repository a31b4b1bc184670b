-- `deallocate` makes room for an array of the empty places, and gives it back with the right to free it. Assumes `Logic`.
use Rattle.std.proofs.Common.{◌≡◌, ℕ, ◌*◌, ◌^◌, ◌<◌, T, List, [], ◌∷◌, ◌++◌, length, replicate, None, refl, sym, ap, subst, ◌∙◌, arith, w64}
use Rattle.std.proofs.lemmas.List.{length-replicate}
use Rattle.std.proofs.raw_atomic.Walks.{proved_at, leaves}
use base.Logic.{SProp, ent, id⊢}
use base.Fml.{ftrue, froom, flft, Incl-trans}
use mir.Syntax.{Fn, ty_array, ty_unit}
use mir.MapTy.{inst_fn}
use mir.Val.{Val, vint, vptr, vunit, has_ty, WT}
use prog.Capped.{capped_fits}
use prog.Memory.{align, capped}
use prog.Wp.{Env, WpFn}
use contract.BorrowLft.{◌⊑◌}
use contract.Monad.{fact}
use contract.Running.{tables}
use types.ByLocal.{alloc_all, pass_all, free_all, look_at, get, get_in, is, sets, lands_last, env}
use types.Kit.{‵, raw, ◌⊛◌, later, given, at_ret, ◌$◌, ◌∵◌, !, qed, by, move, keep, use1, use3, learn, split, join, rewrite, fsplit, fsplit3, fjoin, fjoin3, feq_i, feq_l, suffices, await}
use types.Part.{sub, whole}
use types.Run.{enter, of_opd, bin, size_word, align_word, unit_lit, stop, fld, no_more, and_then, first, blocks, exec, returns}
use denote.Builtin.{RefOf, usize}
use denote.Exit.{yes, no}
use denote.RattleType.{owns}
use denote.RawPtr.{Ptr, block_ptr}
use denote.Signature.{plain, types_at}
use denote.Steps.{heard, nothing}
use denote.Triple.Call.{calls_at_last}
use denote.Triple.Table.{framed}
use denote.Triple.Walked.{Stays, walk_of, stay_dropped, Goes-dropped}
use Rattle.core.proofs.alloc.Calls.{Al, token, Gives, Gives-goes, Gives-Gives, at_gives}
use Rattle.core.proofs.mem.Param.{El, R, elτ}
use Rattle.core.proofs.slots.Bodies.{after}
use Rattle.core.proofs.slots.Leases.{args, block_ty, block_size, block_align, uncapped, P}
use Rattle.version_arena.specs.Ownership.{places_at}
use Rattle.version_arena.proofs.Blocks.{Block, block_val, block_had}
use Rattle.version_arena.proofs.Rows.{Held, size, room_of_row}
use Rattle.version_arena.specs.contracts.raw_cells.RawCells.deallocate as f
use Rattle.version_arena.specs.contracts.raw_cells.RawCells.deallocate.Key.{name as key}
use Rattle.version_arena.proofs.raw_cells.RawCells.deallocate.Statement.{statement}
use Rattle.version_arena.proofs.raw_cells.RawCells.deallocate.Code as code

pub deallocate_spec : {M : Type 1} → statement M
deallocate_spec 𝓤 𝓛 𝓜 𝓡 wired C A C-laws A-laws ghosts dict drops met dropped =
    let H = 𝓛.H in let 𝓣 = tables 𝓤 H 𝓜 𝓡 𝓡.env in
    let E : El = record { row = C; laws = C-laws } in let Z : Al = record { row = A; laws = A-laws; g = ghosts; d = dict; drops = drops } in
    let ended = f.ended C A ghosts dict drops in let c = f.clauses C A ghosts dict drops 𝓛 𝓜.mem 𝓡.returns in
    let here : Fn = inst_fn (args E Z) code.function in
    let Handle = RefOf (0 ∷ []) tt (plain (λ _. P E Z)) (λ _. tt) in
    let stayed : Stays ended.signature.params ended.kept = (stay_dropped (plain (λ _. Block E Z)) no, (stay_dropped Handle yes, (stay_dropped (plain (λ _. usize)) yes, tt))) in
    proved_at 𝓛 ended stayed c 𝓜 𝓡
    (Goes-dropped 𝓛 3 (plain (λ _. Block E Z)) no (λ κs x w. refl), (Goes-dropped 𝓛 3 Handle yes (λ κs x w. refl), (Goes-dropped 𝓛 3 (plain (λ _. usize)) yes (λ κs x w. refl), tt)))
    (key (args E Z)) here (code.unfolded 𝓤 H 𝓜 𝓡 wired (C, (A, tt)) dict drops) (λ y are.
    let κs = y.0.0 in let qs = y.0.1 in let bounds = y.0.2 in let a = y.0.3 in let vss = y.0.4 in
    let d : (Block E Z).Denot = a.0 in let alloc = a.1.0.now in let at = a.1.0.ref_ptr in let len : ℕ = a.1.1.0 in
    let Exit : Val → SProp 𝓤 = (walk_of 𝓛 ended stayed c).post y in
    let Empty : Type 0 = d.held ≡ replicate len None in let Same : Type 0 = d.alloc ≡ alloc in
    qed 𝓛 (((‵ (flft κs.0 qs.0) ⊛ ‵ (flft κs.1.0 qs.1.0) ⊛ ‵ (flft κs.1.1.0 qs.1.1.0) ⊛ ‵ ftrue) ⊛ ‵ (owns (types_at ended.signature.params κs) a vss))
    ∷ (raw (fact 𝓤 (κs.1.0 ⊑ C.lives)) ⊛ raw (fact 𝓤 (κs.1.1.0 ⊑ A.lives)) ⊛ raw (fact 𝓤 Empty) ⊛ raw (fact 𝓤 Same)) ∷ []) ∵
    move ! (1 ∷ []) $ split ! $ heard ! (κs.1.0 ⊑ C.lives) (λ C-lives. split ! $ heard ! (κs.1.1.0 ⊑ A.lives) (λ A-lives. split ! $ heard ! Empty (λ empty. heard ! Same (λ same.
    split ! $ split ! $ move ! (2 ∷ []) $ fsplit3 ! $ block_had E Z ! d vss.0 (λ b o begins is_block fits. move ! (2 ∷ []) $ fsplit ! $ feq_l ! (λ is_ref. keep ! (1 ∷ 2 ∷ 0 ∷ 4 ∷ 5 ∷ []) $
    let long : length d.held ≡ len = ap length empty ∙ length-replicate len None in
    let below : len * size E < 2 ^ 63 = subst (λ (count : ℕ). count * size E < 2 ^ 63) long fits in let bytes : ℕ = len * size E in let sized : bytes < 2 ^ 64 = omega arith in
    let small : len < 2 ^ 64 = are.1.1.0.1 in
    rewrite ! 0 (λ (held : Held E). ‵ (places_at (R E) (block_ptr b o) held)) empty refl $ rewrite ! 1 (λ (p : Ptr). ‵ (token Z d.alloc (block_ty E (length d.held)) p)) begins refl $
    rewrite ! 1 (λ (count : ℕ). ‵ (token Z d.alloc (block_ty E count) (block_ptr b o))) long refl $ rewrite ! 1 (λ (handle : A.Denot). ‵ (token Z handle (block_ty E len) (block_ptr b o))) same refl $
    -- [the places; the right to free them; the handle behind its `&`; the token of that `&`; the other tokens]
    let words : List Val = block_val b o ∷ vptr at.0 at.1 ∷ vint w64 len ∷ [] in let Run : List Val → SProp 𝓤 = λ vs. WpFn 𝓤 H 𝓣.C 𝓣.Λ here vs Exit in
    suffices ! (Run words) (subst (λ (vs : List Val). ent 𝓤 (Run words) (Run vs)) (sym (λ i. is_block i ++ (is_ref i ++ (are.1.1.0.0 i ++ [])))) (id⊢ 𝓤 (Run words))) $
    let block_typed : WT (block_val b o) = (tt, (tt, tt)) in
    enter ! 𝓣.C 𝓣.Λ here words Exit $ alloc_all ! (λ l. pass_all ! refl ((tt, block_typed), ((tt, tt), ((tt, record { fits = small }), tt))) $
    let locals : Env 𝓤 H = env here.locals l in
    sets ! (of_opd ! (get_in ! (fld ! refl (stop !)) (sub ! 0 refl (whole !)))) refl (tt, tt) $
    first ! $ blocks ! $ sets ! (of_opd ! (get ! refl)) refl (tt, tt) $
    sets ! (is ! (bin ! (get ! refl) (size_word !) (record { fits = subst (λ (k : ℕ). k < 2 ^ 64) (sym (uncapped len (size E) sized)) sized })) (ap (vint w64) (uncapped len (size E) sized))) refl (tt, record { fits = sized }) $
    use1 𝓛 (‵ (froom (ty_array (elτ E) len) b o)) (room_of_row E 𝓛 b len o) $ use1 𝓛 (‵ (froom (block_ty E len) b o)) (𝓛.laws.room-raw (ty_array (elτ E) len) b o) $
    move ! (2 ∷ 3 ∷ []) $ join ! $ move ! (1 ∷ 2 ∷ 0 ∷ []) $
    let given_back : (Gives Z 𝓛 𝓜.mem 𝓡.returns).Ghost = at_gives Z 𝓛 𝓜.mem 𝓡.returns κs.0 qs.0 at alloc b o bytes (capped (align (elτ E))) (block_ty E len) in
    use3 𝓛 (raw ((Gives Z 𝓛 𝓜.mem 𝓡.returns).pre given_back))
    (Gives-goes Z 𝓛 𝓜.mem 𝓡.returns κs.0 qs.0 at alloc (Incl-trans bounds.0 A-lives) b o bytes (capped (align (elτ E))) (block_ty E len) (block_size E len sized) (block_align E len) sized (capped_fits (align (elτ E)))) $
    calls_at_last ! (framed 𝓤 H 𝓜 𝓣) (Gives Z 𝓛 𝓜.mem 𝓡.returns) (met.deallocate drops) given_back (and_then ! (get ! refl) (and_then ! (get ! refl) (and_then ! (get ! refl) (and_then ! (align_word !) (no_more !))))) (λ v.
    use1 𝓛 (later (given (v ≡ vunit) (‵ (flft κs.0 qs.0)))) (Gives-Gives Z 𝓛 𝓜.mem 𝓡.returns κs.0 qs.0 at alloc b o bytes (capped (align (elτ E))) (block_ty E len) v) $ await ! tt $ learn ! (λ is_unit.
    lands_last ! refl (subst (λ (u : Val). T (has_ty ty_unit u) × WT u) (sym is_unit) (tt, tt)) $ exec ! 𝓣.C 𝓣.Λ locals (after 2 here.body) (at_ret locals Exit) $
    sets ! (of_opd ! (unit_lit !)) refl (tt, tt) $ returns ! (look_at ! 0 refl) $ free_all ! refl $
    -- [the token of the `&`; the other tokens]
    join ! $ feq_i ! (List Val) (vunit ∷ []) (vunit ∷ []) refl $ nothing ! $
    nothing ! $ nothing ! $ fjoin ! $ nothing ! $ nothing ! $ fjoin3 ! $ move ! (3 ∷ 0 ∷ 2 ∷ 1 ∷ []) $
    by ! (leaves 𝓛 ended stayed c y vunit tt (tt, (tt, (tt, tt))) (tt, (tt, (tt, tt))))))))))))))
