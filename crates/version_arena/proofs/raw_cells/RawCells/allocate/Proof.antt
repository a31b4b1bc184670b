-- `allocate` asks for room for an array, and takes it as a row of empty places beside the right to free it. Assumes `Logic`.
use Rattle.std.proofs.Common.{◌≡◌, ℕ, ◌*◌, ◌^◌, ◌<◌, true, false, [], ◌∷◌, length, replicate, None, refl, sym, ap, subst, arith, lit<, w64}
use Rattle.std.proofs.lemmas.List.{length-replicate}
use Rattle.std.proofs.raw_atomic.Walks.{proved, leaves}
use base.Logic.{SProp, emp}
use base.Fml.{ftrue, froom, flft, Incl-trans}
use mir.Syntax.{Body, Fn, named, ty_array}
use mir.MapTy.{inst_fn}
use mir.Val.{Val, vint, vptr, vstruct, vcons, vnil, WT}
use prog.Capped.{capped_fits}
use prog.Memory.{align, capped}
use prog.Wp.{Wp, Env, after_seq, at_return}
use contract.BorrowLft.{◌⊑◌}
use contract.Monad.{fact, fact_i}
use contract.Running.{tables}
use types.ByLocal.{alloc_all, pass_all, free_all, look_at, get, get_in, get_tag, is, sets, sets_last, lands_as, env}
use types.Kit.{Post, Sq, prop, any_q, ‵, raw, ◌⊛◌, later, at_ret, ◌$◌, ◌∵◌, !, qed, by, move, keep, use0, use1, use2, split, join, rewrite, fsplit, fjoin3, await}
use types.Match.{live, vrt, in_variant}
use types.Part.{agg, whole}
use types.Run.{enter, of_opd, lit, bin, size_word, align_word, stop, fld, no_more, and_then, first, switches_on, exec, returns}
use denote.Builtin.{RefOf, usize}
use denote.Exit.{yes}
use denote.Laws.{Is}
use denote.Plain.{uint_vals, uint_Tells}
use denote.RattleType.{RattleType, owns}
use denote.RawPtr.{block_ptr}
use denote.Ref.{shr_vals, shr_Tells}
use denote.Signature.{plain, types_at}
use denote.Steps.{heard, nothing, owned}
use denote.Struct.Declared as Declared
use denote.Struct.Struct.{Struct, Struct-Makes}
use denote.Triple.Call.{calls_at}
use denote.Triple.Table.{framed}
use denote.Triple.Walked.{Stays, walk_of, stay_dropped, Goes-dropped}
use Rattle.core.proofs.alloc.Calls.{Al, token, Answer-typed, Answered, Takes, Takes-goes, Takes-gives, at_takes, answers}
use Rattle.core.proofs.mem.Param.{El, R, elτ}
use Rattle.core.proofs.slots.Bodies.{after, head, arm_body}
use Rattle.core.proofs.slots.Leases.{args, block_ty, block_size, block_align, uncapped, P}
use Rattle.core.specs.Result.{IfOk}
use Rattle.core.specs.declared.result.Result.TheVariants.{Ok, Err}
use Rattle.core.specs.contracts.alloc.AllocError as AllocError
use Rattle.core.specs.contracts.result.Result as Result
use Rattle.std_alloc.proofs.ResultValues.{ok_of, err_of}
use Rattle.std_alloc.specs.Vec.Ownership.{FitsInBlock}
use Rattle.version_arena.specs.Ownership.{places_at}
use Rattle.version_arena.proofs.Blocks.{Block, block_val, of, block_made}
use Rattle.version_arena.proofs.Rows.{Held, size, empty_row}
use Rattle.version_arena.specs.contracts.raw_cells.RawCells.allocate as f
use Rattle.version_arena.specs.contracts.raw_cells.RawCells.allocate.Key.{name as key}
use Rattle.version_arena.proofs.raw_cells.RawCells.allocate.Statement.{statement}
use Rattle.version_arena.proofs.raw_cells.RawCells.allocate.Code as code

pub allocate_spec : {M : Type 1} → statement M
allocate_spec 𝓤 𝓛 𝓜 𝓡 wired C A C-laws A-laws ghosts dict drops met dropped =
    let H = 𝓛.H in let 𝓣 = tables 𝓤 H 𝓜 𝓡 𝓡.env in
    let E : El = record { row = C; laws = C-laws } in let Z : Al = record { row = A; laws = A-laws; g = ghosts; d = dict; drops = drops } in
    let ended = f.ended C A ghosts dict drops in let c = f.clauses C A ghosts dict drops 𝓛 𝓜.mem 𝓡.returns in
    let here : Fn = inst_fn (args E Z) code.function in
    let Handle = RefOf (0 ∷ []) tt (plain (λ _. P E Z)) (λ _. tt) in
    let stayed : Stays ended.signature.params ended.kept = (stay_dropped Handle yes, (stay_dropped (plain (λ _. usize)) yes, tt)) in
    proved 𝓛 ended stayed c 𝓜 𝓡 (Goes-dropped 𝓛 3 Handle yes (λ κs x w. refl), (Goes-dropped 𝓛 3 (plain (λ _. usize)) yes (λ κs x w. refl), tt))
    (key (args E Z)) here (code.unfolded 𝓤 H 𝓜 𝓡 wired (C, (A, tt)) dict drops)
    (λ κs. (shr_vals, (uint_vals w64, tt))) (λ κs. (shr_Tells (named 0) κs.0 (P E Z), (uint_Tells w64, tt))) (λ κs qs bounds a ghost are.
    let alloc = a.0.now in let at = a.0.ref_ptr in let len : ℕ = a.1.0 in
    let y : (walk_of 𝓛 ended stayed c).Ghost = ((κs, qs, bounds, a, (shr_vals a.0, (uint_vals w64 len, tt))), ghost) in
    let Exit : Val → SProp 𝓤 = (walk_of 𝓛 ended stayed c).post y in
    let Outcome : RattleType = Result.the_row (Block E Z) AllocError.the_row in let empty : Held E = replicate len None in
    let Told : Outcome.Denot → Type 0 = λ outcome. IfOk outcome (λ places. (places.held ≡ empty) × (places.alloc ≡ alloc)) in
    -- [the result; the token of the `&`; the other tokens]
    let leave : (outcome : Outcome.Denot) (v : Val) → Told outcome
    → Sq 𝓛 (‵ (Outcome.own_val outcome (v ∷ [])) ∷ ‵ (flft κs.0 qs.0) ∷ (‵ (flft κs.1.0 qs.1.0) ⊛ ‵ (flft κs.1.1.0 qs.1.1.0) ⊛ ‵ ftrue) ∷ []) (prop (Exit v)) = λ outcome v told.
    use0 𝓛 (raw (fact 𝓤 (Told outcome))) (fact_i 𝓤 (Told outcome) (emp 𝓤) told) $ nothing ! $ nothing ! $ nothing ! $ fjoin3 ! $ move ! (3 ∷ 4 ∷ []) $ join ! $ move ! (0 ∷ 1 ∷ 3 ∷ 2 ∷ []) $
    by ! (leaves 𝓛 ended stayed c y v outcome (tt, (tt, tt)) (tt, (tt, tt))) in
    qed 𝓛 (((‵ (flft κs.0 qs.0) ⊛ ‵ (flft κs.1.0 qs.1.0) ⊛ ‵ (flft κs.1.1.0 qs.1.1.0) ⊛ ‵ ftrue) ⊛ ‵ (owns (types_at ended.signature.params κs) a y.0.4))
    ∷ (raw (fact 𝓤 (κs.1.0 ⊑ C.lives)) ⊛ raw (fact 𝓤 (κs.1.1.0 ⊑ A.lives)) ⊛ raw (fact 𝓤 (FitsInBlock (R E) len))) ∷ []) ∵
    move ! (1 ∷ []) $ split ! $ heard ! (κs.1.0 ⊑ C.lives) (λ C-lives. split ! $ heard ! (κs.1.1.0 ⊑ A.lives) (λ A-lives. heard ! (FitsInBlock (R E) len) (λ fits.
    let small : len < 2 ^ 64 = are.1.0.1 in let bytes : ℕ = len * size E in let sized : bytes < 2 ^ 64 = omega (arith, fits.0) in
    split ! $ split ! $ move ! (2 ∷ []) $ fsplit ! $ fsplit ! $ keep ! (1 ∷ 3 ∷ 4 ∷ []) $
    -- [the handle behind its `&`; the token of that `&`; the other tokens]
    enter ! 𝓣.C 𝓣.Λ here (vptr at.0 at.1 ∷ vint w64 len ∷ []) Exit $ alloc_all ! (λ l. pass_all ! refl ((tt, tt), ((tt, record { fits = small }), tt)) $
    let locals : Env 𝓤 H = env here.locals l in
    let match : Body = head (after 2 here.body) in let rest : Body = after 3 here.body in
    let Joined : Post 𝓤 H = any_q (after_seq 𝓤 H (Wp 𝓤 H 𝓣.C 𝓣.Λ locals rest (at_return 𝓤 H locals Exit)) (at_return 𝓤 H locals Exit)) in
    let asked : (Takes Z 𝓛 𝓜.mem 𝓡.returns).Ghost = at_takes Z 𝓛 𝓜.mem 𝓡.returns κs.0 qs.0 at alloc bytes (capped (align (elτ E))) (block_ty E len) in
    sets ! (is ! (bin ! (get ! refl) (size_word !) (record { fits = subst (λ (k : ℕ). k < 2 ^ 64) (sym (uncapped len (size E) sized)) sized })) (ap (vint w64) (uncapped len (size E) sized))) refl (tt, record { fits = sized }) $
    use2 𝓛 (raw ((Takes Z 𝓛 𝓜.mem 𝓡.returns).pre asked))
    (Takes-goes Z 𝓛 𝓜.mem 𝓡.returns κs.0 qs.0 at alloc (Incl-trans bounds.0 A-lives) bytes (capped (align (elτ E))) (block_ty E len) (block_size E len sized) (block_align E len) sized (capped_fits (align (elτ E)))) $
    calls_at ! (framed 𝓤 H 𝓜 𝓣) (Takes Z 𝓛 𝓜.mem 𝓡.returns) (met.allocate drops) asked (and_then ! (get ! refl) (and_then ! (get ! refl) (and_then ! (align_word !) (no_more !)))) (λ v.
    use1 𝓛 (later (raw (Answered Z 𝓛 𝓜.mem 𝓡.returns alloc (block_ty E len) v) ⊛ ‵ (flft κs.0 qs.0))) (Takes-gives Z 𝓛 𝓜.mem 𝓡.returns κs.0 qs.0 at alloc bytes (capped (align (elτ E))) (block_ty E len) v) $ await ! tt $ split ! $
    answers Z ! 𝓜.mem 𝓡.returns alloc (block_ty E len) v
    (λ b o is_ok.
    -- [room for an array; the right to free it; the token of the `&`; the other tokens]
    let made : (Block E Z).Denot = of E Z (block_ptr b o) (record {}) empty alloc in let long : length empty ≡ len = length-replicate len None in
    let block_typed : WT (block_val b o) = (tt, (tt, tt)) in let typed : WT (live 0 (vcons (block_val b o) vnil)) = (record { fits = lit< tt }, (block_typed, tt)) in
    lands_as ! is_ok refl (Answer-typed true b o) $ first ! $ switches_on ! (get_tag ! (vrt ! refl (fld ! refl (stop !))) (whole !)) $ exec ! 𝓣.C 𝓣.Λ locals (arm_body 0 match) Joined $
    sets ! (of_opd ! (get_in ! (vrt ! refl (fld ! refl (stop !))) (in_variant ! 0 0 refl refl (whole !)))) refl (tt, tt) $ sets ! (of_opd ! (get ! refl)) refl (tt, tt) $
    sets ! (agg ! (no_more !)) refl (tt, tt) $ sets ! (agg ! (and_then ! (get ! refl) (and_then ! (get ! refl) (no_more !)))) refl (tt, block_typed) $
    sets_last ! (agg ! (and_then ! (lit ! tt) (and_then ! (get ! refl) (no_more !)))) refl (tt, typed) $
    exec ! 𝓣.C 𝓣.Λ locals rest (at_ret locals Exit) $ sets ! (of_opd ! (get ! refl)) refl (tt, typed) $ returns ! (look_at ! 0 refl) $ free_all ! refl $
    use1 𝓛 (‵ (froom (ty_array (elτ E) len) b o)) (𝓛.laws.raw-room (ty_array (elτ E) len) b o) $ use1 𝓛 (‵ (places_at (R E) (block_ptr b o) empty)) (empty_row E 𝓛 b len o) $
    rewrite ! 1 (λ (count : ℕ). ‵ (token Z alloc (block_ty E count) (block_ptr b o))) (sym long) refl $
    block_made E Z ! (block_ptr b o) b o refl (record {}) empty alloc (subst (λ (count : ℕ). count * size E < 2 ^ 63) (sym long) fits.0) $
    use1 𝓛 (‵ (Outcome.own_val (Ok made) (live 0 (vcons (block_val b o) vnil) ∷ []))) (ok_of 𝓛 (Block E Z) AllocError.the_row made (block_val b o)) $
    leave (Ok made) (live 0 (vcons (block_val b o) vnil)) (refl, refl))
    (λ is_err.
    let typed : WT (live 1 (vcons (vstruct vnil) vnil)) = (record { fits = lit< tt }, (tt, tt)) in
    lands_as ! is_err refl (Answer-typed false 0 0) $ first ! $ switches_on ! (get_tag ! (vrt ! refl (fld ! refl (stop !))) (whole !)) $ exec ! 𝓣.C 𝓣.Λ locals (arm_body 1 match) Joined $
    sets ! (of_opd ! (get_in ! (vrt ! refl (fld ! refl (stop !))) (in_variant ! 1 0 refl refl (whole !)))) refl (tt, tt) $
    sets_last ! (agg ! (and_then ! (lit ! tt) (and_then ! (get ! refl) (no_more !)))) refl (tt, typed) $
    exec ! 𝓣.C 𝓣.Λ locals rest (at_ret locals Exit) $ sets ! (of_opd ! (get ! refl)) refl (tt, typed) $ returns ! (look_at ! 0 refl) $ free_all ! refl $
    let Empty : RattleType = Struct (Declared.shape AllocError.the_type) in owned ! Empty (Is Empty) (Struct-Makes 𝓛 (Declared.shape AllocError.the_type) tt) tt (vstruct vnil ∷ []) (tt, (refl, tt)) $
    use1 𝓛 (‵ (Outcome.own_val (Err (record {})) (live 1 (vcons (vstruct vnil) vnil) ∷ []))) (err_of 𝓛 (Block E Z) AllocError.the_row (record {}) (vstruct vnil)) $
    leave (Err (record {})) (live 1 (vcons (vstruct vnil) vnil)) tt)))))))
