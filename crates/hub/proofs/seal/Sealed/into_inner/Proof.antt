-- `into_inner` takes the value out. Assumes `Logic`.
use Rattle.std.proofs.Common.{List, [], ◌∷◌, ◌++◌, refl, ◌∙◌, ap}
use mir.Syntax.{a_type}
use mir.MapTy.{inst_fn}
use mir.Val.{Val, vstruct, of_list}
use prog.Wp.{WpFn}
use contract.Running.{tables}
use types.Kit.{‵, raw, ◌⊛◌, prop, ◌$◌, ◌∵◌, !, qed, done, move, keep, drop, split, join, fsplit, fjoin, fpick, feq_l, rewrite, regoal, suffices}
use types.Part.{whole, sub}
use types.Run.{stop, fld, of_opd, returns, enter}
use types.ByLocal.{alloc_all, pass_all, free_all, look_at, get_in, get, sets}
use denote.Exit.{no}
use denote.Laws.{shows}
use denote.Param.{layout, layouts, param}
use denote.Param.Laws.{param_laws}
use denote.RattleType.{owns}
use denote.Signature.{plain, types_at}
use denote.Steps.{nothing, peeks}
use denote.Struct.Struct.{as_fields}
use denote.Triple.Entry.{alive}
use denote.Triple.Walked.{Stays, stay_dropped, walk_of, ends_at, Goes-dropped}
use Rattle.std.proofs.raw_atomic.Walks.{proved_at}
use Rattle.hub.proofs.Single.{single, wrapped}
use Rattle.hub.specs.contracts.seal.Sealed as sealed
use Rattle.hub.specs.contracts.seal.Sealed.into_inner as f
use Rattle.hub.specs.contracts.seal.Sealed.into_inner.Key.{name}
use Rattle.hub.proofs.seal.Sealed.into_inner.Statement.{statement}
use Rattle.hub.proofs.seal.Sealed.into_inner.Code as code

pub into_inner_spec : {M : Type 1} → statement M
into_inner_spec 𝓤 𝓛 𝓜 𝓡 wired T L =
    let P = param 0 T in let E = f.ended T in let c = f.clauses T 𝓛 𝓜.mem 𝓡.returns in
    let stays : Stays E.signature.params E.kept = (stay_dropped (plain (λ _. sealed.the_row P)) no, tt) in
    let fn = inst_fn (layouts (a_type ∷ []) (T, tt)) code.function in let 𝓣 = tables 𝓤 𝓛.H 𝓜 𝓡 𝓡.env in
    proved_at 𝓛 E stays c 𝓜 𝓡 (Goes-dropped 𝓛 1 (plain (λ _. sealed.the_row P)) no (λ κs x w. refl), tt)
    (name (layouts (a_type ∷ []) (T, tt))) fn (code.unfolded 𝓤 𝓛.H 𝓜 𝓡 wired (T, tt)) (λ y are.
    let vs = y.0.4.0 in let Post = (walk_of 𝓛 E stays c).post y in
    qed 𝓛 ((raw (alive 𝓛 E.signature y.0.0 y.0.1) ⊛ ‵ (owns (types_at E.signature.params y.0.0) y.0.3 y.0.4)) ∷ raw ((c y.0.0 y.0.3).requires y.1) ∷ []) ∵
    split ! $ move ! (1 ∷ []) $ fsplit ! $ keep ! (0 ∷ 2 ∷ []) $
    fsplit ! $ drop ! $ fpick ! (λ i. fpick ! (λ vss. fsplit ! $ feq_l ! (λ shape. fsplit ! $ move ! (1 ∷ []) $ drop ! $
    peeks ! P _ (shows 𝓛 P) i.value vss.0 (λ is.
    let got = single (layout P) vss.0 (((param_laws 0 T L).lawful 𝓛).typed i.value vss.0 is) in let v = got.0 in let good = got.2 in
    rewrite ! 0 (λ (us : List Val). ‵ (P.own_val i.value us)) got.1 refl $
    regoal ! (λ (us : List Val). prop (WpFn 𝓤 𝓛.H 𝓣.C 𝓣.Λ fn (us ++ []) Post)) (shape ∙ ap (λ (us : List Val). vstruct (of_list (us ++ [])) ∷ []) got.1) refl $
    enter ! _ _ _ (wrapped v ∷ []) _ $ alloc_all ! (λ l. pass_all ! refl (as_fields (layout P ∷ []) (v ∷ []) (good, tt), tt) $
    sets ! (of_opd ! (get_in ! (fld ! refl (stop !)) (sub ! 0 refl (whole !)))) refl good $
    sets ! (of_opd ! (get ! refl)) refl good $
    returns ! (look_at ! 0 refl) $ free_all ! refl $
    suffices ! _ (ends_at 𝓛 E stays c y v i.value (tt, tt) (tt, tt)) $
    nothing ! $ nothing ! $ fjoin ! $ move ! (0 ∷ 1 ∷ []) $ join ! $ move ! (1 ∷ 0 ∷ []) $ join ! $ nothing ! $ move ! (1 ∷ []) $ done !))))))
