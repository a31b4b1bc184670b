-- `new` puts the value in. Assumes `Logic`.
use Rattle.std.proofs.Common.{List, [], ◌∷◌, ◌++◌, refl}
use mir.Syntax.{a_type}
use mir.MapTy.{inst_fn}
use mir.Val.{Val}
use base.Fml.{ftrue}
use prog.Wp.{WpFn}
use contract.Running.{tables}
use types.Kit.{‵, raw, ◌⊛◌, prop, ◌$◌, ◌∵◌, !, qed, done, move, keep, split, join, fsplit, fjoin, fpack, feq_i, rewrite, regoal, suffices}
use types.Part.{agg}
use types.Run.{of_opd, no_more, and_then, returns, enter}
use types.ByLocal.{alloc_all, pass_all, free_all, look_at, get, sets}
use denote.Exit.{no}
use denote.Laws.{Typed}
use denote.Param.{layout, layouts, param}
use denote.Param.Laws.{param_laws}
use denote.RattleType.{Valss, owns}
use denote.Signature.{plain, types_at}
use denote.Steps.{nothing}
use denote.Struct.Struct.{as_fields, within}
use denote.Triple.Entry.{alive}
use denote.Triple.Walked.{Stays, stay_dropped, walk_of, ends_at, Goes-dropped}
use Rattle.hub.proofs.Single.{single, wrapped}
use Rattle.std.proofs.raw_atomic.Walks.{proved_at}
use Rattle.hub.specs.contracts.seal.Sealed.TheInside as inside
use Rattle.hub.specs.contracts.seal.Sealed.new as f
use Rattle.hub.specs.contracts.seal.Sealed.new.Key.{name}
use Rattle.hub.proofs.seal.Sealed.new.Statement.{statement}
use Rattle.hub.proofs.seal.Sealed.new.Code as code

pub new_spec : {M : Type 1} → statement M
new_spec 𝓤 𝓛 𝓜 𝓡 wired T L =
    let P = param 0 T in let E = f.ended T in let c = f.clauses T 𝓛 𝓜.mem 𝓡.returns in
    let stays : Stays E.signature.params E.kept = (stay_dropped (plain (λ _. P)) no, tt) in
    let fn = inst_fn (layouts (a_type ∷ []) (T, tt)) code.function in let 𝓣 = tables 𝓤 𝓛.H 𝓜 𝓡 𝓡.env in
    proved_at 𝓛 E stays c 𝓜 𝓡 (Goes-dropped 𝓛 1 (plain (λ _. P)) no (λ κs x w. refl), tt)
    (name (layouts (a_type ∷ []) (T, tt))) fn (code.unfolded 𝓤 𝓛.H 𝓜 𝓡 wired (T, tt)) (λ y are.
    let x = y.0.3.0 in let vs = y.0.4.0 in let Post = (walk_of 𝓛 E stays c).post y in
    let got = single (layout P) vs (((param_laws 0 T L).lawful 𝓛).typed x vs are.0) in let v = got.0 in let good = got.2 in
    let fits = as_fields (layout P ∷ []) (v ∷ []) (good, tt) in
    qed 𝓛 ((raw (alive 𝓛 E.signature y.0.0 y.0.1) ⊛ ‵ (owns (types_at E.signature.params y.0.0) y.0.3 y.0.4)) ∷ raw ((c y.0.0 y.0.3).requires y.1) ∷ []) ∵
    split ! $ move ! (1 ∷ []) $ fsplit ! $ keep ! (0 ∷ 2 ∷ []) $
    rewrite ! 0 (λ (us : List Val). ‵ (P.own_val x us)) got.1 refl $
    regoal ! (λ (us : List Val). prop (WpFn 𝓤 𝓛.H 𝓣.C 𝓣.Λ fn (us ++ []) Post)) got.1 refl $
    enter ! _ _ _ _ _ $ alloc_all ! (λ l. pass_all ! refl (good, tt) $
    sets ! (of_opd ! (get ! refl)) refl good $
    sets ! (agg ! (and_then ! (get ! refl) (no_more !))) refl fits $
    returns ! (look_at ! 0 refl) $ free_all ! refl $
    -- [the value; the tokens]
    nothing ! $ move ! (1 ∷ 0 ∷ []) $ fjoin ! $ feq_i ! (List Val) (wrapped v ∷ []) (wrapped v ∷ []) refl $ fjoin ! $
    fpack ! (Valss (P ∷ [])) (within (record { name = []; args = []; types = []; fields = P ∷ [] }) (x, tt) (wrapped v ∷ [])) (v ∷ [], tt) $
    fpack ! (inside.the_row P).Denot (λ i. (inside.the_row P).own_val i (wrapped v ∷ [])) (record { value = x }) $
    nothing ! $ fpack ! (Typed (inside.the_row P).mir (wrapped v ∷ [])) (λ _. ftrue) (fits, tt) $ fjoin ! $
    suffices ! _ (ends_at 𝓛 E stays c y (wrapped v) tt (tt, tt) (tt, tt)) $
    nothing ! $ nothing ! $ fjoin ! $ move ! (0 ∷ 1 ∷ []) $ join ! $ move ! (1 ∷ 0 ∷ []) $ join ! $ nothing ! $ move ! (1 ∷ []) $ done !))
