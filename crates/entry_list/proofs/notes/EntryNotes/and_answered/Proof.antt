-- The walk makes the empty struct, and picks the entries that the clause names.
use Rattle.std.proofs.Common.{[], ◌∷◌, ◌++◌, refl}
use Rattle.std.proofs.raw_atomic.Walks.{proved}
use base.Fml.{Fml}
use base.Logic.{emp, via, fst∗}
use mir.Syntax.{named}
use mir.Val.{Val, vptr, vstruct, vnil}
use contract.Running.{tables}
use types.Kit.{‵, raw, ◌$◌, ◌∵◌, !, qed, move, suffices, done}
use types.Run.{no_more, returns, enter}
use types.Part.{agg}
use types.ByLocal.{alloc_all, pass_all, free_all, look_at, sets}
use denote.Exit.{yes}
use denote.RattleType.{owns}
use denote.Ref.{shr_vals, shr_Tells}
use denote.Shadow.{pure_i}
use denote.Signature.{plain, types_at, named_lft}
use denote.Triple.Entry.{alive}
use denote.Triple.Walked.{says, stay_none_ref, Goes-none_ref, Stays, walk_of, ends_at}
use Rattle.entry_list.specs.declared.kinds.Entry.TheVariants.{Answered}
use Rattle.entry_list.specs.contracts.notes.EntryNotes as notes
use Rattle.entry_list.specs.contracts.entry_encoding.AnsweredParts as parts
use Rattle.entry_list.specs.contracts.notes.EntryNotes.and_answered as f
use Rattle.entry_list.proofs.notes.EntryNotes.and_answered.Statement.{statement}
use Rattle.entry_list.proofs.notes.EntryNotes.and_answered.Code as code

abbrev stayed : Stays f.ended.signature.params f.ended.kept
stayed = (stay_none_ref (0 ∷ []) tt (plain (λ _. notes.the_row)) yes, (stay_none_ref (1 ∷ []) tt (plain (λ κs. parts.the_row (named_lft 3 2 tt κs))) yes, tt))

pub and_answered_spec : {M : Type 1} → statement M
and_answered_spec 𝓤 𝓛 𝓜 𝓡 wired =
    let c = f.clauses 𝓛 𝓜.mem 𝓡.returns in let W = walk_of 𝓛 f.ended stayed c in let 𝓣 = tables 𝓤 𝓛.H 𝓜 𝓡 𝓡.env in
    proved 𝓛 f.ended stayed c 𝓜 𝓡
    (Goes-none_ref 𝓛 3 (0 ∷ []) tt (plain (λ _. notes.the_row)) yes, (Goes-none_ref 𝓛 3 (1 ∷ []) tt (plain (λ κs. parts.the_row (named_lft 3 2 tt κs))) yes, tt))
    f.Key.name code.function (code.unfolded 𝓤 𝓛.H 𝓜 𝓡 wired)
    (λ κs. (shr_vals, (shr_vals, tt))) (λ κs. (shr_Tells (named 0) κs.0 notes.the_row, (shr_Tells (named 1) κs.1.0 (parts.the_row (named_lft 3 2 tt κs)), tt))) (λ κs qs bounds a g are.
    let before : Val = vptr a.0.ref_ptr.0 a.0.ref_ptr.1 in
    let added : Val = vptr a.1.0.ref_ptr.0 a.1.0.ref_ptr.1 in
    let y : W.Ghost = ((κs, qs, bounds, a, (before ∷ [], (added ∷ [], tt))), g) in
    let made : notes.the_row.Denot = record { items = a.0.now.items ++ Answered a.1.0.now.answer.now ∷ [] } in
    let passed : Fml = owns (types_at f.signature.params κs) a (before ∷ [], (added ∷ [], tt)) in
    via 𝓤 _ (fst∗ 𝓤 _ (emp 𝓤)) (qed 𝓛 (raw (alive 𝓛 f.signature κs qs) ∷ ‵ passed ∷ []) ∵
    enter ! 𝓣.C 𝓣.Λ code.function (before ∷ added ∷ []) _ $ alloc_all ! (λ l. pass_all ! refl ((tt, tt), ((tt, tt), tt)) $ sets ! (agg ! (no_more !)) refl (tt, tt) $
    returns ! (look_at ! 0 refl) $ free_all ! refl $
    suffices ! _ (ends_at 𝓛 f.ended stayed c y (vstruct vnil) made (tt, (tt, tt)) (tt, (tt, tt))) $
    says ! refl $ pure_i ! (notes.the_row.own_val made (vstruct vnil ∷ [])) ((λ vss. (tt, tt)), tt) ((tt, (refl, tt)), tt) $
    move ! (1 ∷ 2 ∷ 0 ∷ []) $ done !)))
