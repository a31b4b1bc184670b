use Rattle.std.proofs.Common.{◌≡◌, ◌↔◌, false, true, map, Option, Some, None, IsTrue, IsSome, is_some, refl, sym, ap, subst, ◌∙◌}
use Rattle.std.proofs.lemmas.Bool.{eqb-true, eqb-false}
use Rattle.version_chain.specs.Chain.{chain_versions, marked_by}
use Rattle.version_chain.specs.Changes.{ChangesChain}
use Rattle.version_chain.proofs.Changing.{changes_none}
use Rattle.version_chain.proofs.Finding.{has, lacks, lacks_all}
use Rattle.version_chain.proofs.Marking.{marked-none}
use Rattle.version_chain.proofs.MarkingListed.{named_at, chain_at}
use Rattle.version_chain.proofs.chains.Chains.mark.Goals as goal

nothing_found : {X : Type 0} (found : Option X) → found ≡ None → IsTrue false ↔ IsSome found
nothing_found found none = (λ untrue. absurd cc, λ some. absurd (let both = ap is_some none in cc))

one_found : {X : Type 0} (found : Option X) (x : X) → found ≡ Some x → IsTrue true ↔ IsSome found
one_found found x is = (λ _. ap is_some is, λ _. refl)

pub returns-in_default-clause-changed : goal.returns-in_default-clause-changed
returns-in_default-clause-changed c = changes_none c.args.block.now c.args.self.now c.args.chain c.requires.stands

pub returns-in_default-clause-only : goal.returns-in_default-clause-only
returns-in_default-clause-only c = record { rest = refl; stays = λ slot stamp. refl }

pub returns-in_default-clause-marked : goal.returns-in_default-clause-marked
returns-in_default-clause-marked c = sym (marked-none _ _ (lacks_all _ _ _ _ _ _ c.seek-last.ensures c.requires.stands c.requires.known c.in_default.is))

pub returns-in_default-clause-found : goal.returns-in_default-clause-found
returns-in_default-clause-found c = nothing_found _ (lacks_all _ _ _ _ _ _ c.seek-last.ensures c.requires.stands c.requires.known c.in_default.is)

pub returns-then-not-is_at-clause-changed : goal.returns-then-not-is_at-clause-changed
returns-then-not-is_at-clause-changed c = changes_none c.args.block.now c.args.self.now c.args.chain c.requires.stands

pub returns-then-not-is_at-clause-only : goal.returns-then-not-is_at-clause-only
returns-then-not-is_at-clause-only c = record { rest = refl; stays = λ slot stamp. refl }

pub returns-then-not-is_at-clause-marked : goal.returns-then-not-is_at-clause-marked
returns-then-not-is_at-clause-marked c =
    sym (marked-none _ _ (lacks _ _ _ _ _ _ c.seek-last.ensures c.requires.stands c.requires.known _ _ c.in-Some.is c.get.ensures (eqb-false _ _ (sym c.is_at.ensures ∙ c.if-not-is_at.true))))

pub returns-then-not-is_at-clause-found : goal.returns-then-not-is_at-clause-found
returns-then-not-is_at-clause-found c = nothing_found _ (lacks _ _ _ _ _ _ c.seek-last.ensures c.requires.stands c.requires.known _ _ c.in-Some.is c.get.ensures (eqb-false _ _ (sym c.is_at.ensures ∙ c.if-not-is_at.true)))

pub mark_slot-requires-clause-named : goal.mark_slot-requires-clause-named
mark_slot-requires-clause-named c = named_at _ _ _ _ _ _ _ _ c.seek-last.ensures c.in-Some.is c.get.ensures (eqb-true _ _ (sym c.is_at.ensures ∙ c.if-not-is_at.false))

pub returns-clause-changed : goal.returns-clause-changed
returns-clause-changed c =
    subst (λ n. ChangesChain c.args.block.now c.args.self.now c.mark_slot.new.block c.mark_slot.new.self n) (c.mark_slot.ensures.place ∙ chain_at _ _ _ _ _ _ _ _ c.seek-last.ensures c.in-Some.is c.get.ensures) c.mark_slot.ensures.changed

pub returns-clause-marked : goal.returns-clause-marked
returns-clause-marked c =
    subst (λ n. chain_versions c.mark_slot.new.block c.mark_slot.new.self n ≡ map (marked_by c.args.stamp) (chain_versions c.args.block.now c.args.self.now n)) (c.mark_slot.ensures.place ∙ chain_at _ _ _ _ _ _ _ _ c.seek-last.ensures c.in-Some.is c.get.ensures) c.mark_slot.ensures.marked

pub returns-clause-found : goal.returns-clause-found
returns-clause-found c = one_found _ _ (has _ _ _ _ _ _ c.seek-last.ensures c.requires.stands c.requires.known _ _ c.in-Some.is c.get.ensures (eqb-true _ _ (sym c.is_at.ensures ∙ c.if-not-is_at.false)))
