use Rattle.std.proofs.Common.{◌≡◌, ◌∙◌, ◌^◌, ◌≤◌, ◌++◌, List, [], ◌∷◌, ap, arith, inl, inr, refl, subst, sym}
use Rattle.plain_store.specs.Words.{◌∈◌}
use Rattle.history.specs.declared.entry.Decision.{Decision}
use Rattle.history.specs.declared.entry.HistoryEntry.{HistoryEntry}
use Rattle.history.specs.declared.entry.HistoryEntry.TheVariants.{Decided}
use Rattle.history.specs.Entries.{count, own}
use Rattle.history.specs.Legal.{MayEnd}
use Rattle.history.specs.Rules.{IsAdded, TakesNoEntry}
use Rattle.history.proofs.Counts.{equal_test}
use Rattle.history.proofs.Servings.{added_count, none_taken}
use Rattle.traced_client.specs.Clients.{CannotEnd, ClientTrace}
use Rattle.traced_client.proofs.Following.{added_in, cannot_end, full_end, own_added, traced_ended}
use Rattle.traced_client.proofs.client_word.TracedClient.decide.Goals as goal
use Rattle.traced_client.proofs.client_word.TracedClient.decide.Goals.{then-self-ge-MOST-via-then-self-ge-MOST, then-self-ge-MOST-via-else-self-ge-MOST+then-not-may_end}

-- the put may end
pub decide-requires-clause-unended : goal.decide-requires-clause-unended
decide-requires-clause-unended g c =
    let b = c.self.inside in
    let P : ClientTrace → Type 0 = λ t. MayEnd (own t.word t.seen) (record { word = t.word; tenant = t.tenant; stamp = c.args.stamp }) in
    let Q : List HistoryEntry → Type 0 = λ seen. MayEnd (own b.tally.key seen) (record { word = b.tally.key; tenant = b.tenant; stamp = c.args.stamp }) in
    subst Q (sym c.again-front.ensures.same) (subst P (sym c.self.view_is) (c.may_end.ensures.0 c.if-not-may_end.false).1)

pub invariant_of-self : goal.invariant_of-self
invariant_of-self g c =
    let b = c.self.inside in
    let decision : Decision = record { word = b.tally.key; tenant = b.tenant; stamp = c.args.stamp } in
    let P : List HistoryEntry → Type 0 = λ seen. IsAdded b.tally.key b.entries (Decided decision) seen c.decide.new.self in
    let added : P b.front = subst P c.again-front.ensures.same c.if-not-decide.ensures.adds.added in
    let its = equal_test b.tally.key b.tally.key refl in
    let last : c.args.stamp ≡ b.last = (c.may_end.ensures.0 c.if-not-may_end.false).0 ∙ ap (λ (t : ClientTrace). t.last) (sym c.self.view_is) in (
      traced_ended decision b.client b.last b.is_open b.entries (Decided decision) b.front c.decide.new.self (inl refl) last c.self.invariant.0 its c.self.invariant.1 added,
      added_count b.tally.key b.entries (Decided decision) b.front c.decide.new.self its added,
    )

pub returns-clause-decided : goal.returns-clause-decided
returns-clause-decided g c =
    let b = c.self.inside in
    let decision : Decision = record { word = b.tally.key; tenant = b.tenant; stamp = c.args.stamp } in
    let P : ClientTrace → Type 0 = λ t. Decided (record { word = t.word; tenant = t.tenant; stamp = c.args.stamp }) ∈ c.decide.new.self in
    subst P c.self.view_is (added_in b.tally.key b.entries (Decided decision) c.again-front.result c.decide.new.self c.if-not-decide.ensures.adds.added)

pub returns-clause-entered : goal.returns-clause-entered
returns-clause-entered g c =
    let b = c.self.inside in
    let decision : Decision = record { word = b.tally.key; tenant = b.tenant; stamp = c.args.stamp } in
    let Q : List HistoryEntry → Type 0 = λ seen. IsAdded b.tally.key b.entries (Decided decision) seen c.decide.new.self in
    let added : Q b.front = subst Q c.again-front.ensures.same c.if-not-decide.ensures.adds.added in
    let its = equal_test b.tally.key b.tally.key refl in
    let P : ClientTrace → Type 0 =
    λ t. own t.word c.decide.new.self ≡ own t.word t.seen ++ Decided (record { word = t.word; tenant = t.tenant; stamp = c.args.stamp }) ∷ [] in
    record { entered = subst P c.self.view_is (own_added b.tally.key b.entries (Decided decision) b.front c.decide.new.self its c.self.invariant.1 added); last = ap (λ (t : ClientTrace). t.last) c.self.view_is }

-- the word has as many entries as it can have, or the put may not end
pub returns-then-self-ge-MOST-clause-refused : goal.returns-then-self-ge-MOST-clause-refused
returns-then-self-ge-MOST-clause-refused g c =
    let b = c.self.inside in
    let P : ClientTrace → Type 0 = λ t. 2 ^ 62 ≤ count t.word t.seen in
    elim c.then-self-ge-MOST.branch [
      | then-self-ge-MOST-via-then-self-ge-MOST w ↦
          let full : 2 ^ 62 ≤ count b.tally.key b.front = omega (arith, c.self.invariant.1, w.if-self-ge-MOST.true) in
          record { refused = full_end _ c.args.self.now _ (subst P c.self.view_is full); unchanged = refl }
      | then-self-ge-MOST-via-else-self-ge-MOST+then-not-may_end w ↦
          record { refused = cannot_end c.args.stamp c.args.self.now _ w.may_end.result w.if-not-may_end.true w.may_end.ensures; unchanged = refl }
    ]

-- what was found of the history has other entries of the word
pub returns-then-not-decide-clause-refused : goal.returns-then-not-decide-clause-refused
returns-then-not-decide-clause-refused g c =
    let b = c.self.inside in
    let found = c.decide.new.self in
    let none : TakesNoEntry b.tally.key b.front found =
    none_taken b.tally.key b.entries b.front c.again-front.result found c.again-front.ensures.same c.self.invariant.1 c.decide.ensures.adds.later c.if-not-decide.ensures.adds.added in
    let P : ClientTrace → Type 0 = λ t. CannotEnd c.args.stamp t found in
    record { refused = subst P c.self.view_is (inr (inr none)); unchanged = refl }
