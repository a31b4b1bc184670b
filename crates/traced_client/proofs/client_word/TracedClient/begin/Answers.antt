use Rattle.std.proofs.Common.{◌≡◌, ◌∙◌, ◌^◌, ◌<◌, ◌≤◌, ◌++◌, List, [], ◌∷◌, inr, sym, subst, arith, refl}
use Rattle.stamps.specs.Stamp.{client_of}
use Rattle.plain_store.specs.Words.{◌∈◌}
use Rattle.history.specs.declared.entry.HistoryEntry.{HistoryEntry}
use Rattle.history.specs.declared.entry.HistoryEntry.TheVariants.{Began}
use Rattle.history.specs.declared.entry.Write.{Write}
use Rattle.history.specs.Entries.{count, own}
use Rattle.history.specs.Legal.{MayBegin}
use Rattle.history.specs.Rules.{IsAdded, TakesNoEntry}
use Rattle.history.proofs.Counts.{equal_test}
use Rattle.history.proofs.Servings.{added_count, none_taken}
use Rattle.traced_client.specs.Clients.{CannotBegin, ClientTrace}
use Rattle.traced_client.proofs.Following.{added_in, full_begin, may_begin, own_added, traced_began}
use Rattle.traced_client.proofs.client_word.TracedClient.begin.Goals as goal

-- the stamp is above those of the client's writes so far
pub begin-requires-clause-may : goal.begin-requires-clause-may
begin-requires-clause-may g c =
    let b = c.self.inside in
    let write : Write = record { word = b.tally.key; tenant = b.tenant; stamp = c.args.stamp; items = c.args.items.now } in
    let client : client_of c.args.stamp ≡ b.client = sym c.client.ensures ∙ c.if-client-get.false ∙ c.get.ensures.value in
    let above : b.last < c.args.stamp = omega (arith, c.if-number.false, c.number.ensures.value, c.number-else-client-get.ensures.value) in
    let P : List HistoryEntry → Type 0 = λ seen. ∥ MayBegin (own b.tally.key seen) seen write ∥₁ in
    subst P (sym c.again-front.ensures.same) ∣ may_begin write b.client b.last b.is_open b.front c.self.invariant.0 client above ∣₁

pub invariant_of-self : goal.invariant_of-self
invariant_of-self g c =
    let b = c.self.inside in
    let write : Write = record { word = b.tally.key; tenant = b.tenant; stamp = c.args.stamp; items = c.args.items.now } in
    let above : b.last < c.args.stamp = omega (arith, c.if-number.false, c.number.ensures.value, c.number-else-client-get.ensures.value) in
    let P : List HistoryEntry → Type 0 = λ seen. IsAdded b.tally.key b.entries (Began write) seen c.begin.new.self in
    let added : P b.front = subst P c.again-front.ensures.same c.if-not-begin.ensures.added in (
      traced_began write b.client b.last b.is_open b.entries b.front c.begin.new.self c.self.invariant.0 above c.self.invariant.1 added,
      added_count b.tally.key b.entries (Began write) b.front c.begin.new.self (equal_test b.tally.key b.tally.key refl) added,
    )

pub returns-clause-began : goal.returns-clause-began
returns-clause-began g c =
    let b = c.self.inside in
    let write : Write = record { word = b.tally.key; tenant = b.tenant; stamp = c.args.stamp; items = c.args.items.now } in
    let P : ClientTrace → Type 0 = λ t. Began (record { word = t.word; tenant = t.tenant; stamp = c.args.stamp; items = c.args.items.now }) ∈ c.begin.new.self in
    subst P c.self.view_is (added_in b.tally.key b.entries (Began write) c.again-front.result c.begin.new.self c.if-not-begin.ensures.added)

pub returns-clause-entered : goal.returns-clause-entered
returns-clause-entered g c =
    let b = c.self.inside in
    let write : Write = record { word = b.tally.key; tenant = b.tenant; stamp = c.args.stamp; items = c.args.items.now } in
    let Q : List HistoryEntry → Type 0 = λ seen. IsAdded b.tally.key b.entries (Began write) seen c.begin.new.self in
    let added : Q b.front = subst Q c.again-front.ensures.same c.if-not-begin.ensures.added in
    let its = equal_test b.tally.key b.tally.key refl in
    let P : ClientTrace → Type 0 =
    λ t. own t.word c.begin.new.self ≡ own t.word t.seen ++ Began (record { word = t.word; tenant = t.tenant; stamp = c.args.stamp; items = c.args.items.now }) ∷ [] in
    record { entered = subst P c.self.view_is (own_added b.tally.key b.entries (Began write) b.front c.begin.new.self its c.self.invariant.1 added); last = refl }

-- the word has as many entries as it can have
pub returns-then-self-ge-MOST-clause-refused : goal.returns-then-self-ge-MOST-clause-refused
returns-then-self-ge-MOST-clause-refused g c =
    let b = c.self.inside in
    let full : 2 ^ 62 ≤ count b.tally.key b.front = omega (arith, c.self.invariant.1, c.if-self-ge-MOST.true) in
    let P : ClientTrace → Type 0 = λ t. 2 ^ 62 ≤ count t.word t.seen in
    record { refused = full_begin _ c.args.self.now _ (subst P c.self.view_is full); unchanged = refl }

-- what was found of the history has other entries of the word
pub returns-then-not-begin-clause-refused : goal.returns-then-not-begin-clause-refused
returns-then-not-begin-clause-refused g c =
    let b = c.self.inside in
    let found = c.begin.new.self in
    let none : TakesNoEntry b.tally.key b.front found =
    none_taken b.tally.key b.entries b.front c.again-front.result found c.again-front.ensures.same c.self.invariant.1 c.begin.ensures.later c.if-not-begin.ensures.added in
    let P : ClientTrace → Type 0 = λ t. CannotBegin c.args.stamp t found in
    record { refused = subst P c.self.view_is (inr (inr none)); unchanged = refl }
