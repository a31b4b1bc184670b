use Rattle.std.proofs.Common.{◌≡◌, ◌^◌, ◌≤◌, ◌++◌, ◌∷◌, [], List, arith, ap, inl, refl, subst}
use Rattle.history.specs.declared.entry.HistoryEntry.{HistoryEntry}
use Rattle.history.specs.declared.entry.HistoryEntry.TheVariants.{ReadBegan}
use Rattle.history.specs.Entries.{count, own}
use Rattle.history.specs.Rules.{IsAdded, TakesNoEntry}
use Rattle.history.proofs.Counts.{equal_test}
use Rattle.history.proofs.Servings.{added_count, none_taken}
use Rattle.traced_client.specs.Clients.{ClientTrace, HasJoined}
use Rattle.traced_client.proofs.Following.{own_added, read_entry, traced_asked}
use Rattle.traced_client.proofs.client_word.TracedClient.begin_read.Goals as goal

pub invariant_of-self : goal.invariant_of-self
invariant_of-self g c =
    let b = c.self.inside in
    let P : List HistoryEntry → Type 0 = λ seen. IsAdded b.tally.key b.entries (ReadBegan b.tally.key) seen c.begin_read.new.self in
    let added : P b.front = subst P c.again-front.ensures.same c.if-not-begin_read.ensures.adds.added in (
      traced_asked b.tally.key b.tenant b.client b.last b.is_open b.entries b.front c.begin_read.new.self c.self.invariant.0 c.self.invariant.1 added,
      added_count b.tally.key b.entries (ReadBegan b.tally.key) b.front c.begin_read.new.self (equal_test b.tally.key b.tally.key refl) added,
    )

pub returns-clause-since : goal.returns-clause-since
returns-clause-since g c =
    let b = c.self.inside in
    let P : List HistoryEntry → Type 0 = λ seen. IsAdded b.tally.key b.entries (ReadBegan b.tally.key) seen c.begin_read.new.self in
    let added : P b.front = subst P c.again-front.ensures.same c.if-not-begin_read.ensures.adds.added in
    read_entry b.tally.key b.entries b.front c.begin_read.new.self c.args.evidence.now c.self.invariant.1 added (c.begin_read.ensures.sees.behind c.if-not-begin_read.false)

pub returns-clause-marked : goal.returns-clause-marked
returns-clause-marked g c =
    let b = c.self.inside in
    let P : List HistoryEntry → Type 0 = λ seen. IsAdded b.tally.key b.entries (ReadBegan b.tally.key) seen c.begin_read.new.self in
    let added : P b.front = subst P c.again-front.ensures.same c.if-not-begin_read.ensures.adds.added in
    let counted = added_count b.tally.key b.entries (ReadBegan b.tally.key) b.front c.begin_read.new.self (equal_test b.tally.key b.tally.key refl) added in
    omega (arith, counted)

pub returns-clause-entered : goal.returns-clause-entered
returns-clause-entered g c =
    let b = c.self.inside in
    let Q : List HistoryEntry → Type 0 = λ seen. IsAdded b.tally.key b.entries (ReadBegan b.tally.key) seen c.begin_read.new.self in
    let added : Q b.front = subst Q c.again-front.ensures.same c.if-not-begin_read.ensures.adds.added in
    let P : ClientTrace → Type 0 = λ t. own t.word c.begin_read.new.self ≡ own t.word t.seen ++ ReadBegan t.word ∷ [] in
    record { entered = subst P c.self.view_is (own_added b.tally.key b.entries (ReadBegan b.tally.key) b.front c.begin_read.new.self (equal_test b.tally.key b.tally.key refl) c.self.invariant.1 added); last = ap (λ (t : ClientTrace). t.last) c.self.view_is }

-- the word has as many entries as it can have
pub returns-then-self-ge-MOST-clause-refused : goal.returns-then-self-ge-MOST-clause-refused
returns-then-self-ge-MOST-clause-refused g c =
    let b = c.self.inside in
    let full : 2 ^ 62 ≤ count b.tally.key b.front = omega (arith, c.self.invariant.1, c.if-self-ge-MOST.true) in
    let P : ClientTrace → Type 0 = λ t. 2 ^ 62 ≤ count t.word t.seen in
    record { refused = inl (subst P c.self.view_is full); unchanged = refl }

-- what was found of the history has other entries of the word
pub returns-then-not-begin_read-clause-refused : goal.returns-then-not-begin_read-clause-refused
returns-then-not-begin_read-clause-refused g c =
    let b = c.self.inside in
    let found = c.begin_read.new.self in
    let none : TakesNoEntry b.tally.key b.front found =
    none_taken b.tally.key b.entries b.front c.again-front.result found c.again-front.ensures.same c.self.invariant.1 c.begin_read.ensures.adds.later c.if-not-begin_read.ensures.adds.added in
    let P : ClientTrace → Type 0 = λ t. TakesNoEntry t.word t.seen found in
    record { refused = subst P c.self.view_is none; unchanged = refl }

-- the word is the client's own
pub returns-clause-joined : goal.returns-clause-joined
returns-clause-joined g c =
    subst (HasJoined c.self.inside.tally.key) c.self.view_is c.self.invariant.0.joined
