use Rattle.std.proofs.Common.{◌≡◌, ℕ, sym, ◌∙◌, ap, subst, nat_eq, MatchBool}
use Rattle.history.specs.declared.entry.HistoryEntry.{HistoryEntry}
use Rattle.history.specs.Entries.{count}
use Rattle.history.specs.Legal.{MayFollow}
use Rattle.history.specs.Rules.{AddsEntry, HasEvidence, IsHome, IsAdded, IsOvertaken}
use Rattle.history.proofs.Lists.{prefix_join}
use Rattle.history.proofs.Steps.{adds_moves, behind, told}
use Rattle.history.proofs.front.Front.add.Goals as goal

pub compare_exchange-found-requires : goal.compare_exchange-found-requires
compare_exchange-found-requires g c =
    let word = c.args.tally.now.word_is in
    let offer = c.plain-offer.ensures in
    let pen = c.no_pen-pen.ensures in
    let mine = c.self.inside.seen.log in
    let seen = c.evidence.inside.seen.log in
    let key = c.args.tally.now.key in
    let book = c.learn.ensures.0 ∙ c.self.invariant.0 ∙ sym (ap (λ w. w.book) word) in
    let home : IsHome key mine = rw c.self.view_is c.requires.home in
    let counted : count key mine ≡ c.args.entries = rw c.self.view_is c.requires.takes.counted in
    let may : ∥ MayFollow mine seen (g.M.Plain.ask c.args.about.now) ∥₁ = rw (c.self.view_is, c.evidence.view_is) c.requires.may in (
      ap (λ w. w.tracked) word,
      book,
      pen.0 ∙ book,
      offer.0,
      rw (ap (λ w. w.key) word, pen.1, offer.1, offer.3 ∙ c.requires.plain)
          (adds_moves key c.learn.new.self.log mine seen (g.M.Plain.ask c.args.about.now) c.args.entries c.learn.ensures.2 c.learn.ensures.3
          c.evidence.invariant.1 home c.requires.apart c.requires.its counted may),
    )

pub returns-clause-adds : goal.returns-clause-adds
returns-clause-adds g c =
    let word = c.args.tally.now.word_is in
    let entries = c.args.entries in
    let v = c.learn.new.self.log in
    let now = c.compare_exchange-found.new.seen.log in
    let b = nat_eq c.compare_exchange-found.result entries in
    let key : c.args.tally.now.word.key ≡ c.args.tally.now.key = ap (λ w. w.key) word in
    let e = g.M.Plain.ask c.args.about.now in
    let added : MatchBool b (IsAdded c.args.tally.now.key entries e v now) (IsOvertaken c.args.tally.now.key entries now) =
    subst (λ (k : ℕ). MatchBool b (IsAdded k entries e v now) (IsOvertaken k entries now)) key
    (subst (λ (d : HistoryEntry). MatchBool b (IsAdded c.args.tally.now.word.key entries d v now) (IsOvertaken c.args.tally.now.word.key entries now)) c.plain-offer.ensures.1
    c.compare_exchange-found.ensures.7) in
    let adds : AddsEntry b c.args.tally.now.key entries e c.self.inside.seen.log now = record {
      later = prefix_join c.self.inside.seen.log v now c.learn.ensures.2 c.compare_exchange-found.ensures.6;
      added = told c.args.tally.now.key entries e c.self.inside.seen.log v now c.learn.ensures.2 b added;
    } in
    rw (← c.self.view_is) adds

-- it was added behind all that was learned
pub returns-clause-sees : goal.returns-clause-sees
returns-clause-sees g c =
    let word = c.args.tally.now.word_is in
    let entries = c.args.entries in
    let v = c.learn.new.self.log in
    let now = c.compare_exchange-found.new.seen.log in
    let b = nat_eq c.compare_exchange-found.result entries in
    let key : c.args.tally.now.word.key ≡ c.args.tally.now.key = ap (λ w. w.key) word in
    let e = g.M.Plain.ask c.args.about.now in
    let added : MatchBool b (IsAdded c.args.tally.now.key entries e v now) (IsOvertaken c.args.tally.now.key entries now) =
    subst (λ (k : ℕ). MatchBool b (IsAdded k entries e v now) (IsOvertaken k entries now)) key
    (subst (λ (d : HistoryEntry). MatchBool b (IsAdded c.args.tally.now.word.key entries d v now) (IsOvertaken c.args.tally.now.word.key entries now)) c.plain-offer.ensures.1
    c.compare_exchange-found.ensures.7) in
    let sees : HasEvidence b c.evidence.inside.seen.log now = record {
      evidence = prefix_join c.evidence.inside.seen.log v now c.learn.ensures.3 c.compare_exchange-found.ensures.6;
      behind = λ did. behind c.args.tally.now.key entries e c.evidence.inside.seen.log v now c.learn.ensures.3 b did added;
    } in
    rw (← c.evidence.view_is) sees
