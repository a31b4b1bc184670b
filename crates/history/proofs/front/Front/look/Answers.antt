use Rattle.std.proofs.Common.{sym, ◌∙◌, ap}
use Rattle.history.specs.Rules.{IsHome}
use Rattle.history.proofs.Steps.{looks_moves}
use Rattle.history.proofs.front.Front.look.Goals as goal

pub load-requires : goal.load-requires
load-requires g c =
    let word = c.args.tally.now.word_is in
    let offer = c.plain-offer.ensures in
    let home : IsHome c.args.tally.now.key c.self.inside.seen.log = rw c.self.view_is c.requires.home in (
      ap (λ w. w.tracked) word,
      c.self.invariant.0 ∙ sym (ap (λ w. w.book) word),
      offer.0,
      rw (ap (λ w. w.key) word, offer.3) (looks_moves c.args.tally.now.key c.self.inside.seen.log c.plain-offer.result.ask home),
    )
