use Rattle.std.proofs.Common.{◌≢◌, sym, ◌∙◌, ap, arith, inl}
use Rattle.history.specs.Rules.{IsHome}
use Rattle.history.proofs.Steps.{raises_moves}
use Rattle.history.proofs.front.Front.raise.Goals as goal

pub compare_exchange-found-requires : goal.compare_exchange-found-requires
compare_exchange-found-requires g c =
    let word = c.args.clock.now.word_is in
    let offer = c.plain-offer.ensures in
    let pen = c.no_pen-pen.ensures in
    let key = c.args.clock.now.key in
    let tenant = c.args.tenant.now in
    let log = c.self.inside.seen.log in
    let book = c.self.invariant.0 ∙ sym (ap (λ w. w.book) word) in
    let home : IsHome key log = inl (omega (arith, c.requires.clock.0, c.requires.clock.1)) in
    let apart : key ≢ 0 = λ q. omega (arith, c.requires.clock.0, q) in (
      ap (λ w. w.tracked) word,
      book,
      pen.0 ∙ book,
      offer.0,
      rw (ap (λ w. w.key) word, pen.1, offer.3) (raises_moves key log tenant c.args.entries c.args.to home apart c.requires.clock.0 c.requires.more),
    )
