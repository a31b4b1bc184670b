use Rattle.std.proofs.Common.{◌≡◌, refl, ap, sym, ◌∙◌}
use Rattle.std.proofs.lemmas.Bool.{both_ways}
use Rattle.std.proofs.lemmas.Option.{slice_get_read}
use Rattle.closed_store.specs.declared.transcript.Transcript.{Transcript}
use Rattle.settle.specs.Words.{Hello}
use Rattle.settle.specs.Input.{input_of}
use Rattle.settle.proofs.Words.{some_is}
use Rattle.settle.proofs.Begun.{earlier_over, earlier_left}
use Rattle.settle.proofs.progress.Progress.greeting.Goals as goal

pub returns-then-not-is_past-clause-gives : goal.returns-then-not-is_past-clause-gives
returns-then-not-is_past-clause-gives c trace transcript stands its act gives =
    let input = input_of c.args.closed.now c.args.tenant c.args.self.now.replay.limits in
    earlier_left input trace c.args.self.now stands c.args.place transcript c.requires.given.sized.stages c.before-2.result
    (c.before-2.ensures c.args.closed.now.transcripts.items c.args.tenant transcript c.requires.given.places its)
    (λ past. both_ways c.is_past.result c.if-not-is_past.true (c.is_past.ensures.1 past)) gives.1

pub returns-clause-gives : goal.returns-clause-gives
returns-clause-gives c trace transcript stands its =
    let input = input_of c.args.closed.now c.args.tenant c.args.self.now.replay.limits in
    let at = slice_get_read c.args.closed.now.transcripts.items _ c.args.place c.index-transcript.result.now refl c.requires.place c.index-transcript.ensures in
    let same : c.index-transcript.result.now ≡ transcript = some_is c.index-transcript.result.now transcript (sym at ∙ its.0) in (
      refl,
      (
        ap (λ (t : Transcript). Hello t.client t.base) same,
        earlier_over input trace c.args.self.now stands c.args.place transcript c.before-2.result
            (c.before-2.ensures c.args.closed.now.transcripts.items c.args.tenant transcript c.requires.given.places its) (c.is_past.ensures.0 c.if-not-is_past.false),
      ),
    )
