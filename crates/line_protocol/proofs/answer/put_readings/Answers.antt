use Rattle.std.proofs.Common.{◌+◌, ◌*◌, ◌∷◌, ◌++◌, take, arith}
use Rattle.line_protocol.specs.AnswerSpelling.{reading_text, readings_text}
use Rattle.line_protocol.specs.Room.{spaced_reading_room}
use Rattle.line_protocol.proofs.Appending.{Appends-trans, Appends-reading, Appends-at_most, readings_text-push}
use Rattle.line_protocol.proofs.answer.put_readings.Goals as goal

pub loop-reading-preserved : goal.loop-reading-preserved
loop-reading-preserved c =
    let readings = c.args.readings.now in
    let i = c.loop-reading.reading-index in
    let reading = c.reading-item.result in
    let text = readings_text (take i readings) in
    Appends-at_most (spaced_reading_room * i + spaced_reading_room) (spaced_reading_room * (i + 1)) c.args.out.now c.put_reading.new.out (text ++ 32 ∷ reading_text reading) (readings_text (take (i + 1) readings)) (omega arith)
    (readings_text-push readings i reading c.loop-reading-test.true c.reading-item.is)
    (Appends-trans (spaced_reading_room * i) spaced_reading_room c.args.out.now c.loop-reading.out c.put_reading.new.out text (32 ∷ reading_text reading) c.loop-reading.invariant
    (Appends-reading c.loop-reading.out c.put.new.out c.put_reading.new.out (reading_text reading) c.put.ensures c.put_reading.ensures))
