use Rattle.std.proofs.Common.{◌*◌, take}
use Rattle.line_protocol.specs.Room.{Appends, spaced_reading_room}
use Rattle.line_protocol.specs.AnswerSpelling.{readings_text}
use Rattle.line_protocol.proofs.answer.put_readings.Given as goal

abbrev pub invariant-loop-reading : goal.invariant-loop-reading
invariant-loop-reading l = Appends (spaced_reading_room * l.reading-index) l.fn.out l.out (readings_text (take l.reading-index l.readings))
