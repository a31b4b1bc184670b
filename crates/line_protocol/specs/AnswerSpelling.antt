-- The grammar of the lines that answer steps.
use Rattle.std.specs.Prelude.{ℕ, List, [], ◌∷◌, ◌++◌, Option, Some, None, ◌==◌, if◌then◌else◌, decimal, codes}
use Rattle.plain_store.specs.Numbers.{number_of}
use Rattle.plain_store.specs.declared.reading.Reading.{Reading}
use Rattle.plain_store.specs.declared.answer.Rows.{Rows}
use Rattle.plain_store.specs.declared.answer.Answer.{Answer}
use Rattle.plain_store.specs.declared.answer.Answer.TheVariants.{Refused, Ready, PutBegun, GetBegun, FindBegun}
use Rattle.plain_store.specs.declared.answer.Answer.TheVariants.{Replied, Ignored, Wait, Decided, Done, Ask}
use Rattle.plain_store.specs.declared.answer.Answer.TheVariants.{BeginsRead, Read, Listed, Restart, Ended, Lost}
use Rattle.plain_store.specs.declared.answer.Answer.TheVariants.{Stopped, Sent, Freed, Keeps}
use Rattle.line_protocol.specs.Stream.{terminated}
use Rattle.line_protocol.specs.Spelling.{space, equals, at_sign, stamp_text, tag_text, refused_text, reply_text}
use Rattle.line_protocol.specs.StepSpelling.{words_text}

-- rows A-B
abbrev pub rows_text : Rows → List ℕ
rows_text rows = codes "rows " ++ (decimal rows.first ++ codes "-" ++ decimal rows.last)

-- what a version wrote: =VALUE or #TAG=VALUE, and nothing where it is an initial one
abbrev pub written_text : Reading → List ℕ
written_text reading = if reading.stamp == 0 then [] else tag_text reading.item.tag ++ equals ∷ reading.item.value

-- KEY@STAMP=VALUE or KEY@STAMP#TAG=VALUE, and KEY@0.0 for an initial version
abbrev pub reading_text : Reading → List ℕ
reading_text reading = reading.item.key ++ at_sign ∷ (stamp_text reading.stamp ++ written_text reading)

-- each after a space
abbrev pub readings_text : List Reading → List ℕ
readings_text = words_text reading_text

-- separated by spaces
abbrev pub parted_readings_text : List Reading → List ℕ
parted_readings_text [] = []
parted_readings_text (reading ∷ readings) = reading_text reading ++ readings_text readings

abbrev pub sent_text : Option Rows → List ℕ
sent_text None = codes "none"
sent_text (Some rows) = rows_text rows

-- the rows of the calls that a transaction sent as it ended, after a space, if there are any
abbrev pub ending_text : Option Rows → List ℕ
ending_text None = []
ending_text (Some rows) = space ∷ rows_text rows

-- the text of an answer
abbrev pub answer_text : Answer → List ℕ
answer_text (Refused refusal) = refused_text (number_of refusal)
answer_text (Ready counter) = codes "ready " ++ decimal counter
answer_text (PutBegun stamp rows) = codes "put " ++ (stamp_text stamp ++ space ∷ rows_text rows)
answer_text (GetBegun rows) = codes "get " ++ rows_text rows
answer_text (FindBegun rows) = codes "find " ++ rows_text rows
answer_text (Replied row reply) = codes "row " ++ (decimal row ++ space ∷ reply_text reply)
answer_text Ignored = codes "ignored"
answer_text Wait = codes "wait"
answer_text (Decided stamp rows) = codes "decided " ++ (stamp_text stamp ++ space ∷ rows_text rows)
answer_text (Done stamp) = codes "done " ++ stamp_text stamp
answer_text (Ask rows) = codes "ask " ++ rows_text rows
answer_text (BeginsRead rows) = codes "found " ++ rows_text rows
answer_text (Read readings) = codes "read " ++ parted_readings_text readings
answer_text (Listed readings) = codes "list" ++ readings_text readings
answer_text (Restart key floor) = codes "restart " ++ (key ++ space ∷ stamp_text floor)
answer_text (Ended refusal rows) = codes "ended " ++ decimal (number_of refusal) ++ ending_text rows
answer_text Lost = codes "lost"
answer_text Stopped = codes "stopped"
answer_text (Sent rows) = codes "sent " ++ sent_text rows
answer_text (Freed count) = codes "freed " ++ decimal count
answer_text (Keeps keep) = codes "keep " ++ decimal keep

-- an answer as it stands on the stream
abbrev pub answer_line : Answer → List ℕ
answer_line answer = terminated (answer_text answer)
