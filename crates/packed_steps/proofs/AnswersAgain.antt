-- That a packed answer is read again.
use Rattle.std.proofs.Common.{◌≡◌, ℕ, ◌^◌, ◌<◌, ◌∷◌, ◌++◌, List, Some, None, refl, ap, ◌∙◌, append_assoc, length, arith}
use Rattle.std.specs.Int.{w64, to_le_bytes}
use Rattle.std.specs.List.{flat_map}
use Rattle.std.proofs.lemmas.Bool.{le-ltb}
use Rattle.stamps.specs.Stamp.{IsStamp}
use Rattle.stamps.specs.Key.{IsKey}
use Rattle.stamps.specs.Limits.{max_keys}
use Rattle.plain_store.specs.Numbers.{number_of, refusal_of}
use Rattle.plain_store.specs.declared.reading.Reading.{Reading}
use Rattle.plain_store.specs.declared.calls.Reply.{Reply}
use Rattle.plain_store.specs.declared.refusal.Refusal.{Refusal}
use Rattle.plain_store.specs.declared.refusal.Refusal.TheVariants.{NoTenant, NoSession, Busy, BadItems, StampsUsed}
use Rattle.plain_store.specs.declared.refusal.Refusal.TheVariants.{FullSlots, FullItems, NoMessage, NoPartition}
use Rattle.plain_store.specs.declared.refusal.Refusal.TheVariants.{Stopped as NowStopped, Clash, Unknown, Torn}
use Rattle.plain_store.specs.declared.refusal.Refusal.TheVariants.{TooMany, ClientsFull, Late, RowsUsed, OutOfMemory}
use Rattle.plain_store.specs.declared.refusal.Refusal.TheVariants.{BadLine, LineTooLong, Cut, FullMarks, Discarded}
use Rattle.plain_store.specs.declared.answer.Rows.{Rows}
use Rattle.plain_store.specs.declared.answer.Answer.{Answer}
use Rattle.plain_store.specs.declared.answer.Answer.TheVariants.{Refused, Ready, PutBegun, GetBegun, FindBegun}
use Rattle.plain_store.specs.declared.answer.Answer.TheVariants.{Replied, Ignored, Wait, Decided, Done, Ask}
use Rattle.plain_store.specs.declared.answer.Answer.TheVariants.{BeginsRead, Read, Listed, Restart, Ended, Lost}
use Rattle.plain_store.specs.declared.answer.Answer.TheVariants.{Stopped, Sent, Freed, Keeps}
use Rattle.packed.specs.Packing.{packed_number, packed_text}
use Rattle.packed_steps.specs.PackedCalls.{packed_reply, IsStoreReply}
use Rattle.packed_steps.specs.Lists.{packed_list}
use Rattle.packed_steps.specs.PackedActs.{packed_item}
use Rattle.packed_steps.specs.PackedAnswers.{packed_rows, AreStoreRows, rows_at, refusal_at, packed_reading, IsStoreReading, AreStoreReadings, reading_at, readings_at, packed_answer, IsStoreAnswer, refused_at, ready_at, put_begun_at, decided_at, replied_at, done_at, read_at, listed_at, restart_at, ended_at, ended_with_at, freed_answer_at, keeps_at, get_begun_at, find_begun_at, ask_at, begins_read_at, sent_at, plain_answer_by, rows_answer_by, other_answer_by, answer_by, answer_at}
use Rattle.packed.proofs.Texts.{number_again, count_again, key_again, stamp_again}
use Rattle.packed_steps.proofs.Replies.{reply_again}
use Rattle.packed_steps.proofs.ManyLoop.{many_again}
use Rattle.packed_steps.proofs.Acts.{item_again, counter_again, keep_again}

rows_again : (rows : Rows) (rest : List ℕ) → AreStoreRows rows → rows_at (packed_rows rows ++ rest) ≡ Some (rows, rest)
unfolding rows_at
rows_again rows rest h =
    ap rows_at (append_assoc (packed_number rows.first) (packed_number rows.last) rest)
    ∙ rw (number_again rows.first (packed_number rows.last ++ rest) h.first, number_again rows.last rest h.last) refl

refusal_is : (refusal : Refusal) → refusal_of (number_of refusal) ≡ Some refusal
refusal_is NoTenant = refl
refusal_is _ = refl

refusal_again : (refusal : Refusal) (rest : List ℕ) → refusal_at (number_of refusal ∷ rest) ≡ Some (refusal, rest)
unfolding refusal_at
refusal_again refusal rest = rw (refusal_is refusal) refl

reading_again : (r : Reading) (rest : List ℕ) → IsStoreReading r → reading_at (packed_reading r ++ rest) ≡ Some (r, rest)
unfolding reading_at
reading_again r rest h =
    ap reading_at (append_assoc (packed_item r.item) (to_le_bytes w64 r.stamp) rest)
    ∙ rw (item_again r.item (to_le_bytes w64 r.stamp ++ rest) h.item, stamp_again r.stamp rest h.stamp) refl

readings_again : (readings : List Reading) (rest : List ℕ) → AreStoreReadings readings → readings_at (packed_list packed_reading readings ++ rest) ≡ Some (readings, rest)
unfolding readings_at
readings_again readings rest h =
    let few = h.few in
    let others = flat_map packed_reading readings in
    ap readings_at (append_assoc (packed_number (length readings)) others rest)
    ∙ rw (
      number_again (length readings) (others ++ rest) (omega (arith, few)),
      le-ltb max_keys (length readings) h.few,
      many_again reading_at packed_reading IsStoreReading reading_again readings rest h.each,
    ) refl

put_begun_again : (stamp : ℕ) (rows : Rows) (rest : List ℕ) → IsStamp stamp → AreStoreRows rows → put_begun_at ((to_le_bytes w64 stamp ++ packed_rows rows) ++ rest) ≡ Some (PutBegun stamp rows, rest)
unfolding put_begun_at
put_begun_again stamp rows rest h k =
    ap put_begun_at (append_assoc (to_le_bytes w64 stamp) (packed_rows rows) rest)
    ∙ rw (stamp_again stamp (packed_rows rows ++ rest) h, rows_again rows rest k) refl

decided_again : (stamp : ℕ) (rows : Rows) (rest : List ℕ) → IsStamp stamp → AreStoreRows rows → decided_at ((to_le_bytes w64 stamp ++ packed_rows rows) ++ rest) ≡ Some (Decided stamp rows, rest)
unfolding decided_at
decided_again stamp rows rest h k =
    ap decided_at (append_assoc (to_le_bytes w64 stamp) (packed_rows rows) rest)
    ∙ rw (stamp_again stamp (packed_rows rows ++ rest) h, rows_again rows rest k) refl

replied_again : (row : ℕ) (reply : Reply) (rest : List ℕ) → row < 2 ^ 64 → IsStoreReply reply → replied_at ((packed_number row ++ packed_reply reply) ++ rest) ≡ Some (Replied row reply, rest)
unfolding replied_at
replied_again row reply rest h k =
    ap replied_at (append_assoc (packed_number row) (packed_reply reply) rest)
    ∙ rw (number_again row (packed_reply reply ++ rest) h, reply_again reply rest k) refl

restart_again : (key : List ℕ) (floor : ℕ) (rest : List ℕ) → IsKey key → IsStamp floor → restart_at ((packed_text key ++ to_le_bytes w64 floor) ++ rest) ≡ Some (Restart key floor, rest)
unfolding restart_at
restart_again key floor rest h k =
    ap restart_at (append_assoc (packed_text key) (to_le_bytes w64 floor) rest)
    ∙ rw (key_again key (to_le_bytes w64 floor ++ rest) h, stamp_again floor rest k) refl

ended_with_again : (refusal : Refusal) (rows : Rows) (rest : List ℕ) → AreStoreRows rows → ended_with_at (number_of refusal ∷ (packed_rows rows ++ rest)) ≡ Some (Ended refusal (Some rows), rest)
unfolding ended_with_at
ended_with_again refusal rows rest h = rw (refusal_again refusal (packed_rows rows ++ rest), rows_again rows rest h) refl

pub answer_again : (answer : Answer) (rest : List ℕ) → IsStoreAnswer answer → answer_at (packed_answer answer ++ rest) ≡ Some (answer, rest)
unfolding answer_at answer_by other_answer_by rows_answer_by plain_answer_by refused_at ready_at done_at read_at listed_at ended_at freed_answer_at keeps_at get_begun_at find_begun_at ask_at begins_read_at sent_at
answer_again (Refused refusal) rest h = rw (refusal_again refusal rest) refl
answer_again (Ready counter) rest h = rw (counter_again counter rest h) refl
answer_again (PutBegun stamp rows) rest h = put_begun_again stamp rows rest h.0 h.1
answer_again (GetBegun rows) rest h = rw (rows_again rows rest h) refl
answer_again (FindBegun rows) rest h = rw (rows_again rows rest h) refl
answer_again (Replied row reply) rest h = replied_again row reply rest h.0 h.1
answer_again (Decided stamp rows) rest h = decided_again stamp rows rest h.0 h.1
answer_again (Done stamp) rest h = rw (stamp_again stamp rest h) refl
answer_again (Ask rows) rest h = rw (rows_again rows rest h) refl
answer_again (BeginsRead rows) rest h = rw (rows_again rows rest h) refl
answer_again (Read readings) rest h = rw (readings_again readings rest h) refl
answer_again (Listed readings) rest h = rw (readings_again readings rest h) refl
answer_again (Restart key floor) rest h = restart_again key floor rest h.0 h.1
answer_again (Ended refusal None) rest h = rw (refusal_again refusal rest) refl
answer_again (Ended refusal (Some rows)) rest h = ended_with_again refusal rows rest h
answer_again (Sent None) rest h = refl
answer_again (Sent (Some rows)) rest h = rw (rows_again rows rest h) refl
answer_again (Freed count) rest h = rw (count_again count rest h) refl
answer_again (Keeps keep) rest h = rw (keep_again keep rest h) refl
answer_again _ rest h = refl
