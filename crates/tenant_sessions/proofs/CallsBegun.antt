-- What a transaction that begins may ask for: for `ClientSession::start`.
use Rattle.std.proofs.Common.{◌≡◌, ℕ, ◌+◌, ◌*◌, ◌≤◌, List, [], Bool, true, false, length, cond, refl, ap, ◌∙◌, Some, arith}
use Rattle.std.proofs.lemmas.List.{length-map}
use Rattle.stamps.specs.Bounds.{IsParts}
use Rattle.stamps.specs.Limits.{max_keys}
use Rattle.plain_store.specs.Moves.{calls_of}
use Rattle.plain_store.specs.History.{Intent, Writes, Gets, Finds}
use Rattle.plain_store.specs.Words.{Setup}
use Rattle.plain_store.specs.Writing.{Outgoing}
use Rattle.put_all.specs.Writer.{place_after, calls_left as write_left}
use Rattle.get_all.specs.Reader.{slot_after, calls_left as read_left}
use Rattle.get_all.specs.TagSearch.{calls_left as find_left}
use Rattle.tenant_sessions.specs.CallsLeft.{calls_left, calls_waiting, machine_left, most_calls}
use Rattle.tenant_sessions.specs.Holding.{Machine, Write, Read, Find}
use Rattle.tenant_sessions.specs.Running.{MayBegin, RunsAs, Starts, waiting_calls}
use Rattle.tenant_sessions.specs.declared.running.Running.{Running}
use Rattle.tenant_sessions.proofs.Starting.{none_told, write_calls, read_calls, find_calls}

some_or_none : (b : Bool) (n : ℕ) → cond b 0 n ≤ n
some_or_none true n = omega arith
some_or_none false n = omega arith

while_asking : (ended told reads : Bool) (n : ℕ) → reads ≡ false → cond ended 0 (cond told 0 (2 * max_keys) + cond reads n 0) ≤ 2 * max_keys
while_asking true told reads n unread = omega arith
while_asking false true true n unread = cc
while_asking false false true n unread = cc
while_asking false true false n unread = omega arith
while_asking false false false n unread = omega arith

pub begun_few : (setup : Setup) (request : Intent) → IsParts setup.partitions → MayBegin request → (running : Running) → Starts setup request running
    → calls_waiting (Some running) + calls_left (Some running) ≤ most_calls setup.partitions request
begun_few setup request range fits running starts = go request fits running.machine running.waiting starts.stands.runs starts.calls
  where
    go : (r : Intent) → MayBegin r → (machine : Machine) (waiting : List Outgoing) → RunsAs setup r [] machine waiting → waiting_calls setup r [] ≡ calls_of setup false r []
        → length waiting + machine_left machine ≤ most_calls setup.partitions r
    go (Writes stamp items) good (Write own writer) waiting (same, writing) all =
        let sent = ap length (writing.waits ∙ all) ∙ write_calls setup stamp items good in
        let places = ap length writing.stands.places ∙ length-map items (place_after setup stamp []) in
        let left : write_left writer ≤ length writer.places = some_or_none _ (length writer.places) in
        omega (arith, sent, places, left)
    go (Writes stamp items) good (Read reader) waiting none all = absurd none
    go (Writes stamp items) good (Find search reader) waiting none all = absurd none
    go (Gets keys) good (Read reader) waiting reading all =
        let sent = ap length (reading.waits ∙ all) ∙ read_calls setup keys good in
        let slots = ap length (reading.stands.holds reading.goes_on).slots ∙ length-map keys (slot_after keys []) in
        let left : read_left reader ≤ length reader.slots = some_or_none _ (length reader.slots) in
        omega (arith, sent, slots, left)
    go (Gets keys) good (Write own writer) waiting none all = absurd none
    go (Gets keys) good (Find search reader) waiting none all = absurd none
    go (Finds tag) good (Find search reader) waiting finding all =
        let sent = ap length (finding.waits ∙ all) ∙ find_calls setup setup.partitions refl tag range in
        let unread = ((finding.stands.holds finding.goes_on).asking (none_told setup.partitions range.positive)).unread in
        let left : find_left search reader ≤ 2 * max_keys = while_asking search.has_ended _ search.reads _ unread in
        omega (arith, sent, left)
    go (Finds tag) good (Write own writer) waiting none all = absurd none
    go (Finds tag) good (Read reader) waiting none all = absurd none
