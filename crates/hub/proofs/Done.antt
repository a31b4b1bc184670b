-- What is answered as done was committed: for the laws of puts.
use Rattle.std.proofs.Common.{◌≡◌, ◌∙◌, ◌<◌, ◌↔◌, ℕ, ◌==◌, List, [], ◌∷◌, ◌++◌, Option, Some, None, true, false, eqb-true, inl, refl, ap, sym, subst, map}
use Rattle.std.specs.List.{list_any}
use Rattle.std.proofs.Math.Logic.{∥∥₁_elim, ∥∥₁_map, ∥∥₁_map₂, ∥∥₁_prop}
use Rattle.std.proofs.Math.Bridge.{le_prop}
use Rattle.std.proofs.lemmas.Bool.{and_parts}
use mathlib.Core.List.{IsPrefix}
use Rattle.stamps.specs.Key.{home_of}
use Rattle.plain_store.specs.declared.calls.Call.{Call}
use Rattle.plain_store.specs.declared.calls.Call.TheVariants.{Prepare, Commit, Get, Found, Collect, Discard}
use Rattle.plain_store.specs.declared.calls.Reply.{Reply}
use Rattle.plain_store.specs.declared.calls.Reply.TheVariants.{Committed as ToCommit}
use Rattle.plain_store.specs.declared.message.Message.{Message}
use Rattle.plain_store.specs.declared.reading.Reading.{Reading}
use Rattle.plain_store.specs.History.{Intent as Asked, Writes}
use Rattle.plain_store.specs.Words.{◌∈◌, Item, Key, Record, Setup, Stamp, home}
use Rattle.plain_store.specs.Writing.{keys_written, partitions_written, says_committed, says_prepared}
use Rattle.plain_store.proofs.Members.{all_at, any_witness, in_left, in_map, in_right, map_in}
use Rattle.plain_store.proofs.Seen.{ascending_in}
use Rattle.entry_list.specs.declared.kinds.Entry.{Entry}
use Rattle.entry_list.specs.declared.kinds.Entry.TheVariants as kinds
use Rattle.history.specs.declared.entry.HistoryEntry.{HistoryEntry}
use Rattle.history.specs.declared.entry.HistoryEntry.TheVariants.{Served}
use Rattle.history.specs.declared.entry.ServedCall.{ServedCall}
use Rattle.history.specs.Entries.{StandsInHistory}
use Rattle.history.specs.Fresh.{IsCommittedIn}
use Rattle.history.specs.Legal.{HasParts, IsKeyHome, IsLegal, IsOfWrite}
use Rattle.history.proofs.Committing.{commits_keys}
use Rattle.history.proofs.Fresh.{committed_in_later}
use Rattle.history.proofs.Shown.{accepted_written}
use Rattle.shard.specs.Journals.{served_call}
use Rattle.tenant_sessions.specs.Showing.{IsCallFor}
use Rattle.hub.specs.Fresh.{AreCommittedIn, IsNotMissed, IsReadFresh}
use Rattle.hub.specs.Limits.{last_call, max_calls}
use Rattle.hub.specs.Operations.{IsLater, PutsAll, ReportsMove, ReportsWrite}
use Rattle.hub.specs.Replies.{IfDone, IsDrawn, IsOf, IsReplyIn, IsWriteOf}
use Rattle.hub.specs.Seats.{SeatView, IsEntered, last_operation}
use Rattle.hub.specs.Sights.{OperationSight}
use Rattle.hub.proofs.Evidence.{reply_of, says, SaysPrepared, taken_as_prepare}
use Rattle.hub.proofs.Replies.{if_done}
use Rattle.plain_store.specs.declared.answer.Answer.{Answer}
use Rattle.plain_store.specs.declared.answer.Answer.TheVariants.{Refused}
use Rattle.plain_store.specs.declared.refusal.Refusal.TheVariants.{Stopped, RowsUsed}
use Rattle.plain_store.specs.declared.step.Act.TheVariants.{Put}

home_is : (setup : Setup) (key : Key) → home setup key ≡ home_of key setup.partitions
unfolding home
home_is setup key = refl

-- the home of each key that is written is one of the partitions of the write
partition_of_key : (setup : Setup) (items : List Item) (key : Key) → key ∈ keys_written items → home setup key ∈ partitions_written setup items
partition_of_key setup items key h =
    let i = in_map (λ (item : Item). item.key) items key h in
    ascending_in (map (λ (item : Item). home setup item.key) items) (home setup key)
    (subst (λ k. home setup k ∈ map (λ (item : Item). home setup item.key) items) (sym i.2) (map_in (λ (item : Item). home setup item.key) items i.0 i.1))

-- a message that says so has a COMMIT of the stamp, of that partition
record SaysCommitted (own : Stamp) (partition at : ℕ) (call : Call) : Type 0 where
  call_is : call ≡ Commit own
  at_is : at ≡ partition

committed_says : (own : Stamp) (partition at : ℕ) (call : Call) (reply : Option Reply) → says_committed own partition at call reply ≡ true → SaysCommitted own partition at call
committed_says own partition at (Commit s) (Some (ToCommit count)) is =
    let both = and_parts (s == own) (at == partition) is in
    record { call_is = ap Commit (eqb-true s own both.0); at_is = eqb-true at partition both.1 }
committed_says own partition at _ _ is = cc

-- a call that is taken as a COMMIT is one
taken_as_commit : (call told : Call) (stamp : Stamp) → told ≡ Commit stamp → IsCallFor call told → (first : Stamp) × (call ≡ Commit first)
taken_as_commit (Commit first) told stamp is for = (first, refl)
taken_as_commit (Prepare version) told stamp is for = let no : Prepare (record version { stamp = for.0 }) ≡ Commit stamp = sym for.1 ∙ is in cc
taken_as_commit (Get key (Some asked)) told stamp is for = let no : Get key (Some for.0) ≡ Commit stamp = sym for.1 ∙ is in cc
taken_as_commit (Get key None) told stamp is for = let no : Get key None ≡ Commit stamp = sym for ∙ is in cc
taken_as_commit (Found tag) told stamp is for = let no : Found tag ≡ Commit stamp = sym for ∙ is in cc
taken_as_commit (Collect keep) told stamp is for = let no : Collect keep ≡ Commit stamp = sym for ∙ is in cc
taken_as_commit (Discard asked) told stamp is for = let no : Discard asked ≡ Commit stamp = sym for ∙ is in cc

stands_in : (log : List HistoryEntry) (served : ServedCall) (place : ℕ) (reply : Reply) → StandsInHistory log served place reply → Served served ∈ log
stands_in log served place reply s = subst (λ l. Served served ∈ l) (sym s.stands) (in_right s.before (Served served ∷ s.after) (Served served) (inl refl))

-- a put of the tenant under this stamp began, and writes the key
record WritesKey (seen : List HistoryEntry) (tenant : ℕ) (key : Key) (own : Stamp) : Type 0 where
  version : Record
  of : IsOfWrite seen tenant version
  at_key : version.key ≡ key
  at_stamp : version.stamp ≡ own

-- its COMMIT was served at the partition
record WasCommitted (seen : List HistoryEntry) (tenant partition : ℕ) (own : Stamp) : Type 0 where
  served : ServedCall
  there : Served served ∈ seen
  its : (served.tenant ≡ tenant) × (served.partition ≡ partition) × (served.call ≡ Commit own)

module _ (sight : OperationSight) (legal : IsLegal sight.seen) (own : Stamp) (items : List Item) where
  -- what an entry of a reply to a PREPARE shows
  writes_by : (key : Key) (message : Message) → SaysPrepared own key message.call message.reply → (entry : Entry) → IsReplyIn sight (Writes own items) message entry → ∥ WritesKey sight.seen sight.tenant key own ∥₁
  writes_by key message told (kinds.Began act) is = absurd is
  writes_by key message told (kinds.Answered answer) is = absurd is
  writes_by key message told (kinds.Took number partition place reply) is =
      ∥∥₁_elim is.1 ∥∥₁_prop (λ given.
      let first = taken_as_prepare given.0 told.version message.call told.call_is given.1 in
      let stamped : first.0.stamp ≡ own = subst (λ (c : Call). IsOf (Writes own items) c) first.1 given.2 in
      let served = served_call partition sight.tenant sight.seat number given.0 in
      let written = accepted_written sight.seen sight.tenant served first.0 legal (stands_in sight.seen served place reply given.3.stands) refl first.1 in
      ∥∥₁_map written (λ of. record { version = first.0; of = of; at_key = first.2 ∙ told.at_key; at_stamp = stamped }))

  -- and one of a reply to a COMMIT
  committed_by : (partition : ℕ) (message : Message) → SaysCommitted own partition message.partition message.call → (entry : Entry) → IsReplyIn sight (Writes own items) message entry
      → ∥ WasCommitted sight.seen sight.tenant partition own ∥₁
  committed_by partition message told (kinds.Began act) is = absurd is
  committed_by partition message told (kinds.Answered answer) is = absurd is
  committed_by partition message told (kinds.Took number at place reply) is =
      ∥∥₁_map is.1 (λ given.
      let first = taken_as_commit given.0 message.call own told.call_is given.1 in
      let stamped : first.0 ≡ own = subst (λ (c : Call). IsOf (Writes own items) c) first.1 given.2 in
      let served = served_call at sight.tenant sight.seat number given.0 in
      record {
        served = served;
        there = stands_in sight.seen served place reply given.3.stands;
        its = (refl, sym is.2 ∙ told.at_is, first.1 ∙ ap Commit stamped);
      })

-- so the key is committed there
is_committed_there : (seen : List HistoryEntry) (setup : Setup) (tenant : ℕ) (key : Key) (own : Stamp) → IsLegal seen → HasParts seen setup.partitions → WritesKey seen tenant key own
    → WasCommitted seen tenant (home setup key) own → IsCommittedIn seen tenant key own
is_committed_there seen setup tenant key own legal parts w c =
    let version_key : w.of.item.key ≡ key = sym (ap (λ (v : Record). v.key) w.of.is) ∙ w.at_key in
    let stamp : w.of.write.stamp ≡ own = sym (ap (λ (v : Record). v.stamp) w.of.is) ∙ w.at_stamp in
    let at : home_of w.of.item.key setup.partitions ≡ c.served.partition =
    ap (λ (k : Key). home_of k setup.partitions) version_key ∙ sym (home_is setup key) ∙ sym c.its.1 in
    let key_home : IsKeyHome seen w.of.item.key c.served.partition = record { parts = setup.partitions; there = parts; home = at } in
    let is = commits_keys seen legal c.served w.of.write w.of.item c.there (c.its.2 ∙ ap Commit (sym stamp)) w.of.began (w.of.its ∙ sym c.its.0) w.of.among key_home in
    let P : ℕ → Type 0 = λ t. IsCommittedIn seen t w.of.item.key w.of.write.stamp in
    let Q : Key → Type 0 = λ k. IsCommittedIn seen tenant k w.of.write.stamp in
    let R : Stamp → Type 0 = λ s. IsCommittedIn seen tenant key s in
    subst R stamp (subst Q version_key (subst P c.its.0 is))

-- a put that is answered as done has committed each key
pub puts_committed : (sight : OperationSight) (setup : Setup) (items : List Item) (own : Stamp) (start entries : List Entry) → IsLegal sight.seen → HasParts sight.seen setup.partitions
    → IsWriteOf sight setup own items start entries → AreCommittedIn sight.seen sight.tenant items own
puts_committed sight setup items own start entries legal parts from key has = ∥∥₁_map₂ written committed (is_committed_there sight.seen setup sight.tenant key own legal parts)
  where
    asked : Asked
    asked = Writes own items

    replies : List Message
    replies = from.taken ++ from.last ∷ []

    written : ∥ WritesKey sight.seen sight.tenant key own ∥₁
    written =
        let i = in_map (λ (item : Item). item.key) items key has in
        let any = all_at (λ (item : Item). list_any (λ (m : Message). says_prepared own item.key m.call m.reply) from.taken) items i.0 from.answers.prepared i.1 in
        let found = any_witness (λ (m : Message). says_prepared own i.0.key m.call m.reply) from.taken any in
        let at = reply_of sight asked replies from.more found.0 from.among (in_left_of found.0 found.1) in
        let told = says own i.0.key found.0.call found.0.reply found.2 in
        subst (λ (k : Key). ∥ WritesKey sight.seen sight.tenant k own ∥₁) (sym i.2) (writes_by sight legal own items i.0.key found.0 told at.0 at.1)
      where
        in_left_of : (m : Message) → m ∈ from.taken → m ∈ replies
        in_left_of m h = in_left from.taken (from.last ∷ []) m h

    committed : ∥ WasCommitted sight.seen sight.tenant (home setup key) own ∥₁
    committed =
        let p = home setup key in
        let any = all_at (λ (q : ℕ). list_any (λ (m : Message). says_committed own q m.partition m.call m.reply) replies) (partitions_written setup items) p from.answers.committed (partition_of_key setup items key has) in
        let found = any_witness (λ (m : Message). says_committed own p m.partition m.call m.reply) replies any in
        let at = reply_of sight asked replies from.more found.0 from.among found.1 in
        committed_by sight legal own items p found.0 (committed_says own p found.0.partition found.0.call found.0.reply found.2) at.0 at.1

-- and a read that began when that was seen reads none of them below its stamp
pub puts_not_missed : (seen before : List HistoryEntry) (tenant : ℕ) (items : List Item) (own : Stamp) (told : List Reading) → IsLegal seen → IsPrefix seen before → AreCommittedIn seen tenant items own
    → IsReadFresh before tenant told → IsNotMissed items own told
puts_not_missed seen before tenant items own told legal pre committed fresh reading has among =
    ∥∥₁_elim (committed reading.item.key among) le_prop (λ c. fresh reading own has (committed_in_later seen before tenant reading.item.key own legal pre c))

-- so what an operation of a seat leaves that was to write items
pub puts_ran : (items : List Item) (old new : SeatView) (answer : Answer) → IsEntered (Put old.name.client items) old answer new → ((answer ≡ Refused Stopped) ↔ (old.stopped ≡ true))
    → ((answer ≡ Refused RowsUsed) ↔ ((old.stopped ≡ false) × (last_call < old.sent))) → IsLater max_calls old new → IfDone answer (IsDrawn old.name.client old.counter new.counter) → ReportsWrite items old answer new
    → ReportsMove (Put old.name.client items) old answer new → ∥ IsLegal new.seen ∥₁ → ∥ HasParts new.seen old.parts ∥₁ → PutsAll items old answer new
puts_ran items old new answer entered stopped past later stamp written moved legal of_store =
    let setup : Setup = record { partitions = old.parts; room = record { slots = 0; items = 0; clients = 0 }; keep = 0 } in
    record {
      operated = record { entered = entered; stopped = stopped; past = past; later = later; moved = moved };
      stamp = stamp;
      written = written;
      committed = if_done answer _ _ (λ own is key among.
          ∥∥₁_elim (∥∥₁_map₂ legal of_store (λ legal has. puts_committed (last_operation new) setup items own _ new.entries legal has is key among)) ∥∥₁_prop (λ done. done))
          (written setup refl);
    }
