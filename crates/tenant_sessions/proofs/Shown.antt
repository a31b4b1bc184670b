-- What a transaction was shown: for `take_read`, `Running::take` and `ClientSession::start`.
use Rattle.std.proofs.Common.{◌≡◌, ◌≤◌, ◌∙◌, ℕ, length, List, [], ◌∷◌, ◌++◌, Bool, true, false, refl, sym, ap, subst, cond, Option, Some, None, inl, inr}
use Rattle.std.proofs.lemmas.Bool.{and_parts}
use Rattle.plain_store.specs.declared.calls.Call.{Call}
use Rattle.plain_store.specs.declared.calls.Call.TheVariants.{Prepare, Commit, Get}
use Rattle.plain_store.specs.declared.calls.PrepareReply.{PrepareReply}
use Rattle.plain_store.specs.declared.calls.PrepareReply.TheVariants.{Prepared}
use Rattle.plain_store.specs.declared.calls.ReadReply.{ReadReply}
use Rattle.plain_store.specs.declared.calls.Reply.{Reply}
use Rattle.plain_store.specs.declared.calls.Reply.TheVariants.{Prepare as ToPrepare, Committed as ToCommit, Get as ToGet}
use Rattle.plain_store.specs.declared.message.Message.{Message}
use Rattle.plain_store.specs.declared.reading.Reading.{Reading}
use Rattle.plain_store.specs.Words.{Key, Tag, Stamp, Item, Record, Setup}
use Rattle.plain_store.specs.History.{Intent, Writes, Gets, Finds}
use Rattle.plain_store.specs.Moves.{Waits, Decides, Finishes, Reads, write_move, read_move, find_move, Move as PlainMove}
use Rattle.plain_store.specs.Writing.{Outgoing, all_prepared, all_committed, commit_calls}
use Rattle.plain_store.specs.Rounds.{needed, round_of}
use Rattle.plain_store.specs.Finding.{keys_found, count_found, all_keys_found}
use Rattle.put_all.specs.declared.writer.Writer.{Writer}
use Rattle.put_all.specs.declared.writer.WriteMove.{WriteMove}
use Rattle.put_all.specs.declared.writer.WriteMove.TheVariants as wrote
use Rattle.put_all.specs.Writer.{StandsFor as StandsForWrite, TakesWrite, told as told_written}
use Rattle.put_all.specs.Writing.{is_wanted as is_wanted_written, write_answer, IsPrepared, IsCommitted}
use Rattle.get_all.specs.declared.tag_search.TagSearch.{TagSearch}
use Rattle.get_all.specs.declared.tag_search.FindMove.{FindMove}
use Rattle.get_all.specs.declared.tag_search.FindMove.TheVariants as found
use Rattle.get_all.specs.TagSearch.{StandsFor as StandsForFind, TakesFind, told as told_found}
use Rattle.get_all.specs.Finding.{is_wanted as is_wanted_found, find_answer}
use Rattle.get_all.specs.declared.reader.Reader.{Reader}
use Rattle.get_all.specs.declared.reader.ReadMove.{ReadMove}
use Rattle.get_all.specs.declared.reader.ReadMove.TheVariants.{Read, Ignored}
use Rattle.get_all.specs.Reader.{StandsFor, TakesRead, IfRead, told}
use Rattle.get_all.specs.Reading.{ReadsWhole, is_wanted, read_answer, IsFirst, IsSecond}
use Rattle.tenant_sessions.specs.Holding.{Machine, Write as MachineWrite, Read as MachineRead, Find as MachineFind}
use Rattle.tenant_sessions.specs.Running.{RunningStands, RunsAs}
use Rattle.tenant_sessions.specs.Showing.{IsReadersAnswer, IsFindersAnswer, IsShown, HasTaken, TellsStamp, IfLists, found_move, IfWritten, IfDecides, IfPrepared, IsCallFor, IsTakenFor, IsWritersAnswer, IfReads, Offers, OffersWrite, Shows}
use Rattle.tenant_sessions.specs.Moves.{Move, told as told_of}
use Rattle.tenant_sessions.specs.Moves.{Ignored as Ignores}
use Rattle.tenant_sessions.specs.declared.running.Running.{Running}
use Rattle.tenant_sessions.proofs.Listed.{lists_whole}

pub some_is : {X : Type 0} {x y : X} → Some x ≡ Some y → x ≡ y
some_is e = cc

some_setup : Setup
some_setup = record { partitions = 1; room = record { slots = 0; items = 0; clients = 0 }; keep = 0 }

none_told : (answer : ReadMove) → told some_setup Reads answer ≡ None → answer ≡ Ignored
none_told Ignored e = refl
none_told _ e = cc

pub taken_as : (keys : List Key) (taken : List Message) (message meant : Message) (answer : ReadMove) (reader : Reader) → IsTakenFor message meant
    → TakesRead keys taken meant answer reader → Offers keys taken message answer reader
taken_as keys taken message meant answer reader same takes = go (is_wanted keys taken meant) refl (takes.answered some_setup Reads) takes.stands
  where
    reads : (a : ReadMove) → ((setup : Setup) → told setup Reads a ≡ read_answer setup keys Reads taken meant)
        → IfRead a (ReadsWhole keys (taken ++ meant ∷ [])) → IfRead a (IsReadersAnswer keys taken meant)
    reads (Read readings) answered whole = record { answers = λ setup. sym (answered setup); whole = whole }
    reads _ answered whole = tt

    go : (b : Bool) → is_wanted keys taken meant ≡ b → told some_setup Reads answer ≡ cond b (Some (read_move some_setup keys (taken ++ meant ∷ []) Reads meant.call meant.reply)) None → StandsFor keys reader (cond b (taken ++ meant ∷ []) taken)
        → Offers keys taken message answer reader
    go false wanted none stands = inl (none_told answer none, stands)
    go true wanted some stands = inr (
      meant,
      same,
      stands,
      reads answer (λ setup. takes.answered setup Reads) takes.whole,
      λ setup.
          let move = read_move setup keys (taken ++ meant ∷ []) Reads meant.call meant.reply in
          let is : read_answer setup keys Reads taken meant ≡ Some move = ap (λ b. cond b (Some move) None) wanted in
          (move, is, takes.answered setup Reads ∙ is),
    )

-- the message as it is
as_call : (call : Call) → IsCallFor call call
as_call (Prepare version) = (version.stamp, refl)
as_call (Commit asked) = (asked, refl)
as_call (Get key (Some asked)) = (asked, refl)
as_call _ = refl

pub as_it_is : (message : Message) → IsTakenFor message message
as_it_is message = record { partition = refl; call = as_call message.call; reply = refl }

-- the message as a reply to the read's GET of the version that is needed of this key
abbrev pub as_second : List Key → List Message → Key → Message → Message
as_second keys taken key message = record message { call = Get key (Some (needed keys taken key)) }

as_needed : (keys : List Key) (taken : List Message) (key : Key) (asked : Stamp) (message : Message) → message.call ≡ Get key (Some asked) → IsTakenFor message (as_second keys taken key message)
as_needed keys taken key asked message is = record {
  partition = refl;
  call = subst (λ (call : Call). IsCallFor call (Get key (Some (needed keys taken key)))) (sym is) (needed keys taken key, refl);
  reply = refl;
}

-- what has begun took nothing
pub none_shown : (setup : Setup) (request : Intent) (running : Running) → RunningStands setup request [] running → IsShown setup request [] (Some running)
none_shown setup request running stands = go request running.machine stands.runs
  where
    go : (r : Intent) → (machine : Machine) → RunsAs setup r [] machine running.waiting → HasTaken setup r [] machine
    go (Writes stamp items) (MachineWrite own writer) runs = (runs.0, runs.1.stands)
    go (Writes stamp items) _ runs = absurd runs
    go (Gets keys) (MachineRead reader) runs = runs.stands
    go (Gets keys) _ runs = absurd runs
    go (Finds tag) (MachineFind search reader) runs = runs.stands
    go (Finds tag) _ runs = absurd runs

-- a reply to a GET of round one, or of round two
pub offered : (keys : List Key) (taken : List Message) (message : Message) (key : Key) (reply : ReadReply) (answer : ReadMove) (reader : Reader) (at : Option Stamp)
    → message.call ≡ Get key at → message.reply ≡ Some (ToGet reply)
    → (round_of message.call ≡ 1 → (m : Message) → IsFirst key reply m → TakesRead keys taken m answer reader)
    → (round_of message.call ≡ 2 → (m : Message) → IsSecond keys taken key reply m → TakesRead keys taken m answer reader)
    → Offers keys taken message answer reader
offered keys taken message key reply answer reader None call to first second =
    taken_as keys taken message message answer reader (as_it_is message) (first (ap round_of call) message (record { call = call; replied = to }))
offered keys taken message key reply answer reader (Some s) call to first second =
    let meant = as_second keys taken key message in
    taken_as keys taken message meant answer reader (as_needed keys taken key s message call) (second (ap round_of call) meant (record { call = refl; replied = to }))

-- what is said of the replies may be told in other words
pub shows_so : (setup : Setup) (request : Intent) (taken : List Message) (message : Message) (move : Move) (Stands Other : List Message → Type 0)
    → ((replies : List Message) → Stands replies → Other replies) → Shows setup request taken message move Stands → Shows setup request taken message move Other
shows_so setup request taken message move Stands Other so (inl passed) = inl (passed.0, so taken passed.1)
shows_so setup request taken message move Stands Other so (inr took) = inr (record { meant = took.meant; same = took.same; stands = so _ took.stands; told = took.told; decided = took.decided; moved = took.moved })

-- what a read does is shown by its move
pub shows_read : (setup : Setup) (keys : List Key) (taken : List Message) (message : Message) (answer : ReadMove) (move : Move) (reader : Reader) → (answer ≡ Ignored → move ≡ Ignores)
    → ((P : List Reading → Type 0) → IfRead answer P → IfReads move P) → IfPrepared move ⊥ → ((plain : PlainMove) → told setup Reads answer ≡ Some plain → told_of plain ≡ move)
    → Offers keys taken message answer reader → Shows setup (Gets keys) taken message move (StandsFor keys reader)
shows_read setup keys taken message answer move reader ignores reads decides tells (inl passed) = inl (ignores passed.0, passed.1)
shows_read setup keys taken message answer move reader ignores reads decides tells (inr (meant, same, stands, read, plain)) =
    let its = plain setup in
    inr (record { meant = meant; same = same; stands = stands; told = reads _ read; decided = decides; moved = (its.0, its.1, tells its.0 its.2) })

-- ---- a write

none_told_written : (setup : Setup) (stamp : Stamp) (items : List Item) (answer : WriteMove) → told_written setup stamp items answer ≡ None → answer ≡ wrote.Ignored
none_told_written setup stamp items wrote.Ignored e = refl
none_told_written setup stamp items _ e = cc

is_finished : (stamp s : Stamp) (b : Bool) → Some (cond b (Finishes stamp) Waits) ≡ Some (Finishes s) → (stamp ≡ s) × (b ≡ true)
is_finished stamp s true e = (cc, refl)
is_finished stamp s false e = cc

no_decision : (stamp s : Stamp) (outs : List Outgoing) (b : Bool) → Some (cond b (Decides stamp outs) Waits) ≡ Some (Finishes s) → ⊥
no_decision stamp s outs true e = cc
no_decision stamp s outs false e = cc

-- a write finishes by the reply to a COMMIT, once each item is prepared
no_end : (stamp : Stamp) (outs : List Outgoing) (b : Bool) → Some (Decides stamp outs) ≡ Some (cond b (Finishes stamp) Waits) → ⊥
no_end stamp outs true e = cc
no_end stamp outs false e = cc

finished : (setup : Setup) (stamp : Stamp) (items : List Item) (taken : List Message) (last : Message) (s : Stamp) → write_answer setup stamp items taken last ≡ Some (Finishes s)
    → IsWritersAnswer setup stamp items taken last
finished setup stamp items taken last s answers =
    let parts = go last.call last.reply (is_wanted_written setup stamp items taken last.partition last.call) refl answers in
    record { answers = answers ∙ ap (λ (t : Stamp). Some (Finishes t)) (sym parts.0); prepared = parts.1; committed = parts.2 }
  where
    go : (call : Call) (reply : Option Reply) (wanted : Bool) → is_wanted_written setup stamp items taken last.partition call ≡ wanted
        → cond wanted (Some (write_move setup stamp items (taken ++ last ∷ []) call reply)) None ≡ Some (Finishes s)
        → (stamp ≡ s) × (all_prepared stamp items taken ≡ true) × (all_committed setup stamp items (taken ++ last ∷ []) ≡ true)
    go call reply false wants is = cc
    go (Commit t) (Some (ToCommit count)) true wants is =
        let whole = is_finished stamp s (all_committed setup stamp items (taken ++ last ∷ [])) is in
        (whole.0, (and_parts (all_prepared stamp items taken) _ (and_parts _ _ (and_parts _ _ wants).1).0).0, whole.1)
    go (Prepare version) (Some (ToPrepare Prepared)) true wants is = absurd (no_decision stamp s _ (all_prepared stamp items (taken ++ last ∷ [])) is)
    go _ _ true wants is = cc

-- and is decided by the reply to a PREPARE, once each item is prepared
is_decided : (stamp : Stamp) (outs : List Outgoing) (calls : List Outgoing) (b : Bool) → Some (Decides stamp outs) ≡ Some (cond b (Decides stamp calls) Waits) → b ≡ true
is_decided stamp outs calls true e = refl
is_decided stamp outs calls false e = cc

decided_by : (setup : Setup) (stamp : Stamp) (items : List Item) (taken : List Message) (last : Message) (outs : List Outgoing)
    → Some (Decides stamp outs) ≡ write_answer setup stamp items taken last → all_prepared stamp items (taken ++ last ∷ []) ≡ true
decided_by setup stamp items taken last outs answers =
    go last.call last.reply (is_wanted_written setup stamp items taken last.partition last.call) answers
  where
    go : (call : Call) (reply : Option Reply) (wanted : Bool) → Some (Decides stamp outs) ≡ cond wanted (Some (write_move setup stamp items (taken ++ last ∷ []) call reply)) None
        → all_prepared stamp items (taken ++ last ∷ []) ≡ true
    go call reply false is = cc
    go (Prepare version) (Some (ToPrepare Prepared)) true is = is_decided stamp outs (commit_calls setup stamp items) (all_prepared stamp items (taken ++ last ∷ [])) is
    go (Commit t) (Some (ToCommit count)) true is = absurd (no_end stamp outs (all_committed setup stamp items (taken ++ last ∷ [])) is)
    go _ _ true is = cc

pub wrote_as : (setup : Setup) (stamp : Stamp) (items : List Item) (taken : List Message) (message meant : Message) (answer : WriteMove) (writer : Writer) → IsTakenFor message meant
    → TakesWrite setup stamp items taken meant answer writer → OffersWrite setup stamp items taken message answer writer
wrote_as setup stamp items taken message meant answer writer same takes = go (is_wanted_written setup stamp items taken meant.partition meant.call) refl takes.answered takes.stands
  where
    done : (a : WriteMove) → told_written setup stamp items a ≡ write_answer setup stamp items taken meant → IfWritten a (IsWritersAnswer setup stamp items taken meant)
    done (wrote.Done s) answered = finished setup stamp items taken meant s (sym answered)
    done _ answered = tt

    decides : (a : WriteMove) → told_written setup stamp items a ≡ write_answer setup stamp items taken meant → IfDecides a (all_prepared stamp items (taken ++ meant ∷ []) ≡ true)
    decides wrote.Decide answered = decided_by setup stamp items taken meant (commit_calls setup stamp items) answered
    decides _ answered = tt

    go : (b : Bool) → is_wanted_written setup stamp items taken meant.partition meant.call ≡ b
        → told_written setup stamp items answer ≡ cond b (Some (write_move setup stamp items (taken ++ meant ∷ []) meant.call meant.reply)) None → StandsForWrite setup stamp items writer (cond b (taken ++ meant ∷ []) taken)
        → OffersWrite setup stamp items taken message answer writer
    go false wanted none stands = inl (none_told_written setup stamp items answer none, stands)
    go true wanted some stands =
        let move = write_move setup stamp items (taken ++ meant ∷ []) meant.call meant.reply in
        inr (meant, same, stands, done answer takes.answered, decides answer takes.answered, (move, ap (λ b. cond b (Some move) None) wanted, some))

-- a reply to a PREPARE of this key, as one to that of the write
pub prepared_as : (setup : Setup) (stamp : Stamp) (items : List Item) (taken : List Message) (message : Message) (version : Record) (key : Key) (reply : PrepareReply) (answer : WriteMove) (writer : Writer)
    → message.call ≡ Prepare version → version.key ≡ key → message.reply ≡ Some (ToPrepare reply)
    → ((m : Message) → IsPrepared stamp key reply m → TakesWrite setup stamp items taken m answer writer) → OffersWrite setup stamp items taken message answer writer
prepared_as setup stamp items taken message version key reply answer writer call of_key to takes =
    let own : Record = record version { stamp = stamp } in
    let meant : Message = record message { call = Prepare own } in
    let P : Call → Type 0 = λ c. IsCallFor c (Prepare own) in
    wrote_as setup stamp items taken message meant answer writer (record { partition = refl; call = subst P (sym call) (stamp, refl); reply = refl })
    (takes meant (record { version = own; call = refl; of_key = of_key; of_stamp = refl; replied = to }))

-- and to a COMMIT
pub committed_as : (setup : Setup) (stamp : Stamp) (items : List Item) (taken : List Message) (message : Message) (asked : Stamp) (count : ℕ) (answer : WriteMove) (writer : Writer)
    → message.call ≡ Commit asked → message.reply ≡ Some (ToCommit count)
    → ((m : Message) → IsCommitted stamp message.partition m → TakesWrite setup stamp items taken m answer writer) → OffersWrite setup stamp items taken message answer writer
committed_as setup stamp items taken message asked count answer writer call to takes =
    let meant : Message = record message { call = Commit stamp } in
    let P : Call → Type 0 = λ c. IsCallFor c (Commit stamp) in
    wrote_as setup stamp items taken message meant answer writer (record { partition = refl; call = subst P (sym call) (stamp, refl); reply = refl })
    (takes meant (record { count = count; call = refl; at = refl; replied = to }))

-- and what is offered is shown by the move
pub shows_written : (setup : Setup) (stamp : Stamp) (items : List Item) (taken : List Message) (message : Message) (answer : WriteMove) (move : Move) (writer : Writer) → (answer ≡ wrote.Ignored → move ≡ Ignores)
    → ((P : Type 0) → IfWritten answer P → TellsStamp stamp move P) → ((P : Type 0) → IfDecides answer P → IfPrepared move P)
    → ((meant : Message) (plain : PlainMove) → StandsForWrite setup stamp items writer (taken ++ meant ∷ []) → IfWritten answer (IsWritersAnswer setup stamp items taken meant) → write_answer setup stamp items taken meant ≡ Some plain
    → told_written setup stamp items answer ≡ Some plain → told_of plain ≡ move)
    → OffersWrite setup stamp items taken message answer writer → Shows setup (Writes stamp items) taken message move (StandsForWrite setup stamp items writer)
shows_written setup stamp items taken message answer move writer ignores tells decides moves (inl passed) = inl (ignores passed.0, passed.1)
shows_written setup stamp items taken message answer move writer ignores tells decides moves (inr (meant, same, stands, told, decided, (plain, is, says))) =
    inr (record { meant = meant; same = same; stands = stands; told = tells _ told; decided = decides _ decided; moved = (plain, is, moves meant plain stands told is says) })

-- ---- a search

none_told_found : (setup : Setup) (answer : FindMove) → told_found setup answer ≡ None → answer ≡ found.Ignored
none_told_found setup found.Ignored e = refl
none_told_found setup _ e = cc

-- a search's move tells of the plain store's
found_tells : (setup : Setup) (answer : FindMove) (plain : PlainMove) → told_found setup answer ≡ Some plain → told_of plain ≡ found_move answer
found_tells setup found.Wait plain is = ap told_of (sym (some_is is))
found_tells setup (found.Begin keys) plain is = ap told_of (sym (some_is is))
found_tells setup (found.Ask late) plain is = ap told_of (sym (some_is is))
found_tells setup (found.List items) plain is = ap told_of (sym (some_is is))
found_tells setup (found.Restart key floor) plain is = ap told_of (sym (some_is is))
found_tells setup found.TooMany plain is = ap told_of (sym (some_is is))
found_tells setup found.Torn plain is = ap told_of (sym (some_is is))
found_tells setup found.Ignored plain is = cc

-- a search decides nothing
decides_none : (answer : FindMove) → IfPrepared (found_move answer) ⊥
decides_none found.Wait = tt
decides_none (found.Begin keys) = tt
decides_none (found.Ask late) = tt
decides_none (found.List items) = tt
decides_none (found.Restart key floor) = tt
decides_none found.TooMany = tt
decides_none found.Torn = tt
decides_none found.Ignored = tt

module _ (setup : Setup) (tag : Tag) (taken : List Message) (message : Message) (before : TagSearch) (lent : Reader) (search : TagSearch) (reader : Reader) (answer : FindMove) (s : StandsForFind setup tag before lent taken) (few : length (keys_found message.reply) ≤ count_found message.reply) where
  pub found_as : (meant : Message) → IsTakenFor message meant → TakesFind setup tag taken meant answer search reader → Shows setup (Finds tag) taken message (found_move answer) (StandsForFind setup tag search reader)
  found_as meant same takes = go (is_wanted_found setup taken meant) refl takes.answered takes.stands
    where
      lists : (a : FindMove) → told_found setup a ≡ find_answer setup tag taken meant → IfLists (found_move a) (IsFindersAnswer setup tag taken meant)
      lists (found.List items) answered =
          let P : Option Reply → Type 0 = λ r. length (keys_found r) ≤ count_found r in
          record { answers = sym answered; whole = lists_whole setup tag taken meant before lent items s (subst P (sym same.reply) few) (sym answered) }
      lists _ answered = tt

      go : (b : Bool) → is_wanted_found setup taken meant ≡ b → told_found setup answer ≡ cond b (Some (find_move setup tag (taken ++ meant ∷ []) meant.partition meant.call meant.reply)) None
          → StandsForFind setup tag search reader (cond b (taken ++ meant ∷ []) taken) → Shows setup (Finds tag) taken message (found_move answer) (StandsForFind setup tag search reader)
      go false wanted none stands = inl (ap found_move (none_told_found setup answer none), stands)
      go true wanted some stands =
          let move = find_move setup tag (taken ++ meant ∷ []) meant.partition meant.call meant.reply in
          inr (record {
            meant = meant;
            same = same;
            stands = stands;
            told = lists answer takes.answered;
            decided = decides_none answer;
            moved = (move, ap (λ b. cond b (Some move) None) wanted, found_tells setup answer move some);
          })

  -- a reply to a GET of its read, in round one or in round two
  pub offered_found : (key : Key) (reply : ReadReply) (at : Option Stamp) → message.call ≡ Get key at → message.reply ≡ Some (ToGet reply)
      → (round_of message.call ≡ 1 → (m : Message) → IsFirst key reply m → TakesFind setup tag taken m answer search reader)
      → (round_of message.call ≡ 2 → (m : Message) → IsSecond (all_keys_found taken) taken key reply m → TakesFind setup tag taken m answer search reader)
      → Shows setup (Finds tag) taken message (found_move answer) (StandsForFind setup tag search reader)
  offered_found key reply None call to first second = found_as message (as_it_is message) (first (ap round_of call) message (record { call = call; replied = to }))
  offered_found key reply (Some stamp) call to first second =
      let meant = as_second (all_keys_found taken) taken key message in
      found_as meant (as_needed (all_keys_found taken) taken key stamp message call) (second (ap round_of call) meant (record { call = refl; replied = to }))

-- ---- by what runs

pub shown_written : (setup : Setup) (request : Intent) (taken : List Message) (message : Message) (move : Move) (stamp : Stamp) (writer after : Writer)
    → ((items : List Item) → StandsForWrite setup stamp items writer taken → Shows setup (Writes stamp items) taken message move (StandsForWrite setup stamp items after))
    → HasTaken setup request taken (MachineWrite stamp writer) → Shows setup request taken message move (λ replies. HasTaken setup request replies (MachineWrite stamp after))
shown_written setup (Writes own items) taken message move stamp writer after shows has =
    let P : Stamp → Type 0 = λ s. StandsForWrite setup s items writer taken → Shows setup (Writes s items) taken message move (StandsForWrite setup s items after) in
    shows_so setup (Writes own items) taken message move (StandsForWrite setup own items after) (λ replies. HasTaken setup (Writes own items) replies (MachineWrite stamp after))
    (λ replies stands. (has.0, stands)) (subst P has.0 (shows items) has.1)
shown_written setup (Gets keys) taken message move stamp writer after shows has = absurd has
shown_written setup (Finds tag) taken message move stamp writer after shows has = absurd has

pub shown_read : (setup : Setup) (request : Intent) (taken : List Message) (message : Message) (move : Move) (reader after : Reader)
    → ((keys : List Key) → StandsFor keys reader taken → Shows setup (Gets keys) taken message move (StandsFor keys after))
    → HasTaken setup request taken (MachineRead reader) → Shows setup request taken message move (λ replies. HasTaken setup request replies (MachineRead after))
shown_read setup (Gets keys) taken message move reader after shows has = shows keys has
shown_read setup _ taken message move reader after shows has = absurd has

pub shown_found : (setup : Setup) (request : Intent) (taken : List Message) (message : Message) (move : Move) (search after : TagSearch) (reader next : Reader)
    → ((tag : Tag) → StandsForFind setup tag search reader taken → Shows setup (Finds tag) taken message move (StandsForFind setup tag after next))
    → HasTaken setup request taken (MachineFind search reader) → Shows setup request taken message move (λ replies. HasTaken setup request replies (MachineFind after next))
shown_found setup (Finds tag) taken message move search after reader next shows has = shows tag has
shown_found setup _ taken message move search after reader next shows has = absurd has
