-- What shows that a call of an operation may be served: for the functions of an operation.
use Rattle.std.proofs.Common.{◌≡◌, ◌∙◌, ◌<◌, ◌+◌, ℕ, arith, max, List, [], ◌∷◌, ◌++◌, ◌==◌, Bool, true, false, eqb-true, slice_get, refl, sym, ap, subst, Option, Some, None, inl, inr}
use Rattle.std.specs.Prelude.{All, bytes_eq, cond, map}
use Rattle.std.specs.List.{list_any}
use Rattle.std.proofs.Math.Logic.{∥∥₁_elim, ∥∥₁_prop}
use Rattle.std.proofs.lemmas.Bool.{and_parts}
use Rattle.std.proofs.lemmas.List.Elements.{All-cons, All-get_or, All-map, All-nil, All-weaker}
use Rattle.std.proofs.lemmas.Option.{get_or_from_slice_get, slice_get_within}
use Rattle.stamps.specs.Stamp.{stamp}
use Rattle.stamps.specs.StampLaws.{counter_of-stamp}
use Rattle.stamps.specs.WriteSet.{contains_key}
use Rattle.plain_store.specs.declared.calls.Call.{Call}
use Rattle.plain_store.specs.declared.calls.Call.TheVariants.{Prepare, Commit, Get, Found, Collect, Discard}
use Rattle.plain_store.specs.declared.calls.PrepareReply.TheVariants.{Prepared}
use Rattle.plain_store.specs.declared.calls.Reply.{Reply}
use Rattle.plain_store.specs.declared.calls.Reply.TheVariants.{Prepare as ToPrepare}
use Rattle.plain_store.specs.declared.message.Message.{Message}
use Rattle.plain_store.specs.History.{Intent as Asked, Writes, Gets, Finds}
use Rattle.plain_store.specs.Run.{are_bad, call_message, one_twice}
use Rattle.plain_store.specs.declared.answer.Answer.{Answer}
use Rattle.plain_store.specs.Words.{◌∈◌, Item, Key, Record, Setup, Stamp, home}
use Rattle.plain_store.specs.Finding.{all_found, all_keys_found, below, found_calls}
use Rattle.plain_store.specs.Moves.{calls_of}
use Rattle.plain_store.specs.Rounds.{first_calls, late_keys, needed, reading_calls, round_one_complete, second_calls}
use Rattle.plain_store.specs.declared.reading.Reading.{Reading}
use Rattle.plain_store.specs.Writing.{Outgoing, all_prepared, keys_written, prepare_call, record_for, says_prepared}
use Rattle.plain_store.proofs.LawRuns.{accepted_are}
use Rattle.plain_store.proofs.ListTests.{or_parts}
use Rattle.plain_store.proofs.Members.{all_at, any_from, any_witness, map_in}
use Rattle.plain_store.proofs.Stamps.{key_is, is_key}
use Rattle.entry_list.specs.declared.kinds.Entry.{Entry}
use Rattle.entry_list.specs.declared.kinds.Entry.TheVariants as kinds
use Rattle.history.specs.declared.entry.HistoryEntry.{HistoryEntry}
use Rattle.history.specs.declared.entry.HistoryEntry.TheVariants.{Began}
use Rattle.history.specs.declared.entry.Write.{Write}
use Rattle.history.specs.Entries.{parts_of, StandsInHistory}
use Rattle.history.specs.Legal.{HasParts, IsAccepted, IsAtHome, IsDecided, IsGivenUp, IsLegal, IsOfPut}
use Rattle.history.proofs.Lists.{prefix_has}
use Rattle.history.proofs.Shown.{accepted_of_item}
use Rattle.stamps.specs.Key.{home_of}
use Rattle.shard.specs.Homes.{place_of}
use Rattle.shard.specs.Journals.{served_call}
use Rattle.tenant_sessions.specs.Holding.{Machine, Write as WriteMachine, Read as ReadMachine, Find as FindMachine}
use Rattle.tenant_sessions.specs.Begins.{HasBegun}
use Rattle.tenant_sessions.specs.Held.{drawn_counter}
use Rattle.tenant_sessions.specs.Moves.{moved, sends_calls}
use Rattle.tenant_sessions.specs.declared.moves.MoveKind.{MoveKind}
use Rattle.tenant_sessions.specs.declared.moves.MoveKind.TheVariants as turns
use Rattle.tenant_sessions.specs.declared.session.ClientSession.{ClientSession}
use Rattle.tenant_sessions.specs.Running.{MayBegin, RunsAs, waiting_calls}
use Rattle.tenant_sessions.specs.Sending.{IsGet, SendsSo, waiting_of}
use Rattle.tenant_sessions.specs.declared.moves.Move.{Move}
use Rattle.tenant_sessions.specs.declared.moves.Move.TheVariants.{Decided, Ignored}
use Rattle.tenant_sessions.specs.declared.running.Running.{Running}
use Rattle.tenant_sessions.specs.Showing.{IfDecided, IfTells, IsAnswerTo, IsCallFor, IsShown, IsTakenFor, Shows}
use Rattle.hub.specs.Evidence.{AreOfPuts, HasBegunIn, IsUnderWay, MayBeDecided}
use Rattle.hub.specs.Replies.{AreAmong, IsOf, IsReplyIn, IsStampOf, Reads}
use Rattle.hub.specs.Requests.{intent_of}
use Rattle.hub.specs.Sights.{OperationSight}
use Rattle.hub.specs.declared.seat_request.SeatRequest.{SeatRequest}
use Rattle.hub.specs.declared.seat_request.SeatRequest.TheVariants as ask
use Rattle.hub.proofs.Given.{IsLaterOperation}
use Rattle.hub.proofs.Replies.{among_push, reads-later, reads-start}

-- a call goes to the home of its key
pub goes_home : (seen : List HistoryEntry) (parts partition : ℕ) (call : Call) → HasParts seen parts → IsAtHome seen (place_of call parts partition) call
goes_home seen parts partition (Prepare version) has = record { parts = parts; there = has; home = refl }
goes_home seen parts partition (Get key stamp) has = record { parts = parts; there = has; home = refl }
goes_home seen parts partition (Commit stamp) has = tt
goes_home seen parts partition (Found tag) has = tt
goes_home seen parts partition (Collect keep) has = tt
goes_home seen parts partition (Discard stamp) has = tt

-- DISCARDs are of a put that was refused
pub discards_of_put : (seen : List HistoryEntry) (tenant : ℕ) (stamp : Stamp) (outs : List Outgoing) → IsGivenUp seen tenant stamp
    → All (λ (out : Outgoing). out.call ≡ Discard stamp) outs → AreOfPuts seen tenant outs
discards_of_put seen tenant stamp outs given are =
    All-weaker (λ (out : Outgoing). out.call ≡ Discard stamp) (λ (out : Outgoing). IsOfPut seen tenant out.call)
    (λ out is. subst (λ (c : Call). IsOfPut seen tenant c) (sym is) given) outs are

-- what holds of all holds of the one at a place
pub all_got : {X : Type 0} (P : X → Type 0) (xs : List X) (i : ℕ) (x : X) → All P xs → slice_get xs i ≡ Some x → P x
all_got P xs i x all at = subst P (get_or_from_slice_get xs i x x at) (All-get_or P xs i x (slice_get_within xs i x at) all)

-- the message at a place of these calls has one that is of its put
pub put_at : (seen : List HistoryEntry) (tenant client ticket nth : ℕ) (outs : List Outgoing) (message : Message) → AreOfPuts seen tenant outs
    → slice_get (map (call_message client ticket) outs) nth ≡ Some message → IsOfPut seen tenant message.call
put_at seen tenant client ticket nth outs message are at =
    all_got (λ (m : Message). IsOfPut seen tenant m.call) (map (call_message client ticket) outs) nth message (All-map (λ (m : Message). IsOfPut seen tenant m.call) (call_message client ticket) outs are) at

-- of keys that are not named twice one item has each
one_item : (items : List Item) (a b : Item) → one_twice (keys_written items) ≡ false → a ∈ items → b ∈ items → a.key ≡ b.key → a ≡ b
one_item [] a b once h k e = absurd h
one_item (i ∷ is) a b once h k e = go h k (or_parts (contains_key (keys_written is) i.key) (one_twice (keys_written is)) once) (λ d h k. one_item is a b d h k e)
  where
    twice : (x : Item) → x ∈ is → x.key ≡ i.key → contains_key (keys_written is) i.key ≡ true
    twice x m same = any_from (λ y. bytes_eq y i.key) (keys_written is) x.key (map_in (λ (item : Item). item.key) is x m) (is_key x.key i.key same)

    go : a ∈ (i ∷ is) → b ∈ (i ∷ is) → (contains_key (keys_written is) i.key ≡ false) × (one_twice (keys_written is) ≡ false)
        → (one_twice (keys_written is) ≡ false → a ∈ is → b ∈ is → a ≡ b) → a ≡ b
    go (inl p) (inl q) d rest = p ∙ sym q
    go (inl p) (inr q) d rest = let t = twice b q (sym e ∙ ap (λ (x : Item). x.key) p) in let f = d.0 in cc
    go (inr p) (inl q) d rest = let t = twice a p (e ∙ ap (λ (x : Item). x.key) q) in let f = d.0 in cc
    go (inr p) (inr q) d rest = rest d.1 p q

-- a message that is among replies has one of their entries
pub reply_of : (sight : OperationSight) (asked : Asked) (messages : List Message) (entries : List Entry) (message : Message) → AreAmong sight asked messages entries → message ∈ messages
    → (entry : Entry) × IsReplyIn sight asked message entry
reply_of sight asked [] entries message among has = absurd has
reply_of sight asked (m ∷ ms) [] message among has = absurd among
reply_of sight asked (m ∷ ms) (e ∷ es) message (inl is) (inl same) =
    (e, subst (λ (x : Message). IsReplyIn sight asked x e) (sym same) is.0)
reply_of sight asked (m ∷ ms) (e ∷ es) message (inl is) (inr has) = reply_of sight asked ms es message is.1 has
reply_of sight asked (m ∷ ms) (e ∷ es) message (inr is) has = reply_of sight asked (m ∷ ms) es message is has

-- a message that says so has a PREPARE of that key and stamp, which was accepted
pub record SaysPrepared (own : Stamp) (key : Key) (call : Call) (reply : Option Reply) : Type 0 where
  pub version : Record
  pub call_is : call ≡ Prepare version
  pub reply_is : reply ≡ Some (ToPrepare Prepared)
  pub at_key : version.key ≡ key
  pub at_stamp : version.stamp ≡ own

pub says : (own : Stamp) (key : Key) (call : Call) (reply : Option Reply) → says_prepared own key call reply ≡ true → SaysPrepared own key call reply
says own key (Prepare version) (Some (ToPrepare Prepared)) is =
    let both = and_parts (bytes_eq version.key key) (version.stamp == own) is in
    record { version = version; call_is = refl; reply_is = refl; at_key = key_is version.key key both.0; at_stamp = eqb-true version.stamp own both.1 }
says own key _ _ is = cc

-- a call that is taken as a PREPARE is one of that key
pub taken_as_prepare : (call : Call) (version : Record) (told : Call) → told ≡ Prepare version → IsCallFor call told → (first : Record) × (call ≡ Prepare first) × (first.key ≡ version.key)
taken_as_prepare (Prepare first) version told is for =
    let same : Prepare (record first { stamp = for.0 }) ≡ Prepare version = sym for.1 ∙ is in
    let equal : ◌≡◌ {A = Record} (record first { stamp = for.0 }) version = cc in
    (first, refl, ap (λ (v : Record). v.key) equal)
taken_as_prepare (Commit stamp) version told is for = let no : Commit for.0 ≡ Prepare version = sym for.1 ∙ is in cc
taken_as_prepare (Get key (Some stamp)) version told is for = let no : Get key (Some for.0) ≡ Prepare version = sym for.1 ∙ is in cc
taken_as_prepare (Get key None) version told is for = let no : Get key None ≡ Prepare version = sym for ∙ is in cc
taken_as_prepare (Found tag) version told is for = let no : Found tag ≡ Prepare version = sym for ∙ is in cc
taken_as_prepare (Collect keep) version told is for = let no : Collect keep ≡ Prepare version = sym for ∙ is in cc
taken_as_prepare (Discard stamp) version told is for = let no : Discard stamp ≡ Prepare version = sym for ∙ is in cc

module _ (sight : OperationSight) (word : ℕ) (own : Stamp) (items : List Item) (legal : IsLegal sight.seen)
    (began : Began (record { word = word; tenant = sight.tenant; stamp = own; items = items }) ∈ sight.seen) (well : are_bad (keys_written items) ≡ false) where
  abbrev write : Write
  write = record { word = word; tenant = sight.tenant; stamp = own; items = items }

  -- what an entry of a reply that says so shows
  shown_by : (item : Item) → item ∈ items → (message : Message) → SaysPrepared own item.key message.call message.reply → (entry : Entry) → IsReplyIn sight (Writes own items) message entry
      → ∥ IsAccepted sight.seen sight.tenant (home_of item.key (parts_of sight.seen)) (record_for own items item) ∥₁
  shown_by item among message told (kinds.Began act) is = absurd is
  shown_by item among message told (kinds.Answered answer) is = absurd is
  shown_by item among message told (kinds.Took number partition place reply) is =
      ∥∥₁_elim is.1 ∥∥₁_prop (λ given.
      let first = taken_as_prepare given.0 told.version message.call told.call_is given.1 in
      let stamped : first.0.stamp ≡ own = subst (λ (c : Call). IsOf (Writes own items) c) first.1 given.2 in
      let reply_is : reply ≡ ToPrepare Prepared = let e : Some reply ≡ Some (ToPrepare Prepared) = sym is.0 ∙ told.reply_is in cc in
      let served = served_call partition sight.tenant sight.seat number given.0 in
      accepted_of_item sight.seen legal write began (λ one other h k same. one_item items one other (accepted_are (keys_written items) well).1 h k same) item among served place first.0
      first.1 refl (first.2 ∙ told.at_key) stamped (subst (λ (r : Reply). StandsInHistory sight.seen served place r) reply_is given.3.stands))

  may_decide : (replies : List Message) (more : List Entry) → AreAmong sight (Writes own items) replies more → all_prepared own items replies ≡ true
      → MayBeDecided sight.seen sight.tenant own
  may_decide replies more among prepared of_word = record {
    write = write;
    began = began;
    its = (refl, refl);
    accepted = λ item has.
        let any = all_at (λ (i : Item). list_any (λ (m : Message). says_prepared own i.key m.call m.reply) replies) items item prepared has in
        let found = any_witness (λ (m : Message). says_prepared own item.key m.call m.reply) replies any in
        let at = reply_of sight (Writes own items) replies more found.0 among found.1 in
        shown_by item has found.0 (says own item.key found.0.call found.0.reply found.2) at.0 at.1;
  }

  -- the reply by which it is decided is the last one that it wanted
  took_decided : (setup : Setup) (start entries : List Entry) (running after : Option Running) (told : Option Answer) (message : Message) (move : Move) (e : Entry) (stamp : Stamp)
      → ((m : Message) → IsTakenFor message m → IsReplyIn sight (Writes own items) m e) → Reads sight setup (Writes own items) start entries running told
      → ((taken : List Message) → IsShown setup (Writes own items) taken running
      → Shows setup (Writes own items) taken message move (λ replies. IsShown setup (Writes own items) replies after))
      → move ≡ Decided stamp → (stamp ≡ own) × MayBeDecided sight.seen sight.tenant own
  took_decided setup start entries running after told message move e stamp enters reads shows is = go (shows reads.reading.taken reads.reading.shown)
    where
      go : Shows setup (Writes own items) reads.reading.taken message move (λ replies. IsShown setup (Writes own items) replies after)
          → (stamp ≡ own) × MayBeDecided sight.seen sight.tenant own
      go (inl passed) = let no : Decided stamp ≡ Ignored = sym is ∙ passed.0 in cc
      go (inr took) =
          let replies = reads.reading.taken ++ took.meant ∷ [] in
          let P : Move → Type 0 = λ m. IfTells (Writes own items) m (IsAnswerTo setup (Writes own items) reads.reading.taken took.meant) in
          let Q : Move → Type 0 = λ m. IfDecided (Writes own items) m replies in
          let among = among_push sight (Writes own items) reads.reading.taken reads.reading.more took.meant e (enters took.meant took.same) reads.reading.among in
          (subst P is took.told, may_decide replies (reads.reading.more ++ e ∷ []) among (subst Q is took.decided))

-- ---- what is under way

-- what was asked decides nothing, unless it is a write
decides_nothing : (setup : Setup) (asked : Asked) (taken : List Message) (message : Message) (move : Move) (stamp : Stamp) (Stands : List Message → Type 0)
    → ((replies : List Message) → IfDecided asked (Decided stamp) replies → ⊥) → Shows setup asked taken message move Stands → move ≡ Decided stamp → ⊥
decides_nothing setup asked taken message move stamp Stands none (inl passed) is = let no : Decided stamp ≡ Ignored = sym is ∙ passed.0 in cc
decides_nothing setup asked taken message move stamp Stands none (inr took) is = none (taken ++ took.meant ∷ []) (subst (λ (m : Move). IfDecided asked m (taken ++ took.meant ∷ [])) is took.decided)

decided_of : (sight : OperationSight) (own : Stamp) (setup : Setup) (asked : Asked) (start entries : List Entry) (running after : Option Running) (told : Option Answer) (message : Message) (move : Move) (e : Entry) (stamp : Stamp)
    → IsLegal sight.seen → IsStampOf own asked → MayBegin asked → HasBegunIn sight.seen sight.tenant asked
    → ((m : Message) → IsTakenFor message m → IsReplyIn sight asked m e) → Reads sight setup asked start entries running told
    → ((taken : List Message) → IsShown setup asked taken running → Shows setup asked taken message move (λ replies. IsShown setup asked replies after))
    → move ≡ Decided stamp → MayBeDecided sight.seen sight.tenant stamp
decided_of sight own setup (Writes drawn items) start entries running after told message move e stamp legal stamped well began enters reads shows is =
    let its = took_decided sight began.0 drawn items legal began.1 well setup start entries running after told message move e stamp enters reads shows is in
    subst (λ (s : Stamp). MayBeDecided sight.seen sight.tenant s) (sym its.0) its.1
decided_of sight own setup (Gets keys) start entries running after told message move e stamp legal stamped well began enters reads shows is =
    absurd (decides_nothing setup (Gets keys) reads.reading.taken message move stamp _ (λ replies no. no) (shows reads.reading.taken reads.reading.shown) is)
decided_of sight own setup (Finds tag) start entries running after told message move e stamp legal stamped well began enters reads shows is =
    absurd (decides_nothing setup (Finds tag) reads.reading.taken message move stamp _ (λ replies no. no) (shows reads.reading.taken reads.reading.shown) is)

-- where its session reports that a put is decided, that may be entered
pub under_way_decided : (sight : OperationSight) (own : Stamp) (entries : List Entry) (running after : Option Running) (told : Option Answer) (message : Message) (move : Move) (e : Entry) (stamp : Stamp)
    → IsLegal sight.seen → ((asked : Asked) → IsStampOf own asked → (m : Message) → IsTakenFor message m → IsReplyIn sight asked m e)
    → ((setup : Setup) (asked : Asked) (taken : List Message) → IsShown setup asked taken running → Shows setup asked taken message move (λ replies. IsShown setup asked replies after))
    → move ≡ Decided stamp → IsUnderWay sight own entries running told → MayBeDecided sight.seen sight.tenant stamp
under_way_decided sight own entries running after told message move e stamp legal enters shows is u =
    decided_of sight own u.setup u.asked u.start entries running after told message move e stamp legal u.stamped u.well u.began (enters u.asked u.stamped) u.reads (shows u.setup u.asked) is

begun_later : (old new : OperationSight) (asked : Asked) → IsLaterOperation old new → HasBegunIn old.seen old.tenant asked → HasBegunIn new.seen new.tenant asked
begun_later old new (Writes own items) later began =
    let P : ℕ → Type 0 = λ t. Began (record { word = began.0; tenant = t; stamp = own; items = items }) ∈ new.seen in
    (began.0, subst P (sym later.tenant) (prefix_has old.seen new.seen _ later.seen began.1))
begun_later old new (Gets keys) later began = tt
begun_later old new (Finds tag) later began = tt

-- it goes on: with what is seen later, by entries that were read on
pub under_way_on : (old new : OperationSight) (own : Stamp) (entries next : List Entry) (running after : Option Running) (told other : Option Answer) → IsLaterOperation old new
    → ((setup : Setup) (asked : Asked) (start : List Entry) → IsStampOf own asked → Reads new setup asked start entries running told → Reads new setup asked start next after other)
    → IsUnderWay old own entries running told → IsUnderWay new own next after other
under_way_on old new own entries next running after told other later on u = record {
  setup = u.setup;
  asked = u.asked;
  start = u.start;
  stamped = u.stamped;
  well = u.well;
  began = begun_later old new u.asked later u.began;
  reads = on u.setup u.asked u.start u.stamped (reads-later old new u.setup u.asked u.start entries running told later u.reads);
}

pub under_way_later : (old new : OperationSight) (own : Stamp) (entries : List Entry) (running : Option Running) (told : Option Answer) → IsLaterOperation old new
    → IsUnderWay old own entries running told → IsUnderWay new own entries running told
under_way_later old new own entries running told later u =
    under_way_on old new own entries entries running running told told later (λ setup asked start stamped reads. reads) u

-- ---- the calls that are sent

-- a transaction that has just begun waits for its first calls
waits_first : (setup : Setup) (asked : Asked) (machine : Machine) (waiting : List Outgoing) → RunsAs setup asked [] machine waiting → waiting ≡ waiting_calls setup asked []
waits_first setup (Writes own items) (WriteMachine stamp writer) waiting runs = runs.1.waits
waits_first setup (Writes own items) (ReadMachine reader) waiting runs = absurd runs
waits_first setup (Writes own items) (FindMachine search reader) waiting runs = absurd runs
waits_first setup (Gets keys) (ReadMachine reader) waiting runs = runs.waits
waits_first setup (Gets keys) (WriteMachine stamp writer) waiting runs = absurd runs
waits_first setup (Gets keys) (FindMachine search reader) waiting runs = absurd runs
waits_first setup (Finds tag) (FindMachine search reader) waiting runs = runs.waits
waits_first setup (Finds tag) (WriteMachine stamp writer) waiting runs = absurd runs
waits_first setup (Finds tag) (ReadMachine reader) waiting runs = absurd runs

prepares_of_puts : (seen : List HistoryEntry) (tenant word : ℕ) (setup : Setup) (own : Stamp) (items some : List Item) → Began (record { word = word; tenant = tenant; stamp = own; items = items }) ∈ seen
    → ((item : Item) → item ∈ some → item ∈ items) → AreOfPuts seen tenant (map (prepare_call setup own items) some)
prepares_of_puts seen tenant word setup own items [] began within = All-nil (λ (out : Outgoing). IsOfPut seen tenant out.call)
prepares_of_puts seen tenant word setup own items (i ∷ is) began within =
    All-cons (λ (out : Outgoing). IsOfPut seen tenant out.call) (prepare_call setup own items i) (map (prepare_call setup own items) is)
    (record {
      write = record { word = word; tenant = tenant; stamp = own; items = items };
      began = began;
      its = refl;
      item = i;
      among = within i (inl refl);
      is = refl;
    })
    (prepares_of_puts seen tenant word setup own items is began (λ item has. within item (inr has)))

all_mapped : {X : Type 0} (seen : List HistoryEntry) (tenant : ℕ) (f : X → Outgoing) (xs : List X) → ((x : X) → IsOfPut seen tenant (f x).call) → AreOfPuts seen tenant (map f xs)
all_mapped seen tenant f [] each = All-nil (λ (out : Outgoing). IsOfPut seen tenant out.call)
all_mapped seen tenant f (x ∷ xs) each = All-cons (λ (out : Outgoing). IsOfPut seen tenant out.call) (f x) (map f xs) (each x) (all_mapped seen tenant f xs each)

reading_of_puts : (seen : List HistoryEntry) (tenant : ℕ) (setup : Setup) (keys : List Key) (replies : List Message) → AreOfPuts seen tenant (reading_calls setup keys replies)
reading_of_puts seen tenant setup keys replies = go (round_one_complete keys replies)
  where
    go : (b : Bool) → AreOfPuts seen tenant (cond b (second_calls setup keys replies) (first_calls setup keys))
    go true = all_mapped seen tenant (λ (key : Key). record { partition = home setup key; call = Get key (Some (needed keys replies key)) }) (late_keys keys replies) (λ key. tt)
    go false = all_mapped seen tenant (λ (key : Key). record { partition = home setup key; call = Get key None }) keys (λ key. tt)

first_of_puts : (seen : List HistoryEntry) (tenant : ℕ) (setup : Setup) (asked : Asked) → HasBegunIn seen tenant asked → AreOfPuts seen tenant (calls_of setup false asked [])
first_of_puts seen tenant setup (Writes own items) began = prepares_of_puts seen tenant began.0 setup own items items began.1 (λ item has. has)
first_of_puts seen tenant setup (Gets keys) began = reading_of_puts seen tenant setup keys []
first_of_puts seen tenant setup (Finds tag) began = go (all_found setup [])
  where
    go : (b : Bool) → AreOfPuts seen tenant (cond b (reading_calls setup (all_keys_found []) []) (found_calls setup tag))
    go true = reading_of_puts seen tenant setup (all_keys_found []) []
    go false = all_mapped seen tenant (λ (partition : ℕ). record { partition = partition; call = Found tag }) (below setup.partitions) (λ partition. tt)

-- what has just begun waits for calls of its put, if it is one
pub begun_of_puts : (seen : List HistoryEntry) (tenant parts : ℕ) (asked : Asked) (old new : ClientSession) → HasBegun parts asked old new → HasBegunIn seen tenant asked → AreOfPuts seen tenant (waiting_of new.running)
begun_of_puts seen tenant parts asked old new begun began =
    let setup : Setup = record { partitions = parts; room = record { slots = 0; items = 0; clients = 0 }; keep = 0 } in
    let begins = begun.begins setup refl in
    let waits : begins.running.waiting ≡ calls_of setup false asked [] = waits_first setup asked begins.running.machine begins.running.waiting begins.starts.stands.runs ∙ begins.starts.calls in
    let runs : new.running ≡ Some begins.running = ap (λ (s : ClientSession). s.running) begins.is in
    let P : Option Running → Type 0 = λ r. AreOfPuts seen tenant (waiting_of r) in
    let Q : List Outgoing → Type 0 = λ outs. AreOfPuts seen tenant outs in
    subst P (sym runs) (subst Q (sym waits) (first_of_puts seen tenant setup asked began))

get_put : (seen : List HistoryEntry) (tenant : ℕ) (call : Call) → IsGet call → IsOfPut seen tenant call
get_put seen tenant (Get key stamp) is = tt
get_put seen tenant (Prepare version) is = absurd is
get_put seen tenant (Commit stamp) is = absurd is
get_put seen tenant (Found tag) is = absurd is
get_put seen tenant (Collect keep) is = absurd is
get_put seen tenant (Discard stamp) is = absurd is

all_gets : (seen : List HistoryEntry) (tenant : ℕ) (outs : List Outgoing) → All (λ (out : Outgoing). IsGet out.call) outs → AreOfPuts seen tenant outs
all_gets seen tenant outs gets = All-weaker (λ (out : Outgoing). IsGet out.call) (λ (out : Outgoing). IsOfPut seen tenant out.call) (λ out is. get_put seen tenant out.call is) outs gets

-- and so it does after a move that sends calls, where a decision was entered
pub sent_of_puts : (seen : List HistoryEntry) (tenant : ℕ) (kind : MoveKind) (told : List Reading) (outs : List Outgoing) → SendsSo (moved kind told) outs → sends_calls (moved kind told) ≡ true
    → ((stamp : Stamp) → kind ≡ turns.Decided stamp → IsDecided seen tenant stamp) → AreOfPuts seen tenant outs
sent_of_puts seen tenant (turns.Decided stamp) told outs sends on decided =
    All-weaker (λ (out : Outgoing). out.call ≡ Commit stamp) (λ (out : Outgoing). IsOfPut seen tenant out.call)
    (λ out is. subst (λ (c : Call). IsOfPut seen tenant c) (sym is) (decided stamp refl)) outs sends
sent_of_puts seen tenant turns.Ask told outs sends on decided = all_gets seen tenant outs sends
sent_of_puts seen tenant turns.Begins told outs sends on decided = all_gets seen tenant outs sends
sent_of_puts seen tenant turns.Wait told outs sends on decided = cc
sent_of_puts seen tenant (turns.Done stamp) told outs sends on decided = cc
sent_of_puts seen tenant turns.Read told outs sends on decided = cc
sent_of_puts seen tenant turns.Listed told outs sends on decided = cc
sent_of_puts seen tenant (turns.Restart key floor) told outs sends on decided = cc
sent_of_puts seen tenant (turns.Ended refusal calls) told outs sends on decided = cc
sent_of_puts seen tenant turns.Ignored told outs sends on decided = cc

-- ---- in other words

pub under_way_same : (sight other : OperationSight) (own : Stamp) (entries next : List Entry) (running after : Option Running) (told also : Option Answer) → other ≡ sight → next ≡ entries → after ≡ running → also ≡ told
    → IsUnderWay sight own entries running told → IsUnderWay other own next after also
under_way_same sight other own entries next running after told also seat entered runs answered u =
    let P : OperationSight → Type 0 = λ v. IsUnderWay v own entries running told in
    let Q : List Entry → Type 0 = λ es. IsUnderWay other own es running told in
    let R : Option Running → Type 0 = λ r. IsUnderWay other own next r told in
    let S : Option Answer → Type 0 = λ a. IsUnderWay other own next after a in
    subst S (sym answered) (subst R (sym runs) (subst Q (sym entered) (subst P (sym seat) u)))

-- what has just begun is under way
pub under_way_begun : (sight : OperationSight) (parts : ℕ) (own : Stamp) (asked : Asked) (old new : ClientSession) (entries : List Entry) → HasBegun parts asked old new → IsStampOf own asked → MayBegin asked
    → HasBegunIn sight.seen sight.tenant asked → IsUnderWay sight own entries new.running None
under_way_begun sight parts own asked old new entries begun stamped well began =
    let setup : Setup = record { partitions = parts; room = record { slots = 0; items = 0; clients = 0 }; keep = 0 } in
    record {
      setup = setup;
      asked = asked;
      start = entries;
      stamped = stamped;
      well = well;
      began = began;
      reads = reads-start sight setup asked entries new.running (begun.shown setup refl);
    }

-- what is asked for is written under the stamp that was drawn, if it is written
pub intent_drawn : (own told : Stamp) (request : SeatRequest) → ((items : List Item) → intent_of own request ≡ Writes own items → told ≡ own) → intent_of told request ≡ intent_of own request
intent_drawn own told (ask.Put items) drawn = ap (λ (s : Stamp). Writes s items.now) (drawn items.now refl)
intent_drawn own told (ask.Get keys) drawn = refl
intent_drawn own told (ask.Find tag) drawn = refl

-- the stamp that the session drew last is that of the write that it has begun
pub stamp_drawn : (before after client : ℕ) (told : Stamp) (asked : Asked) → client < 65536 → (0 < after → told ≡ stamp after client) → after ≡ max (drawn_counter asked) before
    → (items : List Item) → asked ≡ Writes (stamp (before + 1) client) items → told ≡ stamp (before + 1) client
stamp_drawn before after client told asked small last counted items is =
    let drawn = ap drawn_counter is ∙ counter_of-stamp (before + 1) client small in
    let next : after ≡ before + 1 = omega (arith, drawn, counted) in
    last (omega (arith, next)) ∙ ap (λ n. stamp n client) next
