-- What partitions reply, and what is reported of their replies.
use Rattle.std.proofs.Common.{◌≡◌, ℕ, List, [], ◌∷◌, ◌++◌, Bool, true, false, ◌&&◌, ◌==◌, ◌⊎◌, inl, inr, refl, sym, ap, ◌∙◌, subst, cond, not, map, filter_map, length, nat_lt, nat_le, Option, Some, None, option_to_list, append_assoc, find, bytes_eq, eqb-true, eq-eqb}
use Rattle.std.specs.List.{list_any, cons_option}
use Rattle.std.proofs.lemmas.Bool.{and_parts, both_ways, not-true}
use Rattle.stamps.specs.Record.{record_eq}
use Rattle.stamps.specs.Stamp.{client_of}
use Rattle.plain_store.specs.Marks.{mark}
use Rattle.plain_store.specs.Words.{◌∈◌, Record, Call, Prepare, Collect, PrepareReply, Prepared, FullSlots, FullItems, Clash, Discarded, Reply, ToPrepare, ToCollect, Act, Deliver, CollectAt, Message, Refused, Freed, Setup}
use Rattle.plain_store.specs.Log.{Exchange, Log, is_version, floor, kept, items}
use Rattle.plain_store.specs.Replies.{known_or, prepare_reply, reply_after, log_of, reply_to}
use Rattle.plain_store.specs.History.{keep_in, Moment, moment, History, messages, exchange_of, collection, log_at, Writes, Gets, Finds, took, taken}
use Rattle.plain_store.specs.Writing.{Outgoing}
use Rattle.plain_store.specs.Moves.{Move, Decides, Asks, Begins, Fails, calls_of}
use Rattle.plain_store.specs.Run.{call_message, with_reply, serves, next_stamp, moves}
use Rattle.plain_store.specs.Told.{IsPartitionsReply}
use Rattle.plain_store.specs.Partitions.{call_to, call_brought, calls_at, IsReplyAt, IsPartitionsAnswer, IsRefusedByFull}
use Rattle.plain_store.proofs.Stamps.{is_key}
use Rattle.plain_store.proofs.Members.{in_cases, in_map, any_from}
use Rattle.plain_store.proofs.Steps.{Happens, refused, greeted, put_begun, get_begun, find_begun, served, ignored, moved, lost, not_resent, resent, stopped, keep_set, collected}
use Rattle.plain_store.proofs.FreshLogs.{no_replies}
use Rattle.plain_store.proofs.StepEffects.{IsTurn, IsQuiet, moves_took, quiet_took}

-- ---- a log is that of the calls that came

-- a step brings a partition no call, or one, which is answered after its log
abbrev pub Brings : Setup → History → ℕ → Log → List Call → Type 0
Brings setup older partition log calls =
    ((log ≡ log_at setup older partition) × (calls ≡ []))
    ⊎ ((call : Call) × (log ≡ record { call = call; reply = reply_after setup.room (log_at setup older partition) call } ∷ log_at setup older partition) × (calls ≡ call ∷ []))

abbrev StepBrings : Setup → History → ℕ → Moment → Type 0
StepBrings setup older partition m = Brings setup older partition (log_at setup (m ∷ older) partition) (call_brought setup partition older m.act m.answer)

brings_none : (setup : Setup) (older : History) (partition client ticket : ℕ) (calls : List Outgoing)
    → Brings setup older partition (filter_map (λ (q : Message). exchange_of partition q q.reply) (map (call_message client ticket) calls) ++ log_at setup older partition) []
brings_none setup older partition client ticket calls = inl (ap (λ (front : Log). front ++ log_at setup older partition) (no_replies partition client ticket calls), refl)

-- the count of a collection is the one that the partition replies
abbrev pub Counted : Setup → History → Moment → Type 0
Counted setup older m = (partition count : ℕ) → m.act ≡ CollectAt partition → m.answer ≡ Freed count → ToCollect count ≡ reply_after setup.room (log_at setup older partition) (Collect (keep_in setup older))

step_brings : (setup : Setup) (older : History) (m : Moment) (partition : ℕ) → Counted setup older m → Happens setup older m → StepBrings setup older partition m
step_brings setup older m partition counted (refused act why) = go act
  where
    go : (act : Act) → StepBrings setup older partition (moment act (Refused why) [])
    go (Deliver row) = inl (refl, refl)
    go (CollectAt p) = inl (refl, refl)
    go act = inl (refl, refl)
step_brings setup older m partition counted (greeted client base) = inl (refl, refl)
step_brings setup older m partition counted (put_begun client items valid idle good) = brings_none setup older partition client _ (calls_of setup false (Writes (next_stamp older client) items) [])
step_brings setup older m partition counted (get_begun client keys idle) = brings_none setup older partition client _ (calls_of setup false (Gets keys) [])
step_brings setup older m partition counted (find_begun client tag idle) = brings_none setup older partition client _ (calls_of setup false (Finds tag) [])
step_brings setup older m partition counted (served row message at r) =
    subst (λ o. Brings setup older partition (cons_option (exchange_of partition (with_reply message reply) (Some reply)) [] ++ log_at setup older partition) (call_to partition o)) (sym at) (go (message.partition == partition) refl)
  where
    reply : Reply
    reply = reply_after setup.room (log_at setup older message.partition) message.call

    e : Exchange
    e = record { call = message.call; reply = reply }

    go : (b : Bool) → (message.partition == partition) ≡ b → Brings setup older partition (cons_option (cond b (Some e) None) [] ++ log_at setup older partition) (cond b (message.call ∷ []) [])
    go true t =
        inr (message.call, ap (λ p. record { call = message.call; reply = reply_after setup.room (log_at setup older p) message.call } ∷ log_at setup older partition) (eqb-true message.partition partition t), refl)
    go false t = inl (refl, refl)
step_brings setup older m partition counted (ignored row message at) = inl (refl, refl)
step_brings setup older m partition counted (moved row message reply transaction move at e r wanted how) = go move
  where
    go : (move : Move) → StepBrings setup older partition (moves older (Deliver row) transaction move)
    go (Decides stamp calls) = brings_none setup older partition transaction.client transaction.ticket calls
    go (Asks calls) = brings_none setup older partition transaction.client transaction.ticket calls
    go (Begins calls) = brings_none setup older partition transaction.client transaction.ticket calls
    go (Fails why []) = inl (refl, refl)
    go (Fails why (out ∷ outs)) = brings_none setup older partition transaction.client transaction.ticket (out ∷ outs)
    go _ = inl (refl, refl)
step_brings setup older m partition counted (lost row) = inl (refl, refl)
step_brings setup older m partition counted (not_resent client) = inl (refl, refl)
step_brings setup older m partition counted (resent client transaction out outs r u) = brings_none setup older partition transaction.client transaction.ticket (out ∷ outs)
step_brings setup older m partition counted (stopped client) = inl (refl, refl)
step_brings setup older m partition counted (keep_set keep) = inl (refl, refl)
step_brings setup older m partition counted (collected p n) = go (p == partition) refl
  where
    go : (b : Bool) → (p == partition) ≡ b → Brings setup older partition (cond b (record { call = Collect (keep_in setup older); reply = ToCollect n } ∷ []) [] ++ log_at setup older partition) (cond b (Collect (keep_in setup older) ∷ []) [])
    go true t =
        let count = counted p n refl refl ∙ ap (λ x. reply_after setup.room (log_at setup older x) (Collect (keep_in setup older))) (eqb-true p partition t) in
        inr (Collect (keep_in setup older), ap (λ r. record { call = Collect (keep_in setup older); reply = r } ∷ log_at setup older partition) count, refl)
    go false t = inl (refl, refl)

-- each log is the one that the calls make which came
abbrev pub LogsOf : Setup → History → Type 0
LogsOf setup history = (partition : ℕ) → log_at setup history partition ≡ log_of setup.room (calls_at setup history partition)

pub logs_step : (setup : Setup) (older : History) (m : Moment) → Counted setup older m → LogsOf setup older → Happens setup older m → LogsOf setup (m ∷ older)
unfolding log_of
logs_step setup older m counted logs how partition = go (step_brings setup older m partition counted how)
  where
    calls : List Call
    calls = call_brought setup partition older m.act m.answer

    go : Brings setup older partition (log_at setup (m ∷ older) partition) calls → log_at setup (m ∷ older) partition ≡ log_of setup.room (calls ++ calls_at setup older partition)
    go (inl (same, none)) = same ∙ logs partition ∙ ap (λ cs. log_of setup.room (cs ++ calls_at setup older partition)) (sym none)
    go (inr (call, more, one)) =
        more ∙ ap (λ log. record { call = call; reply = reply_after setup.room log call } ∷ log) (logs partition) ∙ ap (λ cs. log_of setup.room (cs ++ calls_at setup older partition)) (sym one)

pub logs_at_first : (setup : Setup) → LogsOf setup []
unfolding log_of
logs_at_first setup partition = refl

-- ---- what a partition answers

-- a reply after a log is the one after the calls that make it
at_logs : (setup : Setup) (older : History) (partition : ℕ) (call : Call) (reply : Reply) → LogsOf setup older → reply ≡ reply_after setup.room (log_at setup older partition) call → IsReplyAt setup older partition call reply
unfolding reply_to
at_logs setup older partition call reply logs e = (e, e ∙ ap (λ log. reply_after setup.room log call) (logs partition))

pub step_answers : (setup : Setup) (older : History) (m : Moment) → Counted setup older m → LogsOf setup older → Happens setup older m → IsPartitionsAnswer setup older m.act m.answer
step_answers setup older m counted logs (refused act why) = go act
  where
    go : (act : Act) → IsPartitionsAnswer setup older act (Refused why)
    go (CollectAt p) = tt
    go act = tt
step_answers setup older m counted logs (served row message at r) = (message, at, at_logs setup older message.partition message.call _ logs refl)
step_answers setup older m counted logs (moved row message reply transaction move at e r wanted how) = go move
  where
    go : (move : Move) → IsPartitionsAnswer setup older (moves older (Deliver row) transaction move).act (moves older (Deliver row) transaction move).answer
    go (Fails why []) = tt
    go (Fails why (out ∷ outs)) = tt
    go _ = tt
step_answers setup older m counted logs (collected p n) = at_logs setup older p (Collect (keep_in setup older)) (ToCollect n) logs (counted p n refl refl)
step_answers setup older m counted logs _ = tt

-- ---- full cells

prepare_full : (setup : Setup) (log : Log) (version : Record) → IsRefusedByFull setup log (Prepare version) (ToPrepare (prepare_reply setup.room log version))
unfolding prepare_reply
prepare_full setup log version = go (nat_lt version.stamp (floor log version.key))
  where
    missing : PrepareReply
    missing = cond (nat_le version.stamp (mark log (client_of version.stamp))) Discarded (cond (not (list_any (bytes_eq version.key) (items log)) && (length (items log) == setup.room.items)) FullItems (cond (length (kept log) == setup.room.slots) FullSlots Prepared))

    slots : (b : Bool) → (length (kept log) == setup.room.slots) ≡ b → IsRefusedByFull setup log (Prepare version) (ToPrepare (cond b FullSlots Prepared))
    slots true e = eqb-true (length (kept log)) setup.room.slots e
    slots false e = tt

    new : (b : Bool) → (not (list_any (bytes_eq version.key) (items log)) && (length (items log) == setup.room.items)) ≡ b
        → IsRefusedByFull setup log (Prepare version) (ToPrepare (cond b FullItems (cond (length (kept log) == setup.room.slots) FullSlots Prepared)))
    new true e =
        let p = and_parts (not (list_any (bytes_eq version.key) (items log))) (length (items log) == setup.room.items) e in
        (λ h. both_ways _ (not-true _ p.0) (any_from (bytes_eq version.key) (items log) version.key h (is_key version.key version.key refl)), eqb-true (length (items log)) setup.room.items p.1)
    new false e = slots (length (kept log) == setup.room.slots) refl

    other : (b : Bool) → IsRefusedByFull setup log (Prepare version) (ToPrepare (cond b Prepared Clash))
    other true = tt
    other false = tt

    found : (o : Option Record) → IsRefusedByFull setup log (Prepare version) (ToPrepare (known_or version missing o))
    found None = marked (nat_le version.stamp (mark log (client_of version.stamp)))
      where
        marked : (b : Bool)
            → IsRefusedByFull setup log (Prepare version) (ToPrepare (cond b Discarded (cond (not (list_any (bytes_eq version.key) (items log)) && (length (items log) == setup.room.items)) FullItems (cond (length (kept log) == setup.room.slots) FullSlots Prepared))))
        marked true = tt
        marked false = new (not (list_any (bytes_eq version.key) (items log)) && (length (items log) == setup.room.items)) refl
    found (Some old) = other (record_eq old version)

    go : (b : Bool) → IsRefusedByFull setup log (Prepare version) (ToPrepare (cond b Prepared (known_or version missing (find (is_version version.key version.stamp) (kept log)))))
    go true = tt
    go false = found (find (is_version version.key version.stamp) (kept log))

-- a cell answers want of room only where it is full
pub reply_full : (setup : Setup) (log : Log) (call : Call) → IsRefusedByFull setup log call (reply_after setup.room log call)
unfolding reply_after
reply_full setup log (Prepare version) = prepare_full setup log version
reply_full setup log _ = tt

-- ---- replies that were sent

no_reply : (q : Message) (client ticket : ℕ) (calls : List Outgoing) (reply : Reply) → q ∈ map (call_message client ticket) calls → q.reply ≡ Some reply → ⊥
no_reply q client ticket calls reply h e = let i = in_map (call_message client ticket) calls q h in let n : q.reply ≡ None = ap (λ (x : Message). x.reply) i.2 in cc

-- the reply stands in the partition's log, and is the one after what is behind it
abbrev pub IsLogged : Setup → History → Message → Reply → Type 0
IsLogged setup history message reply =
    (later : Log) × (earlier : Log) × (log_at setup history message.partition ≡ later ++ record { call = message.call; reply = reply } ∷ earlier) × (reply ≡ reply_after setup.room earlier message.call)

abbrev pub Logged : Setup → History → Type 0
Logged setup history = (message : Message) (reply : Reply) → message ∈ messages history → message.reply ≡ Some reply → IsLogged setup history message reply

logged_stays : (setup : Setup) (m : Moment) (older : History) (message : Message) (reply : Reply) → IsLogged setup older message reply → IsLogged setup (m ∷ older) message reply
logged_stays setup m older message reply (later, earlier, e, r) =
    let front = collection (keep_in setup older) message.partition m.act m.answer in
    let sent = filter_map (λ (q : Message). exchange_of message.partition q q.reply) m.sent in
    let rest = record { call = message.call; reply = reply } ∷ earlier in
    (front ++ (sent ++ later), earlier, ap (λ log. front ++ (sent ++ log)) e ∙ ap (λ log. front ++ log) (sym (append_assoc sent later rest)) ∙ sym (append_assoc front (sent ++ later) rest), r)

logged_now : (setup : Setup) (older : History) (row : ℕ) (message : Message)
    → IsLogged setup (serves older (Deliver row) message (reply_after setup.room (log_at setup older message.partition) message.call) ∷ older) message (reply_after setup.room (log_at setup older message.partition) message.call)
logged_now setup older row message =
    let reply = reply_after setup.room (log_at setup older message.partition) message.call in (
      [],
      log_at setup older message.partition,
      ap (λ b. cons_option (cond b (Some (record { call = message.call; reply = reply })) None) [] ++ log_at setup older message.partition) (eq-eqb message.partition message.partition refl),
      refl,
    )

sent_logged : (setup : Setup) (older : History) (m : Moment) (q : Message) (reply : Reply) → Happens setup older m → q ∈ m.sent → q.reply ≡ Some reply → IsLogged setup (m ∷ older) q reply
sent_logged setup older m q reply (put_begun client items valid idle good) h e = absurd (no_reply q client _ (calls_of setup false (Writes (next_stamp older client) items) []) reply h e)
sent_logged setup older m q reply (get_begun client keys idle) h e = absurd (no_reply q client _ (calls_of setup false (Gets keys) []) reply h e)
sent_logged setup older m q reply (find_begun client tag idle) h e = absurd (no_reply q client _ (calls_of setup false (Finds tag) []) reply h e)
sent_logged setup older m q reply (served row message at r) (inl same) e =
    let given = reply_after setup.room (log_at setup older message.partition) message.call in
    let both : Some given ≡ Some reply = ap (λ (x : Message). x.reply) (sym same) ∙ e in
    let is : given ≡ reply = cc in
    subst (λ (x : Message). IsLogged setup (m ∷ older) x reply) (sym same) (subst (λ y. IsLogged setup (m ∷ older) (with_reply message given) y) is (logged_now setup older row message))
sent_logged setup older m q reply (served row message at r) (inr h) e = absurd h
sent_logged setup older m q reply (moved row message taken_reply transaction move at f r wanted how) h e = go move h
  where
    go : (move : Move) → q ∈ (moves older (Deliver row) transaction move).sent → IsLogged setup (m ∷ older) q reply
    go (Decides stamp calls) k = absurd (no_reply q transaction.client transaction.ticket calls reply k e)
    go (Asks calls) k = absurd (no_reply q transaction.client transaction.ticket calls reply k e)
    go (Begins calls) k = absurd (no_reply q transaction.client transaction.ticket calls reply k e)
    go (Fails why []) k = absurd k
    go (Fails why (out ∷ outs)) k = absurd (no_reply q transaction.client transaction.ticket (out ∷ outs) reply k e)
    go _ k = absurd k
sent_logged setup older m q reply (resent client transaction out outs r u) h e = absurd (no_reply q transaction.client transaction.ticket (out ∷ outs) reply h e)
sent_logged setup older m q reply _ h e = absurd h

pub logged_step : (setup : Setup) (older : History) (m : Moment) → Logged setup older → Happens setup older m → Logged setup (m ∷ older)
logged_step setup older m logged how message reply h e = go (in_cases (messages older) m.sent message h)
  where
    go : (message ∈ messages older) ⊎ (message ∈ m.sent) → IsLogged setup (m ∷ older) message reply
    go (inl k) = logged_stays setup m older message reply (logged message reply k e)
    go (inr k) = sent_logged setup older m message reply how k e

pub logged_at_first : (setup : Setup) → Logged setup []
logged_at_first setup message reply h e = absurd h

-- ---- replies that were taken

abbrev HasReply : Message → Type 0
HasReply message = (reply : Reply) × (message.reply ≡ Some reply)

-- what was taken is a reply
abbrev pub TakenReplies : History → Type 0
TakenReplies history = (message : Message) → message ∈ taken history → HasReply message

pub taken_step : (setup : Setup) (older : History) (m : Moment) → TakenReplies older → IsQuiet m ⊎ IsTurn setup older m → TakenReplies (m ∷ older)
taken_step setup older m replied way message h = go way (in_cases (taken older) (option_to_list (took m.act m.answer older)) message h)
  where
    go : IsQuiet m ⊎ IsTurn setup older m → (message ∈ taken older) ⊎ (message ∈ option_to_list (took m.act m.answer older)) → HasReply message
    go w (inl k) = replied message k
    go (inl quiet) (inr k) = absurd (subst (λ o. message ∈ option_to_list o) (quiet_took m.act m.answer older quiet) k)
    go (inr (row, last, reply, transaction, at, e, r, wanted, same)) (inr k) =
        one (subst (λ o. message ∈ option_to_list o) (ap (λ (x : Moment). took x.act x.answer older) same ∙ moves_took older row transaction _ last at) k)
      where
        one : message ∈ (last ∷ []) → HasReply message
        one (inl s) = (reply, ap (λ (x : Message). x.reply) s ∙ e)
        one (inr n) = absurd n

-- a logged reply is its partition's
pub partitions_reply : (setup : Setup) (history : History) (message : Message) → Logged setup history → message ∈ messages history → HasReply message → IsPartitionsReply setup history message
partitions_reply setup history message logged h (reply, e) =
    let l = logged message reply h e in record { reply = reply; later = l.0; earlier = l.1; carries = e; stands = l.2; answers = l.3 }
