-- What every history of a run keeps of the transactions that run: for `Sessions::take`, `start`, `retry` and `call`.
use Rattle.std.proofs.Common.{◌≡◌, ℕ, ◌+◌, ◌≤◌, List, [], ◌∷◌, ◌++◌, true, false, ◌==◌, ◌⊎◌, inl, inr, sym, ap, ◌∙◌, subst, not, map, Some, None, arith, eq-eqb}
use Rattle.std.specs.Prelude.{All}
use Rattle.std.proofs.lemmas.Bool.{and_parts, not-true, true≢false}
use Rattle.std.proofs.lemmas.List.Elements.{All-tail}
use Rattle.plain_store.specs.declared.message.Message.{Message}
use Rattle.plain_store.specs.declared.calls.Reply.{Reply}
use Rattle.plain_store.specs.declared.step.Act.{Act}
use Rattle.plain_store.specs.declared.step.Act.TheVariants.{Deliver}
use Rattle.plain_store.specs.Words.{◌∈◌, Setup, IsAct}
use Rattle.plain_store.specs.Replies.{reply_after}
use Rattle.plain_store.specs.History.{Moment, History, messages, message_at, log_at, Intent, Writes, Gets, Finds, Transaction, transactions, tickets, taken, is_of, is_by, taken_in, running_after, running}
use Rattle.plain_store.specs.Writing.{Outgoing}
use Rattle.plain_store.specs.Moves.{Move, Fails, move_of, calls_of, is_answered}
use Rattle.plain_store.specs.Run.{call_message, next_stamp, moves, is_decided, moment_of, run}
use Rattle.plain_store.proofs.Members.{in_cases, in_map, in_filter}
use Rattle.plain_store.proofs.Steps.{Happens, put_begun, get_begun, find_begun, served, moved, resent, happens}
use Rattle.plain_store.proofs.StaysTrue.{at_is, taken_sent, taken_in_is, running_is}
use Rattle.plain_store.proofs.Sound.{of_transaction}
use Rattle.plain_store.proofs.KeptLogs.{Kept, NewBegun}
use Rattle.plain_store.proofs.EveryStepKeeps.{IsRunning, running_cases, kept_step, kept_at_first}
use Rattle.plain_store.proofs.Fresh.{fresh_step, fresh_at_first}
use Rattle.plain_store.proofs.StepEffects.{IsTurn, IsQuiet, turn_or_quiet, calls_made, moves_sent, moves_is_move}
use Rattle.plain_store.proofs.Owned.{no_old_message}
use Rattle.plain_store.proofs.Served.{logged_step, logged_at_first, taken_step}
use Rattle.plain_store.proofs.Runs.{first_act}
use Rattle.plain_store.proofs.SearchesAsk.{taken_new}
use Rattle.tenant_sessions.specs.Running.{calls_so_far, IsReplyTo}
use Rattle.tenant_sessions.specs.Sessions.{IsRun}
use Rattle.tenant_sessions.proofs.CallsSoFar.{out_of, AreReplies, calls_stay, part_in, made_in, EndsWithNone}
use Rattle.tenant_sessions.proofs.DecidedKept.{Asked, Grounds, NoneTakes, OtherTakes, TakesNow, agreed_step, begun_sends, reply_kind, taking_cases}

-- ---- calls

-- a reply that lies in a row is to a call of its transaction
pub its_reply : (setup : Setup) (older : History) (client : ℕ) (transaction : Transaction) (row : ℕ) (message : Message) (reply : Reply) → Grounds setup older → running older client ≡ Some transaction → message_at older row ≡ Some message
    → message.reply ≡ Some reply → is_of transaction message ≡ true → IsReplyTo setup transaction.request (taken_in older transaction) message
its_reply setup older client transaction row message reply grounds r at e of =
    let sent = at_is older row message at in
    record { asked = grounds.asked client transaction message r sent of; of_kind = reply_kind setup older message reply grounds.kept grounds.logged sent e }

-- what was asked before stays so, whichever reply is taken
asked_still : (setup : Setup) (m : Moment) (older : History) (client : ℕ) (transaction : Transaction) (out : Outgoing) → Grounds setup older → running older client ≡ Some transaction → IsQuiet m ⊎ IsTurn setup older m
    → out ∈ calls_so_far setup transaction.request (taken_in older transaction) → out ∈ calls_so_far setup transaction.request (taken_in (m ∷ older) transaction)
asked_still setup m older client transaction out grounds r way h = by (taking_cases setup m older client transaction r way)
  where
    along : (taken : List Message) → taken_in (m ∷ older) transaction ≡ taken → out ∈ calls_so_far setup transaction.request taken → out ∈ calls_so_far setup transaction.request (taken_in (m ∷ older) transaction)
    along taken e k = subst (λ (ts : List Message). out ∈ calls_so_far setup transaction.request ts) (sym e) k

    kinds : AreReplies (taken_in older transaction)
    kinds q k =
        let t = taken_in_is older transaction q k in
        let replied = grounds.replied q t.0 in
        reply_kind setup older q replied.0 grounds.kept grounds.logged (taken_sent older q t.0) replied.1

    by : NoneTakes m older transaction ⊎ (OtherTakes setup m older transaction ⊎ TakesNow setup m older transaction) → out ∈ calls_so_far setup transaction.request (taken_in (m ∷ older) transaction)
    by (inl (quiet, same)) = along (taken_in older transaction) same h
    by (inr (inl (row, message, other, s, apart, moves_so, same))) = along (taken_in older transaction) same h
    by (inr (inr (row, message, reply, at, e, wanted, of, moves_so, more))) =
        along (taken_in older transaction ++ message ∷ []) more
        (calls_stay setup transaction.request (taken_in older transaction) message out kinds (its_reply setup older client transaction row message reply grounds r at e of)
        (not-true _ (and_parts (message.ticket == transaction.ticket) (not (is_answered (taken_in older transaction) message.partition message.call)) wanted).1) h)

-- the running transaction of a call
own_call : (setup : Setup) (older : History) (client : ℕ) (transaction other : Transaction) (out : Outgoing) → Kept setup older → transaction ∈ transactions older → other ∈ transactions older
    → is_of transaction (call_message other.client other.ticket out) ≡ true → other ≡ transaction
own_call setup older client transaction other out kept own theirs e =
    let p = of_transaction transaction (call_message other.client other.ticket out) e in kept.single other transaction theirs own p.0 p.1

-- a transaction that begins sends nothing of an older one
not_begun : (setup : Setup) (older : History) (transaction : Transaction) (client : ℕ) (out : Outgoing) → Kept setup older → transaction ∈ transactions older → is_of transaction (call_message client (tickets older client + 1) out) ≡ true → ⊥
not_begun setup older transaction client out kept own e =
    let p = of_transaction transaction (call_message client (tickets older client + 1) out) e in
    let c : client ≡ transaction.client = p.0 in
    let k : tickets older client + 1 ≡ transaction.ticket = p.1 in
    let l : transaction.ticket ≤ tickets older client = subst (λ x. transaction.ticket ≤ tickets older x) (sym c) (kept.bounded transaction own) in
    omega arith

begun_not_own : (setup : Setup) (older : History) (transaction : Transaction) (client : ℕ) (calls : List Outgoing) (q : Message) → Kept setup older → transaction ∈ transactions older
    → q ∈ map (call_message client (tickets older client + 1)) calls → is_of transaction q ≡ true → ⊥
begun_not_own setup older transaction client calls q kept own h e =
    let i = in_map (call_message client (tickets older client + 1)) calls q h in
    not_begun setup older transaction client i.0 kept own (subst (λ (x : Message). is_of transaction x ≡ true) i.2 e)

-- what is sent without a reply taken is of calls that were asked before
sent_quiet : (setup : Setup) (older : History) (m : Moment) (client : ℕ) (transaction : Transaction) (q : Message) → Grounds setup older → running older client ≡ Some transaction → IsQuiet m → Happens setup older m
    → q ∈ m.sent → is_of transaction q ≡ true → out_of q ∈ calls_so_far setup transaction.request (taken_in older transaction)
sent_quiet setup older m client transaction q grounds r quiet (put_begun c items valid idle good) h e =
    absurd (begun_not_own setup older transaction c (calls_of setup false (Writes (next_stamp older c) items) []) q grounds.kept (running_is older client transaction r).0 h e)
sent_quiet setup older m client transaction q grounds r quiet (get_begun c keys idle) h e = absurd (begun_not_own setup older transaction c (calls_of setup false (Gets keys) []) q grounds.kept (running_is older client transaction r).0 h e)
sent_quiet setup older m client transaction q grounds r quiet (find_begun c tag idle) h e = absurd (begun_not_own setup older transaction c (calls_of setup false (Finds tag) []) q grounds.kept (running_is older client transaction r).0 h e)
sent_quiet setup older m client transaction q grounds r quiet (served row message at n) (inl same) e =
    let reply = reply_after setup.room (log_at setup older message.partition) message.call in
    subst (λ (x : Message). out_of x ∈ calls_so_far setup transaction.request (taken_in older transaction)) (sym same)
    (grounds.asked client transaction message r (at_is older row message at) (subst (λ (x : Message). is_of transaction x ≡ true) same e))
sent_quiet setup older m client transaction q grounds r quiet (served row message at n) (inr h) e = absurd h
sent_quiet setup older m client transaction q grounds r quiet (moved row message reply other move at f s wanted how) h e = let t = moves_is_move older (Deliver row) other move in cc
sent_quiet setup older m client transaction q grounds r quiet (resent c other out outs s u) h e = go (in_map (call_message other.client other.ticket) (out ∷ outs) q h)
  where
    go : (o : Outgoing) × (o ∈ (out ∷ outs)) × (q ≡ call_message other.client other.ticket o) → out_of q ∈ calls_so_far setup transaction.request (taken_in older transaction)
    go (o, k, is) =
        let same : other ≡ transaction = own_call setup older client transaction other o grounds.kept (running_is older client transaction r).0 (running_is older c other s).0 (subst (λ (x : Message). is_of transaction x ≡ true) is e) in
        let listed : o ∈ calls_of setup (is_decided older other.request) other.request (taken_in older other) =
        (in_filter (λ (x : Outgoing). not (is_answered (taken_in older other) x.partition x.call)) (calls_of setup (is_decided older other.request) other.request (taken_in older other)) o
        (subst (λ (xs : List Outgoing). o ∈ xs) (sym u) k)).0 in
        let theirs : o ∈ calls_so_far setup other.request (taken_in older other) =
        part_in setup (is_decided older other.request) other.request (taken_in older other) o (λ d. sym (grounds.agreed c other s) ∙ d) listed in
        subst (λ (x : Message). out_of x ∈ calls_so_far setup transaction.request (taken_in older transaction)) (sym is)
        (subst (λ (t : Transaction). o ∈ calls_so_far setup t.request (taken_in older t)) same theirs)
sent_quiet setup older m client transaction q grounds r quiet _ h e = absurd h

-- what is sent by a transaction that takes a reply
sent_turn : (setup : Setup) (older : History) (m : Moment) (client : ℕ) (transaction : Transaction) (q : Message) → Grounds setup older → running older client ≡ Some transaction → running (m ∷ older) client ≡ Some transaction
    → TakesNow setup m older transaction → q ∈ m.sent → out_of q ∈ calls_so_far setup transaction.request (taken_in (m ∷ older) transaction)
sent_turn setup older m client transaction q grounds r still (row, message, reply, at, e, wanted, its, same, more) h =
    let i = in_map (call_message transaction.client transaction.ticket) (calls_made move) q (subst (λ (ms : List Message). q ∈ ms) (ap (λ (x : Moment). x.sent) same ∙ moves_sent older (Deliver row) transaction move) h) in
    let made = made_in setup transaction.request (taken_in older transaction) message i.0 (its_reply setup older client transaction row message reply grounds r at e its) goes i.1 in
    subst (λ (x : Message). out_of x ∈ calls_so_far setup transaction.request (taken_in (m ∷ older) transaction)) (sym i.2) (subst (λ (ts : List Message). i.0 ∈ calls_so_far setup transaction.request ts) (sym more) made)
  where
    move : Move
    move = move_of setup transaction.request (taken_in older transaction ++ message ∷ []) message

    -- who runs on does not end
    goes : EndsWithNone move
    goes why out outs f =
        let all : m ≡ moves older (Deliver row) transaction (Fails why (out ∷ outs)) = same ∙ ap (moves older (Deliver row) transaction) f in
        let own : message.client ≡ client = (of_transaction transaction message its).0 ∙ (running_is older client transaction r).1 in
        let mine : is_by client (message_at older row) ≡ true = ap (is_by client) at ∙ eq-eqb message.client client own in
        let none : running (moves older (Deliver row) transaction (Fails why (out ∷ outs)) ∷ older) client ≡ None = ap (λ b. running_after None b client (running older client)) mine in
        let one : None ≡ Some transaction = sym none ∙ ap (λ (x : Moment). running (x ∷ older) client) (sym all) ∙ still in cc

-- what a transaction that begins sends
sent_first : (setup : Setup) (older : History) (m : Moment) (transaction : Transaction) (q : Message) → Grounds setup older → Happens setup older m → NewBegun older m transaction → q ∈ m.sent
    → out_of q ∈ calls_so_far setup transaction.request (taken_in (m ∷ older) transaction)
sent_first setup older m transaction q grounds how n h = go (in_map (call_message n.0.0 (tickets older n.0.0 + 1)) (calls_of setup false n.0.1 []) q (subst (λ (ms : List Message). q ∈ ms) (begun_sends setup older m n.0 how n.1) h))
  where
    go : (o : Outgoing) × (o ∈ calls_of setup false n.0.1 []) × (q ≡ call_message n.0.0 (tickets older n.0.0 + 1) o) → out_of q ∈ calls_so_far setup transaction.request (taken_in (m ∷ older) transaction)
    go (o, k, is) =
        let first : o ∈ calls_so_far setup n.0.1 [] = part_in setup false n.0.1 [] o (λ f. cc) k in
        let own : o ∈ calls_so_far setup transaction.request [] = subst (λ (r : Intent). o ∈ calls_so_far setup r []) (ap (λ (t : Transaction). t.request) (sym n.2)) first in
        subst (λ (x : Message). out_of x ∈ calls_so_far setup transaction.request (taken_in (m ∷ older) transaction)) (sym is)
        (subst (λ (ts : List Message). o ∈ calls_so_far setup transaction.request ts) (sym (taken_new setup m older transaction grounds.fresh n)) own)

asked_step : (setup : Setup) (m : Moment) (older : History) → Grounds setup older → Happens setup older m → IsQuiet m ⊎ IsTurn setup older m → Asked setup (m ∷ older)
asked_step setup m older grounds how way client transaction q r h of = go (running_cases m older client transaction r) (in_cases (messages older) m.sent q h)
  where
    sends : running older client ≡ Some transaction → q ∈ m.sent → NoneTakes m older transaction ⊎ (OtherTakes setup m older transaction ⊎ TakesNow setup m older transaction) → out_of q ∈ calls_so_far setup transaction.request (taken_in (m ∷ older) transaction)
    sends was k (inl (quiet, same)) = asked_still setup m older client transaction (out_of q) grounds was way (sent_quiet setup older m client transaction q grounds was quiet how k of)
    sends was k (inr (inl (row, message, other, s, apart, same, left))) =
        let move = move_of setup other.request (taken_in older other ++ message ∷ []) message in
        let i = in_map (call_message other.client other.ticket) (calls_made move) q (subst (λ (ms : List Message). q ∈ ms) (ap (λ (x : Moment). x.sent) same ∙ moves_sent older (Deliver row) other move) k) in
        let own = eq-eqb other.client transaction.client (of_transaction transaction (call_message other.client other.ticket i.0) (subst (λ (x : Message). is_of transaction x ≡ true) i.2 of)).0 in
        absurd (true≢false (sym own ∙ apart))
    sends was k (inr (inr now)) = sent_turn setup older m client transaction q grounds was r now k

    go : IsRunning older m client transaction ⊎ NewBegun older m transaction → (q ∈ messages older) ⊎ (q ∈ m.sent) → out_of q ∈ calls_so_far setup transaction.request (taken_in (m ∷ older) transaction)
    go (inl was) (inl k) = asked_still setup m older client transaction (out_of q) grounds was.0 way (grounds.asked client transaction q was.0 k of)
    go (inl was) (inr k) = sends was.0 k (taking_cases setup m older client transaction was.0 way)
    go (inr n) (inl k) = absurd (no_old_message setup older m transaction q grounds.fresh n k of)
    go (inr n) (inr k) = sent_first setup older m transaction q grounds how n k

-- ---- every step keeps it

pub grounds_step : (setup : Setup) (m : Moment) (older : History) → Grounds setup older → Happens setup older m → IsQuiet m ⊎ IsTurn setup older m → Grounds setup (m ∷ older)
grounds_step setup m older grounds how way = record {
  kept = kept_step setup older m grounds.kept how;
  fresh = fresh_step setup older m grounds.kept grounds.fresh how;
  logged = logged_step setup older m grounds.logged how;
  replied = taken_step setup older m grounds.replied way;
  agreed = agreed_step setup m older grounds how way;
  asked = asked_step setup m older grounds how way;
}

pub grounds_at_first : (setup : Setup) → Grounds setup []
grounds_at_first setup = record {
  kept = kept_at_first setup;
  fresh = fresh_at_first setup;
  logged = logged_at_first setup;
  replied = λ message h. absurd h;
  agreed = λ client transaction r. cc;
  asked = λ client transaction message r h of. absurd h;
}

grounds_from : (setup : Setup) (history : History) (acts : List Act) → All IsAct acts → Grounds setup history → Grounds setup (run setup history acts)
grounds_from setup history [] valid grounds = grounds
grounds_from setup history (act ∷ acts) valid grounds =
    grounds_from setup (moment_of setup history act ∷ history) acts (All-tail IsAct act acts valid)
    (grounds_step setup (moment_of setup history act) history grounds (happens setup history act (first_act act acts valid)) (turn_or_quiet setup history act))

pub run_grounds : (setup : Setup) (history : History) → IsRun setup history → Grounds setup history
run_grounds setup history ran = subst (λ (h : History). Grounds setup h) (sym ran.is) (grounds_from setup [] ran.acts ran.valid (grounds_at_first setup))
