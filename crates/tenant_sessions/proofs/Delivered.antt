-- A reply that is handed to its client: for `Sessions::take`.
use Rattle.std.proofs.Common.{◌≡◌, ℕ, ◌+◌, ◌≤◌, max, List, [], ◌∷◌, ◌++◌, Bool, true, false, ◌&&◌, ◌==◌, inr, nat_eq, refl, sym, ap, ◌∙◌, subst, cond, length, map, filter, not, Option, Some, None, option_to_list, arith, eqb-true, eq-eqb}
use Rattle.std.proofs.lemmas.List.{length-map}
use Rattle.plain_store.specs.declared.answer.Answer.TheVariants.{Ignored as IgnoredSo}
use Rattle.plain_store.specs.declared.calls.Reply.{Reply}
use Rattle.plain_store.specs.declared.message.Message.{Message}
use Rattle.plain_store.specs.declared.step.Act.{Act}
use Rattle.plain_store.specs.declared.step.Act.TheVariants.{Deliver}
use Rattle.plain_store.specs.Words.{Setup}
use Rattle.plain_store.specs.History.{Moment, moment, History, message_at, Open, Closed, session, session_after, client_gained, clients_known, Intent, Transaction, begun_by, transaction_of, one_if_by, tickets, is_move, is_last as is_last_answer, is_of, taken_in, is_by, ends, running_after, running, counter_in, counter_taken, counter_gained, counter}
use Rattle.plain_store.specs.Moves.{Move as PlainMove, Waits, Fails, move_of, is_answered}
use Rattle.plain_store.specs.Run.{next_rows, call_message, moves, is_wanted, takes as takes_so, delivers, delivers_row, effect}
use Rattle.plain_store.proofs.Steps.{moved, moving}
use Rattle.plain_store.proofs.StaysTrue.{running_is, taken_more}
use Rattle.plain_store.proofs.KeptLogs.{is_of_wanted}
use Rattle.plain_store.proofs.Sound.{of_transaction}
use Rattle.plain_store.proofs.StepEffects.{moves_is_move, moves_took}
use Rattle.std.proofs.lemmas.Bool.{and_from}
use Rattle.stamps.specs.Limits.{max_keys}
use Rattle.tenant_sessions.specs.Moves.{Move, Ask, Ignored, answer_of, sends_calls, is_last, is_ignored, told, calls_out, ending}
use Rattle.tenant_sessions.specs.declared.running.Running.{Running}
use Rattle.tenant_sessions.specs.declared.session.ClientSession.{ClientSession}
use Rattle.tenant_sessions.specs.Content.{SessionsContent, client_in, HoldsSession}
use Rattle.tenant_sessions.specs.Held.{GoesOn, TakesReply}
use Rattle.tenant_sessions.specs.Running.{waiting_calls, IsReplyTo, RunningStands}
use Rattle.tenant_sessions.specs.Sessions.{IsRun, waiting, MayRun, IsKnown, StandsFor, IsTaken}
use Rattle.plain_store.proofs.ListTests.{and-false}
use Rattle.tenant_sessions.proofs.Untouched.{Untouched, touches, untouched, nothing}
use Rattle.tenant_sessions.proofs.Standing.{stands_with, stands_after, quiet_moment, same_stands, own_client}
use Rattle.tenant_sessions.proofs.Refusing.{known_of, unknown_of}
use Rattle.tenant_sessions.proofs.DecidedKept.{Grounds}
use Rattle.tenant_sessions.proofs.RunningTransactions.{its_reply, grounds_step, run_grounds}
use Rattle.tenant_sessions.proofs.Resending.{waiting_some}

-- what `IsTaken` says, of any moment
record TakenAs (setup : Setup) (history : History) (message : Message) (move : Move) (new : SessionsContent) (m : Moment) : Type 0 where
  answer : m.answer ≡ answer_of move (next_rows history (length m.sent))
  sent : m.sent ≡ cond (sends_calls move) (waiting setup (m ∷ history) message.client) (map (call_message message.client message.ticket) (ending move))
  few : length m.sent ≤ max_keys
  stands : StandsFor setup (m ∷ history) new

taken_from : (setup : Setup) (history : History) (row : ℕ) (message : Message) (move : Move) (new : SessionsContent) → TakenAs setup history message move new (effect setup history (Deliver row)) → IsTaken setup history row message move new
taken_from setup history row message move new t = record { answer = t.answer; sent = t.sent; few = t.few; stands = t.stands }

deliver_is : (setup : Setup) (history : History) (row : ℕ) (message : Message) (reply : Reply) → message_at history row ≡ Some message → message.reply ≡ Some reply
    → effect setup history (Deliver row) ≡ takes_so setup history (Deliver row) message (running history message.client)
unfolding effect
deliver_is setup history row message reply at e =
    ap (delivers_row setup history (Deliver row)) at ∙ ap (delivers setup history (Deliver row) message) e

-- a reply that no transaction is waiting for
ignored_as : (setup : Setup) (history : History) (row : ℕ) (message : Message) (result : Move) (new : SessionsContent) → effect setup history (Deliver row) ≡ moment (Deliver row) IgnoredSo [] → result ≡ Ignored → StandsFor setup history new
    → IsTaken setup history row message result new
ignored_as setup history row message result new is ignored stands =
    subst (λ r. IsTaken setup history row message r new) (sym ignored) (taken_from setup history row message Ignored new (subst (λ (x : Moment). TakenAs setup history message Ignored new x) (sym is)
    (record { answer = refl; sent = refl; few = omega arith; stands = quiet_moment setup history new (moment (Deliver row) IgnoredSo []) stands refl })))

-- ---- what a move leaves

-- what a move makes of the step
record Moved (history : History) (act : Act) (transaction : Transaction) (move : PlainMove) (m : Moment) : Type 0 where
  own : m.act ≡ act
  sent : m.sent ≡ map (call_message transaction.client transaction.ticket) (calls_out move)
  answer : m.answer ≡ answer_of (told move) (next_rows history (length (calls_out move)))
  last : is_last_answer m.answer ≡ is_last (told move)

moved_so : (history : History) (act : Act) (transaction : Transaction) (move : PlainMove) → Moved history act transaction move (moves history act transaction move)
moved_so history act transaction (Fails refusal []) = record { own = refl; sent = refl; answer = refl; last = refl }
moved_so history act transaction (Fails refusal (out ∷ outs)) = record { own = refl; sent = refl; answer = refl; last = refl }
moved_so history act transaction _ = record { own = refl; sent = refl; answer = refl; last = refl }

told_taken : (move : PlainMove) → is_ignored (told move) ≡ false
told_taken Waits = refl
told_taken _ = refl

sends_on : (move : Move) → sends_calls move ≡ true → is_last move ≡ false
sends_on Ask e = cc
sends_on _ e = cc

-- ---- a delivery changes of its own client the counter and what runs

module _ (m : Moment) (history : History) (row : ℕ) (message : Message) (is : m.act ≡ Deliver row) (at : message_at history row ≡ Some message) where
  delivered_session : session (m ∷ history) message.client ≡ session history message.client
  delivered_session = ap (λ a. session_after a m.answer message.client (session history message.client)) is

  delivered_ticket : tickets (m ∷ history) message.client ≡ tickets history message.client
  delivered_ticket = ap (λ a. one_if_by message.client (begun_by a m.answer) + tickets history message.client) is ∙ nothing (tickets history message.client)

  delivered_known : clients_known (m ∷ history) ≡ clients_known history
  delivered_known = ap (λ a. client_gained a m.answer history + clients_known history) is ∙ nothing (clients_known history)

  delivered_counter : is_move m.answer ≡ true → counter (m ∷ history) message.client ≡ max (counter_in message.reply) (counter history message.client)
  delivered_counter taken =
      ap (λ a. max (counter_gained a m.answer history message.client) (counter history message.client)) is
      ∙ ap (λ b. max (cond b (counter_taken message.client (message_at history row)) 0) (counter history message.client)) taken
      ∙ ap (λ o. max (counter_taken message.client o) (counter history message.client)) at
      ∙ ap (λ b. max (cond b (counter_in message.reply) 0) (counter history message.client)) (own_client message.client)

  delivered_running : (last : Bool) → is_last_answer m.answer ≡ last → running (m ∷ history) message.client ≡ cond last None (running history message.client)
  delivered_running last e =
      ap (λ a. running_after (transaction_of history (begun_by a m.answer)) (ends a m.answer history message.client) message.client (running history message.client)) is
      ∙ (λ i. running_after None (e i && is_by message.client (at i)) message.client (running history message.client))
      ∙ ap (λ b. running_after None (last && b) message.client (running history message.client)) (own_client message.client)
      ∙ go last
    where
      go : (b : Bool) → running_after None (b && true) message.client (running history message.client) ≡ cond b None (running history message.client)
      go true = refl
      go false = refl

  delivered_others : (other : ℕ) → nat_eq message.client other ≡ false → Untouched m history other
  delivered_others other apart =
      untouched m history other (ap (λ a. touches a m.answer history other) is ∙ ap (λ b. is_move m.answer && b) (ap (is_by other) at ∙ apart) ∙ and-false (is_move m.answer))

-- ---- a client that is held

module _ (setup : Setup) (history : History) (row : ℕ) (message : Message) (reply : Reply) (old new : SessionsContent) (held after : ClientSession) (result : Move) (ran : IsRun setup history) (stands : StandsFor setup history old)
    (at : message_at history row ≡ Some message) (e : message.reply ≡ Some reply) (found : client_in old message.client ≡ Some held) (holds : HoldsSession old new message.client after) (same : length new.clients ≡ length old.clients) where
  grounds : Grounds setup history
  grounds = run_grounds setup history ran

  known : IsKnown setup history message.client held
  known = known_of setup history old message.client held stands found

  -- a reply that changes nothing
  unchanged : effect setup history (Deliver row) ≡ moment (Deliver row) IgnoredSo [] → result ≡ Ignored → after ≡ held → IsTaken setup history row message result new
  unchanged is ignored kept =
      ignored_as setup history row message result new is ignored
      (same_stands setup history old new message.client held stands found (subst (λ (h : ClientSession). HoldsSession old new message.client h) kept holds) same)

  -- nothing runs
  taken_idle : running history message.client ≡ None → result ≡ Ignored → after ≡ held → IsTaken setup history row message result new
  taken_idle idle = unchanged (deliver_is setup history row message reply at e ∙ ap (takes_so setup history (Deliver row) message) idle)

  module _ (transaction : Transaction) (r : running history message.client ≡ Some transaction) where
    wanted_so : (b : Bool) → is_wanted history transaction message ≡ b → effect setup history (Deliver row)
        ≡ cond b (moves history (Deliver row) transaction (move_of setup transaction.request (taken_in history transaction ++ message ∷ []) message)) (moment (Deliver row) IgnoredSo [])
    wanted_so b w =
        deliver_is setup history row message reply at e ∙ ap (takes_so setup history (Deliver row) message) r
        ∙ ap (λ c. cond c (moves history (Deliver row) transaction (move_of setup transaction.request (taken_in history transaction ++ message ∷ []) message)) (moment (Deliver row) IgnoredSo [])) w

    -- a reply to another transaction
    taken_late : (message.ticket == transaction.ticket) ≡ false → result ≡ Ignored → after ≡ held → IsTaken setup history row message result new
    taken_late late = unchanged (wanted_so false (ap (λ b. b && not (is_answered (taken_in history transaction) message.partition message.call)) late))

    module _ (running' : Running) (stands_now : RunningStands setup transaction.request (taken_in history transaction) running') (now : (message.ticket == transaction.ticket) ≡ true)
        (drawn : transaction.ticket ≡ held.ticket) (takes : TakesReply setup transaction.request (taken_in history transaction) message held result after) where
      runs_on : (taken : List Message) (h : History) (ticket : ℕ) (o : Option Running) → ticket ≡ held.ticket → taken_in h transaction ≡ taken → GoesOn setup transaction.request taken o → MayRun setup h message.client ticket (Some transaction) o
      runs_on taken h ticket None t i on = absurd on
      runs_on taken h ticket (Some running'') t i on = record {
        own = (running_is history message.client transaction r).1;
        drawn = drawn ∙ sym t;
        stands = subst (λ (ts : List Message). RunningStands setup transaction.request ts running'') (sym i) on;
      }

      -- a reply in whose place one was taken
      repeated : is_answered (taken_in history transaction) message.partition message.call ≡ true → IsTaken setup history row message result new
      repeated answered =
          ignored_as setup history row message result new (wanted_so false ((λ i. now i && not (answered i)))) ignored
          (stands_with setup history history old new message.client after stands holds (stands.count ∙ sym same) (λ other apart o is. is) know)
        where
          ignored : result ≡ Ignored
          ignored = (takes.takes.repeated answered).0

          know : IsKnown setup history message.client after
          know = record {
            session = known.session ∙ ap (λ b. cond b Open Closed) (sym takes.is_open);
            counter = takes.counter ∙ ap (λ x. cond (is_ignored x) held.counter (max (counter_in message.reply) held.counter)) ignored ∙ known.counter;
            ticket = takes.ticket ∙ known.ticket;
            runs = subst (λ (o : Option Transaction). MayRun setup history message.client after.ticket o after.running) (sym r)
                (runs_on (taken_in history transaction) history after.ticket after.running takes.ticket refl (takes.takes.repeated answered).1);
          }

      -- a reply that is taken
      first : is_answered (taken_in history transaction) message.partition message.call ≡ false → IsTaken setup history row message result new
      first new_reply = taken_from setup history row message result new (subst (λ (x : Moment). TakenAs setup history message result new x) (sym is) as_moved)
        where
          move : PlainMove
          move = move_of setup transaction.request (taken_in history transaction ++ message ∷ []) message

          m : Moment
          m = moves history (Deliver row) transaction move

          wanted : is_wanted history transaction message ≡ true
          wanted = (λ i. now i && not (new_reply i))

          is : effect setup history (Deliver row) ≡ m
          is = wanted_so true wanted

          answer_is : result ≡ told move
          answer_is = takes.takes.answered new_reply

          grounds_after : Grounds setup (m ∷ history)
          grounds_after = grounds_step setup m history grounds (moved row message reply transaction move at e r wanted (moving setup transaction.request (taken_in history transaction ++ message ∷ []) message))
              (inr (row, message, reply, transaction, at, e, r, wanted, refl))

          its : is_of transaction message ≡ true
          its = is_of_wanted history message transaction r wanted

          more : taken_in (m ∷ history) transaction ≡ taken_in history transaction ++ message ∷ []
          more = taken_more m history transaction ∙ ap (λ o. taken_in history transaction ++ filter (is_of transaction) (option_to_list o)) (moves_took history row transaction move message at)
              ∙ ap (λ b. taken_in history transaction ++ cond b (message ∷ []) []) its

          by : Moved history (Deliver row) transaction move m
          by = moved_so history (Deliver row) transaction move

          count : length m.sent ≡ length (calls_out move)
          count = ap length by.sent ∙ length-map (calls_out move) (call_message transaction.client transaction.ticket)

          running_so : (b : Bool) → is_last result ≡ b → running (m ∷ history) message.client ≡ cond b None (Some transaction)
          running_so b k = delivered_running m history row message by.own at b (by.last ∙ ap is_last (sym answer_is) ∙ k) ∙ ap (λ o. cond b None o) r

          runs_now : (b : Bool) → is_last result ≡ b → MayRun setup (m ∷ history) message.client after.ticket (cond b None (Some transaction)) after.running
          runs_now true k = subst (λ (o : Option Running). MayRun setup (m ∷ history) message.client after.ticket None o) (sym (takes.ended k)) tt
          runs_now false k = runs_on (taken_in history transaction ++ message ∷ []) (m ∷ history) after.ticket after.running takes.ticket more (takes.takes.goes_on new_reply k)

          know : IsKnown setup (m ∷ history) message.client after
          know = record {
            session = delivered_session m history row message by.own at ∙ known.session ∙ ap (λ b. cond b Open Closed) (sym takes.is_open);
            counter = takes.counter ∙ ap (λ b. cond b held.counter (max (counter_in message.reply) held.counter)) (ap is_ignored answer_is ∙ told_taken move) ∙ ap (max (counter_in message.reply)) known.counter
                ∙ sym (delivered_counter m history row message by.own at (moves_is_move history (Deliver row) transaction move));
            ticket = takes.ticket ∙ known.ticket ∙ sym (delivered_ticket m history row message by.own at);
            runs = subst (λ (o : Option Transaction). MayRun setup (m ∷ history) message.client after.ticket o after.running) (sym (running_so (is_last result) refl)) (runs_now (is_last result) refl);
          }

          sent_so : (b : Bool) → sends_calls result ≡ b → map (call_message transaction.client transaction.ticket) (cond b (waiting_calls setup transaction.request (taken_in history transaction ++ message ∷ [])) (ending result))
              ≡ cond b (waiting setup (m ∷ history) message.client) (map (call_message message.client message.ticket) (ending result))
          sent_so false k = let own = of_transaction transaction message its in sym (λ i. map (call_message (own.0 i) (own.1 i)) (ending result))
          sent_so true k =
              let on = running_so false (sends_on result k) in
              ap (λ (ts : List Message). map (call_message transaction.client transaction.ticket) (waiting_calls setup transaction.request ts)) (sym more)
              ∙ sym (waiting_some setup (m ∷ history) message.client transaction on (grounds_after.agreed message.client transaction on))

          as_moved : TakenAs setup history message result new m
          as_moved = record {
            answer = by.answer ∙ (λ i. answer_of (sym answer_is i) (next_rows history (sym count i)));
            sent = by.sent ∙ ap (map (call_message transaction.client transaction.ticket)) (takes.takes.sent new_reply) ∙ sent_so (sends_calls result) refl;
            few = subst (λ n. n ≤ max_keys) (sym count) (takes.takes.few new_reply);
            stands = stands_after setup m history old new message.client after stands holds (delivered_known m history row message by.own at ∙ stands.count ∙ sym same) (delivered_others m history row message by.own at) know;
          }

      pub taken_now : IsTaken setup history row message result new
      taken_now = go (is_answered (taken_in history transaction) message.partition message.call) refl
        where
          go : (b : Bool) → is_answered (taken_in history transaction) message.partition message.call ≡ b → IsTaken setup history row message result new
          go true answered = repeated answered
          go false new_reply = first new_reply

    -- the message is a reply to one of its calls
    is_reply : (message.ticket == transaction.ticket) ≡ true → IsReplyTo setup transaction.request (taken_in history transaction) message
    is_reply now =
        let mine = sym (running_is history message.client transaction r).1 in
        its_reply setup history message.client transaction row message reply grounds r at e (and_from (message.client == transaction.client) (message.ticket == transaction.ticket) (eq-eqb message.client transaction.client mine) now)

  -- as the code reports it
  pub taken_held : (held.running ≡ None → (result ≡ Ignored) × (after ≡ held)) → ((message.ticket ≡ held.ticket → ⊥) → (result ≡ Ignored) × (after ≡ held))
      → ((setup : Setup) (request : Intent) (taken : List Message) (running' : Running) → message.ticket ≡ held.ticket → held.running ≡ Some running' → RunningStands setup request taken running' → IsReplyTo setup request taken message
      → TakesReply setup request taken message held result after)
      → IsTaken setup history row message result new
  taken_held idle late taken = go (running history message.client) held.running refl refl known.runs
    where
      go : (o : Option Transaction) (h : Option Running) → running history message.client ≡ o → held.running ≡ h → MayRun setup history message.client held.ticket o h → IsTaken setup history row message result new
      go None None r k runs = let i = idle k in taken_idle r i.0 i.1
      go None (Some running') r k runs = absurd runs
      go (Some transaction) None r k runs = absurd runs
      go (Some transaction) (Some running') r k runs = by (message.ticket == transaction.ticket) refl
        where
          by : (b : Bool) → (message.ticket == transaction.ticket) ≡ b → IsTaken setup history row message result new
          by false n =
              let l = late (λ t. let yes = eq-eqb message.ticket transaction.ticket (t ∙ sym runs.drawn) in cc) in
              taken_late transaction r n l.0 l.1
          by true n =
              taken_now transaction r running' runs.stands n runs.drawn
              (taken setup transaction.request (taken_in history transaction) running' (eqb-true message.ticket transaction.ticket n ∙ runs.drawn) k runs.stands (is_reply transaction r n))

-- a client that never said hello
pub taken_unknown : (setup : Setup) (history : History) (row : ℕ) (message : Message) (reply : Reply) (old new : SessionsContent) → StandsFor setup history old → message_at history row ≡ Some message → message.reply ≡ Some reply
    → client_in old message.client ≡ None → new ≡ old → IsTaken setup history row message Ignored new
taken_unknown setup history row message reply old new stands at e none same =
    let unknown = unknown_of setup history old message.client stands none in
    ignored_as setup history row message Ignored new (deliver_is setup history row message reply at e ∙ ap (takes_so setup history (Deliver row) message) unknown.idle) refl
    (subst (λ (c : SessionsContent). StandsFor setup history c) (sym same) stands)
