-- What a step adds to the log of a partition.
use Rattle.std.proofs.Common.{◌≡◌, ◌+◌, ℕ, List, [], ◌∷◌, ◌++◌, Bool, true, false, cond, ◌==◌, length, Some, None, Option, refl, sym, ap, ◌∙◌, subst, arith, length-append}
use Rattle.std.specs.List.{cons_option}
use Rattle.std.proofs.lemmas.Bool.{eqb-true, ne_eqb}
use Rattle.plain_store.specs.Words.{Setup, IsAct}
use Rattle.plain_store.specs.Log.{Exchange, Log}
use Rattle.plain_store.specs.Replies.{reply_after}
use Rattle.plain_store.specs.History.{Moment, moment, History, message_at, keep_in, log_at, exchange_of, Transaction, tickets, Writes, Gets, Finds}
use Rattle.plain_store.specs.Moves.{Move, Decides, Asks, Begins, Fails, calls_of}
use Rattle.plain_store.specs.Run.{answer_to, moment_of, moves, next_stamp}
use Rattle.plain_store.proofs.Steps.{Happens, refused, greeted, put_begun, get_begun, find_begun, served, ignored, moved, lost, not_resent, resent, stopped, keep_set, collected, happens, moment_act}
use Rattle.plain_store.proofs.FreshLogs.{no_replies}
use Rattle.settle.specs.Words.{Act, Deliver, CollectAt, SetKeep, Call, Collect, Message, Refusal, Reply, ToCollect, Answer, Refused, Replied, Freed}
use Rattle.partition.specs.Events.{Event}
use Rattle.settle.specs.Input.{Input, setup_for}
use Rattle.settle.specs.Fronts.{AgreesWithEvent, reply_in}
use Rattle.settle.specs.Trace.{OfJournal, TracedStep, Trace, after, with_keep, with_act, keep_before, ready, told_next, answered}
use Rattle.settle.specs.Standing.{call_in, call_coming, reply_told}
use Rattle.settle.proofs.Words.{some_is}

abbrev pub exchange : Call → Reply → Exchange
exchange call reply = record { call = call; reply = reply }

abbrev pub exchange_in : ℕ → Reply → Option Message → List Exchange
exchange_in partition reply None = []
exchange_in partition reply (Some message) = cond (message.partition == partition) (exchange message.call reply ∷ []) []

-- what a step that was answered so adds to the log of a partition
abbrev pub added : Setup → History → ℕ → Act → Answer → List Exchange
added setup older partition (Deliver row) (Replied at reply) = exchange_in partition reply (message_at older row)
added setup older partition (CollectAt p) (Freed count) = cond (p == partition) (record { call = Collect (keep_in setup older); reply = ToCollect count } ∷ []) []
added setup older partition act answer = []

Adds : Setup → History → Moment → Type 0
Adds setup older m = (partition : ℕ) → log_at setup (m ∷ older) partition ≡ added setup older partition m.act m.answer ++ log_at setup older partition

refused_adds : (setup : Setup) (older : History) (act : Act) (why : Refusal) → Adds setup older (moment act (Refused why) [])
unfolding Adds
refused_adds setup older (Deliver row) why p = refl
refused_adds setup older (CollectAt q) why p = refl
refused_adds setup older _ why p = refl

moved_adds : (setup : Setup) (older : History) (row : ℕ) (transaction : Transaction) (move : Move) → Adds setup older (moves older (Deliver row) transaction move)
unfolding Adds
moved_adds setup older row transaction (Decides stamp calls) p = ap (λ es. es ++ log_at setup older p) (no_replies p transaction.client transaction.ticket calls)
moved_adds setup older row transaction (Asks calls) p = ap (λ es. es ++ log_at setup older p) (no_replies p transaction.client transaction.ticket calls)
moved_adds setup older row transaction (Begins calls) p = ap (λ es. es ++ log_at setup older p) (no_replies p transaction.client transaction.ticket calls)
moved_adds setup older row transaction (Fails why []) p = refl
moved_adds setup older row transaction (Fails why (out ∷ outs)) p = ap (λ es. es ++ log_at setup older p) (no_replies p transaction.client transaction.ticket (out ∷ outs))
moved_adds setup older row transaction _ p = refl

served_adds : (setup : Setup) (older : History) (row partition : ℕ) (message : Message) (reply : Reply) → message_at older row ≡ Some message
    → cons_option {X = Exchange} (exchange_of partition message (Some reply)) [] ≡ exchange_in partition reply (message_at older row)
served_adds setup older row partition message reply at = go (message.partition == partition) ∙ ap (exchange_in partition reply) (sym at)
  where
    go : (b : Bool) → cons_option {X = Exchange} (cond b (Some (exchange message.call reply)) None) [] ≡ cond b (exchange message.call reply ∷ []) []
    go true = refl
    go false = refl

step_adds : (setup : Setup) (older : History) (m : Moment) → Happens setup older m → Adds setup older m
unfolding Adds
step_adds setup older m (refused act why) p = refused_adds setup older act why p
step_adds setup older m (greeted client base) p = refl
step_adds setup older m (put_begun client items valid idle good) p = ap (λ es. es ++ log_at setup older p) (no_replies p client (tickets older client + 1) (calls_of setup false (Writes (next_stamp older client) items) []))
step_adds setup older m (get_begun client keys idle) p = ap (λ es. es ++ log_at setup older p) (no_replies p client (tickets older client + 1) (calls_of setup false (Gets keys) []))
step_adds setup older m (find_begun client tag idle) p = ap (λ es. es ++ log_at setup older p) (no_replies p client (tickets older client + 1) (calls_of setup false (Finds tag) []))
step_adds setup older m (served row message at none) p =
    ap (λ es. es ++ log_at setup older p) (served_adds setup older row p message (reply_after setup.room (log_at setup older message.partition) message.call) at)
step_adds setup older m (ignored row message at) p = refl
step_adds setup older m (moved row message reply transaction move at e r wanted how) p = moved_adds setup older row transaction move p
step_adds setup older m (lost row) p = refl
step_adds setup older m (not_resent client) p = refl
step_adds setup older m (resent client transaction out outs r u) p = ap (λ es. es ++ log_at setup older p) (no_replies p transaction.client transaction.ticket (out ∷ outs))
step_adds setup older m (stopped client) p = refl
step_adds setup older m (keep_set keep) p = refl
step_adds setup older m (collected partition n) p = refl

-- ---- a call is replied, and a collection is reported what it freed

abbrev Uncrossed : Act → Answer → Type 0
Uncrossed (Deliver row) (Freed count) = ⊥
Uncrossed (CollectAt partition) (Replied row reply) = ⊥
Uncrossed act answer = Unit {0}

refused_uncrossed : (act : Act) (why : Refusal) → Uncrossed act (Refused why)
refused_uncrossed (Deliver row) why = tt
refused_uncrossed (CollectAt partition) why = tt
refused_uncrossed act why = tt

moved_uncrossed : (older : History) (row : ℕ) (transaction : Transaction) (move : Move) → Uncrossed (moves older (Deliver row) transaction move).act (moves older (Deliver row) transaction move).answer
moved_uncrossed older row transaction (Fails why []) = tt
moved_uncrossed older row transaction (Fails why (out ∷ outs)) = tt
moved_uncrossed older row transaction _ = tt

step_uncrossed : (setup : Setup) (older : History) (m : Moment) → Happens setup older m → Uncrossed m.act m.answer
step_uncrossed setup older m (refused act why) = refused_uncrossed act why
step_uncrossed setup older m (moved row message reply transaction move at e r wanted how) = moved_uncrossed older row transaction move
step_uncrossed setup older m _ = tt

-- ---- what is added is what was brought, with what was reported

call_from : (x y : Call) → Some x ≡ Some y → x ≡ y
call_from x y e = cc

pub one_exchange : (x y : Exchange) → ◌≡◌ {A = List Exchange} (x ∷ []) (y ∷ []) → x ≡ y
one_exchange x y e = cc

pub no_exchange : (y : Exchange) (ys : List Exchange) → ◌≡◌ {A = List Exchange} [] (y ∷ ys) → ⊥
no_exchange y ys e = cc

module _ (setup : Setup) (history : History) (partition : ℕ) (c : Call) (r : Reply) where
  message_added : (row : ℕ) (reply : Reply) (o : Option Message) → call_in partition o ≡ Some c → reply ≡ r → exchange_in partition reply o ≡ exchange c r ∷ []
  message_added row reply None brought same = cc
  message_added row reply (Some message) brought same = go (message.partition == partition) brought
    where
      go : (b : Bool) → cond b (Some message.call) None ≡ Some c → cond b (exchange message.call reply ∷ []) [] ≡ exchange c r ∷ []
      go true e = λ i. exchange (call_from message.call c e i) (same i) ∷ []
      go false e = cc

  collect_added : (b : Bool) (count : ℕ) → cond b (Some (Collect (keep_in setup history))) None ≡ Some c → ToCollect count ≡ r → cond b (exchange (Collect (keep_in setup history)) (ToCollect count) ∷ []) [] ≡ exchange c r ∷ []
  collect_added true count e same = λ i. exchange (call_from (Collect (keep_in setup history)) c e i) (same i) ∷ []
  collect_added false count e same = cc

  brought_added : (act : Act) (answer : Answer) → Uncrossed act answer → call_coming setup history partition act ≡ Some c → reply_told answer ≡ Some r → added setup history partition act answer ≡ exchange c r ∷ []
  brought_added (Deliver row) (Replied at reply) fits brought is = message_added row reply (message_at history row) brought (some_is reply r is)
  brought_added (Deliver row) (Freed count) fits brought is = absurd fits
  brought_added (CollectAt p) (Freed count) fits brought is = collect_added (p == partition) count brought (some_is (ToCollect count) r is)
  brought_added (CollectAt p) (Replied at reply) fits brought is = absurd fits
  brought_added act answer fits brought is = cc

  message_brought : (reply : Reply) (o : Option Message) → exchange_in partition reply o ≡ exchange c r ∷ [] → (call_in partition o ≡ Some c) × (Some reply ≡ Some r)
  message_brought reply None is = absurd (no_exchange (exchange c r) [] is)
  message_brought reply (Some message) is = go (message.partition == partition) is
    where
      go : (b : Bool) → cond b (exchange message.call reply ∷ []) [] ≡ exchange c r ∷ [] → (cond b (Some message.call) None ≡ Some c) × (Some reply ≡ Some r)
      go true e = let same = one_exchange (exchange message.call reply) (exchange c r) e in (ap (λ (x : Exchange). Some x.call) same, ap (λ (x : Exchange). Some x.reply) same)
      go false e = absurd (no_exchange (exchange c r) [] e)

  collect_brought : (b : Bool) (count : ℕ) → cond b (exchange (Collect (keep_in setup history)) (ToCollect count) ∷ []) [] ≡ exchange c r ∷ [] → (cond b (Some (Collect (keep_in setup history))) None ≡ Some c) × (Some (ToCollect count) ≡ Some r)
  collect_brought true count e = let same = one_exchange (exchange (Collect (keep_in setup history)) (ToCollect count)) (exchange c r) e in (ap (λ (x : Exchange). Some x.call) same, ap (λ (x : Exchange). Some x.reply) same)
  collect_brought false count e = absurd (no_exchange (exchange c r) [] e)

  added_brought : (act : Act) (answer : Answer) → added setup history partition act answer ≡ exchange c r ∷ [] → (call_coming setup history partition act ≡ Some c) × (reply_told answer ≡ Some r)
  added_brought (Deliver row) (Replied at reply) is = message_brought reply (message_at history row) is
  added_brought (CollectAt p) (Freed count) is = collect_brought (p == partition) count is
  added_brought act answer is = absurd (no_exchange (exchange c r) [] is)

-- ---- the step of a journal

pub cancel : (front log : Log) (e : Exchange) → front ++ log ≡ e ∷ log → front ≡ e ∷ []
cancel [] log e is = absurd (let bad : length log ≡ length (e ∷ log) = ap length is in omega (arith, bad))
cancel (x ∷ []) log e is = cc
cancel (x ∷ y ∷ rest) log e is = absurd (let bad : length (x ∷ y ∷ rest ++ log) ≡ length (e ∷ log) = ap length is in omega (arith, bad, length-append rest log))

-- a Keep step adds nothing
keep_quiet : (setup : Setup) (history : History) (keep : Option ℕ) (partition : ℕ) → log_at setup (with_keep setup history keep) partition ≡ log_at setup history partition
unfolding Adds
keep_quiet setup history None partition = refl
keep_quiet setup history (Some keep) partition =
    step_adds setup history (moment_of setup history (SetKeep keep)) (happens setup history (SetKeep keep) tt) partition
    ∙ ap (λ act. added setup history partition act (moment_of setup history (SetKeep keep)).answer ++ log_at setup history partition) (moment_act setup history (SetKeep keep))

act_adds : (setup : Setup) (history : History) (act : Act) (partition : ℕ) → IsAct act → log_at setup (with_act setup act history) partition ≡ added setup history partition act (answer_to setup history act) ++ log_at setup history partition
unfolding answer_to Adds
act_adds setup history act partition valid =
    step_adds setup history (moment_of setup history act) (happens setup history act valid) partition
    ∙ ap (λ a. added setup history partition a (moment_of setup history act).answer ++ log_at setup history partition) (moment_act setup history act)

pub adds : (input : Input) (older : Trace) (taken : TracedStep) (partition : ℕ) → IsAct taken.act
    → log_at (setup_for input) (after input (taken ∷ older)) partition ≡ added (setup_for input) (ready input older taken.origin) partition taken.act (answered input older taken) ++ log_at (setup_for input) (after input older) partition
adds input older taken partition valid =
    act_adds (setup_for input) (ready input older taken.origin) taken.act partition valid
    ∙ ap (λ log. added (setup_for input) (ready input older taken.origin) partition taken.act (answered input older taken) ++ log) (keep_quiet (setup_for input) (after input older) (keep_before input older taken.origin) partition)

uncrossed : (setup : Setup) (history : History) (act : Act) → IsAct act → Uncrossed act (answer_to setup history act)
unfolding answer_to
uncrossed setup history act valid =
    let m = moment_of setup history act in
    subst (λ a. Uncrossed a m.answer) (moment_act setup history act) (step_uncrossed setup history m (happens setup history act valid))

module _ (input : Input) (older : Trace) (partition : ℕ) (act : Act) (event : Event) (valid : IsAct act) where
  abbrev now : History
  now = ready input older (OfJournal partition)

  -- the step brings the event's call, and is replied what the event says
  pub agrees_event : call_coming (setup_for input) now partition act ≡ Some event.call → reply_told (answer_to (setup_for input) now act) ≡ Some event.reply → AgreesWithEvent input older (OfJournal partition) act partition event
  agrees_event brought replied =
      adds input older (record { origin = OfJournal partition; act = act }) partition valid
      ∙ ap (λ es. es ++ log_at (setup_for input) (after input older) partition) (brought_added (setup_for input) now partition event.call event.reply act (answer_to (setup_for input) now act) (uncrossed (setup_for input) now act valid) brought replied)

  pub event_agreed : AgreesWithEvent input older (OfJournal partition) act partition event → (call_coming (setup_for input) now partition act ≡ Some event.call) × (reply_told (answer_to (setup_for input) now act) ≡ Some event.reply)
  event_agreed agrees =
      added_brought (setup_for input) now partition event.call event.reply act (answer_to (setup_for input) now act)
      (cancel (added (setup_for input) now partition act (answer_to (setup_for input) now act)) (log_at (setup_for input) (after input older) partition) (exchange event.call event.reply)
      (sym (adds input older (record { origin = OfJournal partition; act = act }) partition valid) ∙ agrees))

-- ---- a reply that is delivered adds nothing

move_quiet : (setup : Setup) (older : History) (row at partition : ℕ) (transaction : Transaction) (move : Move) → added setup older partition (Deliver row) (moves older (Deliver at) transaction move).answer ≡ []
move_quiet setup older row at partition transaction (Fails why []) = refl
move_quiet setup older row at partition transaction (Fails why (out ∷ outs)) = refl
move_quiet setup older row at partition transaction _ = refl

row_is : (x y : ℕ) → Deliver x ≡ Deliver y → x ≡ y
row_is x y e = cc

reply_quiet : (setup : Setup) (older : History) (m : Moment) → Happens setup older m → (row partition : ℕ) (reply : Reply) → m.act ≡ Deliver row → reply_in (message_at older row) ≡ Some reply → added setup older partition (Deliver row) m.answer ≡ []
reply_quiet setup older m (refused act why) row p reply is delivers = refl
reply_quiet setup older m (served at message there none) row p reply is delivers =
    absurd (let bad : None ≡ Some reply = sym none ∙ ap reply_in (sym there) ∙ ap (λ r. reply_in (message_at older r)) (row_is at row is) ∙ delivers in cc)
reply_quiet setup older m (moved at message r transaction move there e runs wanted how) row p reply is delivers = move_quiet setup older row at p transaction move
reply_quiet setup older m _ row p reply is delivers = refl

pub delivered_quiet : (input : Input) (older : Trace) (row partition : ℕ) (reply : Reply) → reply_in (message_at (after input older) row) ≡ Some reply → added (setup_for input) (after input older) partition (Deliver row) (told_next input older (Deliver row)) ≡ []
unfolding answer_to
delivered_quiet input older row partition reply delivers =
    reply_quiet (setup_for input) (after input older) (moment_of (setup_for input) (after input older) (Deliver row)) (happens (setup_for input) (after input older) (Deliver row) tt) row partition reply
    (moment_act (setup_for input) (after input older) (Deliver row)) delivers

-- ---- what is added at one partition is added at no other

pub added_once : (setup : Setup) (older : History) (p q : ℕ) (e : Exchange) (act : Act) (answer : Answer) → (q ≡ p → ⊥) → added setup older q act answer ≡ e ∷ [] → added setup older p act answer ≡ []
added_once setup older p q e (Deliver row) (Replied at reply) apart is = go (message_at older row) is
  where
    one : (n : ℕ) (x : Exchange) (b : Bool) → (n == q) ≡ b → cond b (x ∷ []) [] ≡ e ∷ [] → ◌≡◌ {A = List Exchange} (cond (n == p) (x ∷ []) []) []
    one n x true h is = ap (λ b. cond b (x ∷ []) []) (ne_eqb n p (λ same. apart (sym (eqb-true n q h) ∙ same)))
    one n x false h is = absurd (no_exchange e [] is)

    go : (o : Option Message) → exchange_in q reply o ≡ e ∷ [] → exchange_in p reply o ≡ []
    go None is = refl
    go (Some message) is = one message.partition (exchange message.call reply) (message.partition == q) refl is
added_once setup older p q e (CollectAt r) (Freed count) apart is = one (r == q) refl is
  where
    one : (b : Bool) → (r == q) ≡ b → cond b (exchange (Collect (keep_in setup older)) (ToCollect count) ∷ []) [] ≡ e ∷ [] → ◌≡◌ {A = List Exchange} (cond (r == p) (exchange (Collect (keep_in setup older)) (ToCollect count) ∷ []) []) []
    one true h is = ap (λ b. cond b (exchange (Collect (keep_in setup older)) (ToCollect count) ∷ []) []) (ne_eqb r p (λ same. apart (sym (eqb-true r q h) ∙ same)))
    one false h is = absurd (no_exchange e [] is)
added_once setup older p q e act answer apart is = absurd (no_exchange e [] is)
