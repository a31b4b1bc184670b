-- The calls that a client waits for, and a retry: for `Sessions::retry` and `call`.
use Rattle.std.proofs.Common.{◌≡◌, ℕ, suc, List, [], ◌∷◌, false, ◌==◌, refl, sym, ap, ◌∙◌, subst, cond, length, map, filter, not, slice_get, Option, Some, None, arith, eqb-true}
use Rattle.std.specs.Prelude.{Result, Ok, Err, IfOk}
use Rattle.std.proofs.lemmas.Bool.{false_from_ne_true}
use Rattle.std.proofs.lemmas.List.{length-map}
use Rattle.plain_store.specs.declared.answer.Answer.TheVariants.{Sent}
use Rattle.plain_store.specs.declared.message.Message.{Message}
use Rattle.plain_store.specs.declared.refusal.Refusal.{Refusal}
use Rattle.plain_store.specs.declared.step.Act.TheVariants.{Retry}
use Rattle.plain_store.specs.Words.{Setup}
use Rattle.plain_store.specs.History.{moment, History, Intent, Transaction, taken_in, running}
use Rattle.plain_store.specs.Writing.{Outgoing}
use Rattle.plain_store.specs.Moves.{calls_of, is_answered}
use Rattle.plain_store.specs.Run.{rows_are_used, tests, next_rows, call_message, is_decided, unanswered, resends, retries, effect, moment_of}
use Rattle.tenant_sessions.specs.declared.running.Running.{Running}
use Rattle.tenant_sessions.specs.declared.session.ClientSession.{ClientSession}
use Rattle.tenant_sessions.specs.Content.{SessionsContent, client_in}
use Rattle.tenant_sessions.specs.Held.{test_open}
use Rattle.tenant_sessions.specs.Running.{is_past, waiting_calls, RunningStands}
use Rattle.tenant_sessions.specs.Sessions.{IsRun, waiting_of, waiting, resent, MayRun, StandsFor}
use Rattle.tenant_sessions.proofs.DecidedKept.{Grounds}
use Rattle.tenant_sessions.proofs.RunningTransactions.{run_grounds}
use Rattle.tenant_sessions.proofs.Refusing.{known_of, unknown_of, is_passed, tested_by, comes_to, by_known}

-- ---- what is waited for

pub waiting_some : (setup : Setup) (history : History) (client : ℕ) (transaction : Transaction) → running history client ≡ Some transaction → is_decided history transaction.request ≡ is_past transaction.request (taken_in history transaction)
    → waiting setup history client ≡ map (call_message transaction.client transaction.ticket) (waiting_calls setup transaction.request (taken_in history transaction))
unfolding waiting waiting_of
waiting_some setup history client transaction r agreed =
    ap (waiting_of setup history) r
    ∙ ap (λ b. map (call_message transaction.client transaction.ticket) (filter (λ (out : Outgoing). not (is_answered (taken_in history transaction) out.partition out.call)) (calls_of setup b transaction.request (taken_in history transaction)))) agreed

pub waiting_none : (setup : Setup) (history : History) (client : ℕ) → running history client ≡ None → waiting setup history client ≡ []
unfolding waiting waiting_of
waiting_none setup history client r = ap (waiting_of setup history) r

-- ---- as the code reports it

-- what a known client waits for, where a transaction is held and where none is
abbrev WaitsFor : Setup → History → ℕ → ℕ → Option Running → Type 0
WaitsFor setup history client ticket None = waiting setup history client ≡ []
WaitsFor setup history client ticket (Some held) =
    (transaction : Transaction) × (waiting setup history client ≡ map (call_message client ticket) (waiting_calls setup transaction.request (taken_in history transaction))) × RunningStands setup transaction.request (taken_in history transaction) held

waits_for : (setup : Setup) (history : History) (client ticket : ℕ) (held : Option Running) → Grounds setup history → MayRun setup history client ticket (running history client) held → WaitsFor setup history client ticket held
waits_for setup history client ticket held grounds runs = go (running history client) held refl runs
  where
    go : (o : Option Transaction) (h : Option Running) → running history client ≡ o → MayRun setup history client ticket o h → WaitsFor setup history client ticket h
    go None None e r = waiting_none setup history client e
    go None (Some h) e r = absurd r
    go (Some transaction) None e r = absurd r
    go (Some transaction) (Some h) e r = (
      transaction,
      waiting_some setup history client transaction e (grounds.agreed client transaction e)
          ∙ (λ i. map (call_message (r.own i) (r.drawn i)) (waiting_calls setup transaction.request (taken_in history transaction))),
      r.stands,
    )

-- no call of a client that never said hello
pub call_unknown : (setup : Setup) (history : History) (sessions : SessionsContent) (client nth : ℕ) → StandsFor setup history sessions → client_in sessions client ≡ None → ◌≡◌ {A = Option Message} None (slice_get (waiting setup history client) nth)
call_unknown setup history sessions client nth stands at = ap (λ (ms : List Message). slice_get ms nth) (sym (waiting_none setup history client (unknown_of setup history sessions client stands at).idle))

-- what is so where nothing is held, and of the calls of what is held, is so of those that a known client waits for
waits_by : (P : List Message → Type 0) (setup : Setup) (history : History) (sessions : SessionsContent) (client : ℕ) (held : ClientSession) → IsRun setup history → StandsFor setup history sessions → client_in sessions client ≡ Some held
    → (held.running ≡ None → P [])
    → ((request : Intent) (taken : List Message) (running' : Running) → held.running ≡ Some running' → RunningStands setup request taken running' → P (map (call_message client held.ticket) (waiting_calls setup request taken)))
    → P (waiting setup history client)
waits_by P setup history sessions client held ran stands at idle told = go held.running refl (waits_for setup history client held.ticket held.running (run_grounds setup history ran) (known_of setup history sessions client held stands at).runs)
  where
    go : (o : Option Running) → held.running ≡ o → WaitsFor setup history client held.ticket o → P (waiting setup history client)
    go None e waits = subst P (sym waits) (idle e)
    go (Some running') e waits = subst P (sym waits.1) (told waits.0.request (taken_in history waits.0) running' e waits.2)

-- the call that the client's session reports
pub call_told : (setup : Setup) (history : History) (sessions : SessionsContent) (client nth : ℕ) (held : ClientSession) (out : Option Message) → IsRun setup history → StandsFor setup history sessions → client_in sessions client ≡ Some held
    → (held.running ≡ None → out ≡ None)
    → ((setup : Setup) (request : Intent) (taken : List Message) (running' : Running) → held.running ≡ Some running' → RunningStands setup request taken running' → out ≡ slice_get (map (call_message client held.ticket) (waiting_calls setup request taken)) nth)
    → out ≡ slice_get (waiting setup history client) nth
call_told setup history sessions client nth held out ran stands at idle told = waits_by (λ ms. out ≡ slice_get ms nth) setup history sessions client held ran stands at idle (told setup)

-- how many are sent again
pub count_told : (setup : Setup) (history : History) (sessions : SessionsContent) (client : ℕ) (held : ClientSession) (answer : Result ℕ Refusal) → IsRun setup history → StandsFor setup history sessions → client_in sessions client ≡ Some held
    → (held.running ≡ None → IfOk answer (λ count. count ≡ 0))
    → ((setup : Setup) (request : Intent) (taken : List Message) (running' : Running) → held.running ≡ Some running' → RunningStands setup request taken running' → IfOk answer (λ count. count ≡ length (waiting_calls setup request taken)))
    → IfOk answer (λ count. count ≡ length (waiting setup history client))
count_told setup history sessions client held (Err refusal) ran stands at idle told = tt
count_told setup history sessions client held (Ok count) ran stands at idle told =
    waits_by (λ ms. count ≡ length ms) setup history sessions client held ran stands at idle
    (λ request taken running' e now. told setup request taken running' e now ∙ sym (length-map (waiting_calls setup request taken) (call_message client held.ticket)))

-- ---- a retry

not_none : (n : ℕ) → (suc n == 0) ≡ false
not_none n = false_from_ne_true _ (λ none. omega (arith, eqb-true (suc n) 0 none))

-- what is sent again, and how it is reported
retries_as : (setup : Setup) (history : History) (client : ℕ) (o : Option Transaction)
    → retries setup history (Retry client) o ≡ moment (Retry client) (resent (length (waiting_of setup history o)) (next_rows history (length (waiting_of setup history o)))) (waiting_of setup history o)
unfolding waiting_of
retries_as setup history client None = refl
retries_as setup history client (Some transaction) = go (unanswered setup history transaction)
  where
    go : (outs : List Outgoing) → resends history (Retry client) transaction outs
        ≡ moment (Retry client) (resent (length (map (call_message transaction.client transaction.ticket) outs)) (next_rows history (length (map (call_message transaction.client transaction.ticket) outs)))) (map (call_message transaction.client transaction.ticket) outs)
    go [] = refl
    go (out ∷ outs) =
        let f = call_message transaction.client transaction.ticket in
        ap (λ n. moment (Retry client) (Sent (Some (next_rows history n))) (map f (out ∷ outs))) (sym (length-map (out ∷ outs) f))
        ∙ ap (λ b. moment (Retry client) (cond b (Sent None) (Sent (Some (next_rows history (length (map f (out ∷ outs))))))) (map f (out ∷ outs))) (sym (not_none (length (map f outs))))

retry_is : (setup : Setup) (history : History) (client : ℕ) → effect setup history (Retry client) ≡ retries setup history (Retry client) (running history client)
unfolding effect
retry_is setup history client = refl

-- what the tests of a retry come to
pub retry_tested : (setup : Setup) (history : History) (sessions : SessionsContent) (client : ℕ) (held : ClientSession) → StandsFor setup history sessions → rows_are_used history ≡ false → client_in sessions client ≡ Some held
    → tested_by (tests setup history (Retry client)) ≡ test_open held
retry_tested setup history sessions client held stands rows at = by_known setup history client held (rows_are_used history) is_passed (known_of setup history sessions client held stands at) rows

pub retry_told : (setup : Setup) (history : History) (client count : ℕ) → tested_by (tests setup history (Retry client)) ≡ is_passed → count ≡ length (waiting setup history client)
    → moment_of setup history (Retry client) ≡ moment (Retry client) (resent count (next_rows history count)) (waiting setup history client)
unfolding waiting
retry_told setup history client count passed counted =
    comes_to setup history (Retry client) is_passed passed ∙ retry_is setup history client ∙ retries_as setup history client (running history client)
    ∙ ap (λ n. moment (Retry client) (resent n (next_rows history n)) (waiting setup history client)) (sym counted)
