-- A client's tickets are no more than the messages: for `Sessions::start`.
use Rattle.std.proofs.Common.{◌≡◌, ℕ, ◌<◌, ◌≤◌, List, [], ◌∷◌, Bool, true, false, ◌==◌, ◌⊎◌, inl, inr, refl, sym, ap, ◌∙◌, subst, cond, length, map, Option, Some, None, arith, length-append}
use Rattle.std.proofs.lemmas.List.{length-map}
use Rattle.stamps.specs.Bounds.{IsParts}
use Rattle.plain_store.specs.Words.{Item, Setup}
use Rattle.plain_store.specs.declared.answer.Answer.{Answer}
use Rattle.plain_store.specs.declared.step.Act.{Act}
use Rattle.plain_store.specs.declared.step.Act.TheVariants.{Put, Get as GetAll, Find}
use Rattle.plain_store.specs.History.{Moment, History, messages, Intent, begun_by, one_if_by, tickets}
use Rattle.plain_store.specs.Writing.{Outgoing, keys_written}
use Rattle.plain_store.specs.Run.{tests, call_message, effect, moment_of, run}
use Rattle.plain_store.proofs.Steps.{moment_act}
use Rattle.plain_store.proofs.StepEffects.{after}
use Rattle.plain_store.proofs.BadKeys.{transaction_keys}
use Rattle.tenant_sessions.specs.Sessions.{IsRun}
use Rattle.tenant_sessions.proofs.Starting.{write_calls, read_calls, find_calls}

-- a transaction that begins sends a message
abbrev Sends : Moment → Type 0
Sends m = (begun_by m.act m.answer ≡ None) ⊎ (0 < length m.sent)

some_sent : (client ticket : ℕ) (calls : List Outgoing) (n : ℕ) → length calls ≡ n → 0 < n → 0 < length (map (call_message client ticket) calls)
some_sent client ticket calls n is some = let l = length-map calls (call_message client ticket) in omega (arith, l, is, some)

other_act : (setup : Setup) (history : History) (act : Act) → ((answer : Answer) → begun_by act answer ≡ None) → Sends (moment_of setup history act)
other_act setup history act none = inl (ap (λ a. begun_by a (moment_of setup history act).answer) (moment_act setup history act) ∙ none (moment_of setup history act).answer)

step_sends : (setup : Setup) (history : History) (act : Act) → IsParts setup.partitions → Sends (moment_of setup history act)
unfolding moment_of effect
step_sends setup history (Put client items) parts =
    after (Put client items) (tests setup history (Put client items)) (effect setup history (Put client items)) Sends (λ why. inl refl)
    (λ pass. let fits = transaction_keys (keys_written items) pass.1.1.1.1.0 in let some = fits.not_empty in let l = length-map items (λ (item : Item). item.key) in
    inr (some_sent client _ _ (length items) (write_calls setup _ items pass.1.1.1.1.0) (omega (arith, some, l))))
step_sends setup history (GetAll client keys) parts =
    after (GetAll client keys) (tests setup history (GetAll client keys)) (effect setup history (GetAll client keys)) Sends (λ why. inl refl)
    (λ pass. inr (some_sent client _ _ (length keys) (read_calls setup keys pass.1.1.1.1.0) (transaction_keys keys pass.1.1.1.1.0).not_empty))
step_sends setup history (Find client tag) parts =
    after (Find client tag) (tests setup history (Find client tag)) (effect setup history (Find client tag)) Sends (λ why. inl refl)
    (λ pass. inr (some_sent client _ _ setup.partitions (find_calls setup setup.partitions refl tag parts) parts.positive))
step_sends setup history act parts = other_act setup history act (λ answer. refl)

one_at_most : (client : ℕ) (o : Option (ℕ × Intent)) → one_if_by client o ≤ 1
one_at_most client None = omega arith
one_at_most client (Some begun) = go (begun.0 == client)
  where
    go : (b : Bool) → cond b 1 0 ≤ 1
    go true = omega arith
    go false = omega arith

ticket_step : (m : Moment) (history : History) (client : ℕ) → Sends m → tickets history client ≤ length (messages history) → tickets (m ∷ history) client ≤ length (messages (m ∷ history))
ticket_step m history client (inl none) before =
    let n : one_if_by client (begun_by m.act m.answer) ≡ 0 = ap (one_if_by client) none in
    let l = length-append (messages history) m.sent in omega (arith, n, l, before)
ticket_step m history client (inr some) before =
    let n = one_at_most client (begun_by m.act m.answer) in
    let l = length-append (messages history) m.sent in omega (arith, n, l, some, before)

tickets_from : (setup : Setup) (history : History) (acts : List Act) (client : ℕ) → IsParts setup.partitions → tickets history client ≤ length (messages history)
    → tickets (run setup history acts) client ≤ length (messages (run setup history acts))
tickets_from setup history [] client parts before = before
tickets_from setup history (act ∷ acts) client parts before =
    tickets_from setup (moment_of setup history act ∷ history) acts client parts (ticket_step (moment_of setup history act) history client (step_sends setup history act parts) before)

pub tickets_few : (setup : Setup) (history : History) (client : ℕ) → IsRun setup history → IsParts setup.partitions → tickets history client ≤ length (messages history)
tickets_few setup history client ran parts =
    subst (λ (h : History). tickets h client ≤ length (messages h)) (sym ran.is) (tickets_from setup [] ran.acts client parts (omega arith))
