-- Steps that ask for memory are not refused: for the calls of `Tenant`.
use Rattle.std.proofs.Common.{◌≡◌, ℕ, [], ◌∷◌, Bool, true, false, cond, ◌==◌, refl, sym, subst, is_some, Option, Some, None, Result, Ok, Err}
use Rattle.std.specs.Prelude.{OnErr, MatchResult}
use Rattle.plain_store.specs.declared.answer.Answer.TheVariants.{Ignored, Sent}
use Rattle.plain_store.specs.declared.message.Message.{Message}
use Rattle.plain_store.specs.declared.step.Act.{Act}
use Rattle.plain_store.specs.declared.step.Act.TheVariants.{Deliver, Retry}
use Rattle.plain_store.specs.Words.{Setup}
use Rattle.plain_store.specs.History.{Moment, moment, History, Intent, Writes, Gets, Finds, Transaction}
use Rattle.plain_store.specs.Moves.{Move, Fails}
use Rattle.plain_store.specs.Run.{moment_of, effect, answer_to, moves, takes, is_wanted, next_rows}
use Rattle.tenant_sessions.specs.declared.begin.Begin.{Begin}
use Rattle.tenant_sessions.specs.Sessions.{IsBegin, act_for, resent}
use Rattle.world.specs.Memory.{MayTakeMemory, IsRefused}

-- what is known of the moment reports the answer
pub asks_by : (setup : Setup) (history : History) (act : Act) (m : Moment) → moment_of setup history act ≡ m → MayTakeMemory history act m.answer → MayTakeMemory history act (answer_to setup history act)
unfolding answer_to
asks_by setup history act m is asks = subst (λ (x : Moment). MayTakeMemory history act x.answer) (sym is) asks

moved : (history : History) (row : ℕ) (transaction : Transaction) (move : Move) → IsRefused (moves history (Deliver row) transaction move).answer → ⊥
moved history row transaction (Fails refusal []) r = let e = r.1 in cc
moved history row transaction (Fails refusal (out ∷ outs)) r = let e = r.1 in cc
moved history row transaction _ r = let e = r.1 in cc

-- a reply that is handed to its client
pub taking_asks : (setup : Setup) (history : History) (row : ℕ) (message : Message) (running : Option Transaction) → MayTakeMemory history (Deliver row) (takes setup history (Deliver row) message running).answer
taking_asks setup history row message None = λ r. let e = r.1 in cc
taking_asks setup history row message (Some transaction) = go (is_wanted history transaction message) _
  where
    go : (b : Bool) (move : Move) → IsRefused (cond b (moves history (Deliver row) transaction move) (moment (Deliver row) Ignored [])).answer → ⊥
    go true move = moved history row transaction move
    go false move = λ r. let e = r.1 in cc

effect_asks : (setup : Setup) (history : History) (client : ℕ) (request : Intent) → MayTakeMemory history (act_for client request) (effect setup history (act_for client request)).answer
unfolding effect
effect_asks setup history client (Writes stamp items) = λ r. let e = r.1 in cc
effect_asks setup history client (Gets keys) = λ r. let e = r.1 in cc
effect_asks setup history client (Finds tag) = λ r. let e = r.1 in cc

-- a transaction that begins
pub beginning_asks : (setup : Setup) (history : History) (act : Act) (begin : Begin) → IsBegin setup history act begin → MayTakeMemory history act (answer_to setup history act)
beginning_asks setup history act begin begins =
    asks_by setup history act (effect setup history act) begins.effect (subst (λ a. MayTakeMemory history a (effect setup history a).answer) (sym begins.asked) (effect_asks setup history begin.client begins.request))

-- calls that are sent again
pub resending_asks : (history : History) (client count : ℕ) → MayTakeMemory history (Retry client) (resent count (next_rows history count))
resending_asks history client count = go (count == 0)
  where
    go : (b : Bool) → IsRefused (cond b (Sent None) (Sent (Some (next_rows history count)))) → ⊥
    go true r = let e = r.1 in cc
    go false r = let e = r.1 in cc

pub on_err_any : {A E : Type 0} (r : Result A E) (P : Type 0) → P → OnErr r P
on_err_any (Ok x) P holds = tt
on_err_any (Err e) P holds = holds

pub on_err_map : {A E : Type 0} (r : Result A E) (P Q : Type 0) → (P → Q) → OnErr r P → OnErr r Q
on_err_map (Ok x) P Q f holds = tt
on_err_map (Err e) P Q f holds = f holds

pub on_err_of : {A E : Type 0} (r : Result A E) (P : A → Type 0) (Q : E → Type 0) (X : Type 0) → ((e : E) → Q e → X) → MatchResult r P Q → OnErr r X
on_err_of (Ok x) P Q X f holds = tt
on_err_of (Err e) P Q X f holds = f e holds

pub none_of_not : {X : Type 0} (o : Option X) → is_some o ≡ false → o ≡ None
none_of_not None not = refl
none_of_not (Some x) not = cc
