-- What holds once a transaction began: for `start`, `start_put` and `start_get`.
use Rattle.std.proofs.Common.{◌≡◌, ℕ, ◌+◌, ◌≤◌, refl, sym, subst, [], max, Option, Some, None}
use Rattle.std.specs.Prelude.{IsSome, IfSome}
use Rattle.stamps.specs.Bounds.{IsParts}
use Rattle.plain_store.specs.Words.{Setup}
use Rattle.plain_store.specs.History.{Intent}
use Rattle.tenant_sessions.specs.declared.running.Running.{Running}
use Rattle.tenant_sessions.specs.declared.session.ClientSession.{ClientSession}
use Rattle.tenant_sessions.specs.Begins.{HasBegun}
use Rattle.tenant_sessions.specs.Held.{drawn_counter, next_ticket}
use Rattle.tenant_sessions.specs.CallsLeft.{calls_left, calls_waiting, most_calls}
use Rattle.tenant_sessions.specs.Running.{MayBegin, Starts}
use Rattle.tenant_sessions.specs.Showing.{IsShown}
use Rattle.tenant_sessions.proofs.Shown.{none_shown}
use Rattle.tenant_sessions.proofs.CallsBegun.{begun_few}

-- what runs is there
the_running : (setup : Setup) (request : Intent) (o : Option Running) → IsSome o → IfSome o (λ running. Starts setup request running) → (running : Running) × (o ≡ Some running) × Starts setup request running
the_running setup request (Some running) some starts = (running, refl, starts)
the_running setup request None some starts = cc

pub has_begun : (parts : ℕ) (request : Intent) (old new : ClientSession) → IsParts parts → MayBegin request → new.is_open ≡ old.is_open → new.counter ≡ max (drawn_counter request) old.counter
    → new.ticket ≡ next_ticket old.ticket → ((setup : Setup) → setup.partitions ≡ parts → IsSome new.running × IfSome new.running (λ running. Starts setup request running)) → HasBegun parts request old new
has_begun parts request old new range may open_now counter ticket made = record {
  begins = λ setup same.
      let the = the_running setup request new.running (made setup same).0 (made setup same).1 in
      record { running = the.0; starts = the.2; is = λ i. record { is_open = open_now i; counter = counter i; ticket = ticket i; running = the.1 i } };
  shown = λ setup same.
      let the = the_running setup request new.running (made setup same).0 (made setup same).1 in
      subst (λ (o : Option Running). IsShown setup request [] o) (sym the.1) (none_shown setup request the.0 the.2.stands);
  counter = counter;
  calls =
      let setup : Setup = record { partitions = parts; room = record { slots = 0; items = 0; clients = 0 }; keep = 0 } in
      let the = the_running setup request new.running (made setup refl).0 (made setup refl).1 in
      subst (λ (o : Option Running). calls_waiting o + calls_left o ≤ most_calls parts request) (sym the.1) (begun_few setup request range may the.0 the.2);
}
