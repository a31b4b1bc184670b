use Rattle.std.proofs.Common.{Result, Ok, Err, IfOk, subst, sym}
use Rattle.std.specs.Prelude.{string_bytes}
use Rattle.server_metrics.specs.declared.request.PageRequest.{PageRequest}
use Rattle.server_status.specs.Answered.{IsAnswerTo}
use Rattle.server_status.proofs.pages.PagesAnswering.page.Goals as goal

-- what is made where it goes well is made with more
made_with : {A E : Type 0} {P Q : A → Type 0} (result : Result A E) → ((made : A) → P made → Q made) → IfOk result P → IfOk result Q
made_with (Ok made) more is = more made is
made_with (Err e) more is = tt

pub returns-in_ok-read-in-Metrics-clause-answer : goal.returns-in_ok-read-in-Metrics-clause-answer
returns-in_ok-read-in-Metrics-clause-answer g c =
    let read = c.in_ok-read-in-Metrics in
    subst (λ (asked : PageRequest). IfOk c.metrics_page.result (λ page. IsAnswerTo g.C.JournalChecks.has_told c.args.self.now.watched.now c.args.self.now.seen c.read.new.seen asked (string_bytes page))) (sym c.in-Metrics.is)
    (made_with c.metrics_page.result (λ page is. (read.field-0, read.ensures.read, is)) c.metrics_page.ensures)

pub returns-in_ok-read-in-Health-clause-answer : goal.returns-in_ok-read-in-Health-clause-answer
returns-in_ok-read-in-Health-clause-answer g c =
    let read = c.in_ok-read-in-Health in
    subst (λ (asked : PageRequest). IfOk c.health_page.result (λ page. IsAnswerTo g.C.JournalChecks.has_told c.args.self.now.watched.now c.args.self.now.seen c.read-in-Health.new.seen asked (string_bytes page))) (sym c.in-Health.is)
    (made_with c.health_page.result (λ page is. (read.field-0, read.ensures.read, is)) c.health_page.ensures)
