use Rattle.std.proofs.Common.{◌≡◌, map, ap, ◌∙◌, inl, inr}
use Rattle.std.specs.Prelude.{string_bytes}
use Rattle.command_line.specs.Asked.{WordsAskFor}
use Rattle.line_runs.specs.Served.{ServesSim, answers_of_store}
use Rattle.command_line.specs.declared.options.Asked.TheVariants.{Cell, Load, Serve, Sim}
use Rattle.std.proofs.lemmas.Result.{err_from_is_err_and}
use Rattle.line_runs.specs.RunAnswers.{FailsSo}
use Rattle.workload.proofs.Outcomes.{ends_so, run_fails, words_fail}
use Rattle.workload.proofs.words.run_program.Goals as goal

pub returns-in_ok-run_sim-in-Sim : goal.returns-in_ok-run_sim-in-Sim
returns-in_ok-run_sim-in-Sim g c =
    let words = map string_bytes c.args.words.now in
    let asked : WordsAskFor words (Sim c.in-Sim.store) = rw c.in-Sim.is at c.in_ok-text.ensures.asked in
    let end = c.in_ok-run_sim-in-Sim.field-0 in
    let input = g.R.Read.remaining c.args.reader.now in
    let old = g.W.Write.contents c.args.writer.now in
    let new = g.W.Write.contents c.run_sim.new.writer in
    let tenants = c.in-Sim.store.names.items in
    let each = map (λ name. c.in-Sim.store.limits) tenants in
    let limits : c.deref-in-Sim.result.now ≡ each = c.deref-in-Sim.ensures.value ∙ c.in_ok-each-in-Sim.ensures ∙ ap (map (λ name. c.in-Sim.store.limits)) c.deref.ensures.value in
    let serves : ServesSim c.in-Sim.store.parts each tenants input old new end = rw (limits, c.deref-in-Sim-2.ensures.value) at c.in_ok-run_sim-in-Sim.ensures.served in
    rw c.outcome_of-in-Sim.ensures (inl (ends_so words input old new end (inr (c.in-Sim.store.parts, c.in-Sim.store.limits, tenants, asked, serves))))

pub returns-in_err-run_cell-in-Cell : goal.returns-in_err-run_cell-in-Cell
returns-in_err-run_cell-in-Cell g c =
    let words = map string_bytes c.args.words.now in
    let asked : WordsAskFor words (Cell c.in-Cell.slots c.in-Cell.items c.in-Cell.clients) = rw c.in-Cell.is at c.in_ok-text.ensures.asked in
    let p = err_from_is_err_and c.from_residual-in_err-run_cell-in-Cell.result c.from_residual-in_err-run_cell-in-Cell.ensures.1 in
    rw (p.1, p.2) (inl (run_fails words _ _ _ _ c.in_err-run_cell-in-Cell.field-0.0 (inl (c.in-Cell.slots, c.in-Cell.items, c.in-Cell.clients, asked, c.in_err-run_cell-in-Cell.ensures.failed))))

pub returns-in_err-run_sim-in-Sim : goal.returns-in_err-run_sim-in-Sim
returns-in_err-run_sim-in-Sim g c =
    let words = map string_bytes c.args.words.now in
    let asked : WordsAskFor words (Sim c.in-Sim.store) = rw c.in-Sim.is at c.in_ok-text.ensures.asked in
    let tenants = c.in-Sim.store.names.items in
    let each = map (λ name. c.in-Sim.store.limits) tenants in
    let limits : c.deref-in-Sim.result.now ≡ each = c.deref-in-Sim.ensures.value ∙ c.in_ok-each-in-Sim.ensures ∙ ap (map (λ name. c.in-Sim.store.limits)) c.deref.ensures.value in
    let failed : FailsSo (answers_of_store c.in-Sim.store.parts each tenants) (g.R.Read.remaining c.args.reader.now) (g.R.Read.remaining c.run_sim.new.reader)
    (g.W.Write.contents c.args.writer.now) (g.W.Write.contents c.run_sim.new.writer) c.in_err-run_sim-in-Sim.field-0.0 =
    rw (limits, c.deref-in-Sim-2.ensures.value) at c.in_err-run_sim-in-Sim.ensures.failed in
    let p = err_from_is_err_and c.from_residual-in_err-run_sim-in-Sim.result c.from_residual-in_err-run_sim-in-Sim.ensures.1 in
    rw (p.1, p.2) (inl (run_fails words _ _ _ _ c.in_err-run_sim-in-Sim.field-0.0 (inr (c.in-Sim.store.parts, c.in-Sim.store.limits, tenants, asked, failed))))

pub returns-in_err-text : goal.returns-in_err-text
returns-in_err-text g c =
    let p = err_from_is_err_and c.from_residual.result c.from_residual.ensures.1 in
    rw (p.1, p.2) (inl (words_fail (map string_bytes c.args.words.now) (g.R.Read.remaining c.args.reader.now) (g.W.Write.contents c.args.writer.now) c.in_err-text.field-0.0 c.in_err-text.ensures.error))

pub returns-in-Serve : goal.returns-in-Serve
returns-in-Serve g c =
    let words = map string_bytes c.args.words.now in
    let asked : WordsAskFor words (Serve c.in-Serve.store c.in-Serve.options) = rw c.in-Serve.is at c.in_ok-text.ensures.asked in
    inr (inl (c.in-Serve.store.parts, c.in-Serve.store.limits, c.in-Serve.store.names.items, c.in-Serve.options, asked, c.serve_store.ensures.served, c.serve_store.ensures.port))

pub returns-in-Load : goal.returns-in-Load
returns-in-Load g c =
    let words = map string_bytes c.args.words.now in
    let asked : WordsAskFor words (Load c.in-Load.store c.in-Load.options) = rw c.in-Load.is at c.in_ok-text.ensures.asked in
    inr (inr (c.in-Load.store.parts, c.in-Load.store.limits, c.in-Load.store.names.items, c.in-Load.options, asked, c.load_store.ensures))
