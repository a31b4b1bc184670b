use Rattle.std.proofs.Common.{inl}
use Rattle.std.proofs.lemmas.Result.{err_from_is_err_and}
use Rattle.load.proofs.ToldKept.{load_told}
use Rattle.load.proofs.loading.tell_load.Goals as goal

pub returns-in_err-tell_begun : goal.returns-in_err-tell_begun
returns-in_err-tell_begun g c =
    let p = err_from_is_err_and c.from_residual.result c.from_residual.ensures.1 in
    rw (p.1, p.2) (inl c.in_err-tell_begun.ensures)

pub returns : goal.returns
returns g c =
    load_told c.args.closed.now c.args.names.now (g.W.Write.contents c.args.writer.now) (g.W.Write.contents c.tell_begun.new.writer) (g.W.Write.contents c.tell_verdicts.new.writer)
    c.tell_verdicts.result c.in_ok-tell_begun.ensures c.tell_verdicts.ensures
