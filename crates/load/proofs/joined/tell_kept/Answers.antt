use Rattle.std.proofs.Common.{inl}
use Rattle.std.proofs.lemmas.Result.{err_from_is_err_and}
use Rattle.load.proofs.ToldKept.{kept_told}
use Rattle.load.proofs.joined.tell_kept.Goals as goal

pub returns-in_err-tell_begun : goal.returns-in_err-tell_begun
returns-in_err-tell_begun g c =
    let p = err_from_is_err_and c.from_residual.result c.from_residual.ensures.1 in
    rw (p.1, p.2) (inl c.in_err-tell_begun.ensures)

pub returns : goal.returns
returns g c =
    kept_told c.args.closed c.args.epochs.items c.args.names.now (g.W.Write.contents c.args.writer.now) (g.W.Write.contents c.tell_begun.new.writer) (g.W.Write.contents c.tell_joined.new.writer)
    c.tell_joined.result c.in_ok-tell_begun.ensures c.tell_joined.ensures
