use Rattle.std.proofs.Common.{refl, inl}
use Rattle.command_line.proofs.WordsRead.{fault_on}
use Rattle.command_line.proofs.options.read_serve.Goals as goal

pub returns-in_default-clause-error : goal.returns-in_default-clause-error
returns-in_default-clause-error c = inl (refl, λ parts limits names options server. c.in_default.ensures.none options server.gives_options)

pub returns-in_err-read_store-clause-error : goal.returns-in_err-read_store-clause-error
returns-in_err-read_store-clause-error c =
    fault_on c.from_residual.result c.in_err-read_store.field-0.0 _ _ c.from_residual.ensures.1 c.in_err-read_store.ensures.error
    (λ none parts limits names options server. none parts limits names server.gives_store)
