use Rattle.std.proofs.Common.{refl, inl}
use Rattle.command_line.proofs.WordsRead.{fault_on}
use Rattle.command_line.proofs.options.read_load.Goals as goal

pub returns-in_default-clause-error : goal.returns-in_default-clause-error
returns-in_default-clause-error c = inl (refl, λ parts limits names options load. c.in_default.ensures.none options load.gives_mix)

pub returns-in_err-store-clause-error : goal.returns-in_err-store-clause-error
returns-in_err-store-clause-error c =
    fault_on c.from_residual.result c.in_err-store.field-0.0 _ _ c.from_residual.ensures.1 c.in_err-store.ensures.error
    (λ none parts limits names options load. none parts limits names load.gives_store)
