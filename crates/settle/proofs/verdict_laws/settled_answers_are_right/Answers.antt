use Rattle.plain_store.specs.Laws.{IsAtomicAnswer, IsFalse, IsFreshAnswer, IsRightRestart}
use Rattle.settle.proofs.AtSeat.{atomic_told, truthful_told, fresh_told, newest_told, restart_told}
use Rattle.settle.specs.Promises.{IsNewestDone}
use Rattle.settle.proofs.Drawn.{drawn_newest}
use Rattle.settle.proofs.Right.{answers_are_own, each_answer}
use Rattle.settle.proofs.verdict_laws.settled_answers_are_right.Goals as goal

pub returns-clause-own : goal.returns-clause-own
returns-clause-own c = answers_are_own

pub returns-clause-atomic : goal.returns-clause-atomic
returns-clause-atomic c = each_answer (λ setup history act answer. IsAtomicAnswer history act answer) (λ setup history act answer. atomic_told history act answer) c.reads_are_atomic.ensures

pub returns-clause-truthful : goal.returns-clause-truthful
returns-clause-truthful c = each_answer (λ setup history act answer. IsFalse answer → ⊥) (λ setup history act answer. truthful_told answer) c.no_answer_is_false.ensures

pub returns-clause-fresh : goal.returns-clause-fresh
returns-clause-fresh c = each_answer (λ setup history act answer. IsFreshAnswer history act answer) (λ setup history act answer. fresh_told history act answer) c.reads_are_fresh.ensures

pub returns-clause-newest : goal.returns-clause-newest
returns-clause-newest c = each_answer (λ setup history act answer. IsNewestDone history act answer) (λ setup history act answer. newest_told history act answer) (drawn_newest c.puts_are_newest.ensures)

pub returns-clause-restarts : goal.returns-clause-restarts
returns-clause-restarts c = each_answer IsRightRestart restart_told c.restarts_are_right.ensures
