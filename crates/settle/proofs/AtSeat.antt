-- Answers as a seat reports them.
use Rattle.std.proofs.Common.{◌≡◌, ℕ, Option, refl, sym}
use Rattle.plain_store.specs.Words.{Setup}
use Rattle.plain_store.specs.History.{History}
use Rattle.plain_store.specs.Laws.{IsAtomicAnswer, IsFalse, IsFreshAnswer, IsRightRestart}
use Rattle.plain_store.specs.declared.refusal.Refusal.TheVariants.{Discarded as WasDiscarded}
use Rattle.settle.specs.Words.{Act, Deliver, Answer, Ready, Ended, Refusal, Rows, Clashed, Torn}
use Rattle.settle.specs.Trace.{at_seat}
use Rattle.settle.specs.Promises.{IsNewestDone}

-- ---- an answer that is no end is reported whole

pub at_other : (answer : Answer) → ((why : Refusal) (rows : Option Rows) → answer ≡ Ended why rows → ⊥) → at_seat answer ≡ answer
at_other (Ended why rows) other = absurd (other why rows refl)
at_other answer other = refl

pub is_ready : (counter : ℕ) (answer : Answer) → Ready counter ≡ at_seat answer → answer ≡ Ready counter
is_ready counter (Ended why rows) e = cc
is_ready counter answer e = sym e

-- ---- what is right of an answer is right of what a seat reports of it

pub atomic_told : (history : History) (act : Act) (answer : Answer) → IsAtomicAnswer history act answer → IsAtomicAnswer history act (at_seat answer)
atomic_told history act (Ended why rows) right = tt
atomic_told history act answer right = right

false_told : (answer : Answer) → IsFalse (at_seat answer) → IsFalse answer
false_told (Ended Torn rows) bad = tt
false_told (Ended Clashed rows) bad = tt
false_told (Ended WasDiscarded rows) bad = tt
false_told answer bad = bad

pub truthful_told : (answer : Answer) → (IsFalse answer → ⊥) → IsFalse (at_seat answer) → ⊥
truthful_told answer right bad = right (false_told answer bad)

pub fresh_told : (history : History) (act : Act) (answer : Answer) → IsFreshAnswer history act answer → IsFreshAnswer history act (at_seat answer)
fresh_told history act (Ended why rows) right = tt
fresh_told history act answer right = right

pub newest_told : (history : History) (act : Act) (answer : Answer) → IsNewestDone history act answer → IsNewestDone history act (at_seat answer)
newest_told history act (Ended why rows) right = tt
newest_told history act answer right = right

pub restart_told : (setup : Setup) (history : History) (act : Act) (answer : Answer) → IsRightRestart setup history act answer → IsRightRestart setup history act (at_seat answer)
restart_told setup history (Deliver row) (Ended why rows) right = tt
restart_told setup history act (Ended why rows) right = tt
restart_told setup history act answer right = right
