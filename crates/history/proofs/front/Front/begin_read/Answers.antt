use Rattle.history.proofs.front.Front.begin_read.Goals as goal

pub add-requires-clause-may : goal.add-requires-clause-may
add-requires-clause-may g c = ∣ tt ∣₁
