use Rattle.history.proofs.front.Front.give_up.Goals as goal

pub add-requires-clause-may : goal.add-requires-clause-may
add-requires-clause-may g c = ∣ c.requires.unended ∣₁
