use Rattle.tests_surface.proofs.of_hub.closed.Given as goal

abbrev pub ghosts-closed_in : goal.ghosts-closed_in
ghosts-closed_in g a = record { book = a.store.history.seen.book }
