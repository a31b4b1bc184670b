use Rattle.tests_surface_programs.proofs.of_workload.serves_store.Given as goal

abbrev pub ghosts-serve_in : goal.ghosts-serve_in
ghosts-serve_in g a = record { book = a.store.history.seen.book }
