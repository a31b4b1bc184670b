use Rattle.tests_surface_programs.proofs.of_workload.runs_session.Given as goal

abbrev pub ghosts-session_in : goal.ghosts-session_in
ghosts-session_in g a = record { book = a.store.history.seen.book }
