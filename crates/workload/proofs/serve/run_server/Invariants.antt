use Rattle.workload.proofs.serve.run_server.Given as goal

-- the history of the store that is served
abbrev pub ghosts-serve_named : goal.ghosts-serve_named
ghosts-serve_named g a = record { book = a.store.history.seen.book }
