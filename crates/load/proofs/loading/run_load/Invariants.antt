use Rattle.load.proofs.loading.run_load.Given as goal

-- the history of the store that is opened
abbrev pub ghosts-load_and_settle : goal.ghosts-load_and_settle
ghosts-load_and_settle g a = record { book = a.store.history.seen.book }

abbrev pub ghosts-load_and_join : goal.ghosts-load_and_join
ghosts-load_and_join g a = record { book = a.store.history.seen.book }
