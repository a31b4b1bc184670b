use Rattle.embedded.proofs.main.Given as goal

abbrev pub ghosts-run : goal.ghosts-run
ghosts-run g a = record { book = a.store.history.seen.book }
