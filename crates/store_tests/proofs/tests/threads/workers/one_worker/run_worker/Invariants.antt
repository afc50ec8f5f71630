use Rattle.store_tests.proofs.tests.threads.workers.one_worker.run_worker.Given as goal

abbrev pub ghosts-run_named : goal.ghosts-run_named
ghosts-run_named g a = record { ring = λ _. a.taker.ring }
