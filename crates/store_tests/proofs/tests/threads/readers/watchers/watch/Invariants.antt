use Rattle.store_tests.proofs.tests.threads.readers.watchers.watch.Given as goal

-- it knows its reader
abbrev pub invariant-loop : goal.invariant-loop
invariant-loop g l = ∥ g.V.Watch.knows l.watcher l.reader ∥₁
