use Rattle.store_tests.proofs.Names.{names_of}
use Rattle.store_tests.proofs.tests.locks.threads.play.Given as goal

abbrev pub ghosts-play_named : goal.ghosts-play_named
ghosts-play_named g a = names_of a.made
