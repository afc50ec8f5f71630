use Rattle.store_tests.proofs.Names.{names_of}
use Rattle.store_tests.proofs.tests.threads.workers.plays.play.Given as goal

abbrev pub ghosts-play_once : goal.ghosts-play_once
ghosts-play_once g a = names_of a.made
