-- Those who watch a run.
--     HasThread      one of them has a thread of its own
use Rattle.leader.specs.declared.chief.Onlooker.{Onlooker}
use Rattle.leader.specs.declared.chief.Onlooker.TheVariants.{Here, Away}

-- one who watches has a thread of its own
abbrev pub HasThread : {V : Type 0} → Onlooker V → Type 0
HasThread (Here watcher) = ⊥
HasThread (Away thread) = Unit {0}
