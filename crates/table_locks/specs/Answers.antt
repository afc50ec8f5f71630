-- What a call answers that stops a store, or finds it stopped.
--     IsTold      a fault that a change is refused for: a clash with a cause, Stopped or OutOfMemory
use Rattle.std.specs.Prelude.{IsSome}
use Rattle.live_tables.specs.declared.answers.EngineFault.{EngineFault}
use Rattle.live_tables.specs.declared.answers.EngineFault.TheVariants.{AlreadyOpen, TooManyOpen, Clash, Stopped, OutOfMemory}
use Rattle.live_tables.specs.Answers.{cause_of}

-- a fault that a change is refused for
abbrev pub IsTold : EngineFault → Type 0
IsTold AlreadyOpen = ⊥
IsTold TooManyOpen = ⊥
IsTold (Clash clash) = IsSome (cause_of clash)
IsTold Stopped = Unit {0}
IsTold OutOfMemory = Unit {0}
