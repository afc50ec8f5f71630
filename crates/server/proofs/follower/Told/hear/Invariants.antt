use Rattle.std.proofs.Common.{◌≡◌, ◌≤◌}
use Rattle.std.specs.Prelude.{max}
use Rattle.server.proofs.follower.Told.hear.Given as goal

-- what is told as flushed was told before, or lies within what was put
abbrev pub invariant-loop : goal.invariant-loop
invariant-loop l =
    (l.self.flushed ≤ max l.fn.self.flushed (max l.fn.put.position l.fn.self.began)) × (l.self.began ≡ l.fn.self.began)
