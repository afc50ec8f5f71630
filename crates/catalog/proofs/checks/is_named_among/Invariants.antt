use Rattle.std.proofs.Common.{◌≡◌, false, take}
use Rattle.std.specs.List.{list_any}
use Rattle.catalog.proofs.checks.is_named_among.Given as goal

abbrev pub invariant-loop-other : goal.invariant-loop-other
invariant-loop-other g l = list_any (g.T.Named.same l.item) (take l.other-index l.others) ≡ false
