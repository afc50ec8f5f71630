use Rattle.std.proofs.Common.{◌≡◌}
use Rattle.model.specs.Beginning.{Begins}
use Rattle.origin.proofs.origin.Origin.wait_past.Given as goal

abbrev pub invariant-loop : goal.invariant-loop
invariant-loop g l = record {
  same : l.by.origin ≡ l.fn.by.origin;
  later : Begins l.fn.by.ends l.by.ends;
  skip : l.by.skip ≡ l.fn.by.skip;
}
