use Rattle.std.proofs.Common.{◌≡◌}
use Rattle.model.specs.Beginning.{Begins, last_end}
use Rattle.mirror_devices.proofs.reached.Reached.wait_for.Given as goal

abbrev pub invariant-loop : goal.invariant-loop
invariant-loop g l = record {
  same : l.loader.origin ≡ l.fn.loader.origin;
  later : Begins l.fn.loader.ends l.loader.ends;
  position : l.position.end_lsn ≡ last_end l.loader.ends;
}
