use Rattle.std.proofs.Common.{arith}
use Rattle.std.specs.FinMap as map
use Rattle.store_tests.proofs.tests.threads.halves.each_call_succeeds.Goals as goal

pub open-slip-requires : goal.open-slip-requires
open-slip-requires g c = grind (arith, map.gets)

pub open-slip-requires-2 : goal.open-slip-requires-2
open-slip-requires-2 g c = grind (arith, map.gets)
