use Rattle.std.proofs.Common.{sym, ap}
use Rattle.std.specs.Prelude.{is_some}
use Rattle.keyholds.proofs.counts.set_count.Goals as goal

pub returns-in-Some : goal.returns-in-Some
returns-in-Some c = (c.get_mut.follows.holds c.args.count).3 (ap is_some (sym c.in-Some.ensures.value))
