use Rattle.std.proofs.Common.{sym, ap, arith}
use Rattle.std.specs.Prelude.{is_some}
use Rattle.keyholds.proofs.Answering.{has_room}
use Rattle.keyholds.proofs.holds.make_room.Goals as goal

pub returns-in-Some-clause-room : goal.returns-in-Some-clause-room
returns-in-Some-clause-room g c =
    has_room c.args.lists.now (c.get_mut.follows.lender c.reserve.new.self) c.args.xid c.reserve.new.self ((c.get_mut.follows.holds c.reserve.new.self).3 (ap is_some (sym c.in-Some.ensures.value)))
    (omega (arith, c.in_ok-reserve.ensures.ok))

pub returns-clause-room : goal.returns-clause-room
returns-clause-room g c =
    has_room c.get_mut.follows.lender-at-none c.insert.new.self c.args.xid c.reserve-2.new.self c.in_ok-insert.ensures.updates (omega (arith, c.in_ok-reserve-2.ensures.ok))
