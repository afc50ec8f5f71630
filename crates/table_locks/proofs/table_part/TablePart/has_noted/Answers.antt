use Rattle.std.proofs.Common.{rules, ◌≡◌, Some, ap}
use Rattle.live_tables.specs.declared.live_tables.Stopped.TheVariants.{Clash as StoppedByClash}
use Rattle.table_locks.specs.MeetingLemmas.{known_by}
use Rattle.table_locks.proofs.table_part.TablePart.has_noted.Goals as goal

pub returns : goal.returns
returns g c so =
    let n = c.in-Clash in
    let is : c.args.stopped.now ≡ StoppedByClash n.noted n.change n.was = n.is in
    let same : n.was ≡ c.args.clash = search rules in
    let (cause, of, told) = known_by (Some c.args.stopped.now) n.noted c.args.xid n.change n.was c.args.clash (ap Some is) c.requires c.if-noted-xid.false same in
    (n.change, cause, of, told, c.has_alone.ensures so)
