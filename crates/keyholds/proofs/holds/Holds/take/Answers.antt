use Rattle.keyholds.proofs.Listing.{same_holds}
use Rattle.keyholds.proofs.Taking.{as_before}
use Rattle.keyholds.proofs.holds.Holds.take.Goals as goal

pub returns-then-is_err-clause-err : goal.returns-then-is_err-clause-err
returns-then-is_err-clause-err g c =
    same_holds c.release_since.new.self c.args.self.now c.release_since.ensures.filled c.mark-mark.ensures.filled
    (as_before c.args.self.now c.take_each.new.self c.release_since.new.self c.args.xid c.mark-mark.result c.mark-mark.ensures.count c.take_each.ensures.first c.take_each.ensures.others c.release_since.ensures.own c.release_since.ensures.others)
