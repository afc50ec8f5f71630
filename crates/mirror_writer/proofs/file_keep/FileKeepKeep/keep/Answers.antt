use Rattle.std.proofs.Common.{arith}
use Rattle.sqlite.specs.State.{HasCleanDisk}
use Rattle.sqlite.specs.Held.{state}
use Rattle.mirror_writer.specs.Kept.{some}
use Rattle.mirror_writer.proofs.file_keep.FileKeepKeep.keep.Goals as goal

pub returns : goal.returns
returns g c before kept clean =
    let old = c.args.self.now.conn.now in
    let new = c.follow.new.conn in
    let was : HasCleanDisk (state g.S.Store old) = omega (arith, c.follow.ensures.crash.clean) in
    let led = kept was in
    (led.0, some before c.args.commits.now c.args.end old new led.1 (c.in_ok-follow.ensures.all clean))
