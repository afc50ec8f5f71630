use Rattle.std.proofs.Common.{refl}
use Rattle.mirror_writer.proofs.line_keep.LineKeepKeep.begin.Goals as goal

pub returns : goal.returns
returns g c = (c.args.self.now.lines.rows, refl)
