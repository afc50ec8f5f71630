use Rattle.mirror_writer.specs.Kept.{none}
use Rattle.mirror_writer.proofs.file_keep.FileKeepKeep.begin.Goals as goal

pub returns : goal.returns
returns g c clean = (c.args.self.now.conn.now, none)
