use Rattle.frames.proofs.Handed.{Reads-nothing}
use Rattle.frames.proofs.reader.Frames.new.Goals as goal

pub returns-clause-read : goal.returns-clause-read
returns-clause-read c = rw (c.new-2.ensures.items, c.new.ensures.items) Reads-nothing
