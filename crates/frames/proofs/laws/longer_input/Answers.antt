use Rattle.std.proofs.Common.{ap}
use Rattle.frames.specs.Stream.{Reading, reading_after, ending_of}
use Rattle.frames.proofs.Streams.{reading-append, reading-closed, reading-refused}
use Rattle.frames.proofs.laws.longer_input.Goals as goal

pub returns-clause-items : goal.returns-clause-items
returns-clause-items c = λ a b. ((reading_after (ending_of a) b).items, ap (λ (r : Reading). r.items) (reading-append a b))

pub returns-clause-closed : goal.returns-clause-closed
returns-clause-closed c = reading-closed

pub returns-clause-refused : goal.returns-clause-refused
returns-clause-refused c = reading-refused
