use Rattle.std.proofs.Common.{ap, sym, ◌∙◌}
use Rattle.frames.specs.Stream.{Reading}
use Rattle.frames.specs.Reads.{fault_of}
use Rattle.frames.specs.Steps.{ending_in}
use Rattle.frames.proofs.reader.Frames.pull.Goals as goal

pub returns-in_err-feed-in-Ok-clause-read : goal.returns-in_err-feed-in-Ok-clause-read
returns-in_err-feed-in-Ok-clause-read g c =
    let waits = ap (λ (r : Reading). r.ending) (sym c.self.view_is) ∙ ap (λ s. ending_in s c.self.inside.unread.items) c.in-Reading.is in
    (_, c.in-Ok.ensures.bytes, c.feed.ensures.read (ap fault_of waits))

pub returns-in_ok-feed-in-Ok-clause-read : goal.returns-in_ok-feed-in-Ok-clause-read
returns-in_ok-feed-in-Ok-clause-read g c =
    let waits = ap (λ (r : Reading). r.ending) (sym c.self.view_is) ∙ ap (λ s. ending_in s c.self.inside.unread.items) c.in-Reading.is in
    (_, c.in-Ok.ensures.bytes, c.feed.ensures.read (ap fault_of waits))
