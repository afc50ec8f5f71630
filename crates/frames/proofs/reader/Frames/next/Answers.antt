use Rattle.std.proofs.Common.{ap, sym, ◌∙◌}
use Rattle.frames.specs.Stream.{Reading}
use Rattle.frames.proofs.Handed.{next_read}
use Rattle.frames.proofs.reader.Frames.next.Goals as goal

pub returns-clause-read : goal.returns-clause-read
returns-clause-read c =
    next_read c.pop_front.result c.args.self.now _ (sym (ap (λ (r : Reading). r.items) c.self.view_is) ∙ c.pop_front.ensures.items) (sym (ap (λ (r : Reading). r.ending) c.self.view_is))
