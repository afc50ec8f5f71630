use Rattle.std.proofs.Common.{ap, ◌∙◌}
use Rattle.frames.specs.Stream.{after_items, reading_after, copy_items}
use Rattle.frames.proofs.Streams.{reading-append, reading-header}
use Rattle.frames.proofs.laws.at_an_edge.Goals as goal

pub returns-clause-edge : goal.returns-clause-edge
returns-clause-edge c = λ a b edge. reading-append a b ∙ ap (λ e. after_items (copy_items a) (reading_after e b)) edge

pub returns-clause-header : goal.returns-clause-header
returns-clause-header c = reading-header
