use Rattle.std.proofs.Common.{ap, sym, ◌∙◌, ◌++◌}
use Rattle.frames.specs.Stream.{Reading}
use Rattle.frames.specs.Steps.{ending_in}
use Rattle.frames.proofs.Handed.{HasRead-fed, HasRead-closed}
use Rattle.frames.proofs.reader.Frames.feed.Goals as goal

pub returns-in-Done-clause-read : goal.returns-in-Done-clause-read
returns-in-Done-clause-read c = λ free fed out h.
    HasRead-closed fed _ out c.args.self.now
    (ap (λ (r : Reading). r.ending) (sym c.self.view_is) ∙ ap (λ s. ending_in s c.self.inside.unread.items) c.in-Done.is) h

pub returns-clause-read : goal.returns-clause-read
returns-clause-read c = λ free fed out h.
    let waits = ap (λ (r : Reading). r.ending) (sym c.self.view_is) ∙ ap (λ s. ending_in s c.self.inside.unread.items) c.in-Reading.is in
    let same = ap (λ (r : Reading). r.items) c.self.view_is in
    let t = c.take_piece-state.ensures.read in
    HasRead-fed fed _ c.self.inside.unread.items out t.0 c.args.self.now _ waits (t.1 ∙ ap (λ x. x ++ t.0) same) t.2 h
