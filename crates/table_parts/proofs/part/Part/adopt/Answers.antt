use Rattle.std.proofs.Common.{sym, ap, ◌∙◌}
use Rattle.world.specs.World.{World}
use Rattle.table_parts.proofs.part.Part.adopt.Goals as goal

pub invariant_of-self : goal.invariant_of-self
invariant_of-self c = record {
  line = c.self.invariant.line ∙ sym c.adopt.ensures.line;
  runs = ap (λ (w : World). w.stopped) c.adopt.ensures.world ∙ c.self.invariant.runs;
}
