use Rattle.std.proofs.Common.{sym, ap, ◌∙◌}
use Rattle.world.specs.World.{World}
use Rattle.table_parts.proofs.part.Part.wait_with.Goals as goal

pub invariant_of-self : goal.invariant_of-self
invariant_of-self c = record {
  line = c.self.invariant.line ∙ sym c.wait_with.ensures.line;
  runs = ap (λ (w : World). w.stopped) c.wait_with.ensures.world ∙ c.self.invariant.runs;
}
