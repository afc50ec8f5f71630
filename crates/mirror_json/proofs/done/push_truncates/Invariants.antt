use Rattle.mirror_json.specs.Lines.{AppendsLines}
use Rattle.mirror_json.proofs.done.push_truncates.Given as goal

abbrev pub invariant-loop-emptied : goal.invariant-loop-emptied
invariant-loop-emptied l = AppendsLines l.fn.lines.items l.lines.items
