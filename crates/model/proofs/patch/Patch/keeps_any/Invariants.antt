use Rattle.std.proofs.Common.{◌≡◌, drop}
use Rattle.std.specs.List.{list_any}
use Rattle.model.specs.Patch.{is_kept}
use Rattle.model.proofs.patch.Patch.keeps_any.Given as goal

-- those so far aren't, so the rest decide
abbrev pub invariant-loop-number : goal.invariant-loop-number
invariant-loop-number l = list_any is_kept (drop l.number l.self) ≡ list_any is_kept l.self
