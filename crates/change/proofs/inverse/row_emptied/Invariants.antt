use Rattle.std.proofs.Common.{◌≡◌, drop}
use Rattle.change.specs.KeptRow.{first_emptied}
use Rattle.change.proofs.inverse.row_emptied.Given as goal

-- none so far held a row there, so the tables that are left decide
abbrev pub invariant-loop-emptied : goal.invariant-loop-emptied
invariant-loop-emptied l = first_emptied (drop l.emptied-index l.wiped) l.table l.key ≡ first_emptied l.wiped l.table l.key
