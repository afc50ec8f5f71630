use Rattle.std.proofs.Common.{◌≡◌, map, length}
use Rattle.engine.specs.Engine.{entry_in}
use Rattle.engine.proofs.shut.forget_all.Given as goal

-- each so far tells what it told
abbrev pub invariant-loop-entry : goal.invariant-loop-entry
invariant-loop-entry l = record {
  told : map entry_in l.entries ≡ map entry_in l.fn.entries;
  long : length l.entries ≡ length l.fn.entries;
}
