use Rattle.std.proofs.Common.{◌≡◌}
use Rattle.model.specs.Survivors.{changes_of}
use Rattle.model.specs.Accepted.{AreAccepted}
use Rattle.engine.specs.Serial.{rows_now, with_changes}
use Rattle.engine.proofs.serial.SerialStore.take_all.Given as goal

-- the items so far were applied
abbrev pub invariant-loop-item : goal.invariant-loop-item
invariant-loop-item l = record {
  can_next : (goal.iterator-loop-item).can_next l.item-iterator;
  is_finite : (goal.iterator-loop-item).is_finite l.item-iterator;
  done : l.self ≡ with_changes l.fn.self (changes_of l.yielded);
  clear : AreAccepted l.fn.self.store.schema (rows_now l.fn.self) (changes_of l.yielded);
}
