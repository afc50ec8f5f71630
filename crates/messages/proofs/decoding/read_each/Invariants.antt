use Rattle.std.proofs.Common.{◌≡◌, ◌-◌, length}
use Rattle.messages.specs.Format.{times}
use Rattle.messages.specs.Reading.{read}
use Rattle.messages.proofs.Times.{with_front}
use Rattle.messages.proofs.decoding.read_each.Given as goal

abbrev pub invariant-loop : goal.invariant-loop
invariant-loop g l = record {
  so_far : with_front l.items.items (read (times (l.count - l.counter) g.T.Counted.format) l.cursor) ≡ read (times l.count g.T.Counted.format) l.fn.cursor;
  len : length l.items.items ≡ l.counter;
}
