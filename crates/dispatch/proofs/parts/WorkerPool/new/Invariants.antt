use Rattle.std.proofs.Common.{◌≡◌, ℕ, ◌+◌, ◌<◌, length, reverse}
use Rattle.std.specs.Prelude.{All, map, slice_index_or}
use Rattle.tokens.specs.Half.{no_name}
use Rattle.dispatch.specs.Parts.{IsFresh, AreNumbered, ring_of, outbox_of}
use Rattle.dispatch.proofs.parts.WorkerPool.new.Given as goal

-- those that are left are fresh, and each has its ring and its list; the numbers of the workers so far go down to those
-- that are left, and with these there is a worker for each gate
abbrev pub invariant-loop-part : goal.invariant-loop-part
invariant-loop-part g l = record {
  fresh : All IsFresh l.parts.items;
  numbered : AreNumbered (length l.parts.items) (reverse l.pool.ends.items) × AreNumbered (length l.parts.items) (reverse l.pool.shared.items);
  left : length l.parts.items ≡ length l.gates.items;
  ends : length l.pool.ends.items + length l.gates.items ≡ length l.fn.gates.items;
  shared : length l.pool.shared.items + length l.gates.items ≡ length l.fn.gates.items;
  given : length l.pool.given.items + length l.gates.items ≡ length l.fn.gates.items;
  rings : (i : ℕ) → i < length l.parts.items → slice_index_or (map ring_of l.parts.items) i no_name ≡ g.L.RingNames.ring i;
  outboxes : (i : ℕ) → i < length l.parts.items → slice_index_or (map outbox_of l.parts.items) i no_name ≡ g.L.OutboxNames.outbox i;
}

abbrev pub decreases-loop-part : goal.decreases-loop-part
decreases-loop-part g l = length l.parts.items
