use Rattle.std.proofs.Common.{◌≡◌, ◌∷◌, ◌+◌, ◌<◌, ◌≤◌, length, vec_capacity}
use Rattle.std.specs.Prelude.{All, map, option_map}
use Rattle.std.specs.Vec.Iter.{into_iter_len}
use Rattle.dispatch.specs.Standing.{own_by}
use Rattle.leader.specs.Ending.{held_in}
use Rattle.leader.proofs.ending.take_tickets.Given as goal

-- the tickets so far are those of the leader's own and of the slots so far, and there is room for one of each
abbrev pub invariant-loop-slot : goal.invariant-loop-slot
invariant-loop-slot g l = record {
  can_next : (goal.iterator-loop-slot g).can_next l.slot-iterator;
  is_finite : (goal.iterator-loop-slot g).is_finite l.slot-iterator;
  tickets : map own_by l.tickets.items ≡ held_in (option_map own_by l.fn.own ∷ map g.S.Slot.holds l.yielded);
  count : length l.tickets.items + into_iter_len l.slot-iterator ≤ length l.fn.workers.items + 1;
  room : length l.fn.workers.items < vec_capacity l.tickets;
  keeps : All g.S.Slot.keeps l.yielded;
}
