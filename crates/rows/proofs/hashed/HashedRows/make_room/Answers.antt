use Rattle.std.specs.Prelude.{refl}
use Rattle.std.proofs.Common.{◌∙◌}
use Rattle.rows.proofs.HashedCopies.{kept_copied, found_again}
use Rattle.rows.proofs.hashed.HashedRows.make_room.Goals as goal

pub invariant_of-self : goal.invariant_of-self
invariant_of-self g c =
    found_again c.self.inside.slots c.make_room_for.new.slots c.make_room_for.ensures.same_slots c.self.inside.numbers c.make_room_for.new.numbers c.self.inside.order
    c.self.invariant c.make_room_for.ensures.same_hashed

pub returns : goal.returns
returns g c =
    kept_copied c.self.inside.slots c.make_room_for.new.slots c.make_room_for.ensures.same_slots c.self.inside.order c.self.inside.order refl ∙ c.self.view_is
