use Rattle.std.proofs.Common.{◌∙◌}
use Rattle.rows.proofs.HashedCopies.{same_entries, same_slots, kept_copied, found_copied}
use Rattle.rows.proofs.hashed.HashedRows.copy.Goals as goal

pub invariant_of-result : goal.invariant_of-result
invariant_of-result g c =
    found_copied c.self.inside.slots c.in_ok-clone-2.field-0 (same_slots _ _ c.in_ok-clone-2.ensures.cases) c.self.inside.numbers c.in_ok-clone.field-0
    c.self.inside.order c.in_ok-copy.field-0 c.self.invariant (same_entries _ _ c.in_ok-clone.ensures.cases) c.in_ok-copy.ensures

pub returns : goal.returns
returns g c =
    kept_copied c.self.inside.slots c.in_ok-clone-2.field-0 (same_slots _ _ c.in_ok-clone-2.ensures.cases) c.self.inside.order c.in_ok-copy.field-0
    c.in_ok-copy.ensures
    ∙ c.self.view_is
