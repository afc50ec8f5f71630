use Rattle.std.specs.Prelude.{ℕ, Option, is_some, if◌then◌else◌}
use Rattle.std.proofs.Common.{◌∙◌, ap, subst}
use Rattle.std.specs.FinMap.{get, remove}
use Rattle.std.specs.HashMap as hash
use Rattle.std.specs.Ordering.{eq_by_cmp}
use Rattle.model.specs.Key.{key_cmp}
use Rattle.rows.specs.Hashed.{number_for, number_to_drop, DropsSlot, Unnumbers}
use Rattle.rows.specs.Kept.{Kept}
use Rattle.rows.proofs.HashedMaking.{settled_rows, settled_numbers, found_after_settle}
use Rattle.rows.proofs.hashed.HashedRows.settle.Given.{Over}
use Rattle.rows.proofs.hashed.HashedRows.settle.Goals as goal
use Rattle.rows.proofs.hashed.HashedRows.settle.Goals.{After-drop_slot}

-- the number in the order is the hashed one, so the slot and the number that went are those that the order had
dropped : (g : Over) (c : After-drop_slot g)
    → (let was = c.self.inside in let now = c.drop_slot.new in let drops = number_to_drop was.slots (number_for was.order c.args.key.now)
    in DropsSlot was.slots now.slots drops × Unnumbers (number_for was.order) (number_for now.order) c.args.key.now drops
    × Unnumbers (hash.get (eq_by_cmp key_cmp) was.numbers) (hash.get (eq_by_cmp key_cmp) now.numbers) c.args.key.now drops)
dropped g c =
    let was = c.self.inside in
    let now = c.drop_slot.new in
    let key = c.args.key.now in
    let told = c.drop_slot.ensures in
    subst (λ (number : Option ℕ).
    DropsSlot was.slots now.slots (number_to_drop was.slots number) × Unnumbers (number_for was.order) (number_for now.order) key (number_to_drop was.slots number)
    × Unnumbers (hash.get (eq_by_cmp key_cmp) was.numbers) (hash.get (eq_by_cmp key_cmp) now.numbers) key (number_to_drop was.slots number))
    (c.self.invariant.hashed key) (told.slots, told.order, told.hashed)

pub invariant_of-self : goal.invariant_of-self
invariant_of-self g c =
    let was = c.self.inside in
    let now = c.drop_slot.new in
    let went = dropped g (goal.at.invariant_of-self g c).After-drop_slot in
    found_after_settle was.numbers now.numbers was.order now.order was.slots now.slots c.args.key.now c.self.invariant went.0 went.1 went.2

pub returns : goal.returns
returns g c =
    let was = c.self.inside in
    let now = c.drop_slot.new in
    let key = c.args.key.now in
    let went = dropped g (goal.at.returns g c).After-drop_slot in
    record {
      rows =
          settled_rows was.numbers now.numbers was.order now.order was.slots now.slots key c.self.invariant went.0 went.1
          ∙ ap (λ (k : Kept). k.rows) c.self.view_is;
      slots =
          settled_numbers was.numbers now.numbers was.order now.order was.slots now.slots key c.self.invariant went.0 went.1
          ∙ ap (λ (k : Kept). if is_some (get k.rows key) then k.slots else remove k.slots key) c.self.view_is;
    }
