use Rattle.std.specs.Prelude.{ℕ, is_some, if◌then◌else◌}
use Rattle.std.proofs.Common.{sym, ◌∙◌, ap, subst}
use Rattle.std.specs.FinMap.{FinMap, get, remove}
use Rattle.rows.specs.Kept.{Kept}
use Rattle.rows.proofs.Slots.{rows_in-settled, numbers_in-settled, number_dropped}
use Rattle.rows.proofs.Names.{named_after_settle}
use Rattle.rows.specs.Slots.{found, rows_in, numbers_in, number_of_empty}
use Rattle.rows.specs.Ordered.{IsNamed}
use Rattle.model.specs.Key.{key_cmp}
use Rattle.rows.proofs.ordered.OrderedRowsRowStore.settle.Goals as goal

pub returns-clause-rows : goal.returns-clause-rows
returns-clause-rows c =
    rows_in-settled c.self.inside.slots.entries c.drop_slot.new.slots.entries c.args.key.now c.drop_slot.ensures.beside c.drop_slot.ensures.here
    ∙ ap (λ (k : Kept). k.rows) c.self.view_is

pub returns-clause-slots : goal.returns-clause-slots
returns-clause-slots c =
    numbers_in-settled c.self.inside.slots.entries c.drop_slot.new.slots.entries c.args.key.now c.drop_slot.ensures.beside c.drop_slot.ensures.here
    ∙ ap (λ (k : Kept). if is_some (get k.rows c.args.key.now) then k.slots else remove k.slots c.args.key.now) c.self.view_is

pub invariant_of-self : goal.invariant_of-self
invariant_of-self c =
    let es = c.self.inside.slots.entries in
    let key = c.args.key.now in
    subst (λ (m : FinMap key_cmp ℕ). IsNamed m c.drop_slot.new.keys)
    (sym (numbers_in-settled es c.drop_slot.new.slots.entries key c.drop_slot.ensures.beside c.drop_slot.ensures.here))
    (named_after_settle (numbers_in es) c.self.inside.keys c.drop_slot.new.keys c.self.invariant key (is_some (get (rows_in es) key)) (number_of_empty (found es key))
    (number_dropped es key) c.drop_slot.ensures.names c.drop_slot.ensures.name)
