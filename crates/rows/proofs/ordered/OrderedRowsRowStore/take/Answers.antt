use Rattle.std.specs.Prelude.{None, refl}
use Rattle.std.proofs.Common.{sym, ◌∙◌, ap}
use Rattle.std.specs.FinMap.{get, remove}
use Rattle.rows.specs.Kept.{Kept}
use Rattle.rows.proofs.Slots.{numbers_in-set, rows_in-taken, get-rows_in}
use Rattle.rows.proofs.ordered.OrderedRowsRowStore.take.Goals as goal

pub invariant_of-self : goal.invariant_of-self
invariant_of-self c =
    let same = numbers_in-set c.self.inside.slots.entries c.set_row.new.slots.entries c.args.key.now c.set_row.ensures.beside None c.set_row.ensures.here in
    record {
      named = λ key number e. c.self.invariant.named key number (ap (λ m. get m key) (sym same) ∙ e);
      names = λ key number e. ap (λ m. get m key) same ∙ c.self.invariant.names key number e;
    }

pub returns-clause-row : goal.returns-clause-row
returns-clause-row c =
    c.set_row.ensures.row ∙ sym (get-rows_in c.self.inside.slots.entries c.args.key.now) ∙ ap (λ (k : Kept). get k.rows c.args.key.now) c.self.view_is

pub returns-clause-rows : goal.returns-clause-rows
returns-clause-rows c =
    rows_in-taken c.self.inside.slots.entries c.set_row.new.slots.entries c.args.key.now c.set_row.ensures.beside None c.set_row.ensures.here refl
    ∙ ap (λ (k : Kept). remove k.rows c.args.key.now) c.self.view_is

pub returns-clause-slots : goal.returns-clause-slots
returns-clause-slots c =
    numbers_in-set c.self.inside.slots.entries c.set_row.new.slots.entries c.args.key.now c.set_row.ensures.beside None c.set_row.ensures.here
    ∙ ap (λ (k : Kept). k.slots) c.self.view_is
