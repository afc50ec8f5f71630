use Rattle.std.specs.Prelude.{Some, refl, IsSome}
use Rattle.std.proofs.Common.{sym, ◌∙◌, ap, subst}
use Rattle.std.specs.FinMap.{get, insert}
use Rattle.rows.specs.Kept.{Kept}
use Rattle.rows.proofs.Slots.{numbers_in-set, rows_in-set, get-rows_in}
use Rattle.rows.proofs.ordered.OrderedRowsRowStore.replace.Goals as goal

pub invariant_of-self : goal.invariant_of-self
invariant_of-self c =
    let same = numbers_in-set c.self.inside.slots.entries c.set_row.new.slots.entries c.args.key.now c.set_row.ensures.beside (Some c.args.row) c.set_row.ensures.here in
    record {
      named = λ key number e. c.self.invariant.named key number (ap (λ m. get m key) (sym same) ∙ e);
      names = λ key number e. ap (λ m. get m key) same ∙ c.self.invariant.names key number e;
    }

pub returns-clause-rows : goal.returns-clause-rows
returns-clause-rows c =
    rows_in-set c.self.inside.slots.entries c.set_row.new.slots.entries c.args.key.now c.set_row.ensures.beside (Some c.args.row) c.set_row.ensures.here c.args.row refl
    (subst (λ (k : Kept). IsSome (get k.slots c.args.key.now)) (sym c.self.view_is) c.requires)
    ∙ ap (λ (k : Kept). insert k.rows c.args.key.now c.args.row) c.self.view_is

pub returns-clause-slots : goal.returns-clause-slots
returns-clause-slots c =
    numbers_in-set c.self.inside.slots.entries c.set_row.new.slots.entries c.args.key.now c.set_row.ensures.beside (Some c.args.row) c.set_row.ensures.here
    ∙ ap (λ (k : Kept). k.slots) c.self.view_is

pub returns-clause-stood : goal.returns-clause-stood
returns-clause-stood c =
    c.set_row.ensures.row ∙ sym (get-rows_in c.self.inside.slots.entries c.args.key.now) ∙ ap (λ (k : Kept). get k.rows c.args.key.now) c.self.view_is
