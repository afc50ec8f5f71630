use Rattle.std.specs.Prelude.{◌≡◌, Some}
use Rattle.std.proofs.Common.{sym, ◌∙◌, ap}
use Rattle.std.specs.FinMap.{get}
use Rattle.model.specs.declared.key.Key.{Key}
use Rattle.rows.specs.Kept.{Kept}
use Rattle.rows.specs.Slots.{with_row}
use Rattle.rows.proofs.HashedSlots.{row_by_number}
use Rattle.rows.proofs.HashedMaking.{set_numbers, set_rows, set_names}
use Rattle.rows.proofs.hashed.HashedRows.set_at.Goals as goal

pub invariant_of-self : goal.invariant_of-self
invariant_of-self g c =
    record {
      named = set_names c.self.inside.slots c.set_row.new.slots c.self.inside.order c.requires.0 c.args.number c.args.row
          c.self.invariant.named (ap (λ (k : Kept). get k.slots c.requires.0) c.self.view_is ∙ c.requires.1) c.set_row.ensures.set;
      hashed = c.self.invariant.hashed;
    }

pub returns : goal.returns
returns g c =
    let s = c.self.inside.slots in
    let t = c.set_row.new.slots in
    let es = c.self.inside.order in
    let row = c.args.row in
    let named = c.self.invariant.named in
    let has = λ (key : Key) (e : get c.args.self.now.slots key ≡ Some c.args.number). ap (λ (k : Kept). get k.slots key) c.self.view_is ∙ e in
    record {
      stood = λ key e. c.set_row.ensures.row ∙ sym (row_by_number s es key c.args.number (has key e)) ∙ ap (λ (k : Kept). get k.rows key) c.self.view_is;
      rows = λ key e. set_rows s t es key c.args.number row named (has key e) c.set_row.ensures.set ∙ ap (λ (k : Kept). with_row k.rows key row) c.self.view_is;
      slots = set_numbers s t es c.requires.0 c.args.number row named (has c.requires.0 c.requires.1) c.set_row.ensures.set ∙ ap (λ (k : Kept). k.slots) c.self.view_is;
    }
