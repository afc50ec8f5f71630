use Rattle.std.proofs.Common.{◌∙◌, ap}
use Rattle.std.specs.FinMap.{get}
use Rattle.rows.specs.Kept.{Kept}
use Rattle.rows.proofs.Slots.{found-none}
use Rattle.rows.proofs.Names.{numbered}
use Rattle.rows.proofs.Making.{made_slot}
use Rattle.rows.specs.Slots.{numbers_in}
use Rattle.rows.proofs.ordered.OrderedRows.make_slot.Goals as goal

pub add_slot-requires : goal.add_slot-requires
add_slot-requires c =
    found-none c.self.inside.slots.entries c.args.key.now (ap (λ (k : Kept). get k.slots c.args.key.now) c.self.view_is ∙ c.requires)

pub invariant_of-self : goal.invariant_of-self
invariant_of-self c =
    (made_slot c.self.inside.slots.entries c.add_slot.new.slots.entries c.self.inside.keys c.add_slot.new.keys c.args.key.now c.add_slot.ensures.beside
    (ap (λ (k : Kept). get k.slots c.args.key.now) c.self.view_is ∙ c.requires) c.self.invariant c.add_slot.result c.add_slot.ensures.ok c.add_slot.ensures.err).named

pub returns : goal.returns
returns c =
    let makes =
    made_slot c.self.inside.slots.entries c.add_slot.new.slots.entries c.self.inside.keys c.add_slot.new.keys c.args.key.now c.add_slot.ensures.beside
    (ap (λ (k : Kept). get k.slots c.args.key.now) c.self.view_is ∙ c.requires) c.self.invariant c.add_slot.result c.add_slot.ensures.ok c.add_slot.ensures.err in
    record {
      rows = makes.rows ∙ ap (λ (k : Kept). k.rows) c.self.view_is;
      slots = λ key number e. makes.slots key number (ap (λ (k : Kept). get k.slots key) c.self.view_is ∙ e);
      ok = makes.number;
      numbered = numbered (numbers_in c.add_slot.new.slots.entries) c.add_slot.new.keys makes.named;
    }
