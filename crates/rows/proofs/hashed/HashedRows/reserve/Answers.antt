use Rattle.std.proofs.Common.{sym, ap, ◌∙◌}
use Rattle.std.specs.FinMap.{get}
use Rattle.rows.specs.Hashed.{seen, keys_in}
use Rattle.rows.specs.Kept.{Kept}
use Rattle.rows.specs.Slots.{numbers_in}
use Rattle.rows.proofs.HashedMaking.{slot_given}
use Rattle.rows.proofs.Names.{numbered}
use Rattle.rows.proofs.hashed.HashedRows.reserve.Goals as goal

pub find_or_add-requires : goal.find_or_add-requires
find_or_add-requires g c = sym (c.self.invariant.hashed c.args.key.now)

pub invariant_of-self : goal.invariant_of-self
invariant_of-self g c =
    (slot_given c.self.inside.numbers c.find_or_add.new.numbers c.self.inside.order c.find_or_add.new.order c.self.inside.slots c.find_or_add.new.slots c.args.key.now c.self.invariant
    c.find_or_add.result c.find_or_add.ensures.ok c.find_or_add.ensures.err).0

pub returns : goal.returns
returns g c =
    let given = (slot_given c.self.inside.numbers c.find_or_add.new.numbers c.self.inside.order c.find_or_add.new.order c.self.inside.slots c.find_or_add.new.slots c.args.key.now c.self.invariant
    c.find_or_add.result c.find_or_add.ensures.ok c.find_or_add.ensures.err).1 in
    record {
      rows = given.rows ∙ ap (λ (k : Kept). k.rows) c.self.view_is;
      slots = λ key number e. given.slots key number (ap (λ (k : Kept). get k.slots key) c.self.view_is ∙ e);
      ok = given.number;
      numbered = numbered (numbers_in (seen c.find_or_add.new.slots c.find_or_add.new.order)) (keys_in c.find_or_add.new.slots) given.named;
    }
