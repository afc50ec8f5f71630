use Rattle.std.specs.Prelude.{refl}
use Rattle.std.proofs.Common.{sym, subst}
use Rattle.std.specs.List.{Contains}
use Rattle.indexes.specs.Table.{TableContent, KeepsSpots, spots_of, IsOfSettled, IsFilled}
use Rattle.indexes.specs.Indexed.{columns_of, room_of}
use Rattle.indexes.proofs.Settled.{settled_gone}
use Rattle.indexes.proofs.Tabling.{keys_stay, indexed_settled, settled_fewer, room_settled, sound}
use Rattle.indexes.proofs.table.Table.settle.Goals as goal

pub invariant_of-self : goal.invariant_of-self
invariant_of-self c =
    indexed_settled c.self.inside.rows c.settle.new.self c.args.key.now c.settle.ensures.rows c.settle.ensures.slots
    c.self.inside.primary.items c.self.inside.uniques.items c.settle_each.new.uniques.items c.args.row.now c.self.invariant c.settle_each.ensures

pub returns-clause-keys : goal.returns-clause-keys
returns-clause-keys c =
    let steps = c.settle_each.ensures in
    keys_stay c.self.inside.primary.items c.self.inside.rows c.settle.new.self c.self.inside.uniques.items c.settle_each.new.uniques.items _ c.self.view_is steps.long
    (λ k d l. (steps.each k d l).columns)

pub returns-clause-others : goal.returns-clause-others
returns-clause-others c = λ s not_row not_key has.
    room_settled c.self.inside.rows c.settle.new.self c.args.key.now c.settle.ensures.rows c.settle.ensures.slots
    (record { primary = c.self.inside.primary.items; uniques = columns_of c.self.inside.uniques.items }) c.self.inside.uniques.items c.settle_each.new.uniques.items c.args.row.now refl c.settle_each.ensures s
    (λ there. not_row (subst (λ (t : TableContent). Contains (spots_of t.keys c.args.row.now) s) c.self.view_is there)) not_key
    (subst (λ (t : TableContent). Contains t.room s) (sym c.self.view_is) has)

pub returns-clause-sound : goal.returns-clause-sound
returns-clause-sound c =
    sound (record { primary = c.self.inside.primary.items; uniques = columns_of c.settle_each.new.uniques.items }) c.settle.new.self c.settle_each.new.uniques.items refl (invariant_of-self c)

pub returns-clause-gone : goal.returns-clause-gone
returns-clause-gone c = λ s of empty room.
    settled_gone (record { primary = c.self.inside.primary.items; uniques = columns_of c.self.inside.uniques.items }) c.self.inside.rows c.settle.new.self
    c.self.inside.uniques.items c.settle_each.new.uniques.items c.args.key.now c.args.row.now refl c.self.invariant c.settle.ensures.slots c.settle_each.ensures s
    (subst (λ (t : TableContent). IsOfSettled t.keys c.args.key.now c.args.row.now s) (sym c.self.view_is) of)
    (λ filled. empty (subst (λ (t : TableContent). IsFilled t.keys t.rows s) c.self.view_is filled)) room

pub returns-clause-fewer : goal.returns-clause-fewer
returns-clause-fewer c =
    subst (λ (t : TableContent). KeepsSpots (room_of c.settle.new.self c.settle_each.new.uniques.items) t.room) c.self.view_is
    (settled_fewer c.self.inside.rows c.settle.new.self c.args.key.now c.settle.ensures.rows c.settle.ensures.slots
    c.self.inside.uniques.items c.settle_each.new.uniques.items c.args.row.now c.settle_each.ensures)
