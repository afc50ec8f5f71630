use Rattle.std.specs.Prelude.{◌≡◌, ℕ, Option, Some, None, refl, is_some}
use Rattle.std.proofs.Common.{rules, sym, ◌∙◌, ap, subst}
use Rattle.std.specs.FinMap.{get, insert}
use Rattle.model.specs.Rows.{values_in, TableKeys}
use Rattle.rows.specs.Kept.{Kept}
use Rattle.indexes.specs.Table.{TableContent, KeepsSpots, spots_of, NoClash}
use Rattle.indexes.specs.Unique.{EachStep, Sets}
use Rattle.indexes.specs.Indexed.{IsIndexed, columns_of}
use Rattle.indexes.proofs.Tabling.{left_set, slot_of_room, entries_of_room, sets_put, indexed_filled, free_values, kept_is}
use Rattle.indexes.proofs.table.Table.put_back.Goals as goal

pub restore-requires : goal.restore-requires
restore-requires c =
    let keys : TableKeys = record { primary = c.self.inside.primary.items; uniques = columns_of c.self.inside.uniques.items } in
    let place = slot_of_room keys c.self.inside.rows c.self.inside.uniques.items c.args.row c.args.key.now
    (subst (λ (t : TableContent). values_in t.keys.primary c.args.row ≡ Some c.args.key.now) (sym c.self.view_is) c.requires.own_key)
    (subst (λ (t : TableContent). KeepsSpots (spots_of t.keys c.args.row) t.room) (sym c.self.view_is) c.requires.room) in
    ap is_some place.1

pub invariant_of-self : goal.invariant_of-self
invariant_of-self c =
    let us = c.self.inside.uniques.items in
    let vs = c.set_each.new.uniques.items in
    let kept = c.self.inside.rows in
    let keys : TableKeys = record { primary = c.self.inside.primary.items; uniques = columns_of us } in
    let own = subst (λ (t : TableContent). values_in t.keys.primary c.args.row ≡ Some c.args.key.now) (sym c.self.view_is) c.requires.own_key in
    let room = subst (λ (t : TableContent). KeepsSpots (spots_of t.keys c.args.row) t.room) (sym c.self.view_is) c.requires.room in
    let clash = subst (λ (t : TableContent). NoClash t.keys t.rows c.args.row) (sym c.self.view_is) c.requires.unique in
    let absent = subst (λ (t : TableContent). get t.rows c.args.key.now ≡ None) (sym c.self.view_is) c.requires.free in
    let place = slot_of_room keys kept us c.args.row c.args.key.now own room in
    let steps = subst (λ (n : Option ℕ). EachStep (Sets c.args.row n) us vs) (c.slot-number.ensures.number ∙ place.1) c.set_each.ensures in
    subst (λ (k : Kept). IsIndexed c.self.inside.primary.items k vs)
    (sym (kept_is c.restore.new.self (insert kept.rows c.args.key.now c.args.row) kept.slots c.restore.ensures.rows c.restore.ensures.slots))
    (indexed_filled c.self.inside.primary.items kept us vs c.args.key.now c.args.row place.0 c.self.invariant own place.1 absent
    (free_values keys c.self.inside.primary.items kept us c.args.row refl c.self.invariant clash) (sets_put c.args.row place.0 us vs (entries_of_room keys kept us c.args.row refl room) steps))

pub returns : goal.returns
returns c =
    let left = left_set c.self.inside.primary.items c.self.inside.rows c.restore.new.self c.self.inside.uniques.items c.set_each.new.uniques.items _ c.self.view_is
    c.args.row c.slot-number.result c.restore.ensures.slots c.set_each.ensures (invariant_of-self c) in
    record { keys = left.keys; rows = search rules; kept = left.kept; sound = left.sound }
