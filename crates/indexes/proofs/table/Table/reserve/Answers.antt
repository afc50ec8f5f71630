use Rattle.std.specs.Prelude.{◌≡◌, Some, refl}
use Rattle.std.proofs.Common.{rules, sym, subst}
use Rattle.model.specs.Rows.{values_in}
use Rattle.indexes.specs.Table.{TableContent}
use Rattle.indexes.specs.Indexed.{columns_of}
use Rattle.indexes.proofs.Tabling.{left_made, room_for, indexed_kept, itself}
use Rattle.std.proofs.lemmas.Result.{on_ok_weaker}
use Rattle.indexes.proofs.table.Table.reserve.Goals as goal

pub invariant_of-self : goal.invariant_of-self
invariant_of-self c =
    indexed_kept c.self.inside.primary.items c.self.inside.rows c.reserve.new.self c.self.inside.uniques.items c.self.inside.uniques.items c.self.invariant
    c.reserve.ensures.rows c.reserve.ensures.slots c.reserve.ensures.numbered (itself c.self.inside.uniques.items)

pub returns-in_err-reserve : goal.returns-in_err-reserve
returns-in_err-reserve c =
    let left = left_made c.self.inside.primary.items c.self.inside.rows c.reserve.new.self c.self.inside.uniques.items c.self.inside.uniques.items _ c.self.view_is
    c.reserve.ensures.rows c.reserve.ensures.slots (itself c.self.inside.uniques.items) (invariant_of-self c) in
    record { keys = left.keys; rows = left.rows; kept = left.kept; ok = search rules; sound = left.sound }

pub invariant_of-self-2 : goal.invariant_of-self-2
invariant_of-self-2 c =
    indexed_kept c.self.inside.primary.items c.self.inside.rows c.reserve.new.self c.self.inside.uniques.items c.reserve_each.new.uniques.items c.self.invariant
    c.reserve.ensures.rows c.reserve.ensures.slots c.reserve.ensures.numbered c.reserve_each.ensures.kept

pub returns : goal.returns
returns c =
    let vs = c.reserve_each.new.uniques.items in
    let left = left_made c.self.inside.primary.items c.self.inside.rows c.reserve.new.self c.self.inside.uniques.items vs _ c.self.view_is c.reserve.ensures.rows
    c.reserve.ensures.slots c.reserve_each.ensures.kept (invariant_of-self-2 c) in
    record {
      keys = left.keys;
      rows = left.rows;
      kept = left.kept;
      ok =
          on_ok_weaker c.reserve_each.result (λ each.
          room_for (record { primary = c.self.inside.primary.items; uniques = columns_of vs }) c.reserve.new.self vs c.args.row.now c.args.key.now _ refl
          (subst (λ (t : TableContent). values_in t.keys.primary c.args.row.now ≡ Some c.args.key.now) (sym c.self.view_is) c.requires)
          c.in_ok-reserve.ensures.ok each) c.reserve_each.ensures.ok;
      sound = left.sound;
    }
