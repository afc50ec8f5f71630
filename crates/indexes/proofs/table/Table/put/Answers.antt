use Rattle.std.specs.Prelude.{◌≡◌, Some, Ok, Err, refl}
use Rattle.std.proofs.Common.{rules, sym, ◌∙◌, ap, subst}
use Rattle.std.proofs.lemmas.Result.{err_from_is_err_and}
use Rattle.std.specs.FinMap.{get, insert}
use Rattle.model.specs.Rows.{values_in, TableKeys}
use Rattle.rows.specs.Kept.{Kept}
use Rattle.indexes.specs.Table.{TableContent, TellsTaken}
use Rattle.indexes.specs.Indexed.{IsIndexed, columns_of}
use Rattle.indexes.proofs.Entries.{none_of_false}
use Rattle.indexes.proofs.Tabling.{left_put, left_made, room_for, indexed_kept, indexed_filled, free_values, entries_of_puts, kept_is, itself}
use Rattle.indexes.proofs.Taken.{told_of_indexes, no_clash_of_none}
use Rattle.indexes.proofs.table.Table.put.Goals as goal

-- a slot was made
pub invariant_of-self : goal.invariant_of-self
invariant_of-self c =
    indexed_kept c.self.inside.primary.items c.self.inside.rows c.reserve.new.self c.self.inside.uniques.items c.self.inside.uniques.items c.self.invariant
    c.reserve.ensures.rows c.reserve.ensures.slots c.reserve.ensures.numbered (itself c.self.inside.uniques.items)

pub returns-in_err-number : goal.returns-in_err-number
returns-in_err-number c =
    let left = left_made c.self.inside.primary.items c.self.inside.rows c.reserve.new.self c.self.inside.uniques.items c.self.inside.uniques.items _ c.self.view_is
    c.reserve.ensures.rows c.reserve.ensures.slots (itself c.self.inside.uniques.items) (invariant_of-self c) in
    record { keys = left.keys; ok = search rules; err = search rules; told = search rules; kept = left.kept; room = search rules; sound = left.sound }

-- a row stands at the key
pub invariant_of-self-then-is_some : goal.invariant_of-self-then-is_some
invariant_of-self-then-is_some c =
    indexed_kept c.self.inside.primary.items c.self.inside.rows c.reserve.new.self c.self.inside.uniques.items c.self.inside.uniques.items c.self.invariant
    c.reserve.ensures.rows c.reserve.ensures.slots c.reserve.ensures.numbered (itself c.self.inside.uniques.items)

pub returns-then-is_some : goal.returns-then-is_some
returns-then-is_some c =
    let left = left_made c.self.inside.primary.items c.self.inside.rows c.reserve.new.self c.self.inside.uniques.items c.self.inside.uniques.items _ c.self.view_is
    c.reserve.ensures.rows c.reserve.ensures.slots (itself c.self.inside.uniques.items) (invariant_of-self-then-is_some c) in
    record { keys = left.keys; ok = search rules; err = search rules; told = search rules; kept = left.kept; room = search rules; sound = left.sound }

-- an index has the row's values, or the entries were refused memory
pub invariant_of-self-in_err-put_each : goal.invariant_of-self-in_err-put_each
invariant_of-self-in_err-put_each c =
    indexed_kept c.self.inside.primary.items c.self.inside.rows c.reserve.new.self c.self.inside.uniques.items c.put_each.new.uniques.items c.self.invariant
    c.reserve.ensures.rows c.reserve.ensures.slots c.reserve.ensures.numbered c.in_err-put_each.ensures.err

pub returns-in_err-put_each : goal.returns-in_err-put_each
returns-in_err-put_each c =
    let us = c.self.inside.uniques.items in
    let left = left_made c.self.inside.primary.items c.self.inside.rows c.reserve.new.self us c.put_each.new.uniques.items _ c.self.view_is
    c.reserve.ensures.rows c.reserve.ensures.slots c.in_err-put_each.ensures.err (invariant_of-self-in_err-put_each c) in
    let none = sym (c.row_at.ensures c.args.key.now c.in_ok-number.ensures.ok) ∙ none_of_false c.row_at.result (sym c.is_some.ensures ∙ c.if-is_some.false) in
    let absent = ap (λ m. get m c.args.key.now) (sym c.reserve.ensures.rows) ∙ none in
    let e = err_from_is_err_and c.from_residual-in_err-put_each.result c.from_residual-in_err-put_each.ensures.1 in
    let keys : TableKeys = record { primary = c.self.inside.primary.items; uniques = columns_of us } in
    let told = told_of_indexes keys c.self.inside.rows us refl c.self.invariant c.args.key.now c.args.row absent c.put_each.result c.put_each.ensures.told in
    record {
      keys = left.keys;
      ok = search rules;
      err = search rules;
      told =
          subst (λ (t : TableContent). TellsTaken t.keys t.rows c.args.key.now c.args.row c.from_residual-in_err-put_each.result) c.self.view_is
          (subst (TellsTaken keys c.self.inside.rows.rows c.args.key.now c.args.row) (c.in_err-put_each.was ∙ ap Err (sym e.2) ∙ sym e.1) told);
      kept = left.kept;
      room = search rules;
      sound = left.sound;
    }

pub replace_at-requires : goal.replace_at-requires
replace_at-requires c = (c.args.key.now, c.in_ok-number.ensures.ok)

-- the row came
pub invariant_of-self-2 : goal.invariant_of-self-2
invariant_of-self-2 c =
    let primary = c.self.inside.primary.items in
    let us = c.self.inside.uniques.items in
    let vs = c.put_each.new.uniques.items in
    let old = c.self.inside.rows in
    let kept = c.reserve.new.self in
    let keys : TableKeys = record { primary = primary; uniques = columns_of us } in
    let own = subst (λ (t : TableContent). values_in t.keys.primary c.args.row ≡ Some c.args.key.now) (sym c.self.view_is) c.requires in
    let none = sym (c.row_at.ensures c.args.key.now c.in_ok-number.ensures.ok) ∙ none_of_false c.row_at.result (sym c.is_some.ensures ∙ c.if-is_some.false) in
    let absent = ap (λ m. get m c.args.key.now) (sym c.reserve.ensures.rows) ∙ none in
    let told = told_of_indexes keys old us refl c.self.invariant c.args.key.now c.args.row absent (Ok c.in_ok-put_each.field-0) c.in_ok-put_each.ensures.told in
    let was = indexed_kept primary old kept us us c.self.invariant c.reserve.ensures.rows c.reserve.ensures.slots c.reserve.ensures.numbered (itself us) in
    subst (λ (k : Kept). IsIndexed primary k vs)
    (sym (kept_is c.replace_at.new.self (insert kept.rows c.args.key.now c.args.row) kept.slots (c.replace_at.ensures.rows c.args.key.now c.in_ok-number.ensures.ok) c.replace_at.ensures.slots))
    (indexed_filled primary kept us vs c.args.key.now c.args.row c.in_ok-number.number was own c.in_ok-number.ensures.ok none
    (free_values keys primary old us c.args.row refl c.self.invariant (no_clash_of_none keys old.rows c.args.key.now c.args.row told)) c.in_ok-put_each.ensures.ok)

pub returns : goal.returns
returns c =
    let us = c.self.inside.uniques.items in
    let vs = c.put_each.new.uniques.items in
    let left = left_put c.self.inside.primary.items c.self.inside.rows c.replace_at.new.self us vs _ c.self.view_is c.args.row c.in_ok-number.number
    (λ key number at. ap (λ m. get m key) c.replace_at.ensures.slots ∙ c.reserve.ensures.slots key number at) c.in_ok-put_each.ensures.ok (invariant_of-self-2 c) in
    let none = sym (c.row_at.ensures c.args.key.now c.in_ok-number.ensures.ok) ∙ none_of_false c.row_at.result (sym c.is_some.ensures ∙ c.if-is_some.false) in
    let absent = ap (λ m. get m c.args.key.now) (sym c.reserve.ensures.rows) ∙ none in
    let keys : TableKeys = record { primary = c.self.inside.primary.items; uniques = columns_of us } in
    record {
      keys = left.keys;
      ok = search rules;
      err = search rules;
      told =
          subst (λ (t : TableContent). TellsTaken t.keys t.rows c.args.key.now c.args.row (Ok c.in_ok-put_each.field-0)) c.self.view_is
          (told_of_indexes keys c.self.inside.rows us refl c.self.invariant c.args.key.now c.args.row absent (Ok c.in_ok-put_each.field-0) c.in_ok-put_each.ensures.told);
      kept = left.kept;
      room =
          room_for (record { primary = c.self.inside.primary.items; uniques = columns_of vs }) c.replace_at.new.self vs c.args.row c.args.key.now c.in_ok-number.number refl
          (subst (λ (t : TableContent). values_in t.keys.primary c.args.row ≡ Some c.args.key.now) (sym c.self.view_is) c.requires)
          (ap (λ m. get m c.args.key.now) c.replace_at.ensures.slots ∙ c.in_ok-number.ensures.ok)
          (entries_of_puts c.args.row c.in_ok-number.number us vs c.in_ok-put_each.ensures.ok);
      sound = left.sound;
    }
