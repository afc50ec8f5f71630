use Rattle.std.proofs.Common.{◌≡◌, Some, None, refl, sym, ◌∙◌, ap, subst}
use Rattle.std.specs.FinMap.{get, insert, remove}
use Rattle.model.specs.declared.row.Row.{Row}
use Rattle.model.specs.Rows.{Rows, Schema, key_of, keys_at}
use Rattle.model.specs.Effect.{back, first_taken}
use Rattle.model.specs.EditLemmas.{get_remove_same, overlay_one, overlay_two}
use Rattle.change.specs.declared.inverse.Inverse.{Inverse}
use Rattle.change.specs.declared.inverse.Inverse.TheVariants.{Put}
use Rattle.change.specs.declared.inverse.MovedKeys.{MovedKeys}
use Rattle.change.specs.Inverse.{CanPutBack, edits_of}
use Rattle.change.specs.InverseLemmas.{back_unwipe}
use Rattle.change.specs.Turned.{IsTurned}
use Rattle.change.proofs.Restoring.{put_own_key, put_unique, insert_over, replace_own_key, replace_unique, move_own_key, move_unique}
use Rattle.change.proofs.inverse.put_back_and_keep.Goals as goal

pub put_back-requires-clause-own_key : goal.put_back-requires-clause-own_key
put_back-requires-clause-own_key c =
    put_own_key c.args.t.now c.in-Put.table c.in-Put.key c.in-Put.row (subst (CanPutBack c.args.t.now) c.in-Put.is c.requires)

pub put_back-requires-clause-unique : goal.put_back-requires-clause-unique
put_back-requires-clause-unique c =
    put_unique c.args.t.now c.in-Put.table c.in-Put.key c.in-Put.row (subst (CanPutBack c.args.t.now) c.in-Put.is c.requires)

-- ---- a row that another one came in place of

pub put_back-requires-in-Replace-clause-own_key : goal.put_back-requires-in-Replace-clause-own_key
put_back-requires-in-Replace-clause-own_key c =
    subst (λ (s : Schema). key_of s c.in-Replace.table c.in-Replace.row ≡ Some c.in-Replace.key) (sym c.remove-gone.ensures.schema)
    (replace_own_key c.args.t.now c.in-Replace.table c.in-Replace.key c.in-Replace.row (subst (CanPutBack c.args.t.now) c.in-Replace.is c.requires))

pub put_back-requires-in-Replace-clause-free : goal.put_back-requires-in-Replace-clause-free
put_back-requires-in-Replace-clause-free c =
    ap (λ (rows : Rows). get rows (c.in-Replace.table, c.in-Replace.key)) c.remove-gone.ensures.rows
    ∙ get_remove_same c.args.t.now.rows (c.in-Replace.table, c.in-Replace.key)

pub put_back-requires-in-Replace-clause-unique : goal.put_back-requires-in-Replace-clause-unique
put_back-requires-in-Replace-clause-unique c =
    ap (λ (rows : Rows). first_taken rows c.in-Replace.table c.in-Replace.row 1 (keys_at c.remove-gone.new.self.schema c.in-Replace.table).uniques)
    c.remove-gone.ensures.rows
    ∙ ap (λ (s : Schema). first_taken (remove c.args.t.now.rows (c.in-Replace.table, c.in-Replace.key)) c.in-Replace.table c.in-Replace.row 1 (keys_at s c.in-Replace.table).uniques)
    c.remove-gone.ensures.schema
    ∙ replace_unique c.args.t.now c.in-Replace.table c.in-Replace.key c.in-Replace.row (subst (CanPutBack c.args.t.now) c.in-Replace.is c.requires)

-- ---- a row that has another key since

pub put_back-requires-in-Move-clause-own_key : goal.put_back-requires-in-Move-clause-own_key
put_back-requires-in-Move-clause-own_key c =
    subst (λ (s : Schema). key_of s c.in-Move.table c.in-Move.row ≡ Some c.into_inner-key.result.key) (sym c.remove-gone-in-Move.ensures.schema)
    (subst (λ (k : MovedKeys). key_of c.args.t.now.schema c.in-Move.table c.in-Move.row ≡ Some k.key) (sym c.into_inner-key.ensures)
    (move_own_key c.args.t.now c.in-Move.table c.in-Move.keys c.in-Move.row (subst (CanPutBack c.args.t.now) c.in-Move.is c.requires)))

pub put_back-requires-in-Move-clause-free : goal.put_back-requires-in-Move-clause-free
put_back-requires-in-Move-clause-free c =
    ap (λ (rows : Rows). get rows (c.in-Move.table, c.into_inner-key.result.key)) c.remove-gone-in-Move.ensures.rows
    ∙ subst (λ (k : MovedKeys). get (remove c.args.t.now.rows (c.in-Move.table, k.new_key)) (c.in-Move.table, k.key) ≡ None) (sym c.into_inner-key.ensures)
    (subst (CanPutBack c.args.t.now) c.in-Move.is c.requires).as_left.1

pub put_back-requires-in-Move-clause-unique : goal.put_back-requires-in-Move-clause-unique
put_back-requires-in-Move-clause-unique c =
    ap (λ (rows : Rows). first_taken rows c.in-Move.table c.in-Move.row 1 (keys_at c.remove-gone-in-Move.new.self.schema c.in-Move.table).uniques)
    c.remove-gone-in-Move.ensures.rows
    ∙ ap (λ (s : Schema). first_taken (remove c.args.t.now.rows (c.in-Move.table, c.into_inner-key.result.new_key)) c.in-Move.table c.in-Move.row 1 (keys_at s c.in-Move.table).uniques)
    c.remove-gone-in-Move.ensures.schema
    ∙ subst (λ (k : MovedKeys). first_taken (remove c.args.t.now.rows (c.in-Move.table, k.new_key)) c.in-Move.table c.in-Move.row 1 (keys_at c.args.t.now.schema c.in-Move.table).uniques ≡ None)
    (sym c.into_inner-key.ensures)
    (move_unique c.args.t.now c.in-Move.table c.in-Move.keys c.in-Move.row (subst (CanPutBack c.args.t.now) c.in-Move.is c.requires))

-- ---- the rows then

pub returns-in-Take-clause-rows : goal.returns-in-Take-clause-rows
returns-in-Take-clause-rows c =
    c.remove-row.ensures.rows ∙ sym (overlay_one c.args.t.now.rows (c.in-Take.table, c.in-Take.key) None)
    ∙ ap (λ i. back c.args.t.now.rows (edits_of i)) (sym c.in-Take.is)

pub returns-in-Put-clause-rows : goal.returns-in-Put-clause-rows
returns-in-Put-clause-rows c =
    c.put_back.ensures.rows ∙ sym (overlay_one c.args.t.now.rows (c.in-Put.table, c.in-Put.key) (Some c.in-Put.row))
    ∙ ap (λ i. back c.args.t.now.rows (edits_of i)) (sym c.in-Put.is)

pub returns-in-Replace-clause-rows : goal.returns-in-Replace-clause-rows
returns-in-Replace-clause-rows c =
    c.put_back-in-Replace.ensures.rows
    ∙ ap (λ (rows : Rows). insert rows (c.in-Replace.table, c.in-Replace.key) c.in-Replace.row) c.remove-gone.ensures.rows
    ∙ insert_over c.args.t.now.rows (c.in-Replace.table, c.in-Replace.key) c.in-Replace.row
    ∙ ap (λ i. back c.args.t.now.rows (edits_of i)) (sym c.in-Replace.is)

pub returns-in-Move-clause-rows : goal.returns-in-Move-clause-rows
returns-in-Move-clause-rows c =
    c.put_back-in-Move.ensures.rows
    ∙ ap (λ (rows : Rows). insert rows (c.in-Move.table, c.into_inner-key.result.key) c.in-Move.row) c.remove-gone-in-Move.ensures.rows
    ∙ ap (λ (k : MovedKeys). insert (remove c.args.t.now.rows (c.in-Move.table, k.new_key)) (c.in-Move.table, k.key) c.in-Move.row) c.into_inner-key.ensures
    ∙ sym (overlay_two c.args.t.now.rows (c.in-Move.table, c.in-Move.keys.value.new_key) (c.in-Move.table, c.in-Move.keys.value.key) None (Some c.in-Move.row))
    ∙ ap (λ i. back c.args.t.now.rows (edits_of i)) (sym c.in-Move.is)

pub returns-in-Unwipe-clause-rows : goal.returns-in-Unwipe-clause-rows
returns-in-Unwipe-clause-rows c =
    c.unwipe_all.ensures.rows ∙ sym (back_unwipe c.args.t.now.rows c.in-Unwipe.wiped.items)
    ∙ ap (λ i. back c.args.t.now.rows (edits_of i)) (sym c.in-Unwipe.is)

-- ---- what settles the row that went

pub returns-in-Move-clause-turned : goal.returns-in-Move-clause-turned
returns-in-Move-clause-turned c =
    let kept = Put c.in-Move.table c.into_inner-key.result.new_key c.remove-gone-in-Move.result in
    subst (λ (i : Inverse). IsTurned c.args.t.now.rows i kept) (sym c.in-Move.is)
    (subst (λ (k : MovedKeys). (gone : Row) × (get c.args.t.now.rows (c.in-Move.table, k.new_key) ≡ Some gone) × (kept ≡ Put c.in-Move.table k.new_key gone)) c.into_inner-key.ensures
    (c.remove-gone-in-Move.result, c.remove-gone-in-Move.ensures.stood, refl))

pub returns-in-Put-clause-known : goal.returns-in-Put-clause-known
returns-in-Put-clause-known c = c.nothing.ensures c.args.t.now.schema

pub returns-in-Unwipe-clause-known : goal.returns-in-Unwipe-clause-known
returns-in-Unwipe-clause-known c = c.nothing-in-Unwipe.ensures c.args.t.now.schema
