use Rattle.std.specs.Prelude.{◌≡◌, List, ℕ, true}
use Rattle.std.specs.FinMap.{remove}
use Rattle.std.proofs.Common.{sym, ◌∙◌, ap, subst}
use Rattle.model.specs.Footprint.{both_have}
use Rattle.model.specs.Rows.{values_in}
use Rattle.model.specs.Effect.{are_taken_unless_null}
use Rattle.indexes.specs.Content.{unique_columns}
use Rattle.change.proofs.Clashes.{kept_is_free, taken_in_rest, free_without, not_found}
use Rattle.change.proofs.outcome.has_duplicate.Goals as goal

pub returns-then-keeps_values : goal.returns-then-keeps_values
returns-then-keeps_values c =
    let keeps =
    subst (λ (columns : List ℕ). both_have (values_in columns c.args.old.row.now) (values_in columns c.args.row.now) ≡ true) c.unique_columns.ensures
    (sym c.keeps_values.ensures ∙ c.if-keeps_values.true) in
    sym (kept_is_free c.args.t.now.schema c.args.t.now.rows c.requires.sound.valid c.args.table c.args.number c.requires.number c.args.old.key.now c.args.old.row.now c.args.row.now c.requires.stands keeps)

pub returns-in-None : goal.returns-in-None
returns-in-None c =
    let columns = unique_columns c.args.t.now.schema c.args.table c.args.number in
    sym (free_without c.args.t.now.rows c.args.table columns (values_in columns c.args.row.now) c.args.old.key.now
    (not_found _ _ c.find_duplicate.ensures.taken c.in-None.is))

pub returns-in-Some : goal.returns-in-Some
returns-in-Some c =
    let columns = unique_columns c.args.t.now.schema c.args.table c.args.number in
    let duplicate = c.in-Some.ensures.key in
    c.ne.ensures ∙ sym (taken_in_rest c.args.t.now.schema c.args.t.now.rows c.requires.sound.valid c.args.table c.args.number duplicate.0 c.in-Some.holder.now c.args.old.key.now duplicate.2 c.requires.number duplicate.3 duplicate.4)
    ∙ ap (are_taken_unless_null (remove c.args.t.now.rows (c.args.table, c.args.old.key.now)) c.args.table columns) (sym duplicate.1)
