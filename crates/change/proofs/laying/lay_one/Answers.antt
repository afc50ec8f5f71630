use Rattle.std.proofs.Common.{◌≡◌, Bor, Some, sym, ap, ◌∙◌}
use Rattle.std.specs.Prelude.{option_map}
use Rattle.model.specs.declared.row.Row.{Row}
use Rattle.change.proofs.LayingUnder.{other_table, known_here, laid_here}
use Rattle.change.proofs.laying.lay_one.Goals as goal
use Rattle.change.proofs.laying.lay_one.Goals.{in-Some+in_ok-copy-in-Some, in-None}

pub returns-then-other-table : goal.returns-then-other-table
returns-then-other-table c = other_table c.args.known.now c.args.table c.args.other c.args.key.now _ c.if-other-table.true

pub returns-then-contains_key : goal.returns-then-contains_key
returns-then-contains_key c =
    known_here c.args.known.now c.args.table c.args.other c.if-other-table.false c.args.key.now _ (sym c.contains_key.ensures ∙ c.if-contains_key.true)

pub returns : goal.returns
returns c =
    let row_is : c.match-row.row ≡ option_map (λ (r : Bor Row). r.now) c.args.row =
    elim c.match-row.branch [
      | in-Some+in_ok-copy-in-Some w ↦ w.row-is ∙ ap Some w.in_ok-copy-in-Some.ensures ∙ ap (option_map (λ (r : Bor Row). r.now)) (sym w.in-Some.is)
      | in-None w ↦ w.row-is ∙ ap (option_map (λ (r : Bor Row). r.now)) (sym w.in-None.is)
    ] in
    laid_here c.args.known.now c.insert.new.self c.args.table c.args.other c.if-other-table.false c.args.key.now c.in_ok-copy.field-0 c.in_ok-copy.ensures _ c.match-row.row row_is
    (sym c.contains_key.ensures ∙ c.if-contains_key.false) c.in_ok-insert.ensures.updates
