use Rattle.std.specs.List.{list_any}
use Rattle.std.proofs.Common.{sym, ◌∙◌, ap}
use Rattle.model.specs.declared.change.Change.{Change}
use Rattle.model.specs.declared.change.Change.TheVariants.{Put, Wipe}
use Rattle.model.specs.Footprint.{footprint}
use Rattle.change.proofs.search.any_cell.Goals as goal

pub returns-in-Put : goal.returns-in-Put
unfolding footprint
returns-in-Put g c =
    c.any_put.ensures
    ∙ ap (λ (d : Change). list_any (g.T.CellTest.passes c.args.test.now) (footprint c.args.t.now.schema c.args.t.now.rows d)) (ap (Put c.in-Put.table) c.of_row.ensures ∙ sym c.in-Put.is)

pub returns-in-Set : goal.returns-in-Set
unfolding footprint
returns-in-Set g c =
    c.any_set.ensures ∙ ap (λ (d : Change). list_any (g.T.CellTest.passes c.args.test.now) (footprint c.args.t.now.schema c.args.t.now.rows d)) (sym c.in-Set.is)

pub returns-in-Remove : goal.returns-in-Remove
unfolding footprint
returns-in-Remove g c =
    c.any_remove.ensures ∙ ap (λ (d : Change). list_any (g.T.CellTest.passes c.args.test.now) (footprint c.args.t.now.schema c.args.t.now.rows d)) (sym c.in-Remove.is)

pub returns-in-Wipe : goal.returns-in-Wipe
unfolding footprint
returns-in-Wipe g c =
    c.any_wipe.ensures
    ∙ ap (λ (d : Change). list_any (g.T.CellTest.passes c.args.test.now) (footprint c.args.t.now.schema c.args.t.now.rows d)) (ap Wipe c.ids.ensures ∙ sym c.in-Wipe.is)
