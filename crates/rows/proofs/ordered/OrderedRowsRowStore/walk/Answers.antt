use Rattle.std.proofs.Common.{◌∙◌, ap, arith}
use Rattle.std.specs.FinMap.{values}
use Rattle.rows.specs.Kept.{Kept}
use Rattle.rows.specs.Slots.{rows_among}
use Rattle.rows.proofs.Walking.{rows_among-values, length-rows_among}
use Rattle.rows.proofs.ordered.OrderedRowsRowStore.walk.Goals as goal

pub returns-clause-rows : goal.returns-clause-rows
returns-clause-rows c =
    c.over.ensures ∙ ap rows_among c.values.ensures.rest
    ∙ rows_among-values c.self.inside.slots.entries c.values.ensures.ordered ∙ ap (λ (k : Kept). values k.rows) c.self.view_is

pub returns-clause-fits : goal.returns-clause-fits
returns-clause-fits c = rw c.over.ensures (omega (arith, length-rows_among c.values.result, c.values.ensures.len, c.values.ensures.fits))
