use Rattle.std.proofs.Common.{◌∙◌, sym, ap, length}
use Rattle.std.specs.Arc.{arc_slice_items}
use Rattle.model.specs.Packed.{columns_in}
use Rattle.model.proofs.Blocks.{count_columns}
use Rattle.model.proofs.columns.Columns.len.Goals as goal

pub returns : goal.returns
returns c =
    c.columns.ensures ∙ ap columns_in c.as_slice.ensures.value ∙ sym (count_columns (arc_slice_items c.self.inside.block))
    ∙ ap length c.self.view_is
