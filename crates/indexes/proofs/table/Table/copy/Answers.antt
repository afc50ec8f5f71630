use Rattle.std.proofs.Common.{◌≡◌, map, ◌∙◌, ap}
use Rattle.indexes.specs.Unique.{plain}
use Rattle.indexes.proofs.Copying.{indexed_copied, seen_copied}
use Rattle.indexes.proofs.table.Table.copy.Goals as goal

same_uniques : (c : goal.After-result-3-1) → map plain c.in_ok-copy_each.field-0.items ≡ map plain c.self.inside.uniques.items
same_uniques c = c.in_ok-copy_each.ensures ∙ ap (map plain) c.as_slice-2.ensures.value

pub invariant_of-result : goal.invariant_of-result
invariant_of-result c = rw (c.in_ok-copy_numbers.ensures, c.as_slice.ensures.value, c.in_ok-copy.ensures)
    (indexed_copied c.self.inside.primary.items c.self.inside.rows c.self.inside.uniques.items c.in_ok-copy_each.field-0.items c.self.invariant (same_uniques c))

pub returns : goal.returns
returns c =
    seen_copied c.self.inside.primary.items c.in_ok-copy_numbers.field-0.items c.self.inside.rows c.in_ok-copy.field-0 c.self.inside.uniques.items c.in_ok-copy_each.field-0.items
    (c.in_ok-copy_numbers.ensures ∙ c.as_slice.ensures.value) c.in_ok-copy.ensures (same_uniques c)
    ∙ c.self.view_is
