use Rattle.std.specs.Prelude.{None}
use Rattle.std.proofs.Common.{rules, sym, subst}
use Rattle.std.specs.FinMap.{remove}
use Rattle.rows.specs.Kept.{Kept}
use Rattle.indexes.specs.Indexed.{IsIndexed}
use Rattle.indexes.proofs.Tabling.{left_set, indexed_cleared, kept_is}
use Rattle.indexes.proofs.table.Table.remove.Goals as goal

pub invariant_of-self : goal.invariant_of-self
invariant_of-self c =
    let us = c.self.inside.uniques.items in
    let vs = c.set_each.new.uniques.items in
    let kept = c.self.inside.rows in
    subst (λ (k : Kept). IsIndexed c.self.inside.primary.items k vs)
    (sym (kept_is c.take.new.self (remove kept.rows c.args.key.now) kept.slots c.take.ensures.rows c.take.ensures.slots))
    (indexed_cleared c.self.inside.primary.items kept us vs c.args.key.now c.in-Some.row c.self.invariant (sym c.in-Some.ensures.row) c.set_each.ensures)

pub returns : goal.returns
returns c =
    let left = left_set c.self.inside.primary.items c.self.inside.rows c.take.new.self c.self.inside.uniques.items c.set_each.new.uniques.items _ c.self.view_is
    c.in-Some.row None c.take.ensures.slots c.set_each.ensures (invariant_of-self c) in
    record { keys = left.keys; rows = search rules; stood = search rules; kept = left.kept; sound = left.sound }
