use Rattle.indexes.proofs.Tabling.{slot_has_duplicate, none_is_duplicate}
use Rattle.indexes.proofs.table.Table.find_duplicate.Goals as goal

pub returns-in-Some : goal.returns-in-Some
returns-in-Some c =
    slot_has_duplicate c.self.inside.primary.items c.self.inside.rows c.self.inside.uniques.items c.self.invariant _ c.self.view_is c.args.number c.requires c.index.result.now c.index.ensures
    c.args.row.now c.in-Some.slot c.in-Some.ensures c.key_at.result c.key_at.ensures

pub returns-in-None-clause-missed : goal.returns-in-None-clause-missed
returns-in-None-clause-missed c =
    none_is_duplicate c.self.inside.primary.items c.self.inside.rows c.self.inside.uniques.items c.self.invariant _ c.self.view_is c.args.number c.requires c.index.result.now c.index.ensures
    c.args.row.now c.in-None.ensures
