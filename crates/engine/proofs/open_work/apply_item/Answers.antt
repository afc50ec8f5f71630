use Rattle.std.proofs.Common.{[], ◌∷◌, IfErr, sym, subst}
use Rattle.model.specs.Survivors.{changes_of}
use Rattle.model.specs.declared.item.Item.{Item}
use Rattle.engine.specs.FirstClash.{ClashesIn}
use Rattle.engine.specs.FirstClashLemmas.{one_refused}
use Rattle.engine.proofs.open_work.apply_item.Goals as goal

pub returns-in-Change-clause-refused : goal.returns-in-Change-clause-refused
returns-in-Change-clause-refused c =
    let schema = c.args.tables.now.schema in
    let rows = c.args.tables.now.rows in
    subst (λ (item : Item). IfErr c.apply.result (ClashesIn schema rows (changes_of (item ∷ [])))) (sym c.in-Change.is)
    (one_refused schema rows c.in-Change.change c.apply.result c.apply.ensures.refused)
