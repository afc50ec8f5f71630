use Rattle.std.proofs.Common.{sym, ◌∙◌, subst}
use Rattle.std.specs.Box.{box_value}
use Rattle.indexes.specs.Table.{TableContent, KeepsSpots, spots_of}
use Rattle.indexes.proofs.Patterns.{shown_made, shown_no_rows, no_row}
use Rattle.indexes.proofs.lazy.LazyTable.replace_back.Goals as goal

pub replace_back-requires-clause-room : goal.replace_back-requires-clause-room
replace_back-requires-clause-room c =
    let same = c.deref_mut.ensures.value ∙ shown_made box_value _ c.self.inside.made c.args.self.now c.self.view_is c.in-Some.table c.in-Some.is in
    subst (λ (t : TableContent). KeepsSpots (spots_of t.keys c.args.row) t.room) (sym same) c.requires.room

pub unreachable-requires : goal.unreachable-requires
unreachable-requires c =
    no_row c.args.self.now c.args.new_key.now (shown_no_rows box_value _ c.self.inside.made c.args.self.now c.self.view_is c.self.invariant.no_rows c.in-None.is) c.requires.there

pub returns-clause-kept : goal.returns-clause-kept
returns-clause-kept c =
    let same = c.deref_mut.ensures.value ∙ shown_made box_value _ c.self.inside.made c.args.self.now c.self.view_is c.in-Some.table c.in-Some.is in
    subst (λ (t : TableContent). KeepsSpots t.room c.replace_back.new.self.room) same c.replace_back.ensures.kept
