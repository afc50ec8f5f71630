use Rattle.std.proofs.Common.{sym, ◌∙◌, subst}
use Rattle.std.specs.Box.{box_value}
use Rattle.indexes.specs.Table.{TableContent, KeepsSpots, spots_of}
use Rattle.indexes.proofs.Patterns.{shown_made, shown_no_room, no_place}
use Rattle.indexes.proofs.lazy.LazyTable.put_back.Goals as goal

pub put_back-requires-clause-room : goal.put_back-requires-clause-room
put_back-requires-clause-room c =
    let same = c.deref_mut.ensures.value ∙ shown_made box_value _ c.self.inside.made c.args.self.now c.self.view_is c.in-Some.table c.in-Some.is in
    subst (λ (t : TableContent). KeepsSpots (spots_of t.keys c.args.row) t.room) (sym same) c.requires.room

pub unreachable-requires : goal.unreachable-requires
unreachable-requires c =
    no_place c.args.self.now c.args.row c.args.key.now (shown_no_room box_value _ c.self.inside.made c.args.self.now c.self.view_is c.self.invariant.no_room c.in-None.is)
    c.requires.own_key c.requires.room

pub returns-clause-kept : goal.returns-clause-kept
returns-clause-kept c =
    let same = c.deref_mut.ensures.value ∙ shown_made box_value _ c.self.inside.made c.args.self.now c.self.view_is c.in-Some.table c.in-Some.is in
    subst (λ (t : TableContent). KeepsSpots t.room c.put_back.new.self.room) same c.put_back.ensures.kept
