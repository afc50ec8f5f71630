use Rattle.std.specs.Prelude.{◌≡◌, None}
use Rattle.std.proofs.Common.{rules, sym, ◌∙◌, ap, subst}
use Rattle.std.specs.Box.{box_value}
use Rattle.std.specs.List.{Contains}
use Rattle.indexes.specs.Table.{TableContent, KeepsSpots, spots_of, IsOfSettled, IsFilled}
use Rattle.indexes.specs.contracts.lazy.LazyTable.{the_view}
use Rattle.indexes.proofs.Patterns.{shown_made, shown_no_room, no_spot}
use Rattle.indexes.proofs.lazy.LazyTable.settle.Goals as goal
use Rattle.indexes.proofs.lazy.LazyTable.settle.Goals.{in-Some, in_default}

pub returns-clause-gone : goal.returns-clause-gone
returns-clause-gone c = λ s of empty has. elim c.match-self.branch [
  | in-Some w ↦
      let same = w.deref_mut.ensures.value ∙ shown_made box_value _ c.self.inside.made c.args.self.now c.self.view_is w.in-Some.table w.in-Some.is in
      w.settle.ensures.gone s (subst (λ (t : TableContent). IsOfSettled t.keys c.args.key.now c.args.row.now s) (sym same) of)
      (λ filled. empty (subst (λ (t : TableContent). IsFilled t.keys t.rows s) same filled))
      (subst (λ (n : TableContent). Contains n.room s) (ap the_view w.self-inside-is) has)
  | in_default w ↦
      let is : c.self.inside.made ≡ None = search rules in
      no_spot c.args.self.now s (shown_no_room box_value _ c.self.inside.made c.args.self.now c.self.view_is c.self.invariant.no_room is)
      (subst (λ (n : TableContent). Contains n.room s) (ap the_view w.self-inside-is ∙ c.self.view_is) has)
]

pub returns-clause-fewer : goal.returns-clause-fewer
returns-clause-fewer c = elim c.match-self.branch [
  | in-Some w ↦
      let same = w.deref_mut.ensures.value ∙ shown_made box_value _ c.self.inside.made c.args.self.now c.self.view_is w.in-Some.table w.in-Some.is in
      subst (λ (n : TableContent). KeepsSpots n.room c.args.self.now.room) (sym (ap the_view w.self-inside-is))
      (subst (λ (t : TableContent). KeepsSpots w.settle.new.self.room t.room) same w.settle.ensures.fewer)
  | in_default w ↦ subst (λ (n : TableContent). KeepsSpots n.room c.args.self.now.room) (sym (ap the_view w.self-inside-is ∙ c.self.view_is)) (λ s has. has)
]

pub returns-clause-others : goal.returns-clause-others
returns-clause-others c = λ s not_row not_key has. elim c.match-self.branch [
  | in-Some w ↦
      let same = w.deref_mut.ensures.value ∙ shown_made box_value _ c.self.inside.made c.args.self.now c.self.view_is w.in-Some.table w.in-Some.is in
      subst (λ (n : TableContent). Contains n.room s) (sym (ap the_view w.self-inside-is))
      (w.settle.ensures.others s (λ there. not_row (subst (λ (t : TableContent). Contains (spots_of t.keys c.args.row.now) s) same there)) not_key
      (subst (λ (t : TableContent). Contains t.room s) (sym same) has))
  | in_default w ↦ subst (λ (n : TableContent). Contains n.room s) (sym (ap the_view w.self-inside-is ∙ c.self.view_is)) has
]
