use Rattle.std.specs.Prelude.{◌≡◌, None}
use Rattle.std.proofs.Common.{rules, sym, ◌∙◌, ap, subst}
use Rattle.std.specs.Box.{box_value}
use Rattle.indexes.specs.Table.{TableContent, ReleasesSpot}
use Rattle.indexes.specs.contracts.lazy.LazyTable.{the_view}
use Rattle.indexes.proofs.Patterns.{shown_made, shown_no_room, nothing_released}
use Rattle.indexes.proofs.lazy.LazyTable.release_values.Goals as goal
use Rattle.indexes.proofs.lazy.LazyTable.release_values.Goals.{in-Some, in_default}

pub returns-clause-released : goal.returns-clause-released
returns-clause-released c = λ low. elim c.match-self.branch [
  | in-Some w ↦
      let same = w.deref_mut.ensures.value ∙ shown_made box_value _ c.self.inside.made c.args.self.now c.self.view_is w.in-Some.table w.in-Some.is in
      subst (λ (n : TableContent). ReleasesSpot c.args.self.now n (c.args.number, c.args.values.now)) (sym (ap the_view w.self-inside-is))
      (subst (λ (t : TableContent). ReleasesSpot t w.release_values.new.self (c.args.number, c.args.values.now)) same (w.release_values.ensures.released low))
  | in_default w ↦
      let is : c.self.inside.made ≡ None = search rules in
      subst (λ (n : TableContent). ReleasesSpot c.args.self.now n (c.args.number, c.args.values.now)) (sym (ap the_view w.self-inside-is ∙ c.self.view_is))
      (nothing_released c.args.self.now (c.args.number, c.args.values.now) (shown_no_room box_value _ c.self.inside.made c.args.self.now c.self.view_is c.self.invariant.no_room is))
]
