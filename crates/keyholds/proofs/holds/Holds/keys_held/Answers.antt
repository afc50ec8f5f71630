use Rattle.std.proofs.Common.{◌≡◌, ℕ, List, Some, Vec, Global, subst}
use Rattle.std.specs.Ordering.{nat_cmp}
use Rattle.std.specs.BTreeMap as tree
use Rattle.std.specs.Map.{keys_of}
use Rattle.std.specs.Map.Iter.{deref_pair}
use Rattle.std.proofs.lemmas.List.Elements.{Contains-get_or}
use Rattle.std.proofs.lemmas.Map.Views.{All-turn}
use Rattle.model.specs.declared.cell.Cell.{Cell}
use Rattle.keyholds.specs.Lists.{AddsKeys}
use Rattle.keyholds.proofs.Keys.{none_gathered, one_gathered, all_gathered}
use Rattle.keyholds.proofs.holds.Holds.keys_held.Goals as goal

pub loop-list-init : goal.loop-list-init
loop-list-init g c =
    rw (c.into_iter-list-iterator.ensures.into_iter_gives.0, c.new-keys.ensures.items) (none_gathered c.args.table c.self.inside.lists c.args.self.now c.self.view_is)

pub loop-list-preserved : goal.loop-list-preserved
loop-list-preserved g c =
    let gives = c.into_iter-list-iterator.ensures.into_iter_gives in
    let at =
    All-turn deref_pair (λ (e : ℕ × Vec (Cell × g.row.S.Denot) Global). tree.get nat_cmp c.self.inside.lists e.0 ≡ Some e.1) _ _ _ _ _ _ _ gives.6 gives.0 c.loop-list.yielded_by
    c.in-Some.is c.next.ensures.steps in
    one_gathered c.args.table c.self.inside.lists c.args.self.now c.self.view_is c.next.new.self c.loop-list.keys.items c.loop-list.list-iterator
    c.in-Some.field-0-0.now c.in-Some.list.now c.loop-list.invariant c.in-Some.ensures.steps at c.push_keys.new.keys.items
    (subst (λ (l : List (Cell × g.row.S.Denot)). AddsKeys c.args.table (keys_of l) c.loop-list.keys.items c.push_keys.new.keys.items) c.as_slice.ensures.value c.in_ok-push_keys.ensures)

pub returns-clause-all : goal.returns-clause-all
returns-clause-all g c =
    all_gathered c.args.table c.self.inside.lists c.args.self.now c.self.view_is c.loop-list.list-iterator c.loop-list.keys.items c.loop-list.invariant c.in-None.ensures.steps.0

pub returns-clause-held : goal.returns-clause-held
returns-clause-held g c = λ k d below. c.loop-list.invariant.held _ (Contains-get_or c.loop-list.keys.items k d below)
