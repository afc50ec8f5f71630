use Rattle.std.proofs.Common.{Some, sym, ap, subst}
use Rattle.std.specs.Prelude.{is_some}
use Rattle.keyholds.specs.Holds.{cells_held, AreDisjoint}
use Rattle.keyholds.specs.Lists.{items_in, lists_seen, SetsList}
use Rattle.keyholds.proofs.Listing.{sets_list, lists_seen_filled}
use Rattle.keyholds.proofs.Seen.{listed_placed, set_released, set_others, set_placed, none_leaves}
use Rattle.keyholds.proofs.holds.Holds.release_last.Given.{Over}
use Rattle.keyholds.proofs.holds.Holds.release_last.Goals as goal
use Rattle.keyholds.proofs.holds.Holds.release_last.Goals.{After-pop_past}

pub returns-in_err-list-clause-own : goal.returns-in_err-list-clause-own
returns-in_err-list-clause-own g c =
    none_leaves c.self.inside.lists c.get_mut.follows.lender-at-none c.args.self.now c.self.view_is c.get_mut.follows.holds-at-none c.args.xid c.args.mark c.in_err-list.ensures.value
    c.from_residual.result c.from_residual.ensures

pub returns-in_err-list-clause-filled : goal.returns-in_err-list-clause-filled
returns-in_err-list-clause-filled g c = lists_seen_filled c.get_mut.follows.lender-at-none

pub returns-in_err-list-clause-apart : goal.returns-in_err-list-clause-apart
returns-in_err-list-clause-apart g c = subst (λ lists. AreDisjoint (cells_held (lists_seen lists))) (sym c.get_mut.follows.holds-at-none) c.self.invariant.apart

-- the transaction's list is what the call left of it
sets : (g : Over) (c : After-pop_past g) → SetsList c.args.xid c.pop_past.new.list.items c.self.inside.lists (c.get_mut.follows.lender c.pop_past.new.list)
sets g c =
    let left = c.pop_past.new.list in
    sets_list c.self.inside.lists (c.get_mut.follows.lender left) c.args.xid (Some left) ((c.get_mut.follows.holds left).3 (ap is_some (sym c.in_ok-list.ensures.value)))

pub invariant_of-self-2 : goal.invariant_of-self-2
invariant_of-self-2 g c =
    let lists = c.self.inside.lists in
    set_placed lists c.args.self.now c.self.view_is _ c.args.xid _ (sets g (goal.at.invariant_of-self-2 g c).After-pop_past) c.pop_past.new.addresses
    (c.pop_past.ensures.addresses (cells_held (lists_seen lists))
    (listed_placed lists c.args.self.now c.self.view_is c.args.xid c.in_ok-list.list.now.items (ap items_in (sym c.in_ok-list.ensures.value)) c.self.inside.addresses c.self.invariant))

pub returns-clause-own : goal.returns-clause-own
returns-clause-own g c =
    set_released c.self.inside.lists c.args.self.now c.self.view_is _ c.args.xid _ (sets g (goal.at.returns-clause-own g c).After-pop_past) c.args.mark c.in_ok-list.list.now.items (ap items_in (sym c.in_ok-list.ensures.value))
    c.pop_past.result c.pop_past.ensures.items

pub returns-clause-others : goal.returns-clause-others
returns-clause-others g c =
    set_others c.self.inside.lists c.args.self.now c.self.view_is _ c.args.xid _ (sets g (goal.at.returns-clause-others g c).After-pop_past)

pub returns-clause-filled : goal.returns-clause-filled
returns-clause-filled g c = lists_seen_filled (c.get_mut.follows.lender c.pop_past.new.list)

pub returns-clause-apart : goal.returns-clause-apart
returns-clause-apart g c = (invariant_of-self-2 g c).apart
