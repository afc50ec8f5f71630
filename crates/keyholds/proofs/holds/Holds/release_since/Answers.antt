use Rattle.std.proofs.Common.{Some, sym, ◌∙◌, ap, take}
use Rattle.std.specs.Prelude.{is_some}
use Rattle.std.specs.Map.{keys_of}
use Rattle.keyholds.specs.Holds.{cells_held}
use Rattle.keyholds.specs.Lists.{items_in, lists_seen, SetsList}
use Rattle.keyholds.proofs.Listing.{sets_list, get-lists_seen, lists_seen_filled}
use Rattle.keyholds.proofs.Seen.{holds_listed, set_own, set_others, set_placed, cut_nothing}
use Rattle.keyholds.proofs.holds.Holds.release_since.Given.{Over}
use Rattle.keyholds.proofs.holds.Holds.release_since.Goals as goal
use Rattle.keyholds.proofs.holds.Holds.release_since.Goals.{After-release_from}

-- the transaction's list is what the call left of it
sets : (g : Over) (c : After-release_from g) → SetsList c.args.xid c.release_from.new.list.items c.self.inside.lists (c.get_mut.follows.lender c.release_from.new.list)
sets g c =
    let left = c.release_from.new.list in
    sets_list c.self.inside.lists (c.get_mut.follows.lender left) c.args.xid (Some left) ((c.get_mut.follows.holds left).3 (ap is_some (sym c.in-Some.ensures.value)))

pub invariant_of-self : goal.invariant_of-self
invariant_of-self g c =
    let lists = c.self.inside.lists in
    set_placed lists c.args.self.now c.self.view_is _ c.args.xid _ (sets g (goal.at.invariant_of-self g c).After-release_from) c.release_from.new.addresses
    (c.release_from.ensures.addresses (cells_held (lists_seen lists)) (ap keys_of (get-lists_seen lists c.args.xid ∙ ap items_in (sym c.in-Some.ensures.value))) c.self.invariant)

pub returns-in-Some-clause-own : goal.returns-in-Some-clause-own
returns-in-Some-clause-own g c =
    let lists = c.self.inside.lists in
    set_own lists c.args.self.now c.self.view_is _ c.args.xid _ (sets g (goal.at.returns-in-Some-clause-own g c).After-release_from) ∙ c.release_from.ensures.items
    ∙ ap (take c.args.mark) (ap items_in c.in-Some.ensures.value ∙ sym (holds_listed lists c.args.self.now c.self.view_is c.args.xid))

pub returns-in-Some-clause-others : goal.returns-in-Some-clause-others
returns-in-Some-clause-others g c =
    set_others c.self.inside.lists c.args.self.now c.self.view_is _ c.args.xid _ (sets g (goal.at.returns-in-Some-clause-others g c).After-release_from)

pub returns-in-Some-clause-filled : goal.returns-in-Some-clause-filled
returns-in-Some-clause-filled g c = lists_seen_filled (c.get_mut.follows.lender c.release_from.new.list)

pub returns-in_default-clause-own : goal.returns-in_default-clause-own
returns-in_default-clause-own g c =
    cut_nothing c.self.inside.lists c.get_mut.follows.lender-at-none c.args.self.now c.self.view_is c.get_mut.follows.holds-at-none c.args.xid c.args.mark c.in_default.ensures.value

pub returns-in_default-clause-filled : goal.returns-in_default-clause-filled
returns-in_default-clause-filled g c = lists_seen_filled c.get_mut.follows.lender-at-none
