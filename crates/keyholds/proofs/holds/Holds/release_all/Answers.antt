use Rattle.std.specs.Prelude.{refl}
use Rattle.std.proofs.Common.{None, sym, ◌∙◌, ap, [], subst}
use Rattle.std.specs.Map.{keys_of}
use Rattle.keyholds.specs.Holds.{cells_held}
use Rattle.keyholds.specs.Lists.{items_in, lists_seen}
use Rattle.keyholds.specs.Addresses.{AreAddresses, with_cells}
use Rattle.keyholds.proofs.Listing.{sets_list, get-lists_seen, lists_seen_filled, no_entries}
use Rattle.keyholds.proofs.Longer.{no_addresses}
use Rattle.keyholds.proofs.Seen.{set_own, set_others, set_placed}
use Rattle.keyholds.proofs.holds.Holds.release_all.Goals as goal

pub invariant_of-self-then-is_empty : goal.invariant_of-self-then-is_empty
invariant_of-self-then-is_empty g c =
    no_addresses (cells_held (lists_seen c.remove.new.self)) c.new.result c.new.ensures (λ xid. ap keys_of (no_entries c.remove.new.self (c.if-is_empty.ensures.0 refl) xid))

pub invariant_of-self-2 : goal.invariant_of-self-2
invariant_of-self-2 g c =
    let lists = c.self.inside.lists in
    let sets = sets_list lists c.remove.new.self c.args.xid None c.remove.ensures.updates in
    set_placed lists c.args.self.now c.self.view_is c.remove.new.self c.args.xid [] sets c.release_from.new.addresses
    (subst (λ l. AreAddresses (with_cells (cells_held (lists_seen lists)) c.args.xid (keys_of l)) c.release_from.new.addresses) c.release_from.ensures.items
    (c.release_from.ensures.addresses (cells_held (lists_seen lists)) (ap keys_of (get-lists_seen lists c.args.xid ∙ ap items_in (sym c.in-Some.ensures.value))) c.self.invariant))

pub returns-clause-own : goal.returns-clause-own
returns-clause-own g c =
    set_own c.self.inside.lists c.args.self.now c.self.view_is c.remove.new.self c.args.xid [] (sets_list c.self.inside.lists c.remove.new.self c.args.xid None c.remove.ensures.updates)

pub returns-clause-others : goal.returns-clause-others
returns-clause-others g c =
    set_others c.self.inside.lists c.args.self.now c.self.view_is c.remove.new.self c.args.xid [] (sets_list c.self.inside.lists c.remove.new.self c.args.xid None c.remove.ensures.updates)

pub returns-clause-filled : goal.returns-clause-filled
returns-clause-filled g c = lists_seen_filled c.remove.new.self

pub returns-then-is_empty-clause-own : goal.returns-then-is_empty-clause-own
returns-then-is_empty-clause-own g c =
    set_own c.self.inside.lists c.args.self.now c.self.view_is c.remove.new.self c.args.xid [] (sets_list c.self.inside.lists c.remove.new.self c.args.xid None c.remove.ensures.updates)

pub returns-then-is_empty-clause-others : goal.returns-then-is_empty-clause-others
returns-then-is_empty-clause-others g c =
    set_others c.self.inside.lists c.args.self.now c.self.view_is c.remove.new.self c.args.xid [] (sets_list c.self.inside.lists c.remove.new.self c.args.xid None c.remove.ensures.updates)

pub returns-then-is_empty-clause-filled : goal.returns-then-is_empty-clause-filled
returns-then-is_empty-clause-filled g c = lists_seen_filled c.remove.new.self

pub returns-in_default-clause-own : goal.returns-in_default-clause-own
returns-in_default-clause-own g c =
    set_own c.self.inside.lists c.args.self.now c.self.view_is c.remove.new.self c.args.xid [] (sets_list c.self.inside.lists c.remove.new.self c.args.xid None c.remove.ensures.updates)

pub returns-in_default-clause-filled : goal.returns-in_default-clause-filled
returns-in_default-clause-filled g c = lists_seen_filled c.remove.new.self
