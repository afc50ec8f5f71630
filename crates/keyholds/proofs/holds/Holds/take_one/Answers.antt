use Rattle.std.proofs.Common.{sym, ◌∙◌, ap, subst, length, ◌≤◌, ◌++◌, ◌∷◌, []}
use Rattle.std.specs.Map.{keys_of}
use Rattle.model.specs.Cells.{table_of}
use Rattle.keyholds.specs.Counts.{count_in}
use Rattle.std.proofs.lemmas.Map.Entries.{length-keys_of}
use Rattle.keyholds.specs.Holds.{holds_of, cells_held, IsFreeCell}
use Rattle.keyholds.specs.Lists.{lists_seen}
use Rattle.keyholds.proofs.Longer.{addresses_same, addresses_alike}
use Rattle.keyholds.proofs.Seen.{seen_placed, holds_listed, set_own, set_others, seen_same}
use Rattle.keyholds.proofs.Answering.{either_way, either_pair, nothing_found, on_ok, on_err}
use Rattle.keyholds.proofs.Taking.{own_cell_some, new_cell, held_already, held_newly, counts_within, taken_placed}
use Rattle.keyholds.proofs.holds.Holds.take_one.Goals as goal

pub returns-then-is_some-clause-ok : goal.returns-then-is_some-clause-ok
returns-then-is_some-clause-ok g c =
    let kept = seen_placed c.self.inside.lists c.args.self.now c.self.view_is c.self.inside.addresses c.self.invariant in
    sym (held_already (holds_of c.args.self.now c.args.xid) c.args.cell c.args.before_image (own_cell_some c.args.self.now c.self.inside.addresses kept c.args.xid c.args.cell c.requires c.find.result c.find.ensures (sym c.is_some.ensures ∙ c.if-is_some.true)))

pub hold_cell-requires-clause-counted : goal.hold_cell-requires-clause-counted
hold_cell-requires-clause-counted g c =
    let kept = seen_placed c.self.inside.lists c.args.self.now c.self.view_is c.self.inside.addresses c.self.invariant in
    subst (λ n. count_in c.self.inside.addresses.counts.counts (table_of c.args.cell) c.args.xid ≤ n) (ap length (holds_listed c.self.inside.lists c.args.self.now c.self.view_is c.args.xid))
    (counts_within c.args.self.now c.self.inside.addresses kept c.args.xid c.args.cell (length-keys_of (holds_of c.args.self.now c.args.xid)))

pub invariant_of-self : goal.invariant_of-self
invariant_of-self g c =
    let lists = c.self.inside.lists in
    let addresses = c.self.inside.addresses in
    let free = subst (λ h. IsFreeCell (cells_held h) c.args.xid c.args.cell) (sym c.self.view_is) c.requires in
    either_pair c.hold_cell.result _ _ _ _ _ c.hold_cell.ensures.list c.hold_cell.ensures.address c.hold_cell.ensures.same_lists c.hold_cell.ensures.same_addresses
    (λ sets adds. taken_placed lists c.hold_cell.new.lists addresses c.hold_cell.new.addresses c.args.xid (c.args.cell, c.args.before_image) c.self.invariant free
    (nothing_found c.find.result c.find.ensures (sym c.is_some.ensures ∙ c.if-is_some.false)) sets adds)
    (λ same_lists same_addresses. addresses_same (cells_held (lists_seen c.hold_cell.new.lists)) addresses c.hold_cell.new.addresses same_addresses
    (addresses_alike (cells_held (lists_seen lists)) (cells_held (lists_seen c.hold_cell.new.lists)) addresses
    (λ x. ap keys_of (ap (λ h. holds_of h x) c.self.view_is ∙ sym (seen_same lists c.args.self.now c.self.view_is c.hold_cell.new.lists same_lists x))) c.self.invariant))

pub returns-clause-ok : goal.returns-clause-ok
returns-clause-ok g c =
    let kept = seen_placed c.self.inside.lists c.args.self.now c.self.view_is c.self.inside.addresses c.self.invariant in
    let fresh = new_cell c.args.self.now c.self.inside.addresses kept c.args.xid c.args.cell (nothing_found c.find.result c.find.ensures (sym c.is_some.ensures ∙ c.if-is_some.false)) in
    on_ok c.hold_cell.result _ _ c.hold_cell.ensures.list (λ sets.
    set_own c.self.inside.lists c.args.self.now c.self.view_is c.hold_cell.new.lists c.args.xid _ sets
    ∙ ap (λ l. l ++ (c.args.cell, c.args.before_image) ∷ []) (sym (holds_listed c.self.inside.lists c.args.self.now c.self.view_is c.args.xid))
    ∙ sym (held_newly (holds_of c.args.self.now c.args.xid) c.args.cell c.args.before_image fresh))

pub returns-clause-others : goal.returns-clause-others
returns-clause-others g c = λ other apart.
    either_way c.hold_cell.result _ _ _ c.hold_cell.ensures.list c.hold_cell.ensures.same_lists
    (λ sets. set_others c.self.inside.lists c.args.self.now c.self.view_is c.hold_cell.new.lists c.args.xid _ sets other apart)
    (λ same. seen_same c.self.inside.lists c.args.self.now c.self.view_is c.hold_cell.new.lists same other)

pub returns-clause-err : goal.returns-clause-err
returns-clause-err g c =
    on_err c.hold_cell.result _ _ c.hold_cell.ensures.same_lists (λ same. seen_same c.self.inside.lists c.args.self.now c.self.view_is c.hold_cell.new.lists same c.args.xid)
