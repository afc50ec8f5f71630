use Rattle.std.proofs.Common.{sym, ◌∙◌, ap, arith}
use Rattle.std.specs.Prelude.{slice_get}
use Rattle.std.specs.Map.{keys_of}
use Rattle.keyholds.proofs.Listing.{get-lists_seen}
use Rattle.keyholds.proofs.Seen.{holds_listed}
use Rattle.keyholds.proofs.Answering.{no_list, address_within, among_holds}
use Rattle.keyholds.proofs.holds.Holds.held_at.Goals as goal

pub returns-in_err-list-clause-free : goal.returns-in_err-list-clause-free
returns-in_err-list-clause-free g c =
    let address = c.in_ok-address.address in
    let at = ap (λ l. slice_get (keys_of l) address.index) (sym (get-lists_seen c.self.inside.lists address.xid)) ∙ c.self.invariant.found (g.C.SoughtCell.cell c.args.sought.now) address (sym c.in_ok-address.ensures) in
    absurd (no_list c.self.inside.lists address.xid address.index (g.C.SoughtCell.cell c.args.sought.now) at c.in_err-list.ensures.value)

pub index-requires : goal.index-requires
index-requires g c =
    let address = c.in_ok-address.address in
    let at = ap (λ l. slice_get (keys_of l) address.index) (sym (get-lists_seen c.self.inside.lists address.xid)) ∙ c.self.invariant.found (g.C.SoughtCell.cell c.args.sought.now) address (sym c.in_ok-address.ensures) in
    let within = address_within c.self.inside.lists address.xid address.index (g.C.SoughtCell.cell c.args.sought.now) at c.in_ok-list.list.now c.in_ok-list.ensures.value in
    omega (arith, within, c.in_ok-list.list.now.ok.0)

pub returns-clause-held : goal.returns-clause-held
returns-clause-held g c =
    let address = c.in_ok-address.address in
    let at = ap (λ l. slice_get (keys_of l) address.index) (sym (get-lists_seen c.self.inside.lists address.xid)) ∙ c.self.invariant.found (g.C.SoughtCell.cell c.args.sought.now) address (sym c.in_ok-address.ensures) in
    among_holds c.self.inside.lists address.xid address.index (g.C.SoughtCell.cell c.args.sought.now) at c.in_ok-list.list.now c.in_ok-list.ensures.value c.args.self.now
    (holds_listed c.self.inside.lists c.args.self.now c.self.view_is address.xid) c.index.result.now c.index.ensures
