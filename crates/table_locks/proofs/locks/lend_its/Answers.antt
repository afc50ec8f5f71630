use Rattle.std.proofs.Common.{◌≡◌, ◌≤◌, ◌∙◌, List, length, sym, ap, subst}
use Rattle.std.proofs.lemmas.List.{with_items_is}
use Rattle.std.specs.Prelude.{slice_get}
use Rattle.std.specs.Vec.{with_items}
use Rattle.engine.specs.Events.{opened_by}
use Rattle.parted_store.specs.EachPart.{BelongEach}
use Rattle.parted_store.specs.Lent.{OpenTicket}
use Rattle.table_parts.specs.Part.{Part}
use Rattle.table_locks.specs.CallLemmas.{belong_each}
use Rattle.table_locks.specs.Lending.{AreEmpty, AreMet, FitEach}
use Rattle.table_locks.specs.LendingLemmas.{kept_each, lent_met, met_with}
use Rattle.table_locks.specs.TicketLemmas.{ticket_as}
use Rattle.table_locks.specs.declared.ticket.Waits.TheVariants.{Somewhere}
use Rattle.table_locks.proofs.locks.lend_its.Goals as goal

pub meet_each-requires : goal.meet_each-requires
meet_each-requires g c =
    let t : OpenTicket = c.args.ticket.now in
    let parts : List Part = c.lend_each.new.lent.items in
    subst (λ (ps : List Part). BelongEach ps t.shares) (sym c.as_mut_slice.ensures.value)
    (belong_each g.N.StoreNames.shares g.N.StoreNames.schema g.N.StoreNames.start Somewhere t c.requires.ticket parts
    (kept_each g.N.StoreNames.shares g.N.StoreNames.tables g.N.StoreNames.schema g.N.StoreNames.start c.lend_each.new.guards parts c.lend_each.ensures.lent.fit))

pub returns-clause-fit : goal.returns-clause-fit
returns-clause-fit g c =
    let parts : List Part = c.lend_each.new.lent.items in
    let long : length c.meet_each.new.parts ≡ c.lend_each.new.lent.len = ap length c.meet_each.ensures.parts ∙ c.as_mut_slice.ensures.len in
    let items : (with_items c.lend_each.new.lent c.meet_each.new.parts).items ≡ parts =
    with_items_is c.lend_each.new.lent c.meet_each.new.parts long ∙ c.meet_each.ensures.parts ∙ c.as_mut_slice.ensures.value in
    subst (FitEach g.N.StoreNames.shares g.N.StoreNames.tables g.N.StoreNames.schema g.N.StoreNames.start c.lend_each.new.guards) (sym items) c.lend_each.ensures.lent.fit

pub returns-clause-empty : goal.returns-clause-empty
returns-clause-empty g c =
    let parts : List Part = c.lend_each.new.lent.items in
    let long : length c.meet_each.new.parts ≡ c.lend_each.new.lent.len = ap length c.meet_each.ensures.parts ∙ c.as_mut_slice.ensures.len in
    let items : (with_items c.lend_each.new.lent c.meet_each.new.parts).items ≡ parts =
    with_items_is c.lend_each.new.lent c.meet_each.new.parts long ∙ c.meet_each.ensures.parts ∙ c.as_mut_slice.ensures.value in
    subst (λ (ps : List Part). AreEmpty c.lend_each.new.guards (length ps)) (sym items) c.lend_each.ensures.lent.empty

pub returns-clause-met : goal.returns-clause-met
returns-clause-met g c =
    let t : OpenTicket = c.args.ticket.now in
    let u : OpenTicket = c.meet_each.new.ticket in
    let parts : List Part = c.lend_each.new.lent.items in
    let long : length c.meet_each.new.parts ≡ c.lend_each.new.lent.len = ap length c.meet_each.ensures.parts ∙ c.as_mut_slice.ensures.len in
    let items : (with_items c.lend_each.new.lent c.meet_each.new.parts).items ≡ parts =
    with_items_is c.lend_each.new.lent c.meet_each.new.parts long ∙ c.meet_each.ensures.parts ∙ c.as_mut_slice.ensures.value in
    subst (AreMet g.N.StoreNames.shares g.N.StoreNames.schema g.N.StoreNames.start u.shares) (sym items)
    (met_with g.N.StoreNames.shares g.N.StoreNames.schema g.N.StoreNames.start t.shares u.shares parts c.meet_each.ensures.shares
    (lent_met g.N.StoreNames.shares g.N.StoreNames.tables g.N.StoreNames.schema g.N.StoreNames.start Somewhere t c.requires.ticket c.lend_each.new.guards parts c.lend_each.ensures.lent
    (λ i p at. c.meet_each.ensures.stands i p (ap (λ (ps : List Part). slice_get ps i) c.as_mut_slice.ensures.value ∙ at))))

pub returns-clause-ticket : goal.returns-clause-ticket
returns-clause-ticket g c waits is =
    ticket_as g.N.StoreNames.shares g.N.StoreNames.schema waits c.args.ticket.now is c.meet_each.new.ticket c.meet_each.ensures.xid
    (ap opened_by c.meet_each.ensures.events) c.meet_each.ensures.shares

pub returns-clause-room : goal.returns-clause-room
returns-clause-room g c table share at =
    subst (λ n. length g.N.StoreNames.schema ≤ n) (sym c.lend_each.ensures.capacity)
    (c.requires.room table share (sym (c.meet_each.ensures.shares table) ∙ at))
