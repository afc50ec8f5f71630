use Rattle.std.proofs.Common.{◌≡◌, ◌∙◌, ℕ, ap, sym}
use Rattle.live_tables.specs.Answers.{told_fault}
use Rattle.engine.specs.EventLemmas.{opened_refused}
use Rattle.engine.specs.Events.{opened_by}
use Rattle.parted_store.specs.Lent.{OpenTicket}
use Rattle.parted_store.specs.Shares.{share_of}
use Rattle.table_locks.specs.TicketLemmas.{ticket_as, counted_same}
use Rattle.table_locks.proofs.ticket.Ticket.refuse.Goals as goal

pub invariant_of-self : goal.invariant_of-self
invariant_of-self g c =
    let t = c.self.inside.ticket in
    let u = c.refuse.new.self in
    let same : (table : ℕ) → share_of u.shares table ≡ share_of t.shares table = λ table.
    ap (λ (x : OpenTicket). share_of x.shares table) c.refuse.ensures.ticket in
    let told : opened_by u.events ≡ opened_by t.events =
    ap (λ (x : OpenTicket). opened_by x.events) c.refuse.ensures.ticket ∙ opened_refused t.events (told_fault c.args.fault) in (
      ticket_as g.N.StoreNames.shares g.N.StoreNames.schema c.self.inside.waits t c.self.invariant.0 u
          (ap (λ (x : OpenTicket). x.number) c.refuse.ensures.ticket)
          told same,
      c.self.invariant.1,
      λ table share at. c.self.invariant.2 table share (sym (same table) ∙ at),
      c.self.invariant.3 ∙ sym (counted_same t.events u.events told),
    )
