use Rattle.std.proofs.Common.{rules, ◌≡◌, IsSome, subst}
use Rattle.engine.specs.Events.{opened_by}
use Rattle.parted_store.specs.Lent.{OpenTicket}
use Rattle.table_locks.specs.CallLemmas.{somewhere}
use Rattle.table_locks.specs.MeetingLemmas.{wants_here, wants_some}
use Rattle.table_locks.specs.TicketLemmas.{belongs_to}
use Rattle.table_locks.specs.Whole.{WantsIn}
use Rattle.table_locks.proofs.meeting.waits_in.Goals as goal

pub wants_in-requires : goal.wants_in-requires
wants_in-requires g c =
    belongs_to g.N.StoreNames.shares g.N.StoreNames.schema c.ticket.inside.waits c.ticket.inside.ticket c.ticket.invariant.0 g.N.StoreNames.start c.args.part.now
    c.requires.kept

pub returns-clause-wants : goal.returns-clause-wants
returns-clause-wants g c same =
    let t : OpenTicket = c.ticket.inside.ticket in
    subst (WantsIn c.args.part.now.number) c.ticket.view_is
    (wants_here g.N.StoreNames.shares g.N.StoreNames.schema t
    (somewhere g.N.StoreNames.shares g.N.StoreNames.schema g.N.StoreNames.start c.ticket.inside.waits t c.ticket.invariant.0) c.args.part.now.number
    c.wants_in.result c.wants_in.ensures.wants c.if-not-wants_in.false)

pub returns-clause-some : goal.returns-clause-some
returns-clause-some g c so =
    let same : c.args.ticket.now.number ≡ c.args.xid = search rules in
    let t : OpenTicket = c.ticket.inside.ticket in (
      same,
      subst (λ (u : OpenTicket). IsSome (opened_by u.events).wants) c.ticket.view_is
          (wants_some g.N.StoreNames.shares g.N.StoreNames.schema t
          (somewhere g.N.StoreNames.shares g.N.StoreNames.schema g.N.StoreNames.start c.ticket.inside.waits t c.ticket.invariant.0) c.args.part.now.number
          c.wants_in.result c.wants_in.ensures.wants c.if-not-wants_in.false),
    )
