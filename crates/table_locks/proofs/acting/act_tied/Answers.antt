use Rattle.std.proofs.Common.{◌≡◌, ℕ, [], Some, IsSome, sym, subst}
use Rattle.std.specs.Prelude.{slice_get}
use Rattle.live_tables.specs.Answers.{after_act}
use Rattle.engine.specs.Events.{opened_by}
use Rattle.world.specs.Steps.{Step}
use Rattle.world.specs.World.{World}
use Rattle.table_parts.specs.Part.{Part}
use Rattle.parted_store.specs.Acting.{as_told}
use Rattle.parted_store.specs.Lent.{OpenTicket, HasTable, HasTicket}
use Rattle.parted_store.specs.Shares.{share_of}
use Rattle.table_locks.specs.ActingLemmas as acting
use Rattle.table_locks.specs.TicketLemmas.{belongs_to, room_still, waits_follow, had_still}
use Rattle.table_locks.specs.Tickets.{waits_acted}
use Rattle.table_locks.specs.declared.ticket.Waits.TheVariants.{Somewhere}
use Rattle.table_locks.proofs.acting.act_tied.Given as given
use Rattle.table_locks.proofs.acting.act_tied.Goals as goal

pub act_in-requires-clause-belongs : goal.act_in-requires-clause-belongs
act_in-requires-clause-belongs g c =
    belongs_to g.N.StoreNames.shares g.N.StoreNames.schema Somewhere c.args.ticket.now c.requires.ticket g.N.StoreNames.start c.args.part.now c.requires.kept

pub act_in-requires-clause-elsewhere : goal.act_in-requires-clause-elsewhere
act_in-requires-clause-elsewhere g c table apart beside = c.requires.waits table apart

-- behind the call
module _ (g : given.Over) (c : goal.After-act_in g) where
  abbrev t : OpenTicket
  t = c.args.ticket.now

  abbrev p : Part
  p = c.args.part.now

  -- a world that has part and ticket
  abbrev w : World
  w =
      acting.w g.N.StoreNames.shares g.N.StoreNames.tables g.N.StoreNames.schema g.N.StoreNames.start p c.requires.kept t Somewhere c.requires.ticket
      c.requires.came.0 c.requires.came.1

  has : HasTable w p
  has =
      acting.has g.N.StoreNames.shares g.N.StoreNames.tables g.N.StoreNames.schema g.N.StoreNames.start p c.requires.kept t Somewhere c.requires.ticket
      c.requires.came.0 c.requires.came.1

  at : HasTicket w t
  at =
      acting.at g.N.StoreNames.shares g.N.StoreNames.tables g.N.StoreNames.schema g.N.StoreNames.start p c.requires.kept t Somewhere c.requires.ticket
      c.requires.came.0 c.requires.came.1

  step : Step g.N.StoreNames.schema w (after_act w t.number (opened_by t.events) c.args.sub c.args.c.now (as_told c.act_in.result))
  step =
      acting.try_steps g.N.StoreNames.shares g.N.StoreNames.tables g.N.StoreNames.schema g.N.StoreNames.start p c.requires.kept t Somewhere c.requires.ticket
      c.requires.came.0 c.requires.came.1 c.args.sub c.args.c.now c.requires.its c.act_in.result (c.act_in.ensures.tries w has at)

pub returns-clause-fits : goal.returns-clause-fits
returns-clause-fits g c =
    acting.acted_fits g.N.StoreNames.shares g.N.StoreNames.tables g.N.StoreNames.schema g.N.StoreNames.start (p g c) c.requires.kept (t g c) Somewhere
    c.requires.ticket c.requires.came.0 c.requires.came.1 c.args.sub c.args.c.now c.requires.its c.act_in.new.part c.act_in.ensures.same (as_told c.act_in.result) (step g c)
    (c.act_in.ensures.part (w g c) (has g c) (at g c)) c.act_in.ensures.end

pub returns-clause-is : goal.returns-clause-is
returns-clause-is g c waits is =
    acting.acted_is g.N.StoreNames.shares g.N.StoreNames.tables g.N.StoreNames.schema g.N.StoreNames.start (p g c) c.requires.kept (t g c) Somewhere
    c.requires.ticket c.requires.came.0 c.requires.came.1 c.args.sub c.args.c.now c.requires.its c.act_in.new.part c.act_in.ensures.same (as_told c.act_in.result) (step g c)
    (c.act_in.ensures.part (w g c) (has g c) (at g c)) c.act_in.new.ticket (c.act_in.ensures.its_ticket (w g c) (at g c)) c.act_in.ensures.xid c.act_in.ensures.shares
    c.act_in.ensures.ticket (λ other apart. c.act_in.ensures.left other apart (λ i q there. absurd (nothing_there i q there))) c.requires.waits
    (c.act_in.ensures.stands c.requires.came.1) (waits_acted waits (as_told c.act_in.result))
    (waits_follow (t g c) c.act_in.new.ticket c.args.sub c.args.c.now waits is.waits_so (as_told c.act_in.result) c.act_in.ensures.ticket)
  where
    nothing_there : (i : ℕ) (q : Part) → slice_get [] i ≡ Some q → ⊥
    nothing_there i q there = cc

pub returns-clause-came : goal.returns-clause-came
returns-clause-came g c = (
  had_still (t g c).shares c.act_in.new.ticket.shares c.act_in.ensures.shares c.act_in.new.part.number
      (subst (λ (n : ℕ). IsSome (share_of (t g c).shares n)) (sym c.act_in.ensures.same.number) c.requires.came.0),
  c.act_in.ensures.stands c.requires.came.1,
)

pub returns-clause-room : goal.returns-clause-room
returns-clause-room g c = room_still c.args.ticket.now c.act_in.new.ticket c.act_in.ensures.shares
