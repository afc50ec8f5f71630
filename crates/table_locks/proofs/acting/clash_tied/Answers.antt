use Rattle.std.proofs.Common.{◌≡◌, ℕ, [], Some, Err}
use Rattle.std.specs.Prelude.{slice_get}
use Rattle.live_tables.specs.Answers.{told, after_act}
use Rattle.engine.specs.Events.{opened_by}
use Rattle.world.specs.Steps.{Step}
use Rattle.world.specs.World.{World}
use Rattle.table_parts.specs.Part.{Part}
use Rattle.parted_store.specs.Lent.{OpenTicket, HasTable, HasTicket}
use Rattle.table_locks.specs.ActingLemmas as acting
use Rattle.table_locks.specs.TicketLemmas.{belongs_to, room_still, waits_follow}
use Rattle.table_locks.specs.Tickets.{waits_acted}
use Rattle.table_locks.specs.declared.ticket.Waits.TheVariants.{Somewhere}
use Rattle.table_locks.proofs.acting.clash_tied.Given as given
use Rattle.table_locks.proofs.acting.clash_tied.Goals as goal

pub clash_in-requires-clause-belongs : goal.clash_in-requires-clause-belongs
clash_in-requires-clause-belongs g c =
    belongs_to g.N.StoreNames.shares g.N.StoreNames.schema Somewhere c.args.ticket.now c.requires.ticket g.N.StoreNames.start c.args.part.now c.requires.kept

pub clash_in-requires-clause-elsewhere : goal.clash_in-requires-clause-elsewhere
clash_in-requires-clause-elsewhere g c table apart beside = c.requires.waits table apart

-- behind the call
module _ (g : given.Over) (c : goal.After-clash_in g) where
  abbrev t : OpenTicket
  t = c.args.ticket.now

  abbrev p : Part
  p = c.args.part.now

  -- a world that has part and ticket
  abbrev w : World
  w =
      acting.w g.N.StoreNames.shares g.N.StoreNames.tables g.N.StoreNames.schema g.N.StoreNames.start p c.requires.kept t Somewhere c.requires.ticket
      c.requires.came.0 c.requires.came.1

  has : HasTable w p
  has =
      acting.has g.N.StoreNames.shares g.N.StoreNames.tables g.N.StoreNames.schema g.N.StoreNames.start p c.requires.kept t Somewhere c.requires.ticket
      c.requires.came.0 c.requires.came.1

  at : HasTicket w t
  at =
      acting.at g.N.StoreNames.shares g.N.StoreNames.tables g.N.StoreNames.schema g.N.StoreNames.start p c.requires.kept t Somewhere c.requires.ticket
      c.requires.came.0 c.requires.came.1

  step : Step g.N.StoreNames.schema w (after_act w t.number (opened_by t.events) c.args.sub c.args.c.now (told (Err c.clash_in.result)))
  step =
      acting.clash_steps g.N.StoreNames.shares g.N.StoreNames.tables g.N.StoreNames.schema g.N.StoreNames.start p c.requires.kept t Somewhere c.requires.ticket
      c.requires.came.0 c.requires.came.1 c.args.sub c.args.c.now c.requires.its c.args.clash c.requires.clashes c.clash_in.result c.clash_in.ensures.fault

pub returns-clause-fits : goal.returns-clause-fits
returns-clause-fits g c =
    acting.acted_fits g.N.StoreNames.shares g.N.StoreNames.tables g.N.StoreNames.schema g.N.StoreNames.start (p g c) c.requires.kept (t g c) Somewhere
    c.requires.ticket c.requires.came.0 c.requires.came.1 c.args.sub c.args.c.now c.requires.its c.clash_in.new.part c.clash_in.ensures.same (told (Err c.clash_in.result)) (step g c)
    (c.clash_in.ensures.part (w g c) (has g c) (at g c)) c.clash_in.ensures.end

pub returns-clause-is : goal.returns-clause-is
returns-clause-is g c waits is =
    acting.acted_is g.N.StoreNames.shares g.N.StoreNames.tables g.N.StoreNames.schema g.N.StoreNames.start (p g c) c.requires.kept (t g c) Somewhere
    c.requires.ticket c.requires.came.0 c.requires.came.1 c.args.sub c.args.c.now c.requires.its c.clash_in.new.part c.clash_in.ensures.same (told (Err c.clash_in.result)) (step g c)
    (c.clash_in.ensures.part (w g c) (has g c) (at g c)) c.clash_in.new.ticket (c.clash_in.ensures.its_ticket (w g c) (at g c)) c.clash_in.ensures.xid c.clash_in.ensures.shares
    c.clash_in.ensures.ticket (λ other apart. c.clash_in.ensures.left other apart (λ i q there. absurd (nothing_there i q there))) c.requires.waits
    (c.clash_in.ensures.stands c.requires.came.1) (waits_acted waits (told (Err c.clash_in.result)))
    (waits_follow (t g c) c.clash_in.new.ticket c.args.sub c.args.c.now waits is.waits_so (told (Err c.clash_in.result)) c.clash_in.ensures.ticket)
  where
    nothing_there : (i : ℕ) (q : Part) → slice_get [] i ≡ Some q → ⊥
    nothing_there i q there = cc

pub returns-clause-room : goal.returns-clause-room
returns-clause-room g c = room_still c.args.ticket.now c.clash_in.new.ticket c.clash_in.ensures.shares
