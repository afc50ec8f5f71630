use Rattle.std.proofs.Common.{◌≡◌, ◌∙◌, Some, arith, sym, subst, refl}
use Rattle.world.specs.World.{ByClash, ByHold}
use Rattle.live_tables.specs.Answers.{TellsWhatStopped}
use Rattle.live_tables.specs.declared.answers.Stop.{Stop}
use Rattle.table_locks.specs.GuardLemmas.{held_noted, noted_by, state_there}
use Rattle.table_locks.specs.Lending.{state_at}
use Rattle.table_locks.specs.LendingLemmas.{holds_there}
use Rattle.table_locks.specs.MeetingLemmas.{held_told, still_told}
use Rattle.table_locks.specs.Noted.{TellsStill}
use Rattle.table_locks.proofs.whole.meet_stopped.Goals as goal

pub returns-in-Held-clause-noted : goal.returns-in-Held-clause-noted
returns-in-Held-clause-noted g c =
    let held = c.in-Held in (
      Some (ByHold held.field-0 held.field-1),
      subst (λ (stop : Stop). TellsWhatStopped (Some stop) (Some (ByHold held.field-0 held.field-1))) (sym held.is) refl,
      held_noted c.args.tables c.args.tickets.now c.args.guards.now held.field-0 held.field-1,
      held_told c.args.tickets.now held.field-0 held.field-1,
    )

pub returns-else-table-tables-clause-noted : goal.returns-else-table-tables-clause-noted
returns-else-table-tables-clause-noted g c =
    let guards = c.args.guards.now in
    let tickets = c.args.tickets.now in
    let table = c.table_of-table.result in
    let clash = c.in-Clash in
    let below = c.if-table-tables.false in
    let room = c.requires.guards in
    let (s, at, number) = holds_there (state_at guards table) (λ s. s.number ≡ table) (c.requires.locked table below) in
    let (d, cause, caused, stopped, noted) =
    c.meet_clash.ensures.noted s (state_there guards table c.index-guards-table.result (omega (arith, below, room)) ∙ at) in (
      Some (ByClash clash.xid d cause),
      subst (λ (stop : Stop). TellsWhatStopped (Some stop) (Some (ByClash clash.xid d cause))) (sym clash.is) (d, cause, caused, refl),
      noted_by c.args.tables tickets guards table s clash.xid d cause below at number stopped noted,
      subst (TellsStill tickets (Some (ByClash clash.xid d cause))) (sym c.still.ensures)
          (still_told tickets clash.xid d cause clash.clash c.meet_clash.result c.meet_clash.ensures.told caused),
    )
