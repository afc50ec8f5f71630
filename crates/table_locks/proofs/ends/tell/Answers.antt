use Rattle.std.proofs.Common.{◌∙◌, Some, sym, ap, subst}
use Rattle.std.specs.Sync.Mutex.{mutex_guard_value}
use Rattle.table_locks.specs.Ending.{past_by, TellsState}
use Rattle.table_locks.specs.Lending.{state_of}
use Rattle.table_locks.specs.TableStates.{TableState}
use Rattle.table_locks.proofs.ends.tell.Goals as goal

pub returns : goal.returns
returns g c =
    let p = past_by c.args.ticket.now c.args.info in
    let s : TableState = mutex_guard_value c.in-Some.guard in
    let is = c.deref_mut.ensures.value in
    subst (λ found. TellsState p (state_of found) c.args.tables.now (Some c.tell.new.self) c.tell.new.tables) (sym c.in-Some.is ∙ c.take.ensures.value)
    (subst (λ (u : TableState). TellsState p (Some u) c.args.tables.now (Some c.tell.new.self) c.tell.new.tables) is
    (c.tell.ensures.listed, c.tell.ensures.tables, ap Some c.tell.ensures.state))
