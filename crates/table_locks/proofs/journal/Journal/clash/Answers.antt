use Rattle.std.proofs.Common.{◌≡◌, List, [], ap, sym, subst}
use Rattle.world_parts.specs.ByTable.{changes_at}
use Rattle.world_parts.specs.Parts.{wanted_by}
use Rattle.engine.specs.declared.events.Event.{Event}
use Rattle.engine.specs.Events.{opened_by}
use Rattle.parted_store.specs.Lent.{OpenTicket}
use Rattle.table_locks.proofs.journal.Journal.clash.Goals as goal

pub clash_tied-fault-requires-clause-waits : goal.clash_tied-fault-requires-clause-waits
clash_tied-fault-requires-clause-waits g c other apart =
    subst (λ (events : List Event). changes_at other (wanted_by (opened_by events).wants) ≡ []) (sym (ap (λ (t : OpenTicket). t.events) c.ticket.view_is))
    (c.requires.waits other apart)
