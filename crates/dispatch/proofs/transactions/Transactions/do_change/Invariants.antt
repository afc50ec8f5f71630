use Rattle.std.proofs.Common.{◌≡◌, Some}
use Rattle.model.specs.declared.item.Item.TheVariants.{Change}
use Rattle.worker.specs.Working.{IsTaken}
use Rattle.dispatch.specs.Handle.{done_by}
use Rattle.dispatch.specs.Standing.{IsUndone}
use Rattle.dispatch.proofs.transactions.Transactions.do_change.Given as goal

-- the change isn't done yet, and its transaction waits with it
abbrev pub invariant-loop : goal.invariant-loop
invariant-loop g l = (l.ticket.number ≡ l.initial.ticket.number) × IsUndone (done_by l.initial.ticket) (Change l.sub l.change) (done_by l.ticket)
    × IsTaken (done_by l.ticket).wants (Some (Change l.sub l.change))
