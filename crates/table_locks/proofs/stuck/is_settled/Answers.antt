use Rattle.std.proofs.Common.{◌∙◌, sym}
use Rattle.parted_store.specs.JournalLemmas.{none_there}
use Rattle.table_locks.specs.StuckLemmas.{not_sent}
use Rattle.table_locks.proofs.stuck.is_settled.Goals as goal

pub returns-clause-unsettled : goal.returns-clause-unsettled
returns-clause-unsettled g c none = (
  not_sent c.args.sent.now c.args.ticket.now c.xid.result c.done.result c.xid.ensures c.done.ensures c.is_sent_count.result c.is_sent_count.ensures
      c.if-is_sent_count.false,
  c.holder_among.ensures.free (none_there c.holder_among.result (sym c.is_some.ensures ∙ none)),
)
