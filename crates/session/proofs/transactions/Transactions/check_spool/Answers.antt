use Rattle.std.proofs.Common.{sym, ◌∙◌}
use Rattle.std.specs.FinMap as map
use Rattle.session.proofs.Kept.{spool_fault-full, spool_fault-room, spool_fault-free}
use Rattle.session.proofs.transactions.Transactions.check_spool.Goals as goal
use Rattle.session.proofs.transactions.Transactions.check_spool.Goals.{else-is_spooled-via-then-is_spooled+else-not-has_spool, else-is_spooled-via-else-is_spooled}

pub returns-then-not-has_spool : goal.returns-then-not-has_spool
returns-then-not-has_spool c = λ g m kept.
    spool_fault-full g m c.args.size (map.get m c.args.xid) (sym (c.is_spooled.ensures g m kept) ∙ c.if-is_spooled.true) (sym (c.has_spool.ensures g m kept) ∙ c.if-not-has_spool.true)

pub returns-else-is_spooled : goal.returns-else-is_spooled
returns-else-is_spooled c = λ g m kept.
    elim c.else-is_spooled.branch [
      | else-is_spooled-via-then-is_spooled+else-not-has_spool w ↦ spool_fault-room g m c.args.size (map.get m c.args.xid) (sym (w.has_spool.ensures g m kept) ∙ w.if-not-has_spool.false)
      | else-is_spooled-via-else-is_spooled w ↦ spool_fault-free g m c.args.size (map.get m c.args.xid) (sym (c.is_spooled.ensures g m kept) ∙ w.if-is_spooled.false)
    ]
