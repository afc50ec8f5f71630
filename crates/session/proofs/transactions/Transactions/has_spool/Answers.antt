use Rattle.std.proofs.Common.{◌+◌, sym, arith}
use Rattle.std.proofs.lemmas.Bool.{lt-leb}
use Rattle.session.specs.State.{spool_bytes}
use Rattle.session.proofs.transactions.Transactions.has_spool.Goals as goal

pub returns-in-None : goal.returns-in-None
returns-in-None c = λ g m kept.
    let over = c.in-None.ensures in
    sym (lt-leb (spool_bytes m + c.args.size) g.spool (omega (arith, over, kept.spooled, kept.room, kept.limit)))
