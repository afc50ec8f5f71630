use Rattle.parted_store.specs.ActLemmas.{in_no_other}
use Rattle.table_locks.specs.NamedLemmas.{several_wipe, wipes_none}
use Rattle.table_locks.proofs.store.Store.act.Goals as goal

pub act_in_table-requires-clause-waits : goal.act_in_table-requires-clause-waits
act_in_table-requires-clause-waits g c other apart =
    c.requires.waits other (in_no_other c.in-Some.table other c.args.c.now c.in-Some.ensures.table apart)

pub truncate-requires-clause-truncate : goal.truncate-requires-clause-truncate
truncate-requires-clause-truncate g c = several_wipe c.args.c.now (c.only_table.ensures.several c.in-None.is)

pub truncate-requires-clause-waits : goal.truncate-requires-clause-waits
truncate-requires-clause-waits g c table none =
    c.requires.waits table (wipes_none c.args.c.now (several_wipe c.args.c.now (c.only_table.ensures.several c.in-None.is)) table none)
