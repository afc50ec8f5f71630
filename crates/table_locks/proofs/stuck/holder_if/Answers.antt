use Rattle.table_locks.proofs.stuck.holder_if.Goals as goal

pub returns-clause-free : goal.returns-clause-free
returns-clause-free g c none same = c.holder_among.ensures.free none
