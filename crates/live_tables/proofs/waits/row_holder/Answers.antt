use Rattle.live_tables.proofs.waits.row_holder.Goals as goal

pub returns-in-Set-clause-free : goal.returns-in-Set-clause-free
returns-in-Set-clause-free c = rw c.in-Set.is c.place_holder.ensures.free

pub returns-in-Remove-clause-free : goal.returns-in-Remove-clause-free
returns-in-Remove-clause-free c = rw c.in-Remove.is c.place_holder-in-Remove.ensures.free
