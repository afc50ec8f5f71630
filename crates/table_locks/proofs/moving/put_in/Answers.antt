use Rattle.table_locks.specs.MovingLemmas.{moved_here, moved_beside}
use Rattle.table_locks.proofs.moving.put_in.Goals as goal

pub returns-clause-here : goal.returns-clause-here
returns-clause-here c = moved_here c.args.number c.exchange.new.self.rows c.args.own.rows c.exchange.ensures.rows

pub returns-clause-beside : goal.returns-clause-beside
returns-clause-beside c = moved_beside c.args.number c.args.tables.now.rows c.exchange.new.self.rows c.exchange.ensures.elsewhere
