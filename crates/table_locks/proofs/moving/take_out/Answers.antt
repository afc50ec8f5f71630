use Rattle.std.proofs.Common.{◌∙◌, ap}
use Rattle.world_parts.specs.ByTable.{rows_at}
use Rattle.table_locks.specs.MovingLemmas.{moved_here, moved_beside, own_rows}
use Rattle.table_locks.specs.StartLemmas.{none_are_of}
use Rattle.table_locks.proofs.moving.take_out.Goals as goal

pub returns-clause-rows : goal.returns-clause-rows
returns-clause-rows c =
    own_rows c.args.number c.args.tables.now.rows c.in_ok-own.own.rows c.exchange.new.other.rows c.in_ok-own.ensures.empty c.exchange.ensures.rows_there
    c.exchange.ensures.elsewhere_there

pub returns-clause-taken : goal.returns-clause-taken
returns-clause-taken c =
    moved_here c.args.number c.exchange.new.self.rows c.in_ok-own.own.rows c.exchange.ensures.rows
    ∙ ap (rows_at c.args.number) c.in_ok-own.ensures.empty ∙ none_are_of c.args.number

pub returns-clause-beside : goal.returns-clause-beside
returns-clause-beside c = moved_beside c.args.number c.args.tables.now.rows c.exchange.new.self.rows c.exchange.ensures.elsewhere
