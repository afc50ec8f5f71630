use Rattle.std.proofs.Common.{◌≡◌}
use Rattle.indexes.specs.Content.{KeepsCells}
use Rattle.engine.proofs.open_work.make_room.Given as goal

abbrev pub invariant-loop-table : goal.invariant-loop-table
invariant-loop-table l =
    record {
      schema : l.tables.schema ≡ l.fn.tables.schema;
      rows : l.tables.rows ≡ l.fn.tables.rows;
      room : KeepsCells l.fn.tables.room l.tables.room;
    }
