-- What the fields of a store whose transactions come one at a time stand for.
--     idle_in, serial_in      the store's parts without open work, and what callers see of them
--     Represents      what its type keeps
use Rattle.std.specs.Prelude.{◌≡◌, [], None}
use Rattle.std.specs.FinMap as finite
use Rattle.model.specs.Accepted.{AreAccepted}
use Rattle.engine.specs.declared.serial.SerialStore.TheInside.{Inside}
use Rattle.engine.specs.declared.store.Store.TheInside as store_inside
use Rattle.engine.specs.Engine.{engine_in, Represents as StoreRepresents}
use Rattle.engine.specs.OpenWork.{base_of}
use Rattle.engine.specs.Serial.{Serial, rows_now}
use Rattle.live_tables.specs.Answers.{told_stop}

-- The parts of the store without the open work. What room its tables have does not matter.
abbrev pub idle_in : Inside → store_inside.Inside
idle_in s = record {
  live = record s.work.live {
    tables = record { schema = s.work.live.tables.schema; rows = base_of s.work; room = [] };
  };
  start = s.start;
  journal = s.journal;
  book = s.book;
  line = s.line;
}

-- what callers see of them
abbrev pub serial_in : Inside → Serial
serial_in s = record { store = engine_in (idle_in s); changes = s.work.changes }

-- What the type keeps: without the open work it is a store in which no transaction is open and that
-- is not stopped, whose line is at hand; the tables have the open changes in them, of which none
-- clashed.
pub record Represents (s : Inside) : Type 0 where
  pub idle : StoreRepresents (idle_in s)
  pub none : s.book.lists ≡ finite.empty
  pub runs : told_stop s.work.live.stopped ≡ None
  pub line : s.token ≡ s.line
  pub done : s.work.live.tables.rows ≡ rows_now (serial_in s)
  pub clear : AreAccepted s.work.live.tables.schema (base_of s.work) s.work.changes
