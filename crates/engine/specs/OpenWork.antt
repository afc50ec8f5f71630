-- The open work of a store whose transactions come one at a time.
--     Work      the tables with the work in them, what takes it back, and its changes
--     base_of      the rows without it
--     HasGrown      it has grown by changes
--     work_code      the code of the first
use Rattle.std.specs.Prelude.{◌≡◌, List, ◌++◌, map, refl}
use Rattle.std.specs.Coded.{Coded, code_by, coded×, coded_list}
use Rattle.model.specs.contracts.change.Change as change_type
use Rattle.model.specs.declared.change.Change.{Change}
use Rattle.model.specs.Rows.{Rows}
use Rattle.model.specs.Effect.{all_back, serial}
use Rattle.model.specs.Accepted.{AreAccepted}
use Rattle.change.specs.Inverse.{edits_of}
use Rattle.undo.specs.Undo.{Log}
use Rattle.undo.specs.LogCode.{log_code}
use Rattle.live_tables.specs.contracts.live_tables.Live as live_type
use Rattle.live_tables.specs.declared.live_tables.Live.{Live}

-- the tables with the work in them, what takes it back, and its changes, in order
pub record Work : Type 0 where
  pub live : Live
  pub undo : Log
  pub changes : List Change

-- the rows without the work: those that are left once all of it is undone
abbrev pub base_of : Work → Rows
base_of w = all_back w.live.tables.rows (map edits_of w.undo.inverses)

-- It has grown by these changes: none of them clashes, they are done in the tables, and the rows
-- without the work are the same. Nothing else differs but room.
pub record HasGrown (old : Work) (cs : List Change) (new : Work) : Type 0 where
  pub clear : AreAccepted old.live.tables.schema old.live.tables.rows cs
  pub rows : new.live.tables.rows ≡ serial old.live.tables.schema old.live.tables.rows cs
  pub base : base_of new ≡ base_of old
  pub schema : new.live.tables.schema ≡ old.live.tables.schema
  pub live : new.live ≡ record old.live { tables = new.live.tables }
  pub changes : new.changes ≡ old.changes ++ cs

-- the code of open work, by which proofs tell two of them apart
abbrev pub work_code : Coded Work
work_code =
    code_by (Live × (Log × List Change))
    (coded× live_type.the_row.coded (coded× log_code (coded_list change_type.the_row.coded)))
    (λ w. (w.live, (w.undo, w.changes)))
    (λ p. record { live = p.0; undo = p.1.0; changes = p.1.1 }) (λ _. refl)
