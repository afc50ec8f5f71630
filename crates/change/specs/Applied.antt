-- How a change came out, as its answer says.
--     IsSound      what the tables keep
--     AnswersOutcome      an answer tells the outcome
--     IfDone, room_after      what holds of the inverse, if the change was done; the room that is there once it is put back
use Rattle.std.specs.Prelude.{◌≡◌, ℕ, List, Some, Result, Ok, Err}
use Rattle.std.specs.FinMap.{get}
use Rattle.model.specs.declared.row.Row.{Row}
use Rattle.indexes.specs.Content.{Content, HasRoom}
use Rattle.model.specs.declared.key.Key.{Key}
use Rattle.model.specs.declared.cell.Cell.{Cell}
use Rattle.model.specs.Rows.{IsValid}
use Rattle.model.specs.Effect.{Outcome, Done, Skip, Clashes, Unique, NullKey}
use Rattle.change.specs.declared.inverse.Inverse.{Inverse}
use Rattle.change.specs.declared.outcome.Applied.{Applied}
use Rattle.change.specs.declared.outcome.Applied.TheVariants.{Done as DoneWith, Skipped}
use Rattle.change.specs.declared.outcome.Clash.{Clash}
use Rattle.change.specs.declared.outcome.Clash.TheVariants.{Unique as UniqueClash, NullKey as NullKeyClash, OutOfMemory}
use Rattle.change.specs.Inverse.{room_back}

-- the rows are valid, and there is room for each
pub record IsSound (t : Content) : Type 0 where
  pub valid : IsValid t.schema t.rows
  pub room : (table : ℕ) (key : Key) (row : Row) → get t.rows (table, key) ≡ Some row → HasRoom t.room t.schema table row

-- the change was done, and neither skipped nor refused
abbrev pub IsDone : Outcome → Type 0
IsDone (Done edits) = Unit {0}
IsDone Skip = ⊥
IsDone (Clashes cause) = ⊥

-- the answer tells the outcome; want of memory may stand in place of any
abbrev pub AnswersOutcome : Outcome → Result Applied Clash → Type 0
AnswersOutcome o (Ok (DoneWith inverse)) = IsDone o
AnswersOutcome o (Ok Skipped) = o ≡ Skip
AnswersOutcome o (Err (UniqueClash table key)) = o ≡ Clashes (Unique table key)
AnswersOutcome o (Err (NullKeyClash table)) = o ≡ Clashes (NullKey table)
AnswersOutcome o (Err OutOfMemory) = Unit {0}

-- of the inverse, if the change was done
abbrev pub IfDone : Result Applied Clash → (Inverse → Type 0) → Type 0
IfDone (Ok (DoneWith inverse)) P = P inverse
IfDone (Ok Skipped) P = Unit {0}
IfDone (Err e) P = Unit {0}

-- the room that is there once the inverse, if there is one, is put back
abbrev pub room_after : List Cell → Result Applied Clash → List Cell
room_after room (Ok (DoneWith inverse)) = room_back room inverse
room_after room (Ok Skipped) = room
room_after room (Err e) = room
