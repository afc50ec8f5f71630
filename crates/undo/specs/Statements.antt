-- What the callers of a log rest on, each as one statement. `src/laws.rt` names them, so that the check proves them.
use Rattle.std.specs.Prelude.{◌≡◌, ◌⊎◌, false, List, [], ◌∷◌, ◌++◌}
use Rattle.std.specs.List.{Contains}
use Rattle.model.specs.declared.cell.Cell.{Cell}
use Rattle.model.specs.declared.change.Change.{Change}
use Rattle.model.specs.Rows.{Rows, Schema, IsValid}
use Rattle.model.specs.Footprint.{held_cells, shares_cell}
use Rattle.undo.specs.LogOf.{IsLogOf, IsSecured, StandsLive}
use Rattle.change.specs.Altered.{cells_altered}
use Rattle.undo.specs.Others.{all_altered, all_needed, AreValidBack, StaysInRoom, IsFilled, HasRoomForAll}
use Rattle.model.specs.Effect.{back, serial}
use Rattle.indexes.specs.Content.{Content, KeepsCells}
use Rattle.change.specs.declared.inverse.Inverse.{Inverse}
use Rattle.change.specs.Inverse.{edits_of, room_back, CanPutBack}
use Rattle.undo.specs.Undo.{content_undone, CanUndo, all_settled}

-- a change was applied, and its inverse takes it back: then all inverses can be undone with it
abbrev pub AppliedCanBeUndone : Type 0
AppliedCanBeUndone =
    (old new : Content) (inverses : List Inverse) (inverse : Inverse) → new.schema ≡ old.schema
    → back new.rows (edits_of inverse) ≡ old.rows → KeepsCells old.room (room_back new.room inverse) → CanPutBack new inverse
    → CanUndo old inverses → CanUndo new (inverses ++ inverse ∷ [])

-- what can be undone can be undone with more room too
abbrev pub MoreRoomCanBeUndone : Type 0
MoreRoomCanBeUndone =
    (t more : Content) → t.schema ≡ more.schema → t.rows ≡ more.rows → KeepsCells t.room more.room
    → (inverses : List Inverse) → CanUndo t inverses → CanUndo more inverses

-- what can be undone can be so past another's change that alters no cell of it
abbrev pub PastChangeCanBeUndone : Type 0
PastChangeCanBeUndone =
    (old new : Content) (inverses : List Inverse) (other : Inverse) → new.schema ≡ old.schema
    → back new.rows (edits_of other) ≡ old.rows → KeepsCells old.room (room_back new.room other)
    → shares_cell (all_altered inverses) (cells_altered other) ≡ false → AreValidBack new inverses
    → CanUndo old inverses → CanUndo new inverses

-- past changes of others that are undone
abbrev pub PastUndoCanBeUndone : Type 0
PastUndoCanBeUndone =
    (old new : Content) (inverses others : List Inverse) → new.schema ≡ old.schema
    → new.rows ≡ (content_undone old others).rows → KeepsCells (content_undone old others).room new.room
    → shares_cell (all_altered inverses) (all_altered others) ≡ false → AreValidBack new inverses
    → CanUndo old inverses → CanUndo new inverses

-- past cells that went from the room, if a row fills each of them that is needed
abbrev pub PastGoneCanBeUndone : Type 0
PastGoneCanBeUndone =
    (old new : Content) (inverses : List Inverse) → new.schema ≡ old.schema → new.rows ≡ old.rows → HasRoomForAll new
    → ((cell : Cell) → Contains (all_needed old.schema inverses) cell → StaysInRoom old new cell ⊎ IsFilled old.schema old.rows cell)
    → CanUndo old inverses → CanUndo new inverses

-- past the cells that another gave up, if a row fills each of them that is needed
abbrev pub PastSettleCanBeUndone : Type 0
PastSettleCanBeUndone =
    (old new : Content) (inverses others : List Inverse) → new.schema ≡ old.schema → new.rows ≡ old.rows → HasRoomForAll new
    → ((cell : Cell) → ¬ Contains (all_settled old.schema others) cell → StaysInRoom old new cell)
    → ((cell : Cell) → Contains (all_needed old.schema inverses) cell → Contains (all_settled old.schema others) cell
    → IsFilled old.schema old.rows cell)
    → CanUndo old inverses → CanUndo new inverses

-- what the inverses of changes give up is held by the changes, or filled by a row whose place they hold
abbrev pub SettledIsSecured : Type 0
SettledIsSecured =
    (schema : Schema) (rows : Rows) (changes : List Change) (inverses : List Inverse) → IsValid schema rows
    → IsLogOf schema rows changes inverses → (cell : Cell) → Contains (all_settled schema inverses) cell
    → IsSecured schema (serial schema rows changes) (held_cells schema rows changes) cell

-- what one transaction needs and another gives up is filled, on live rows where the rows that they hold stand
abbrev pub NeededIsFilled : Type 0
NeededIsFilled =
    (schema : Schema) (rows live : Rows) (changes others : List Change) (inverses released : List Inverse)
    → IsValid schema rows → IsLogOf schema rows changes inverses → IsLogOf schema rows others released
    → StandsLive live (serial schema rows changes) (held_cells schema rows changes)
    → StandsLive live (serial schema rows others) (held_cells schema rows others)
    → shares_cell (held_cells schema rows changes) (held_cells schema rows others) ≡ false
    → (cell : Cell) → Contains (all_needed schema inverses) cell → Contains (all_settled schema released) cell
    → IsFilled schema live cell

-- a log takes its changes back past others that share no cell with them
abbrev pub PastOthersIsLog : Type 0
PastOthersIsLog =
    (schema : Schema) (rows : Rows) → IsValid schema rows → (changes others : List Change) (inverses : List Inverse)
    → shares_cell (held_cells schema rows changes) (held_cells schema rows others) ≡ false
    → IsLogOf schema rows changes inverses → IsLogOf schema (serial schema rows others) changes inverses
