-- The text of a report: the rows of each table, the position and the end.
use Rattle.std.specs.Prelude.{ℕ, List, ◌++◌, length, Option, Some, None, codes, decimal, slice_get, flat_map}
use Rattle.std.specs.List.{join_by, enumerate_from}
use Rattle.model.specs.Definition.{Definition}
use Rattle.model.specs.declared.row.Row.{Row}
use Rattle.model.specs.Rows.{Rows}
use Rattle.model.specs.TableRows.{rows_of_table}
use Rattle.model.specs.Types.{value_text}
use Rattle.model.specs.Types.Text.{escaped_text}
use Rattle.frames.specs.declared.fault.FrameFault.{FrameFault}
use Rattle.frames.specs.declared.fault.FrameFault.TheVariants as frames
use Rattle.messages.specs.declared.fault.MsgFault.{MsgFault}
use Rattle.messages.specs.declared.fault.MsgFault.TheVariants as messages
use Rattle.session.specs.declared.fault.SessionFault.{SessionFault}
use Rattle.session.specs.declared.fault.SessionFault.TheVariants as sessions
use Rattle.relcache.specs.declared.fault.RelFault.{RelFault}
use Rattle.relcache.specs.declared.fault.RelFault.TheVariants as relations
use Rattle.run.specs.declared.end.End.{End}
use Rattle.run.specs.declared.end.End.TheVariants as ends
use Rattle.run.specs.Text.{lsn_text}

-- ---- the tables

-- a table's namespace and its own name
abbrev pub name_text : Definition → List ℕ
name_text d = escaped_text d.namespace ++ codes "." ++ escaped_text d.name

-- a row's values in the order of the columns, divided by `|`
abbrev pub row_text : Row → List ℕ
row_text row = join_by value_text (codes "|") row ++ codes "\n"

-- the name and the number of rows, and then the rows
abbrev pub table_text : Definition → List Row → List ℕ
table_text d rows =
    codes "table " ++ name_text d ++ codes " " ++ decimal (length rows) ++ codes "\n" ++ flat_map row_text rows

-- the table with this number
abbrev pub numbered_text : Rows → ℕ × Definition → List ℕ
numbered_text rows e = table_text e.1 (rows_of_table rows e.0)

-- all tables in the catalog's order
abbrev pub tables_text : List Definition → Rows → List ℕ
tables_text definitions rows = flat_map (numbered_text rows) (enumerate_from 0 definitions)

-- ---- the end

-- the name of a frame fault in the line of the end
abbrev pub frame_fault_name : FrameFault → List ℕ
frame_fault_name frames.UnknownFrame = codes "UnknownFrame"
frame_fault_name frames.BadLength = codes "BadLength"
frame_fault_name frames.TooLarge = codes "TooLarge"
frame_fault_name frames.Truncated = codes "Truncated"
frame_fault_name frames.UnknownCopyTag = codes "UnknownCopyTag"
frame_fault_name frames.ServerError = codes "ServerError"
frame_fault_name frames.Device = codes "Device"
frame_fault_name frames.OutOfMemory = codes "OutOfMemory"

-- the name of a message fault in the line of the end
abbrev pub message_fault_name : MsgFault → List ℕ
message_fault_name messages.UnknownTag = codes "UnknownTag"
message_fault_name messages.Short = codes "Short"
message_fault_name messages.Trailing = codes "Trailing"
message_fault_name messages.BadTupleKind = codes "BadTupleKind"
message_fault_name messages.BadText = codes "BadText"
message_fault_name messages.BinaryColumn = codes "BinaryColumn"
message_fault_name messages.BadFlag = codes "BadFlag"
message_fault_name messages.NegativeCount = codes "NegativeCount"
message_fault_name messages.TwoPhase = codes "TwoPhase"
message_fault_name messages.OutOfMemory = codes "OutOfMemory"

-- the name of a session fault in the line of the end
abbrev pub session_fault_name : SessionFault → List ℕ
session_fault_name sessions.NotInTransaction = codes "NotInTransaction"
session_fault_name sessions.NestedBegin = codes "NestedBegin"
session_fault_name sessions.BlockOpen = codes "BlockOpen"
session_fault_name sessions.NoBlock = codes "NoBlock"
session_fault_name sessions.UnknownTransaction = codes "UnknownTransaction"
session_fault_name sessions.AlreadyOpen = codes "AlreadyOpen"
session_fault_name sessions.OldCommit = codes "OldCommit"
session_fault_name sessions.CommitMismatch = codes "CommitMismatch"
session_fault_name sessions.SpoolFull = codes "SpoolFull"
session_fault_name sessions.TooManyOpen = codes "TooManyOpen"

-- the name of a relation fault in the line of the end
abbrev pub relation_fault_name : RelFault → List ℕ
relation_fault_name relations.UnknownRelation = codes "UnknownRelation"
relation_fault_name relations.TableMissing = codes "TableMissing"
relation_fault_name relations.ColumnMissing = codes "ColumnMissing"
relation_fault_name relations.KeyNotSent = codes "KeyNotSent"
relation_fault_name relations.ColumnCount = codes "ColumnCount"
relation_fault_name relations.BadValue = codes "BadValue"
relation_fault_name relations.NullKey = codes "NullKey"
relation_fault_name relations.OutOfMemory = codes "OutOfMemory"

-- the name of a table by its number; nothing if the catalog has no such table
abbrev pub known_name : Option Definition → List ℕ
known_name None = codes ""
known_name (Some d) = name_text d

-- the name of the table with this number; nothing if the catalog has no such table
abbrev pub table_name : List Definition → ℕ → List ℕ
table_name definitions table = known_name (slice_get definitions table)

-- the end's number and name, and what it tells
abbrev pub end_text : List Definition → End → List ℕ
end_text definitions ends.Clean = codes "end 0 Clean"
end_text definitions (ends.Frame fault) = codes "end 1 Frame " ++ frame_fault_name fault
end_text definitions (ends.Msg fault) = codes "end 2 Msg " ++ message_fault_name fault
end_text definitions (ends.Session fault) = codes "end 3 Session " ++ session_fault_name fault
end_text definitions (ends.Rel fault) = codes "end 4 Rel " ++ relation_fault_name fault
end_text definitions (ends.Unique table key) = codes "end 5 Unique " ++ table_name definitions table ++ codes " " ++ decimal key
end_text definitions (ends.NullKey table) = codes "end 6 NullKey " ++ table_name definitions table
end_text definitions (ends.HeldKey xid holder) = codes "end 7 HeldKey " ++ decimal xid ++ codes " " ++ decimal holder
end_text definitions ends.OutOfMemory = codes "end 8 OutOfMemory"

-- ---- the report

-- the report of a run: each table with its rows, the line of the position, the line of the end
abbrev pub report_text : List Definition → Rows → ℕ → End → List ℕ
report_text definitions rows position end =
    tables_text definitions rows ++ codes "position " ++ lsn_text position ++ codes "\n" ++ end_text definitions end ++ codes "\n"
