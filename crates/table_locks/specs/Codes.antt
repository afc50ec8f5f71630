-- The codes of what lies under locks, by which proofs tell two of them apart.
use Rattle.std.specs.Prelude.{ℕ, List, Option, refl}
use Rattle.std.specs.Coded.{Coded, code_by, coded×, coded_ℕ, coded_list, coded_option}
use Rattle.atomic_table.specs.Seated.{table_id_coded}
use Rattle.model.specs.contracts.change.Change as change_type
use Rattle.model.specs.declared.change.Change.{Change}
use Rattle.tokens.specs.Half.{Name, Half}
use Rattle.tokens.specs.Lists.{OpenLists, OpenList, open_lists_code}
use Rattle.world.specs.World.{Stop}
use Rattle.engine.specs.EngineCode.{half_code, stop_code}
use Rattle.engine.specs.declared.events.LineEvent.{LineEvent}
use Rattle.world_parts.specs.Lines.{TableCommit}
use Rattle.table_parts.specs.Part.{Part}
use Rattle.table_parts.specs.PartCode.{part_code}
use Rattle.parted_store.specs.Journal.{JournalPart}
use Rattle.table_locks.specs.Journals.{JournalState}
use Rattle.table_locks.specs.TableStates.{TableState}

-- of a commit in a table
abbrev pub commit_code : Coded TableCommit
commit_code =
    code_by (ℕ × List Change) (coded× coded_ℕ (coded_list change_type.the_row.coded)) (λ c. (c.end, c.changes))
    (λ p. record { end = p.0; changes = p.1 }) (λ _. refl)

-- of a table's list of them
abbrev pub commits_code : Coded (OpenList TableCommit)
commits_code =
    code_by (Name × (ℕ × List TableCommit)) (coded× table_id_coded (coded× coded_ℕ (coded_list commit_code))) (λ l. (l.name, (l.number, l.list)))
    (λ p. record { name = p.0; number = p.1.0; list = p.1.1 }) (λ _. refl)

-- of what lies under a table's lock
abbrev pub table_state_code : Coded TableState
table_state_code =
    code_by ((ℕ × Option Part) × (OpenList TableCommit × (Option Stop × ℕ)))
    (coded× (coded× coded_ℕ (coded_option part_code)) (coded× commits_code (coded× (coded_option stop_code) coded_ℕ)))
    (λ s. ((s.number, s.part), (s.commits, (s.stopped, s.last))))
    (λ p. record { number = p.0.0; part = p.0.1; commits = p.1.0; stopped = p.1.1.0; last = p.1.1.1 }) (λ _. refl)

-- of the journal's part
abbrev journal_part_code : Coded JournalPart
journal_part_code =
    code_by (Half LineEvent × (ℕ × Option Stop)) (coded× half_code (coded× coded_ℕ (coded_option stop_code))) (λ j. (j.line, (j.open_count, j.stopped)))
    (λ p. record { line = p.0; open_count = p.1.0; stopped = p.1.1 }) (λ _. refl)

-- of what lies under the journal's lock
abbrev pub journal_state_code : Coded JournalState
journal_state_code =
    code_by (JournalPart × OpenLists TableCommit) (coded× journal_part_code (open_lists_code commit_code)) (λ j. (j.part, j.tables))
    (λ p. record { part = p.0; tables = p.1 }) (λ _. refl)
