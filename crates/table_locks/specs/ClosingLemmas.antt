-- What follows at the end of a store.
--     after_moved      the rows of a part are those of the whole in its table, where its commits are
--     after_none      beyond the tables there are none
--     moved_first, moved_more, moved_all      before the first table's rows are moved; one table more; all of them
use Rattle.std.specs.Prelude.{◌≡◌, ℕ, ◌≤◌, ◌+◌, length}
use Rattle.std.proofs.Common.{sym, ◌∙◌, ap, ap₂, subst, arith, inl, inr, List}
use Rattle.std.proofs.lemmas.Bool.{cases_eq}
use Rattle.std.specs.FinMap as finite
use Rattle.model.specs.Effect.{serial}
use Rattle.model.specs.Rows.{Rows, Schema}
use Rattle.tokens.specs.Half.{Name}
use Rattle.tokens.specs.Lists.{OpenLists}
use Rattle.world.specs.World.{Past, changes_in}
use Rattle.world_parts.specs.ByTable.{rows_at, changes_at}
use Rattle.world_parts.specs.ByTableLemmas.{serial_at, all_tables}
use Rattle.world_parts.specs.Lines.{TableCommit, line_at}
use Rattle.world_parts.specs.MadeLemmas.{changes_of_line, changes_by_commits}
use Rattle.world_parts.specs.TwiceLemmas.{rows_twice}
use Rattle.table_parts.specs.Part.{Part}
use Rattle.table_locks.specs.Closing.{AreLists, rows_after, AreMoved}
use Rattle.table_locks.specs.Moving.{SameBeside}
use Rattle.table_locks.specs.StartLemmas.{none_beyond}
use Rattle.table_locks.specs.Starts.{AreKnown}
use Rattle.table_locks.specs.TableStates.{TableState, Fits}

-- the changes of commits that are the same in a table are the same there
same_changes : (table : ℕ) (line commits : List Past) → line_at table line ≡ line_at table commits
    → changes_at table (changes_in line) ≡ changes_at table (changes_in commits)
same_changes table line commits same =
    changes_by_commits table line ∙ ap changes_of_line same ∙ sym (changes_by_commits table commits)

module _ (shares : ℕ → Name) (tables : Name) (schema : Schema) (start : Rows) (s : TableState) (p : Part) (fits : Fits shares tables schema start s p)
    (commits : List Past) (told : line_at p.number p.store.world.line ≡ line_at p.number commits) where
  after_part : rows_at p.number (serial p.store.schema p.store.world.start (changes_in p.store.world.line))
      ≡ rows_at p.number (rows_after schema start commits)
  after_part =
      ap (λ (k : Schema). rows_at p.number (serial k p.store.world.start (changes_in p.store.world.line))) fits.kept.schema_is
      ∙ serial_at schema p.number p.store.world.start (changes_in p.store.world.line)
      ∙ ap₂ (serial schema) (ap (rows_at p.number) fits.kept.start_is ∙ rows_twice p.number start) (same_changes p.number p.store.world.line commits told)
      ∙ sym (serial_at schema p.number start (changes_in commits))

  pub after_moved : (number : ℕ) → p.number ≡ number → (rows : Rows)
      → rows ≡ serial p.store.schema p.store.world.start (changes_in p.store.world.line) → rows_at number rows ≡ rows_at number (rows_after schema start commits)
  after_moved number same rows are =
      subst (λ (n : ℕ). rows_at n rows ≡ rows_at n (rows_after schema start commits)) same (ap (rows_at p.number) are ∙ after_part)

module _ (schema : Schema) (start : Rows) (book : OpenLists TableCommit) (commits : List Past) (are : AreLists schema book commits) where
  pub after_none : (table : ℕ) → length schema ≤ table → rows_at table start ≡ finite.empty
      → rows_at table (rows_after schema start commits) ≡ finite.empty
  after_none table past none =
      serial_at schema table start (changes_in commits)
      ∙ ap₂ (serial schema) none (changes_by_commits table commits ∙ ap changes_of_line (are.beyond table past))

  module _ (all : Rows) where
    pub moved_first : AreKnown schema all → AreKnown schema start → AreMoved schema start commits (length schema) all
    moved_first known known_first table past =
        none_beyond schema all known table past ∙ sym (after_none table past (none_beyond schema start known_first table past))

    pub moved_more : (number : ℕ) (new : Rows) → AreMoved schema start commits (number + 1) all → SameBeside number all new
        → rows_at number new ≡ rows_at number (rows_after schema start commits) → AreMoved schema start commits number new
    moved_more number new before beside here table from =
        elim (cases_eq table number) [
          | inl same ↦ subst (λ (n : ℕ). rows_at n new ≡ rows_at n (rows_after schema start commits)) (sym same) here
          | inr apart ↦ beside table apart ∙ before table (omega (arith, from, apart))
        ]

    pub moved_all : AreMoved schema start commits 0 all → all ≡ rows_after schema start commits
    moved_all moved = all_tables all (rows_after schema start commits) (λ table. moved table (omega arith))
