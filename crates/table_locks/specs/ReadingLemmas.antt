-- What a read of a table's part tells of the commits of its store.
--     listed_told      the part's commits are those of the journal's line in its table, where the two halves of their list are one
--     told_has, state_told      so the world of these commits has the part, and what lies under the table's lock
--     positions_told      the positions among a journal's entries are those of the commits that its line tells
--     until_count      the commits up to a position are the first so many, where so many end there
--     reads_at      the rows up to the position are those after so many
use Rattle.std.specs.Prelude.{◌≡◌, ℕ, zero, suc, ◌<◌, ◌≤◌, cond, List, [], ◌∷◌, Option, Some, None, IfSome, length, map, take, slice_get, refl}
use Rattle.std.proofs.Common.{sym, ◌∙◌, ap, arith, get_or}
use Rattle.std.specs.FinMap.{get}
use Rattle.std.specs.List.Sorted.{IsStrictlyIncreasing}
use Rattle.std.proofs.lemmas.Bool.{le-leb, lt-leb}
use Rattle.std.proofs.lemmas.List.Kept.{AllPairs-from_increasing}
use Rattle.std.proofs.lemmas.Option.{slice_get_within, get_or_from_slice_get}
use Rattle.model.specs.declared.row.Row.{Row}
use Rattle.model.specs.Effect.{serial}
use Rattle.model.specs.Rows.{Rows, Schema}
use Rattle.model.specs.TableRows.{rows_of_table}
use Rattle.tokens.specs.Half.{Name}
use Rattle.world.specs.World.{Past, Entry, World, changes_in, entry_of}
use Rattle.world_parts.specs.Lines.{HasLine, commits_until, line_at, rows_until}
use Rattle.world_parts.specs.MadeLemmas.{made_of_part}
use Rattle.world_parts.specs.Statements.{IsMadeOf}
use Rattle.engine.specs.declared.entry.Entry as entry_type
use Rattle.engine.specs.declared.events.LineEvent.{LineEvent}
use Rattle.engine.specs.Engine.{entry_in}
use Rattle.engine.specs.Events.{commits_in}
use Rattle.table_parts.specs.Part.{Part}
use Rattle.parted_store.specs.Lent.{HasTable}
use Rattle.table_locks.specs.Journals.{JournalState, IsJournal}
use Rattle.table_locks.specs.Reading.{seen_world, open_there, told_world, HasState, positions_of, positions_seen, ReadsAt}
use Rattle.table_locks.specs.TableStates.{TableState, Fits, IsTableState}

-- ---- the world of the commits

module _ (shares : ℕ → Name) (tables : Name) (schema : Schema) (start : Rows) (s : TableState) (p : Part) (fits : Fits shares tables schema start s p) where
  pub listed_told : (its_line book : Name) (j : JournalState) → IsJournal its_line book schema j → get j.tables.lists s.number ≡ Some s.commits.list
      → line_at p.number p.store.world.line ≡ line_at p.number (commits_in j.part.line.list)
  listed_told its_line book j is listed =
      sym fits.listed.list ∙ is.lists s.number s.commits.list listed ∙ ap (λ (n : ℕ). line_at n (commits_in j.part.line.list)) (sym fits.number)

  module _ (line : List LineEvent) (told : line_at p.number p.store.world.line ≡ line_at p.number (commits_in line)) where
    -- the world of the commits, where just those are open that are open in the part
    abbrev behind : World
    behind = record (seen_world schema start line) { opened = p.store.world.opened }

    line_here : HasLine p.number behind p.store.world
    line_here = record { start = fits.kept.start_is; line = told }

    made : IsMadeOf schema p.number behind p.store.world
    made = record {
      own = fits.kept.own;
      serial_commits = fits.sound.fine.serial_commits;
      line = line_here;
      told = fits.kept.own.1;
      wanted = fits.kept.own.0.wanted;
    }

    pub told_has : HasTable behind p
    told_has = record { is = made_of_part schema p.number behind p.store.world refl made; line = line_here }

-- so it has what lies under the table's lock
pub state_told : (shares : ℕ → Name) (tables : Name) (schema : Schema) (start : Rows) (s : TableState) → IsTableState shares tables schema start s
    → (its_line book : Name) (j : JournalState) → IsJournal its_line book schema j → get j.tables.lists s.number ≡ Some s.commits.list
    → HasState (told_world schema start j.part.line.list s) s
state_told shares tables schema start s keeps its_line book j is listed = by s.part keeps.part
  where
    by : (part : Option Part) → IfSome part (Fits shares tables schema start s)
        → IfSome part (HasTable (record (seen_world schema start j.part.line.list) { opened = open_there part }))
    by None fits = tt
    by (Some p) fits =
        told_has shares tables schema start s p fits j.part.line.list (listed_told shares tables schema start s p fits its_line book j is listed)

-- ---- positions

ends_told : (entries : List entry_type.Entry) (commits : List Past) → map entry_in entries ≡ map entry_of commits
    → map (λ (e : entry_type.Entry). e.end) entries ≡ map (λ (p : Past). p.info.end) commits
ends_told [] [] is = refl
ends_told [] (p ∷ commits) is = absurd cc
ends_told (e ∷ entries) [] is = absurd cc
ends_told (e ∷ entries) (p ∷ commits) is =
    let first : entry_in e ≡ entry_of p = cc in
    let rest : map entry_in entries ≡ map entry_of commits = cc in
    ap (λ (f : Entry). f.end ∷ map (λ (g : entry_type.Entry). g.end) entries) first
    ∙ ap (λ (ends : List ℕ). p.info.end ∷ ends) (ends_told entries commits rest)

pub positions_told : (entries : List entry_type.Entry) (line : List LineEvent) → map entry_in entries ≡ map entry_of (commits_in line)
    → positions_of entries ≡ positions_seen line
positions_told entries line is = ap (λ (ends : List ℕ). 0 ∷ ends) (ends_told entries (commits_in line) is)

-- ---- the commits up to a position

-- where the log goes on behind each of these
abbrev ends : List Past → List ℕ
ends commits = map (λ (p : Past). p.info.end) commits

-- each is above those before it
abbrev AreRising : List ℕ → Type 0
AreRising ns = (i j n : ℕ) → i < j → j < length ns → get_or ns i n < get_or ns j n

still_rising : (n : ℕ) (ns : List ℕ) → AreRising (n ∷ ns) → AreRising ns
still_rising n ns rising i j m before below = rising (suc i) (suc j) m (omega (arith, before)) (omega (arith, below))

none_until : (position : ℕ) (commits : List Past) → ((k : ℕ) → k < length (ends commits) → position < get_or (ends commits) k position)
    → commits_until position commits ≡ []
none_until position [] above = refl
none_until position (p ∷ commits) above =
    ap (λ b. cond b (p ∷ commits_until position commits) (commits_until position commits)) (lt-leb p.info.end position (above 0 (omega arith)))
    ∙ none_until position commits (λ k below. above (suc k) (omega (arith, below)))

-- the first is the least
not_below : (n : ℕ) (ns : List ℕ) → AreRising (n ∷ ns) → (count position : ℕ) → slice_get (n ∷ ns) count ≡ Some position → n ≤ position
not_below n ns rising zero position at = let same : n ≡ position = cc in omega (arith, same)
not_below n ns rising (suc count) position at =
    omega (
      arith,
      rising 0 (suc count) position (omega arith) (slice_get_within (n ∷ ns) (suc count) position at),
      get_or_from_slice_get (n ∷ ns) (suc count) position position at,
    )

until_behind : (before : ℕ) (commits : List Past) → AreRising (before ∷ ends commits) → (count position : ℕ)
    → slice_get (before ∷ ends commits) count ≡ Some position → commits_until position commits ≡ take count commits
until_behind before [] rising zero position at = refl
until_behind before [] rising (suc count) position at = refl
until_behind before (p ∷ commits) rising zero position at =
    let same : before ≡ position = cc in
    none_until position (p ∷ commits) (λ k below. omega (arith, same, rising 0 (suc k) position (omega arith) (omega (arith, below))))
until_behind before (p ∷ commits) rising (suc count) position at =
    let later = still_rising before (ends (p ∷ commits)) rising in
    ap (λ b. cond b (p ∷ commits_until position commits) (commits_until position commits))
    (le-leb p.info.end position (not_below p.info.end (ends commits) later count position at))
    ∙ ap (λ ps. p ∷ ps) (until_behind p.info.end commits later count position at)

module _ (line : List LineEvent) (rising : IsStrictlyIncreasing (positions_seen line)) where
  pub until_count : (count position : ℕ) → slice_get (positions_seen line) count ≡ Some position
      → commits_until position (commits_in line) ≡ take count (commits_in line)
  until_count = until_behind 0 (commits_in line) (AllPairs-from_increasing (positions_seen line) rising)

  pub reads_at : (schema : Schema) (start : Rows) (table position count : ℕ) → slice_get (positions_seen line) count ≡ Some position → (rows : List Row)
      → rows ≡ rows_of_table (rows_until schema (seen_world schema start line) position) table → ReadsAt schema start line table position rows
  reads_at schema start table position count at rows is = (
    count,
    at,
    is ∙ ap (λ (commits : List Past). rows_of_table (serial schema start (changes_in commits)) table) (until_count count position at),
  )
