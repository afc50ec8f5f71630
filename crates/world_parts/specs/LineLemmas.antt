-- The line of a part, behind each call, and what is read by it.
--     part_line      what is made of a world has its line
--     line_begins      a world and its part begin with no commit
--     line_here, line_beside      a commit comes in the part; it stays, where the transaction did nothing there
--     line_stays      where start and commits stay in both, the part has the line still
--     opens_keeps, acts_keeps, back_keeps, aborts_keeps, line_after_step      they stay in each call but a commit
--     until_in_part      the rows of the table after the commits up to a position are those of the part after its own
use Rattle.std.specs.Prelude.{◌≡◌, ◌⊎◌, ℕ, ◌==◌, nat_le, Bool, true, false, cond, ◌||◌, List, [], ◌∷◌, ◌++◌, filter, flat_map, map, Option, Some, None, Result, Ok, Err, refl}
use Rattle.std.proofs.Common.{sym, ◌∙◌, ap, inl, inr, append-nil}
use Rattle.std.proofs.lemmas.Grind.{flat_map-append}
use Rattle.std.specs.FinMap.{get}
use Rattle.model.specs.declared.change.Change as change_type
use Rattle.model.specs.declared.change.Change.TheVariants.{Put, Set, Remove, Wipe}
use Rattle.model.specs.declared.item.Item.TheVariants.{Change, Touch, BackTo}
use Rattle.model.specs.declared.item.CommitInfo.{CommitInfo}
use Rattle.model.specs.Rows.{Rows, Schema}
use Rattle.model.specs.Effect.{serial}
use Rattle.model.specs.Survivors.{survivors}
use Rattle.model.specs.TakenLemmas.{same_number}
use Rattle.world.specs.World.{Opened, Past, ByClash, ByHold, World, starting, work, work_behind, changes_in}
use Rattle.world.specs.FineLemmas.{refused_stays}
use Rattle.world.specs.Steps.{Fault, AlreadyOpen, TooManyOpen, Stopped, OutOfMemory, Acted, IsDone, IsSkipped, Held, Clashed, Opens, Acts, Touches, GoesBack, Aborts, StopsHeld, Step, opens, acts, touches, goes_back, commits, aborts, stops_held, tells_stop, reads_live, reads_committed, reads_after, tells_journal, closes, watches, looks, opened_with, done_with, wanting, committed_with, aborted_with}
use Rattle.world_parts.specs.ByTable.{names_table, rows_at, only_if, change_at, changes_at}
use Rattle.world_parts.specs.ByTableLemmas.{get_rows_here, same_tables, changes_both, serial_at}
use Rattle.world_parts.specs.Parts.{work_if}
use Rattle.world_parts.specs.Marks.{under, marked_at, items_at, survivors_if, HasPart}
use Rattle.world_parts.specs.MarkLemmas.{works_told, no_work}
use Rattle.world_parts.specs.PartOf.{past_at, part_of}
use Rattle.world_parts.specs.PartOfLemmas.{all_stay}
use Rattle.world_parts.specs.Lines.{TableCommit, commit_of, commit_at, line_at, HasLine, KeepsLine, IsCommit, commits_until, rows_until}

-- ---- changes of a table, cut to it once more

one_again : (table : ℕ) (b : Bool) (c : change_type.Change) → (b ≡ true → change_at table c ≡ c ∷ []) → changes_at table (only_if b c) ≡ only_if b c
one_again table true c same = append-nil (change_at table c) ∙ same refl
one_again table false c same = refl

change_again : (table : ℕ) (c : change_type.Change) → changes_at table (change_at table c) ≡ change_at table c
change_again table (Put at row) = one_again table (at == table) (Put at row) (λ here. ap (λ b. only_if b (Put at row)) here)
change_again table (Set at key patch) = one_again table (at == table) (Set at key patch) (λ here. ap (λ b. only_if b (Set at key patch)) here)
change_again table (Remove at key) = one_again table (at == table) (Remove at key) (λ here. ap (λ b. only_if b (Remove at key)) here)
change_again table (Wipe tables) =
    one_again table (names_table tables table) (Wipe (table ∷ []))
    (λ here. ap (λ b. only_if (b || false) (Wipe (table ∷ []))) (same_number table))

changes_again : (table : ℕ) (cs : List change_type.Change) → changes_at table (changes_at table cs) ≡ changes_at table cs
changes_again table [] = refl
changes_again table (c ∷ cs) =
    changes_both table (change_at table c) (changes_at table cs)
    ∙ ap (λ ds. ds ++ changes_at table (changes_at table cs)) (change_again table c)
    ∙ ap (λ ds. change_at table c ++ ds) (changes_again table cs)

-- ---- a line with one commit more

line_with : (table : ℕ) (line : List Past) (p : Past) → line_at table (line ++ p ∷ []) ≡ line_at table line ++ commit_at table p
line_with table line p =
    flat_map-append (commit_at table) line (p ∷ []) ∙ ap (λ cs. line_at table line ++ cs) (append-nil (commit_at table p))

-- what is made of a world has its line
pub part_line : (table : ℕ) (w : World) → HasLine table w (part_of table w)
part_line table w = record { start = refl; line = same w.line }
  where
    same_changes : (p : Past) → changes_at table (work_behind (past_at table p)) ≡ changes_at table (work_behind p)
    same_changes p =
        let items = survivors p.xid p.items in
        let told : Opened = record { items = items_at table p.xid items; wants = None } in
        ap (changes_at table) (works_told table p.xid (Some told) items (all_stay p.xid [] (marked_at table (under p.xid [] items))))
        ∙ changes_again table (work_behind p)

    same : (line : List Past) → line_at table (map (past_at table) line) ≡ line_at table line
    same [] = refl
    same (p ∷ line) =
        ap (λ cs. commit_of p.info.end cs ++ line_at table (map (past_at table) line)) (same_changes p)
        ∙ ap (λ more. commit_at table p ++ more) (same line)

pub line_begins : (table : ℕ) (start : Rows) → HasLine table (starting start) (starting (rows_at table start))
line_begins table start = record { start = refl; line = refl }

module _ (schema : Schema) (table : ℕ) (w part : World) (has : HasPart table w part) (line : HasLine table w part)
    (xid : ℕ) (o : Opened) (at : get w.opened xid ≡ Some o) (info : CommitInfo) where
  its_changes : work_if xid (get part.opened xid) ≡ changes_at table (work xid o)
  its_changes = has.0.work xid ∙ ap (λ open_one. changes_at table (work_if xid open_one)) at

  pub line_here : (p : Opened) → get part.opened xid ≡ Some p
      → HasLine table (committed_with schema w xid o info) (committed_with schema part xid p info)
  line_here p here = record {
    start = line.start;
    line =
        line_with table part.line (record { xid = xid; items = p.items; info = info })
        ∙ ap (λ cs. cs ++ commit_of info.end (changes_at table (work xid p))) line.line
        ∙ ap (λ cs. line_at table w.line ++ commit_of info.end cs)
        (ap (changes_at table) (ap (work_if xid) (sym here) ∙ its_changes) ∙ changes_again table (work xid o))
        ∙ sym (line_with table w.line (record { xid = xid; items = o.items; info = info }));
  }

  pub line_beside : survivors_if xid (get part.opened xid) ≡ [] → HasLine table (committed_with schema w xid o info) part
  line_beside nothing = record {
    start = line.start;
    line =
        line.line ∙ sym (append-nil (line_at table w.line))
        ∙ ap (λ cs. line_at table w.line ++ commit_of info.end cs) (sym (no_work xid (get part.opened xid) nothing) ∙ its_changes)
        ∙ sym (line_with table w.line (record { xid = xid; items = o.items; info = info }));
  }

-- ---- the other calls

pub line_stays : (table : ℕ) (w new part other : World) → KeepsLine w new → KeepsLine part other → HasLine table w part
    → HasLine table new other
line_stays table w new part other keeps keeps_here has = record {
  start = keeps_here.start ∙ has.start ∙ ap (rows_at table) (sym keeps.start);
  line = ap (line_at table) keeps_here.line ∙ has.line ∙ ap (line_at table) (sym keeps.line);
}

-- where the world behind a call has the same start and line
keeps : (w new next : World) → new ≡ next → next.start ≡ w.start → next.line ≡ w.line → KeepsLine w new
keeps w new next is start line = record {
  start = ap (λ (v : World). v.start) is ∙ start;
  line = ap (λ (v : World). v.line) is ∙ line;
}

module _ (w new : World) where
  keeps_all : new ≡ w → KeepsLine w new
  keeps_all is = keeps w new w is refl refl

  pub opens_keeps : (xid : ℕ) (answer : Result (Unit {0}) Fault) → Opens w xid answer new → KeepsLine w new
  opens_keeps xid (Ok u) h = keeps w new (opened_with w xid) h.3 refl refl
  opens_keeps xid (Err AlreadyOpen) h = keeps_all h.2
  opens_keeps xid (Err TooManyOpen) h = keeps_all h.3
  opens_keeps xid (Err Stopped) h = keeps_all h.1
  opens_keeps xid (Err OutOfMemory) h = keeps_all h.3

  module _ (xid : ℕ) (o : Opened) (sub : ℕ) where
    pub acts_keeps : (schema : Schema) (c : change_type.Change) (answer : Result Acted Fault)
        → Acts schema w xid o sub c answer new → KeepsLine w new
    acts_keeps schema c (Ok IsDone) h = keeps w new (done_with w xid o (Change sub c)) h.3 refl refl
    acts_keeps schema c (Ok IsSkipped) h = keeps w new (done_with w xid o (Change sub c)) h.3 refl refl
    acts_keeps schema c (Ok (Held holder)) h = keeps w new (wanting w xid o sub c) h.2 refl refl
    acts_keeps schema c (Ok (Clashed cause)) h =
        keeps w new (record (wanting w xid o sub c) { stopped = Some (ByClash xid c cause) }) h.3 refl refl
    acts_keeps schema c (Err fault) h = keeps_all (refused_stays w new fault h)

    touches_keeps : (answer : Result (Unit {0}) Fault) → Touches w xid o sub answer new → KeepsLine w new
    touches_keeps (Ok u) h = keeps w new (done_with w xid o (Touch sub)) h.1 refl refl
    touches_keeps (Err fault) h = keeps_all (refused_stays w new fault h)

    pub back_keeps : GoesBack w xid o sub new → KeepsLine w new
    back_keeps h = keeps w new (done_with w xid o (BackTo sub)) h refl refl

  pub aborts_keeps : (xid : ℕ) → Aborts w xid new → KeepsLine w new
  aborts_keeps xid h = keeps w new (aborted_with w xid) h refl refl

  stops_keeps : (schema : Schema) (sent : List (ℕ × ℕ)) (waiter : ℕ) (answer : Option ℕ) → StopsHeld schema w sent waiter answer new
      → KeepsLine w new
  stops_keeps schema sent waiter (Some holder) h = keeps w new (record w { stopped = Some (ByHold waiter holder) }) h.1 refl refl
  stops_keeps schema sent waiter None h = keeps_all h.1

-- each call but a commit keeps it
pub line_after_step : (schema : Schema) (w new : World) → Step schema w new → KeepsLine w new ⊎ IsCommit schema w new
line_after_step schema w _ (opens xid answer new h) = inl (opens_keeps w new xid answer h)
line_after_step schema w _ (acts xid o sub c answer new is h) = inl (acts_keeps w new xid o sub schema c answer h)
line_after_step schema w _ (touches xid o sub answer new is h) = inl (touches_keeps w new xid o sub answer h)
line_after_step schema w _ (goes_back xid o sub new is h) = inl (back_keeps w new xid o sub h)
line_after_step schema w _ (commits xid o info new is h) = inr (xid, o, info, is, h)
line_after_step schema w _ (aborts xid o new is h) = inl (aborts_keeps w new xid h)
line_after_step schema w _ (stops_held sent waiter answer new h) = inl (stops_keeps w new schema sent waiter answer h)
line_after_step schema w _ (tells_stop answer h) = inl (keeps_all w w refl)
line_after_step schema w _ (reads_live place answer h) = inl (keeps_all w w refl)
line_after_step schema w _ (reads_committed place answer h) = inl (keeps_all w w refl)
line_after_step schema w _ (reads_after table count answer h) = inl (keeps_all w w refl)
line_after_step schema w _ (tells_journal answer h) = inl (keeps_all w w refl)
line_after_step schema w _ (closes rows entries h) = inl (keeps_all w w refl)
line_after_step schema w _ (watches seen h) = inl (keeps_all w w refl)
line_after_step schema w _ (looks seen now h) = inl (keeps_all w w refl)

-- ---- the rows up to a position

-- the changes of a table's commits up to a position
abbrev changes_until : ℕ → List TableCommit → List change_type.Change
changes_until position line =
    flat_map (λ (c : TableCommit). c.changes) (filter (λ (c : TableCommit). nat_le c.end position) line)

-- with one commit before them
until_with : (table : ℕ) (b : Bool) (p : Past) (line : List Past)
    → changes_at table (changes_in (cond b (p ∷ line) line)) ≡ cond b (changes_at table (work_behind p)) [] ++ changes_at table (changes_in line)
until_with table true p line = changes_both table (work_behind p) (changes_in line)
until_with table false p line = refl

commit_with : (position end : ℕ) (cs : List change_type.Change) (line : List TableCommit)
    → changes_until position (commit_of end cs ++ line) ≡ cond (nat_le end position) cs [] ++ changes_until position line
commit_with position end [] line = by (nat_le end position)
  where
    by : (b : Bool) → changes_until position line ≡ cond b [] [] ++ changes_until position line
    by true = refl
    by false = refl
commit_with position end (c ∷ cs) line = by (nat_le end position)
  where
    until : List TableCommit
    until = filter (λ (t : TableCommit). nat_le t.end position) line

    by : (b : Bool) → flat_map (λ (t : TableCommit). t.changes) (cond b (record { end = end; changes = c ∷ cs } ∷ until) until)
        ≡ cond b (c ∷ cs) [] ++ flat_map (λ (t : TableCommit). t.changes) until
    by true = refl
    by false = refl

-- the table's changes up to a position are told by its commits
until_at : (table position : ℕ) (line : List Past)
    → changes_at table (changes_in (commits_until position line)) ≡ changes_until position (line_at table line)
until_at table position [] = refl
until_at table position (p ∷ line) =
    until_with table (nat_le p.info.end position) p (commits_until position line)
    ∙ ap (λ cs. cond (nat_le p.info.end position) (changes_at table (work_behind p)) [] ++ cs) (until_at table position line)
    ∙ sym (commit_with position p.info.end (changes_at table (work_behind p)) (line_at table line))

-- cut to the table once more
rows_again : (table : ℕ) (rows : Rows) → rows_at table (rows_at table rows) ≡ rows_at table rows
rows_again table rows = same_tables table (rows_at table rows) rows (get_rows_here table rows)

pub until_in_part : (schema : Schema) (table : ℕ) (w part : World) → HasLine table w part → (position : ℕ)
    → rows_at table (rows_until schema part position) ≡ rows_at table (rows_until schema w position)
until_in_part schema table w part has position =
    serial_at schema table part.start (changes_in (commits_until position part.line))
    ∙ ap (λ (r : Rows). serial schema r (changes_at table (changes_in (commits_until position part.line))))
    (ap (rows_at table) has.start ∙ rows_again table w.start)
    ∙ ap (serial schema (rows_at table w.start))
    (until_at table position part.line ∙ ap (changes_until position) has.line ∙ sym (until_at table position w.line))
    ∙ sym (serial_at schema table w.start (changes_in (commits_until position w.line)))
