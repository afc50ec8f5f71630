-- A world is made of parts: its transactions and commits are told, and each part has what these are in its table.
--     changes_by_commits      the changes of commits in a table are those that the table's line tells
--     made_of_part      the part of a table in such a world
--     made_of_parts      so a world is reached by parts where each is
use Rattle.std.specs.Prelude.{◌≡◌, ℕ, List, [], ◌∷◌, ◌++◌, flat_map, refl}
use Rattle.std.proofs.Common.{sym, ◌∙◌, ap, ap₂}
use Rattle.model.specs.declared.change.Change.{Change}
use Rattle.model.specs.Rows.{Rows, Schema}
use Rattle.model.specs.Effect.{serial}
use Rattle.world.specs.World.{World, Past, work_behind, changes_in}
use Rattle.world_parts.specs.ByTable.{rows_at, changes_at}
use Rattle.world_parts.specs.ByTableLemmas.{changes_both, serial_at}
use Rattle.world_parts.specs.Lines.{TableCommit, commit_of, line_at}
use Rattle.world_parts.specs.Marks.{HasPart}
use Rattle.world_parts.specs.MarkLemmas.{work_of_marked}
use Rattle.world_parts.specs.Reached.{IsReachedByParts}
use Rattle.world_parts.specs.Statements.{IsSerial, IsMadeOf, HasMadePart}
use Rattle.world_parts.specs.TwiceLemmas.{rows_twice}

-- ---- the changes of a table's line

-- those of its commits, in order
abbrev pub changes_of_line : List TableCommit → List Change
changes_of_line line = flat_map (λ (c : TableCommit). c.changes) line

-- a commit that changed nothing there tells nothing
told_once : (end : ℕ) (cs : List Change) (line : List TableCommit)
    → changes_of_line (commit_of end cs ++ line) ≡ cs ++ changes_of_line line
told_once end [] line = refl
told_once end (c ∷ cs) line = refl

pub changes_by_commits : (table : ℕ) (line : List Past) → changes_at table (changes_in line) ≡ changes_of_line (line_at table line)
changes_by_commits table [] = refl
changes_by_commits table (p ∷ line) =
    changes_both table (work_behind p) (changes_in line)
    ∙ ap (λ cs. changes_at table (work_behind p) ++ cs) (changes_by_commits table line)
    ∙ sym (told_once p.info.end (changes_at table (work_behind p)) (line_at table line))

-- ---- a part

module _ (schema : Schema) (table : ℕ) (w part : World) (serial_here : IsSerial schema w) (made : IsMadeOf schema table w part) where
  same_changes : changes_at table (changes_in part.line) ≡ changes_at table (changes_in w.line)
  same_changes =
      changes_by_commits table part.line ∙ ap changes_of_line made.line.line ∙ sym (changes_by_commits table w.line)

  same_start : rows_at table part.start ≡ rows_at table w.start
  same_start = ap (rows_at table) made.line.start ∙ rows_twice table w.start

  pub made_of_part : HasPart table w part
  made_of_part = (
    record {
      committed =
          made.own.0.committed
          ∙ ap (rows_at table) made.serial_commits
          ∙ serial_at schema table part.start (changes_in part.line)
          ∙ ap₂ (serial schema) same_start same_changes
          ∙ sym (serial_at schema table w.start (changes_in w.line))
          ∙ ap (rows_at table) (sym serial_here);
      work = work_of_marked table w part made.told;
      wanted = made.wanted;
    },
    made.told,
  )

pub made_of_parts : (schema : Schema) (start : Rows) (w : World) → IsSerial schema w
    → ((table : ℕ) → HasMadePart schema start w table) → IsReachedByParts schema start w
made_of_parts schema start w serial_here each = record {
  parts = λ table.
      let its = each table in
      (its.0, made_of_part schema table w its.0 serial_here its.1, its.1.line, its.2);
}
