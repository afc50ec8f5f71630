-- The part of a table as its callers see it, and what its calls come to in every world of which it is a part.
--     Part      its table, and a store of its own
--     last_commit_end      where the log goes on behind its last commit
--     Tries, TriesAlone      a change was tried; where a clash alters nothing
--     Opens, GoesBack, Commits, Aborts      a transaction opens; is rolled back; ends
--     CommitsLine      its commit comes in the line of the world and in that of the part
use Rattle.std.specs.Prelude.{◌≡◌, ℕ, Some, None, Result, Ok, Err}
use Rattle.std.specs.FinMap.{get}
use Rattle.model.specs.declared.change.Change as change_type
use Rattle.model.specs.declared.item.Item.TheVariants.{BackTo}
use Rattle.model.specs.declared.item.CommitInfo.{CommitInfo}
use Rattle.model.specs.Beginning.{last_end}
use Rattle.model.specs.Rows.{Schema}
use Rattle.model.specs.Survivors.{survivors}
use Rattle.world.specs.World.{Opened, World}
use Rattle.world.specs.Steps.{Acted, Acts, Fault, done_with, committed_with, aborted_with}
use Rattle.world_parts.specs.Lines.{HasLine}
use Rattle.world_parts.specs.Parts.{after_tried}
use Rattle.world_parts.specs.Marks.{mark_for, HasPart, CutsTo}
use Rattle.live_tables.specs.declared.answers.EngineFault.{EngineFault}
use Rattle.live_tables.specs.declared.answers.Verdict.{Verdict}
use Rattle.live_tables.specs.declared.answers.Verdict.TheVariants.{Acted as ActedVerdict, Clashes}
use Rattle.live_tables.specs.Answers.{told}
use Rattle.live_tables.specs.Tried.{HasClash}
use Rattle.engine.specs.Engine.{Engine}
use Rattle.engine.specs.Events.{ends_in}

-- the part of a table as its callers see it
pub record Part : Type 0 where
  pub number : ℕ
  pub store : Engine

-- where the log goes on behind its last commit
abbrev pub last_commit_end : Part → ℕ
last_commit_end p = last_end (ends_in p.store.line.list)

-- What came of a change in the part comes of it in each world that runs, and then the world has the new part. Where the call
-- was refused, it has it as it is.
abbrev pub Tries : Schema → ℕ → World → ℕ → ℕ → change_type.Change → Result Acted Fault → World → Type 0
Tries schema table part xid mark c (Ok answer) new =
    (w : World) (o : Opened) (sub : ℕ) → HasPart table w part → get w.opened xid ≡ Some o → w.stopped ≡ None → mark ≡ mark_for xid sub (survivors xid o.items)
    → Acts schema w xid o sub c (Ok answer) (after_tried w xid o sub c answer) × HasPart table (after_tried w xid o sub c answer) new
Tries schema table part xid mark c (Err fault) new = (w : World) → HasPart table w part → HasPart table w new

-- The same, where a change that clashes alters nothing.
abbrev pub TriesAlone : Schema → ℕ → World → ℕ → ℕ → change_type.Change → Result Verdict EngineFault → World → Type 0
TriesAlone schema table part xid mark c (Ok (ActedVerdict acted)) new = Tries schema table part xid mark c (told (Ok acted)) new
TriesAlone schema table part xid mark c (Ok (Clashes clash)) new =
    (w : World) (o : Opened) → HasPart table w part → get w.opened xid ≡ Some o → w.stopped ≡ None
    → HasClash schema w xid o c clash × HasPart table w new
TriesAlone schema table part xid mark c (Err fault) new = (w : World) → HasPart table w part → HasPart table w new

-- a transaction opens in the part: nothing is new in the world
abbrev pub Opens : ℕ → World → World → Type 0
Opens table part new = (w : World) → HasPart table w part → HasPart table w new

-- its subtransaction is rolled back in the world, where this is the first mark of the table that it drops
abbrev pub GoesBack : ℕ → World → ℕ → ℕ → World → Type 0
GoesBack table part xid mark new =
    (w : World) (o : Opened) (sub : ℕ) → HasPart table w part → get w.opened xid ≡ Some o → CutsTo table xid sub (survivors xid o.items) mark
    → HasPart table (done_with w xid o (BackTo sub)) new

-- it commits
abbrev pub Commits : Schema → ℕ → World → ℕ → CommitInfo → World → Type 0
Commits schema table part xid info new =
    (w : World) (o : Opened) → HasPart table w part → get w.opened xid ≡ Some o → HasPart table (committed_with schema w xid o info) new

-- where the world has the line of the part, it has the new part's
abbrev pub CommitsLine : Schema → ℕ → World → ℕ → CommitInfo → World → Type 0
CommitsLine schema table part xid info new =
    (w : World) (o : Opened) → HasPart table w part → HasLine table w part
    → get w.opened xid ≡ Some o → HasLine table (committed_with schema w xid o info) new

-- it aborts
abbrev pub Aborts : ℕ → World → ℕ → World → Type 0
Aborts table part xid new = (w : World) → HasPart table w part → HasPart table (aborted_with w xid) new
