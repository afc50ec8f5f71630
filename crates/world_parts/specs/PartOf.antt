-- The part of a table in a world, made.
--     entry_at, past_at      an open transaction, and a commit, as they are told to the table
--     part_of      the part that has just these
use Rattle.std.specs.Prelude.{ℕ, List, [], ◌∷◌, Option, Some, None, map}
use Rattle.std.specs.FinMap.{entries, from_entries}
use Rattle.model.specs.declared.change.Change.{Change}
use Rattle.model.specs.Survivors.{survivors}
use Rattle.world.specs.World.{Opened, Past, World}
use Rattle.world_parts.specs.ByTable.{rows_at, change_at}
use Rattle.world_parts.specs.Marks.{items_at}

-- the first of these, from this subtransaction
abbrev pub first_from : ℕ → List Change → Option (ℕ × Change)
first_from sub [] = None
first_from sub (c ∷ cs) = Some (sub, c)

-- what a change that is waited with is in the table
abbrev pub wants_at : ℕ → Option (ℕ × Change) → Option (ℕ × Change)
wants_at table None = None
wants_at table (Some wants) = first_from wants.0 (change_at table wants.1)

-- an open transaction, as it is told to the table
abbrev pub entry_at : ℕ → ℕ × Opened → ℕ × Opened
entry_at table e =
    (e.0, record { items = items_at table e.0 (survivors e.0 e.1.items); wants = wants_at table e.1.wants })

-- a commit, as it is told to the table
abbrev pub past_at : ℕ → Past → Past
past_at table p =
    record { xid = p.xid; items = items_at table p.xid (survivors p.xid p.items); info = p.info }

-- the part that has just these
abbrev pub part_of : ℕ → World → World
part_of table w = record {
  start = rows_at table w.start;
  committed = rows_at table w.committed;
  line = map (past_at table) w.line;
  opened = from_entries (map (entry_at table) (entries w.opened));
  stopped = None;
}
