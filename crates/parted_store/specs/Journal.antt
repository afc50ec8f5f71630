-- The journal's part as its callers see it, and what its type keeps.
--     JournalPart      its line, how many transactions are open, and what stopped the store
--     journal_in, IsJournal      the journal's part from what it keeps; what its type keeps
use Rattle.std.specs.Prelude.{◌≡◌, ℕ, ◌+◌, ◌≤◌, ◌∷◌, Option, map, IfSome, vec_len, vec_capacity}
use Rattle.std.specs.List.Sorted.{IsStrictlyIncreasing}
use Rattle.std.specs.Ordering.{nat_cmp}
use Rattle.std.specs.BTreeSet as set
use Rattle.std.specs.BTreeSet.{btree_set_len}
use Rattle.tokens.specs.Half.{Half}
use Rattle.world.specs.World.{Stop, entry_of}
use Rattle.engine.specs.declared.events.LineEvent.{LineEvent}
use Rattle.engine.specs.Engine.{entry_in}
use Rattle.engine.specs.Events.{commits_in, ends_in, is_open_in}
use Rattle.live_tables.specs.Answers.{told_stop, HasCause}
use Rattle.parted_store.specs.declared.journal.Journal.TheInside.{Inside}

-- the journal's part as its callers see it
pub record JournalPart : Type 0 where
  -- what happened to the store's transactions, as its line knows it
  pub line : Half LineEvent
  -- how many of them are open
  pub open_count : ℕ
  pub stopped : Option Stop

-- the journal's part as its callers see it, from what it keeps
abbrev pub journal_in : Inside → JournalPart
journal_in j = record { line = j.line; open_count = btree_set_len j.open_ones; stopped = told_stop j.stopped }

-- What the type of the journal's part keeps: its entries are the commits of its line, with room for one of each open
-- transaction, the ends of the commits rise, the line tells which are open, and want of memory stopped nothing.
pub record IsJournal (j : Inside) : Type 0 where
  pub told : map entry_in j.entries.items ≡ map entry_of (commits_in j.line.list)
  pub room : vec_len j.entries + btree_set_len j.open_ones ≤ vec_capacity j.entries
  pub rising : IsStrictlyIncreasing (0 ∷ ends_in j.line.list)
  pub opened : (xid : ℕ) → set.contains nat_cmp j.open_ones xid ≡ is_open_in j.line.list xid
  pub caused : IfSome j.stopped HasCause
