-- What the type of a ticket keeps.
--     IsTied      a share of the ticket's transaction tells just what the transaction did in the table, and wants there
--     WaitsSo      whether its transaction may want something
--     waits_acted      the same once it tried a change
--     waits_after      where it waits behind an item that changes no row, by what came of the call
--     counted, one_more      how many items it has done, as far as a u64 counts; with one more
--     done_acted, done_touched      the same once it tried a change; behind an item that changes no row
--     IsTicket      each share tells just what the transaction did in its table, and wants there
--     IsTicketOf      so it is of a ticket that waits somewhere
--     HasRoom      there is room for the parts of its tables, while they are lent
use Rattle.std.specs.Prelude.{◌≡◌, ◌<◌, ◌≤◌, ◌+◌, ◌-◌, ◌^◌, ℕ, List, length, min, Option, Some, None, Result, Ok, Err}
use Rattle.model.specs.declared.change.Change.{Change}
use Rattle.model.specs.Rows.{Schema}
use Rattle.model.specs.Survivors.{survivors}
use Rattle.tokens.specs.Half.{Name}
use Rattle.world.specs.Steps.{Fault, Acted, IsDone, IsSkipped, Held, Clashed}
use Rattle.world.specs.World.{Opened}
use Rattle.world_parts.specs.ByTable.{changes_at}
use Rattle.world_parts.specs.Marks.{items_at}
use Rattle.world_parts.specs.Parts.{wanted_by}
use Rattle.engine.specs.declared.events.Event.{Event}
use Rattle.engine.specs.Events.{opened_by}
use Rattle.parted_store.specs.Lent.{OpenTicket}
use Rattle.parted_store.specs.Shares.{Share, share_of}
use Rattle.table_locks.specs.declared.ticket.Waits.{Waits}
use Rattle.table_locks.specs.declared.ticket.Waits.TheVariants.{Nowhere, Somewhere}

-- The share is one of the table's part, and tells just what was told to the table of its transaction, and what that wants there.
pub record IsTied (name : Name) (xid : ℕ) (o : Opened) (table : ℕ) (share : Share) : Type 0 where
  pub name_is : share.name ≡ name
  pub number : share.number ≡ xid
  pub told : survivors xid (opened_by share.list).items ≡ items_at table xid (survivors xid o.items)
  pub wants : wanted_by (opened_by share.list).wants ≡ changes_at table (wanted_by o.wants)

-- whether the transaction may want something
abbrev pub WaitsSo : Waits → Option (ℕ × Change) → Type 0
WaitsSo Nowhere wants = wants ≡ None
WaitsSo Somewhere wants = Unit {0}

-- the same once it tried a change
abbrev pub waits_acted : Waits → Result Acted Fault → Waits
waits_acted waits (Ok IsDone) = Nowhere
waits_acted waits (Ok IsSkipped) = Nowhere
waits_acted waits (Ok (Held holder)) = Somewhere
waits_acted waits (Ok (Clashed cause)) = Somewhere
waits_acted waits (Err fault) = waits

-- where it waits behind an item that changes no row, by what came of the call
abbrev pub waits_after : Waits → Result (Unit {0}) Fault → Waits
waits_after waits (Ok done) = Nowhere
waits_after waits (Err fault) = waits

-- how many items the transaction has done, rollbacks among them, as far as a u64 counts
abbrev pub counted : List Event → ℕ
counted events = min (length (opened_by events).items) (2 ^ 64 - 1)

-- with one more
abbrev pub one_more : ℕ → ℕ
one_more done = min (done + 1) (2 ^ 64 - 1)

-- how many it has done once it tried a change
abbrev pub done_acted : ℕ → Result Acted Fault → ℕ
done_acted done (Ok IsDone) = one_more done
done_acted done (Ok IsSkipped) = one_more done
done_acted done (Ok (Held holder)) = done
done_acted done (Ok (Clashed cause)) = done
done_acted done (Err fault) = done

-- behind an item that changes no row, by what came of the call
abbrev pub done_touched : ℕ → Result (Unit {0}) Fault → ℕ
done_touched done (Ok touched) = one_more done
done_touched done (Err fault) = done

-- Each share is one of its table's part, and tells just what the transaction did there, and wants there. Its table is
-- one of the store. It waits so.
pub record IsTicket (shares : ℕ → Name) (schema : Schema) (waits : Waits) (t : OpenTicket) : Type 0 where
  pub tied : (table : ℕ) (share : Share) → share_of t.shares table ≡ Some share
      → IsTied (shares table) t.number (opened_by t.events) table share
  pub known : (table : ℕ) (share : Share) → share_of t.shares table ≡ Some share → table < length schema
  pub waits_so : WaitsSo waits (opened_by t.events).wants

-- once it has a share, there is room for the parts of all tables
abbrev pub HasRoom : ℕ → OpenTicket → ℕ → Type 0
HasRoom tables t room = (table : ℕ) (share : Share) → share_of t.shares table ≡ Some share → tables ≤ room

-- it is a ticket of the store, wherever its transaction waits
abbrev pub IsTicketOf : (ℕ → Name) → Schema → OpenTicket → Type 0
IsTicketOf shares schema t = IsTicket shares schema Somewhere t
