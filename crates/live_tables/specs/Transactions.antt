-- What a call does to what is kept of an open transaction.
--     WaitsNoMore      it has done one item more, and waits no more
--     IsAsBefore      it is as it was, and of its record perhaps more room
--     HasMadeRoom      room was made for one item
--     HasTouched      a subtransaction is named by an item that changes no row
--     HasApplied      a change was done, or skipped, and is an item of it
--     HasRefused      a change was refused, and it has done what it had
--     PutsTransaction      the map of transactions with another one at an xid, or with none there
--     WritesTransaction      one that is in the map was written
--     WantsChange      a change is kept that it waits with, or that clashed
--     HasHeldItem      a record has one more item, and its mark tells how much was held
--     HasTaken      a transaction holds more cells, and no other's changed
--     IsAdoptedRecord, IsAdopted      its last change became one of another subtransaction
use Rattle.std.specs.Prelude.{◌≡◌, ◌≢◌, ◌↔◌, ◌⊎◌, ℕ, ◌+◌, ◌-◌, ◌^◌, ◌<◌, Bool, true, false, List, [], ◌∷◌, Option, Some, None, Err, length, min, take}
use Rattle.std.specs.List.{Contains}
use Rattle.std.specs.Ordering.{nat_cmp}
use Rattle.std.specs.BTreeMap as tree
use Rattle.std.specs.BTreeMap.{BTreeMap, btree_map_len}
use Rattle.model.specs.declared.cell.Cell.{Cell}
use Rattle.model.specs.declared.change.Change as change_type
use Rattle.model.specs.declared.item.Item.{Item}
use Rattle.model.specs.declared.item.Item.TheVariants.{Change, Touch}
use Rattle.model.specs.Effect.{Skip, outcome}
use Rattle.indexes.specs.Content.{Content}
use Rattle.change.specs.Applied.{AnswersOutcome}
use Rattle.change.specs.declared.inverse.Inverse.{Inverse}
use Rattle.live_tables.specs.declared.transaction.OpenTransaction.{OpenTransaction}
use Rattle.live_tables.specs.declared.transaction.Refused.{Refused}
use Rattle.savepoint.specs.Adopted.{adopted}
use Rattle.savepoint.specs.Savepoints.{before_mark}
use Rattle.savepoint.specs.Record.{Record, with_mark_unless_top, HasMark, OthersAreNamed, AllAreNamed}
use Rattle.live_tables.specs.CallResults.{HasSameRows, IsApplied, HasItem, HasTheSame}

-- it has done one item more, and waits no more
pub record WaitsNoMore (old new : OpenTransaction) : Type 0 where
  pub wants : new.wants ≡ None
  pub done : new.done ≡ min (old.done + 1) (2 ^ 64 - 1)

-- it is as it was, and of its record perhaps more room
pub record IsAsBefore (old new : OpenTransaction) : Type 0 where
  pub record_same : HasTheSame old.record new.record
  pub wants : new.wants ≡ old.wants
  pub done : new.done ≡ old.done

-- a change was done, or skipped, and is an item of it; the mark of a savepoint set by it tells how much was held
abbrev pub HasApplied : Bool → ℕ → change_type.Change → ℕ → Content → Content → OpenTransaction → OpenTransaction → Type 0
HasApplied true sub c held t u old new =
    WaitsNoMore old new × ((i : Inverse) × IsApplied t.schema t u c i
    × ((item : HasItem old.record.top sub (Change sub c) (i ∷ []) old.record new.record) × (item.mark.held ≡ held)))
HasApplied false sub c held t u old new =
    WaitsNoMore old new × (outcome t.schema t.rows c ≡ Skip) × HasSameRows t.schema t u
    × ((item : HasItem old.record.top sub (Change sub c) [] old.record new.record) × (item.mark.held ≡ held))

-- room was made for one item of the subtransaction, which has its savepoint
pub record HasMadeRoom (sub held : ℕ) (old new : OpenTransaction) : Type 0 where
  pub top : new.record.top ≡ old.record.top
  pub survivors : new.record.survivors ≡ old.record.survivors
  pub marks : new.record.marks ≡ with_mark_unless_top old.record.top sub (record { undo = length old.record.log.inverses; held = held }) old.record.marks
  pub inverses : new.record.log.inverses ≡ old.record.log.inverses
  pub noted : HasMark new.record sub
  pub named : OthersAreNamed new.record sub
  pub room : (0 < new.record.room) × (0 < new.record.log.room)
  pub wants : new.wants ≡ old.wants
  pub done : new.done ≡ old.done

-- the subtransaction is named by an item that changes no row
pub record HasTouched (sub held : ℕ) (old new : OpenTransaction) : Type 0 where
  pub more : WaitsNoMore old new
  pub item : HasItem old.record.top sub (Touch sub) [] old.record new.record
  pub mark_held : item.mark.held ≡ held

-- a change was refused, for a clash on these tables or for memory, and is handed back
pub record HasRefused (refused : Refused) (c : change_type.Change) (t u : Content) (old new : OpenTransaction) : Type 0 where
  pub change_is : refused.change ≡ c
  pub clash : AnswersOutcome (outcome t.schema t.rows c) (Err refused.clash)
  pub tables : HasSameRows t.schema t u
  pub kept : IsAsBefore old new

-- the map of transactions with another one at the xid, or with none there, and at the others what it had
pub record PutsTransaction (xid : ℕ) (kept : Option OpenTransaction) (old new : BTreeMap ℕ OpenTransaction) : Type 0 where
  pub here : tree.get nat_cmp new xid ≡ kept
  pub beside : (other : ℕ) → other ≢ xid → tree.get nat_cmp new other ≡ tree.get nat_cmp old other

-- one that is in the map was written, and no other
pub record WritesTransaction (xid : ℕ) (was kept : OpenTransaction) (old new : BTreeMap ℕ OpenTransaction) : Type 0 where
  pub at : tree.get nat_cmp old xid ≡ Some was
  pub puts : PutsTransaction xid (Some kept) old new
  pub as_many : btree_map_len new ≡ btree_map_len old

-- a change of the subtransaction is kept that it waits with, or that clashed
pub record WantsChange (sub : ℕ) (c : change_type.Change) (old new : OpenTransaction) : Type 0 where
  pub wants : new.wants ≡ Some (sub, c)
  pub record_is : new.record ≡ old.record
  pub done : new.done ≡ old.done

-- a record has one more item, and the mark of a savepoint set by it tells how much was held
abbrev pub HasHeldItem : ℕ → ℕ → Item → List Inverse → Record → Record → ℕ → Type 0
HasHeldItem xid sub item more r s held = (has : HasItem xid sub item more r s) × (has.mark.held ≡ held)

-- a transaction holds these cells too, behind those that it held, and no other's changed
pub record HasTaken (xid : ℕ) (cells : List Cell) (old new : ℕ → List Cell) : Type 0 where
  pub front : take (length (old xid)) (new xid) ≡ old xid
  pub all : (cell : Cell) → Contains (new xid) cell ↔ (Contains (old xid) cell ⊎ Contains cells cell)
  pub beside : (other : ℕ) → other ≢ xid → new other ≡ old other

-- the record of a transaction, once a subtransaction has adopted the last change, which was the one item of its own
pub record IsAdoptedRecord (own sub : ℕ) (old new : Record) : Type 0 where
  pub survivors : new.survivors ≡ adopted sub old.survivors
  pub marks : new.marks ≡ before_mark own old.marks
  pub named : AllAreNamed new
  pub log : new.log ≡ old.log
  pub top : new.top ≡ old.top

-- and what is kept of it, which waits no more
pub record IsAdopted (own sub : ℕ) (old new : OpenTransaction) : Type 0 where
  pub record_is : IsAdoptedRecord own sub old.record new.record
  pub wants : new.wants ≡ None
  pub done : new.done ≡ old.done
