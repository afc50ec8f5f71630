-- What every world keeps that calls reach, whichever calls these are.
--     IsWanted      what the transaction wants whose change stopped the world is that change
--     IsSound      it is fine, no change of a commit clashed, and what stopped it is wanted
--     IsOpenAlike, IsAlike      worlds that are one but for items that rollbacks took back
--     IsSoundPart, HasSoundPart      the part of a table that is sound, and has the world's stop where that was by its table
--     StopsInTable      what stopped the world was a change of one table
use Rattle.std.specs.Prelude.{◌≡◌, ◌≢◌, ℕ, [], Some}
use Rattle.std.specs.FinMap.{get}
use Rattle.model.specs.declared.change.Change as change_type
use Rattle.model.specs.Accepted.{AreAccepted}
use Rattle.model.specs.Effect.{ClashCause}
use Rattle.model.specs.Rows.{Schema}
use Rattle.model.specs.Survivors.{survivors}
use Rattle.world.specs.Fine.{IsFine}
use Rattle.world.specs.World.{Opened, ByClash, World, changes_in}
use Rattle.world_parts.specs.ByTable.{change_at, IsIn}
use Rattle.world_parts.specs.Lines.{HasLine}
use Rattle.world_parts.specs.Parts.{IsPartOf}

-- what the transaction wants whose change stopped the world is that change
abbrev pub IsWanted : World → Type 0
IsWanted w =
    (xid : ℕ) (c : change_type.Change) (cause : ClashCause) → w.stopped ≡ Some (ByClash xid c cause)
    → (o : Opened) (sub : ℕ) (e : change_type.Change) → get w.opened xid ≡ Some o → o.wants ≡ Some (sub, e) → e ≡ c

-- What every world keeps that calls reach.
pub record IsSound (schema : Schema) (w : World) : Type 0 where
  pub fine : IsFine schema w
  pub accepted : AreAccepted schema w.start (changes_in w.line)
  pub wanted : IsWanted w

-- ---- worlds of which the same can be said

-- the transaction is open in the other world, has the same items that survive, and wants the same
abbrev pub IsOpenAlike : World → ℕ → Opened → Type 0
IsOpenAlike w xid p =
    (o : Opened) × (get w.opened xid ≡ Some o) × (survivors xid p.items ≡ survivors xid o.items) × (p.wants ≡ o.wants)

-- The second has what the first has; of the open transactions maybe fewer, and other items that were taken back.
pub record IsAlike (w v : World) : Type 0 where
  pub start : v.start ≡ w.start
  pub committed : v.committed ≡ w.committed
  pub line : v.line ≡ w.line
  pub stopped : v.stopped ≡ w.stopped
  pub opened : (xid : ℕ) (p : Opened) → get v.opened xid ≡ Some p → IsOpenAlike w xid p

-- ---- a world by its parts

-- The part of a table is sound, and was stopped by what stopped the world where that was a clash of the table. Of what
-- else stopped the two it says nothing.
pub record IsSoundPart (schema : Schema) (table : ℕ) (w part : World) : Type 0 where
  pub part_of : IsPartOf table w part
  pub line : HasLine table w part
  pub stopped : (xid : ℕ) (c : change_type.Change) (cause : ClashCause) → w.stopped ≡ Some (ByClash xid c cause) → IsIn table c
      → part.stopped ≡ w.stopped
  pub sound : IsSound schema part

abbrev pub HasSoundPart : Schema → World → ℕ → Type 0
HasSoundPart schema w table = (part : World) × IsSoundPart schema table w part

-- A clash that stopped the world is of one table. What its transaction wants is something there, if it wants anything.
abbrev pub StopsInTable : World → Type 0
StopsInTable w =
    (xid : ℕ) (c : change_type.Change) (cause : ClashCause) → w.stopped ≡ Some (ByClash xid c cause)
    → (table : ℕ) × IsIn table c
    × ((o : Opened) (sub : ℕ) (e : change_type.Change) → get w.opened xid ≡ Some o → o.wants ≡ Some (sub, e) → change_at table e ≢ [])
