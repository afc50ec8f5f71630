-- What every world keeps that calls reach.
--     StillClashes      the change that stopped it clashes still
--     IsFine      valid start; the commits are serial; no two open transactions share a cell; no change clashes;
--         what clashed does so still
use Rattle.std.specs.Prelude.{◌≡◌, ◌≢◌, ℕ, false, Some}
use Rattle.std.specs.FinMap.{get}
use Rattle.model.specs.declared.change.Change as change_type
use Rattle.model.specs.Accepted.{AreAccepted}
use Rattle.model.specs.Effect.{ClashCause, serial}
use Rattle.model.specs.Footprint.{shares_cell}
use Rattle.model.specs.Rows.{Schema, IsValid}
use Rattle.world.specs.Steps.{IsClashing}
use Rattle.world.specs.World.{Opened, ByClash, World, work, changes_in, holds}

-- the clash that stopped the world is one still, while its transaction wants the change
abbrev pub StillClashes : Schema → World → Type 0
StillClashes schema w =
    (xid : ℕ) (c : change_type.Change) (cause : ClashCause) → w.stopped ≡ Some (ByClash xid c cause) → (o : Opened) (sub : ℕ)
    → get w.opened xid ≡ Some o
    → o.wants ≡ Some (sub, c) → IsClashing schema w xid o c cause

-- What every world keeps that calls reach.
pub record IsFine (schema : Schema) (w : World) : Type 0 where
  pub valid_start : IsValid schema w.start
  pub serial_commits : w.committed ≡ serial schema w.start (changes_in w.line)
  pub apart : (xid other : ℕ) (o p : Opened) → xid ≢ other → get w.opened xid ≡ Some o → get w.opened other ≡ Some p
      → shares_cell (holds schema w xid o) (holds schema w other p) ≡ false
  pub accepted : (xid : ℕ) (o : Opened) → get w.opened xid ≡ Some o → AreAccepted schema w.committed (work xid o)
  pub noted : StillClashes schema w
