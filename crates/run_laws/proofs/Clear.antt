-- No change of a commit clashes, nor of an open transaction, each on the rows that those before it leave.
use Rattle.std.proofs.Common.{◌≡◌, ℕ, List, [], ◌∷◌, Some, subst}
use Rattle.std.proofs.Math.Logic.{∥∥₁_elim}
use Rattle.std.specs.Coded.{×_prop, Π_prop, →_prop, Unit-prop}
use Rattle.std.specs.FinMap.{get}
use Rattle.model.specs.Accepted.{AreAccepted}
use Rattle.model.specs.declared.change.Change as change_type
use Rattle.model.specs.Rows.{Rows, Schema, IsValid}
use Rattle.model.specs.Effect.{effect}
use Rattle.world.specs.World.{Opened, World, work, changes_in}
use Rattle.world_parts.specs.Led.{IsLed}
use Rattle.world_parts.specs.Sound.{IsSound}

module _ (schema : Schema) where
  ⊥-prop : IsProp ⊥
  ⊥-prop x y = absurd x

  accepted_prop : (rows : Rows) (cs : List change_type.Change) → IsProp (AreAccepted schema rows cs)
  accepted_prop rows [] = Unit-prop
  accepted_prop rows (c ∷ cs) =
      ×_prop (Π_prop λ cause. →_prop ⊥-prop) (accepted_prop (effect schema rows c) cs)

  -- nor does one that an open transaction has done
  pub open_clear : (rows : Rows) (w : World) → IsValid schema rows → IsLed schema rows w
      → (xid : ℕ) (o : Opened) → get w.opened xid ≡ Some o → AreAccepted schema w.committed (work xid o)
  open_clear rows w valid led xid o at =
      ∥∥₁_elim (led.sound valid) (accepted_prop w.committed (work xid o))
      (λ (is : IsSound schema w). is.fine.accepted xid o at)

  pub commits_clear : (rows : Rows) (w : World) → IsValid schema rows → IsLed schema rows w
      → AreAccepted schema rows (changes_in w.line)
  commits_clear rows w valid led =
      ∥∥₁_elim (led.sound valid) (accepted_prop rows (changes_in w.line)) (λ (is : IsSound schema w).
      subst (λ r. AreAccepted schema r (changes_in w.line)) led.starts is.accepted)
