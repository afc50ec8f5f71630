-- How sources and sinks tell of their failures.
--     HasFailed      one failure more is counted
--     Health      how often a device failed, and whether its last call did
--     HasWorked, HasFailedLast      no call on it failed; one did, the last
use Rattle.std.specs.Prelude.{◌≡◌, ℕ, ◌+◌, ◌-◌, ◌^◌, Bool, true, min}

-- one failure more, up to the greatest number of 64 bits
abbrev pub HasFailed : ℕ → ℕ → Type 0
HasFailed old new = new ≡ min (old + 1) (2 ^ 64 - 1)

-- How often a device failed, and whether its last call did.
pub record Health : Type 0 where
  pub failures : ℕ
  pub failed_last : Bool

-- no call on the device failed
abbrev pub HasWorked : Health → Health → Type 0
HasWorked old new = new.failures ≡ old.failures

-- one call on the device failed, and that was the last
abbrev pub HasFailedLast : Health → Health → Type 0
HasFailedLast old new = HasFailed old.failures new.failures × (new.failed_last ≡ true)
