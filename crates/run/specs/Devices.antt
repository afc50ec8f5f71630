-- What the devices of a run tell.
--     DeviceState      the bytes still to be read and those sent, the times given, and the failures
--     device_state      one of them
use Rattle.std.specs.Prelude.{ℕ, ℤ, Bool, List, Option}
use Rattle.frames.specs.Device.{Health}

-- What the devices tell: each of the first three only where its device tells it.
pub record DeviceState : Type 0 where
  -- the bytes that the reader is still to give
  pub unread : Option (List ℕ)
  -- the bytes that the writer took
  pub sent : Option (List ℕ)
  -- the times that the clock gave
  pub times : Option (List ℤ)
  -- a number that falls with each read that gives bytes
  pub reads_left : ℕ
  pub reader : Health
  pub writer : Health

-- how often a device failed, and whether its last call did
abbrev pub health : ℕ → Bool → Health
health failures failed_last = record { failures = failures; failed_last = failed_last }

-- the devices that tell this
abbrev pub device_state : Option (List ℕ) → Option (List ℕ) → Option (List ℤ) → ℕ → Health → Health → DeviceState
device_state unread sent times reads_left reader writer =
    record { unread = unread; sent = sent; times = times; reads_left = reads_left; reader = reader; writer = writer }
