-- Whether a transaction may open, by the journal's part.
--     CanOpen      it may, memory aside
--     RefusesOpen      why it may not
use Rattle.std.specs.Prelude.{◌≡◌, ℕ, ◌<◌, ◌≤◌, true, false, None, IsSome}
use Rattle.model.specs.Limits.{most_open}
use Rattle.live_tables.specs.declared.answers.EngineFault.{EngineFault}
use Rattle.live_tables.specs.declared.answers.EngineFault.TheVariants.{AlreadyOpen, TooManyOpen, Clash, Stopped, OutOfMemory}
use Rattle.engine.specs.Events.{is_open_in}
use Rattle.parted_store.specs.Journal.{JournalPart}

-- it may, memory aside
pub record CanOpen (j : JournalPart) (xid : ℕ) : Type 0 where
  pub runs : j.stopped ≡ None
  pub absent : is_open_in j.line.list xid ≡ false
  pub few : j.open_count < most_open

-- why it may not: Stopped goes before AlreadyOpen, and that before TooManyOpen
abbrev pub RefusesOpen : JournalPart → ℕ → EngineFault → Type 0
RefusesOpen j xid Stopped = IsSome j.stopped
RefusesOpen j xid AlreadyOpen = (j.stopped ≡ None) × (is_open_in j.line.list xid ≡ true)
RefusesOpen j xid TooManyOpen = (j.stopped ≡ None) × (is_open_in j.line.list xid ≡ false) × (most_open ≤ j.open_count)
RefusesOpen j xid (Clash clash) = ⊥
RefusesOpen j xid OutOfMemory = ⊥
