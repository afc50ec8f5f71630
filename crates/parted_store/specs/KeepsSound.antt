-- That a call keeps the worlds of the parts sound that it is lent.
--     with_stop      the part's world, as one that this stopped
--     KeepsSound, KeepsSoundRunning      a part later on is sound where it was, whatever stopped it; as one that nothing stopped
--     StopsSound      it is sound as one that a clash stopped, where it was as one that nothing stopped
--     ClashesHere      the transaction of the share of its table clashes so there
use Rattle.std.specs.Prelude.{◌≡◌, ℕ, Option, Some, None}
use Rattle.model.specs.declared.change.Change.{Change}
use Rattle.change.specs.declared.outcome.Clash.{Clash}
use Rattle.world.specs.World.{Stop, World}
use Rattle.live_tables.specs.Answers.{cause_of, stop_for}
use Rattle.live_tables.specs.Tried.{HasClash}
use Rattle.engine.specs.Events.{opened_by}
use Rattle.world_parts.specs.Sound.{IsSound}
use Rattle.table_parts.specs.Part.{Part}
use Rattle.parted_store.specs.Shares.{Share, Shares, share_of}

-- The part's world, as one that this stopped. What stopped the store no part knows.
abbrev pub with_stop : Option Stop → Part → World
with_stop stop p = record p.store.world { stopped = stop }

-- whatever stopped it
abbrev pub KeepsSound : Part → Part → Type 0
KeepsSound p q = (stop : Option Stop) → IsSound p.store.schema (with_stop stop p) → IsSound p.store.schema (with_stop stop q)

-- as one that nothing stopped
abbrev pub KeepsSoundRunning : Part → Part → Type 0
KeepsSoundRunning p q = IsSound p.store.schema (with_stop None p) → IsSound p.store.schema (with_stop None q)

-- a clash stopped it, which nothing had stopped
abbrev pub StopsSound : ℕ → Change → Clash → Part → Part → Type 0
StopsSound xid c clash p q =
    IsSound p.store.schema (with_stop None p) → IsSound p.store.schema (with_stop (stop_for xid c (cause_of clash)) q)

-- what the transaction of the share of its table sees there clashes so with the change, of which nobody else holds a cell
abbrev pub ClashesHere : Part → Shares → Change → Clash → Type 0
ClashesHere p shares c clash =
    (share : Share) → share_of shares p.number ≡ Some share
    → HasClash p.store.schema p.store.world share.number (opened_by share.list) c clash
