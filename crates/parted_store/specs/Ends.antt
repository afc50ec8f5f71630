-- The end of a transaction in the parts that are lent.
--     CommitsShare, AbortsShare, Takes      the transaction's share in a part is committed; it is aborted; and it is gone
--     IsCommitted, IsAborted      a part in every world in which it was, once the ticket's transaction has ended
use Rattle.std.specs.Prelude.{◌≡◌, Option, Some, None}
use Rattle.std.specs.FinMap.{get}
use Rattle.model.specs.declared.item.CommitInfo.{CommitInfo}
use Rattle.world.specs.World.{World}
use Rattle.world.specs.Steps.{Commits, Aborts, committed_with, aborted_with}
use Rattle.engine.specs.Events.{opened_by}
use Rattle.table_parts.specs.Part.{Part, last_commit_end}
use Rattle.parted_store.specs.Lent.{OpenTicket, HasTable, HasTicket, IsSamePart}
use Rattle.parted_store.specs.Shares.{Share}

-- the transaction's share in the part, if it has one, is committed
abbrev pub CommitsShare : CommitInfo → Part → Option Share → Part → Type 0
CommitsShare info p None q = q ≡ p
CommitsShare info p (Some share) q =
    (get p.store.world.opened share.number ≡ Some (opened_by share.list))
    × Commits p.store.schema p.store.world share.number (opened_by share.list) info q.store.world
    × IsSamePart p q × (last_commit_end q ≡ info.end)

-- it is aborted
abbrev pub AbortsShare : Part → Option Share → Part → Type 0
AbortsShare p None q = q ≡ p
AbortsShare p (Some share) q =
    (get p.store.world.opened share.number ≡ Some (opened_by share.list))
    × Aborts p.store.world share.number q.store.world × IsSamePart p q × (last_commit_end q ≡ last_commit_end p)

-- it does so, and the share is gone
abbrev pub Takes : (Part → Option Share → Part → Type 0) → Part → Option Share → Part → Option Share → Type 0
Takes ends p share q new = ends p share q × (new ≡ None)

-- the part in every world in which it was, once the ticket's transaction is committed
abbrev pub IsCommitted : OpenTicket → CommitInfo → Part → Part → Type 0
IsCommitted t info p q =
    (w : World) → HasTable w p → HasTicket w t
    → HasTable (committed_with p.store.schema w t.number (opened_by t.events) info) q

-- once it is aborted
abbrev pub IsAborted : OpenTicket → Part → Part → Type 0
IsAborted t p q = (w : World) → HasTable w p → HasTicket w t → HasTable (aborted_with w t.number) q
