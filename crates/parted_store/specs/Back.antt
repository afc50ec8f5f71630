-- The rollback of a subtransaction in the parts that are lent: in each of them one to every mark that it drops.
--     backs_to      what a share's list gets by rollbacks to these marks
--     IsBackAt, BacksShare      a part and its share behind them; a share that may not be there
--     IsSameShare, KeepsShares      the share is still one of its part and number; all are
--     IsRolledBack      a part in every world in which it was, once a subtransaction of the ticket's transaction is rolled back
use Rattle.std.specs.Prelude.{◌≡◌, ℕ, List, ◌++◌, Option, Some, None, map}
use Rattle.std.specs.FinMap.{get, insert}
use Rattle.model.specs.declared.item.Item.TheVariants.{BackTo}
use Rattle.world.specs.World.{World}
use Rattle.world.specs.Steps.{done_with}
use Rattle.engine.specs.declared.events.Event.{Event}
use Rattle.engine.specs.declared.events.Event.TheVariants.{Done}
use Rattle.engine.specs.Events.{opened_by}
use Rattle.table_parts.specs.Part.{Part, last_commit_end}
use Rattle.parted_store.specs.Lent.{OpenTicket, HasTable, HasTicket, IsSamePart}
use Rattle.parted_store.specs.Shares.{Share, Shares, share_of}

-- what a share's list gets by rollbacks to these marks
abbrev pub backs_to : List ℕ → List Event
backs_to marks = map (λ (mark : ℕ). Done (BackTo mark)) marks

-- a part and its share behind them
pub record IsBackAt (p : Part) (share : Share) (marks : List ℕ) (q : Part) (new : Share) : Type 0 where
  pub stood : get p.store.world.opened share.number ≡ Some (opened_by share.list)
  pub world : q.store.world ≡ record p.store.world { opened = insert p.store.world.opened share.number (opened_by (share.list ++ backs_to marks)) }
  pub share_is : new ≡ record share { list = share.list ++ backs_to marks }
  pub same : IsSamePart p q
  pub ends : last_commit_end q ≡ last_commit_end p

-- where the transaction has a share in the part
abbrev pub BacksShare : List ℕ → Part → Option Share → Part → Option Share → Type 0
BacksShare marks p None q new = (q ≡ p) × (new ≡ None)
BacksShare marks p (Some share) q None = ⊥
BacksShare marks p (Some share) q (Some new) = IsBackAt p share marks q new

-- the share is still one of its part and number
abbrev pub IsSameShare : Option Share → Option Share → Type 0
IsSameShare None new = new ≡ None
IsSameShare (Some share) None = ⊥
IsSameShare (Some share) (Some new) = (new.name ≡ share.name) × (new.number ≡ share.number)

-- all are
abbrev pub KeepsShares : Shares → Shares → Type 0
KeepsShares shares new = (table : ℕ) → IsSameShare (share_of shares table) (share_of new table)

-- the part in every world in which it was, once the subtransaction of the ticket's transaction is rolled back
abbrev pub IsRolledBack : OpenTicket → ℕ → Part → Part → Type 0
IsRolledBack t sub p q =
    (w : World) → HasTable w p → HasTicket w t → HasTable (done_with w t.number (opened_by t.events) (BackTo sub)) q
