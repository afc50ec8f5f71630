-- A change that is tried in the part of its table.
--     running      a world as though nothing had stopped it
--     as_told      what came of a change in the words of the world, where a clash alters nothing
--     is_done, items_of      whether the transaction has done it; the item that it has done
--     Rests      the parts of other tables and their shares behind it
--     IsActed      a part of another table in every world in which it was, once the ticket's transaction has tried it
use Rattle.std.specs.Prelude.{◌≡◌, ℕ, Bool, true, false, List, [], ◌∷◌, length, None, Result, Ok, Err}
use Rattle.model.specs.declared.change.Change as change_type
use Rattle.model.specs.declared.item.Item.{Item}
use Rattle.model.specs.declared.item.Item.TheVariants.{Change}
use Rattle.world.specs.World.{World}
use Rattle.world.specs.Steps.{Fault, AlreadyOpen, Acted, IsDone, IsSkipped, Held, Clashed}
use Rattle.live_tables.specs.declared.answers.EngineFault.{EngineFault}
use Rattle.live_tables.specs.declared.answers.Verdict.{Verdict}
use Rattle.live_tables.specs.declared.answers.Verdict.TheVariants.{Acted as ActedVerdict, Clashes}
use Rattle.live_tables.specs.Answers.{told, told_fault, after_act}
use Rattle.engine.specs.Events.{opened_by}
use Rattle.table_parts.specs.Part.{Part}
use Rattle.parted_store.specs.Back.{BacksShare}
use Rattle.parted_store.specs.EachPart.{Progress}
use Rattle.parted_store.specs.Lent.{OpenTicket, HasTable, HasTicket}
use Rattle.parted_store.specs.Shares.{Shares}

-- The world as though nothing had stopped it. Who tries a change in the part of its table doesn't ask what stopped the store.
abbrev pub running : World → World
running w = record w { stopped = None }

-- What came of a change in the words of the world. A change that clashes alters nothing, and is told by no event: so it is
-- one that was refused.
abbrev pub as_told : Result Verdict EngineFault → Result Acted Fault
as_told (Ok (ActedVerdict acted)) = told (Ok acted)
as_told (Ok (Clashes clash)) = Err AlreadyOpen
as_told (Err fault) = Err (told_fault fault)

-- whether the transaction has done it
abbrev pub is_done : Result Acted Fault → Bool
is_done (Ok IsDone) = true
is_done (Ok IsSkipped) = true
is_done (Ok (Held holder)) = false
is_done (Ok (Clashed cause)) = false
is_done (Err fault) = false

-- the item that the transaction has done by it
abbrev pub items_of : ℕ → change_type.Change → Result Acted Fault → List Item
items_of sub c (Ok IsDone) = Change sub c ∷ []
items_of sub c (Ok IsSkipped) = Change sub c ∷ []
items_of sub c (Ok (Held holder)) = []
items_of sub c (Ok (Clashed cause)) = []
items_of sub c (Err fault) = []

-- the parts of other tables and their shares behind it: the transaction waits there no more, unless it was refused
abbrev pub Rests : ℕ → Result Acted Fault → List Part → Shares → List Part → Shares → Type 0
Rests xid (Ok acted) parts shares new_parts new_shares = Progress (BacksShare (xid ∷ [])) parts shares new_parts new_shares (length parts)
Rests xid (Err fault) parts shares new_parts new_shares = (new_parts ≡ parts) × (new_shares ≡ shares)

-- a part of another table in every world in which it was, by what came of the change
abbrev pub IsActed : OpenTicket → ℕ → change_type.Change → Result Acted Fault → Part → Part → Type 0
IsActed t sub c answer p q =
    (w : World) → HasTable w p → HasTicket w t → HasTable (after_act w t.number (opened_by t.events) sub c answer) q
