-- What a ticket keeps.
--     ticket_in      a ticket as its callers see it, from what it keeps
--     with_place, placed_by, placed_from, places_of      its subtransactions' marks, each with the number of items before it
--     IsTicket      it has a share of each table in which it did something, the items that survive, and their marks
use Rattle.std.specs.Prelude.{◌≡◌, ℕ, suc, ◌==◌, List, [], ◌∷◌, if◌then◌else◌}
use Rattle.model.specs.declared.item.Item.{Item}
use Rattle.model.specs.declared.item.Item.TheVariants.{Change, Touch, BackTo, Last}
use Rattle.model.specs.Survivors.{survivors}
use Rattle.savepoint.specs.Savepoints.{with_mark}
use Rattle.engine.specs.Events.{opened_by}
use Rattle.parted_store.specs.Lent.{OpenTicket, HasShares}
use Rattle.parted_store.specs.declared.ticket.Ticket.TheInside.{Inside}

-- a ticket as its callers see it, from what it keeps
abbrev pub ticket_in : Inside → OpenTicket
ticket_in t = record { number = t.xid; events = t.events; shares = t.shares.items }

-- marks, each with the number of items before it, in the order in which they were set
abbrev pub Places : Type 0
Places = List (ℕ × ℕ)

-- with one for the subtransaction behind n items; the one that it has stays, and the top transaction gets none
abbrev pub with_place : ℕ → ℕ → ℕ → Places → Places
with_place top sub n places = if sub == top then places else with_mark sub n places

-- once an item has come behind n others: the first that names a subtransaction sets its mark
abbrev pub placed_by : ℕ → Item → ℕ → Places → Places
placed_by top (Change sub c) n places = with_place top sub n places
placed_by top (Touch sub) n places = with_place top sub n places
placed_by top (BackTo sub) n places = places
placed_by top Last n places = places

-- once these have come
abbrev pub placed_from : ℕ → ℕ → Places → List Item → Places
placed_from top n places [] = places
placed_from top n places (item ∷ items) = placed_from top (suc n) (placed_by top item n places) items

-- the marks that items set
abbrev pub places_of : ℕ → List Item → Places
places_of top items = placed_from top 0 [] items

-- What the type of a ticket keeps.
pub record IsTicket (t : Inside) : Type 0 where
  pub shares : HasShares (ticket_in t)
  pub items : t.items.items ≡ survivors t.xid (opened_by t.events).items
  pub marks : t.marks ≡ places_of t.xid t.items.items
