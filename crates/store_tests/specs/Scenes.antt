-- What a scene of the tests keeps.
--     Tickets      the tickets that a scene has, by their numbers
--     Belong      each is of one store, and lies at its own number
--     Know      there is one of each transaction that is open
--     IsScene      what a store, its line and the tickets of its open transactions have to do with each other
use Rattle.std.specs.Prelude.{◌≡◌, ℕ, true, Some, is_some, length}
use Rattle.std.specs.Ordering.{nat_cmp}
use Rattle.std.specs.BTreeMap as tree
use Rattle.std.specs.BTreeMap.{BTreeMap}
use Rattle.std.specs.FinMap as finite
use Rattle.tokens.specs.Half.{Name, Half}
use Rattle.tokens.specs.Lists.{OpenList}
use Rattle.world.specs.World.{OpenOnes}
use Rattle.engine.specs.declared.events.Event.{Event}
use Rattle.engine.specs.declared.events.LineEvent.{LineEvent}
use Rattle.engine.specs.Engine.{Engine}
use Rattle.model.specs.Beginning.{last_end}
use Rattle.engine.specs.Events.{ends_in}

-- the tickets that a scene has, by their numbers
abbrev pub Tickets : Type 0
Tickets = BTreeMap ℕ (OpenList Event)

-- each is of the store of this name, and lies at its own number
abbrev pub Belong : Name → Tickets → Type 0
Belong name tickets = (xid : ℕ) (t : OpenList Event) → tree.get nat_cmp tickets xid ≡ Some t → (t.name ≡ name) × (t.number ≡ xid)

-- there is one of each transaction that is open
abbrev pub Know : OpenOnes → Tickets → Type 0
Know opened tickets = (xid : ℕ) → is_some (finite.get opened xid) ≡ true → is_some (tree.get nat_cmp tickets xid) ≡ true

-- a store of two tables with its line and its tickets, where the last commit ends at this place
pub record IsScene (store : Engine) (line : Half LineEvent) (tickets : Tickets) (end : ℕ) : Type 0 where
  pub counted : length store.schema ≡ 2
  pub lined : line.name ≡ store.line.name
  pub ended : last_end (ends_in line.list) ≡ end
  pub belong : Belong store.tickets tickets
  pub known : Know store.world.opened tickets
