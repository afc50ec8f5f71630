use Rattle.std.proofs.Common.{◌≡◌, ℕ, ◌∷◌, Option, Some, None, is_some, refl, sym, ap, subst, ◌∙◌}
use Rattle.std.specs.Prelude.{option_map}
use Rattle.std.specs.FinMap.{get}
use Rattle.std.specs.List.Sorted.{IsStrictlyIncreasing}
use Rattle.engine.specs.declared.store.Store.TheInside.{Inside}
use Rattle.engine.specs.Engine.{Engine, Represents, world_in}
use Rattle.engine.specs.EventLemmas.{get_values}
use Rattle.engine.specs.Events.{opened_by, ends_in, is_open_in}
use Rattle.engine.proofs.store.Store.recall_invariant.Goals as goal

pub returns-clause-rising : goal.returns-clause-rising
returns-clause-rising c = subst (λ (s : Engine). IsStrictlyIncreasing (0 ∷ ends_in s.line.list)) c.self.view_is c.self.invariant.rising

some_still : {X Y : Type 0} (f : X → Y) (o : Option X) → is_some (option_map f o) ≡ is_some o
some_still f None = refl
some_still f (Some x) = refl

-- the line tells who is open in the world
tells_open : (s : Inside) → Represents s → (xid : ℕ) → is_open_in s.line.list xid ≡ is_some (get (world_in s).opened xid)
tells_open s is xid = is.opened xid ∙ sym (ap is_some (get_values opened_by s.book.lists xid) ∙ some_still opened_by (get s.book.lists xid))

pub returns-clause-opened : goal.returns-clause-opened
returns-clause-opened c = λ xid.
    subst (λ (e : Engine). is_open_in e.line.list xid ≡ is_some (get e.world.opened xid)) c.self.view_is (tells_open c.self.inside c.self.invariant xid)
