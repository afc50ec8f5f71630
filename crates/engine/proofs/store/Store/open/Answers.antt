use Rattle.std.proofs.Common.{◌≡◌, [], ◌∷◌, ◌++◌, subst, ◌∙◌, None, Ok}
use Rattle.std.specs.FinMap.{get}
use Rattle.tokens.specs.Half.{Half}
use Rattle.world.specs.Steps.{Opens, opened_with}
use Rattle.engine.specs.declared.events.LineEvent.{LineEvent}
use Rattle.engine.specs.declared.events.LineEvent.TheVariants.{Opened as WasOpened}
use Rattle.engine.specs.declared.store.Store.TheInside.{Inside}
use Rattle.engine.specs.Engine.{Engine, world_in, Represents}
use Rattle.engine.specs.StoreLemmas.{no_list, store_opened}
use Rattle.engine.proofs.store.Store.open.Goals as goal

pub open_live-requires : goal.open_live-requires
open_live-requires c = (world_in c.self.inside, c.self.invariant.tied)

pub open-slip-requires : goal.open-slip-requires
open-slip-requires c =
    no_list c.self.inside.book.lists c.args.xid (c.in_ok-open_live.ensures.opens (world_in c.self.inside) c.self.invariant.tied).1

module _ (c : goal.After-open-slip) where
  -- the store's parts after the call
  abbrev parts : Inside
  parts = record c.self.inside { live = c.open_live.new.live; journal = c.open_live.new.journal; book = c.open-slip.new.self; line = c.grow.new.kept }

  absent : get (world_in c.self.inside).opened c.args.xid ≡ None
  absent = (c.in_ok-open_live.ensures.opens (world_in c.self.inside) c.self.invariant.tied).1

  moved : (world_in parts ≡ opened_with (world_in c.self.inside) c.args.xid) × Represents parts
  moved =
      store_opened c.self.inside c.self.invariant c.args.xid absent c.open_live.new.live c.open_live.new.journal c.open-slip.new.self c.grow.new.kept
      c.in_ok-open_live.ensures.schema c.open-slip.ensures.book
      (c.grow.ensures.kept ∙ (λ i. let line : Half LineEvent = c.meet.ensures.kept i in record line { list = line.list ++ WasOpened c.args.xid ∷ [] }))
      (c.in_ok-open_live.ensures.tied (world_in c.self.inside) c.self.invariant.tied) c.in_ok-open_live.ensures.items c.in_ok-open_live.ensures.room

  opened : Opens (world_in c.self.inside) c.args.xid (Ok tt) (world_in parts)
  opened =
      let told = c.in_ok-open_live.ensures.opens (world_in c.self.inside) c.self.invariant.tied in
      (told.0, told.1, told.2, moved.0)

pub invariant_of-self-2 : goal.invariant_of-self-2
invariant_of-self-2 c = (moved c).1

pub returns-clause-opens : goal.returns-clause-opens
returns-clause-opens c = subst (λ (e : Engine). Opens e.world c.args.xid (Ok tt) (world_in (parts c))) c.self.view_is (opened c)
