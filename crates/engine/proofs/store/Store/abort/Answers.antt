use Rattle.std.proofs.Common.{◌≡◌, [], ◌∷◌, ◌++◌, subst, ◌∙◌}
use Rattle.tokens.specs.Lists.{without_list}
use Rattle.world.specs.Steps.{Aborts, aborted_with}
use Rattle.engine.specs.declared.events.LineEvent.TheVariants.{Aborted as WasAborted}
use Rattle.engine.specs.declared.store.Store.TheInside.{Inside}
use Rattle.engine.specs.Engine.{Engine, world_in, Represents}
use Rattle.engine.specs.StoreLemmas.{store_aborted}
use Rattle.engine.proofs.StoreTickets.{IsTicket, its_ticket, may_call, tied_after}
use Rattle.engine.proofs.store.Store.abort.Goals as goal

pub abort-requires : goal.abort-requires
abort-requires c = may_call c.self.invariant (its_ticket c.t.view_is c.number-xid.ensures c.t.view_is c.close.ensures.listed)

module _ (c : goal.After-abort) where
  -- its ticket, whose number was read
  its : IsTicket c.self.inside c.args.t c.number-xid.result
  its = its_ticket c.t.view_is c.number-xid.ensures c.t.view_is c.close.ensures.listed

  -- the store's parts after the call
  abbrev parts : Inside
  parts = record c.self.inside { live = c.abort.new.self; book = c.close.new.self; line = c.grow.new.kept }

  moved : (world_in parts ≡ aborted_with (world_in c.self.inside) c.args.t.number) × Represents parts
  moved =
      store_aborted c.self.inside c.self.invariant c.args.t.number c.args.t.list its.listed c.abort.new.self c.close.new.self c.grow.new.kept
      c.abort.ensures.schema
      (c.close.ensures.book ∙ (λ i. without_list c.self.inside.book (c.t.view_is i).number))
      (c.grow.ensures.kept ∙ (λ i. record c.self.inside.line { list = c.self.inside.line.list ++ WasAborted (its.number i) ∷ [] }))
      (tied_after c.self.invariant its (λ w n _. aborted_with w n) c.abort.new.self c.abort.ensures.tied)

pub invariant_of-self : goal.invariant_of-self
invariant_of-self c = (moved c).1

pub returns-clause-aborts : goal.returns-clause-aborts
returns-clause-aborts c = subst (λ (e : Engine). Aborts e.world c.args.t.number (world_in (parts c))) c.self.view_is (moved c).0
