use Rattle.std.proofs.Common.{◌≡◌, [], ◌∷◌, ◌++◌, ◌∙◌, ap, sym, subst}
use Rattle.savepoint.specs.Adopted.{CanAdopt}
use Rattle.tokens.specs.Lists.{with_list}
use Rattle.live_tables.specs.Adopting.{adopted_with}
use Rattle.live_tables.specs.Represents.{Represents as LiveRepresents}
use Rattle.engine.specs.declared.events.Event.TheVariants.{Adopted}
use Rattle.engine.specs.Events.{opened_by}
use Rattle.engine.specs.Engine.{Engine, world_in, Represents}
use Rattle.engine.specs.StoreLemmas.{with_parts, store_adopted}
use Rattle.engine.proofs.StoreTickets.{IsTicket, its_ticket, open_under}
use Rattle.engine.proofs.store.Store.adopt.Goals as goal

pub adopt-requires : goal.adopt-requires
adopt-requires c =
    let its : IsTicket c.self.inside c.args.t.now c.number-xid.result = its_ticket c.t.view_is c.number-xid.ensures c.t.view_is c.meet.ensures.listed in (
      world_in c.self.inside,
      opened_by c.args.t.now.list,
      c.self.invariant.tied,
      open_under c.self.invariant its,
      subst (λ n. CanAdopt n c.args.own c.args.sub (opened_by c.args.t.now.list).items) (sym its.number) c.requires.can,
    )

-- the world that the call leads to, and that it is the store's
moved : (c : goal.Joined-this) → (world_in (with_parts c.self.inside c.adopt.new.self c.grow.new.self)
    ≡ adopted_with (world_in c.self.inside) c.args.t.now.number (opened_by c.args.t.now.list) c.args.sub)
    × Represents (with_parts c.self.inside c.adopt.new.self c.grow.new.self)
moved c =
    let its : IsTicket c.self.inside c.args.t.now c.number-xid.result = its_ticket c.t.view_is c.number-xid.ensures c.t.view_is c.meet.ensures.listed in
    store_adopted c.self.inside c.self.invariant c.args.t.now.number c.args.t.now.list its.listed c.adopt.new.self c.grow.new.self c.args.sub c.adopt.ensures.schema
    (c.grow.ensures.book ∙ (λ i. let t = (c.meet.ensures.slip ∙ c.t.view_is) i in with_list (c.meet.ensures.book i) t.number (t.list ++ Adopted c.args.sub ∷ [])))
    (subst (λ n. LiveRepresents (adopted_with (world_in c.self.inside) n (opened_by c.args.t.now.list) c.args.sub) c.adopt.new.self) its.number
    (c.adopt.ensures.tied (world_in c.self.inside) (opened_by c.args.t.now.list) c.self.invariant.tied (open_under c.self.invariant its)
    (subst (λ n. CanAdopt n c.args.own c.args.sub (opened_by c.args.t.now.list).items) (sym its.number) c.requires.can)))

pub invariant_of-self : goal.invariant_of-self
invariant_of-self c = (moved c).1

pub returns-clause-world : goal.returns-clause-world
returns-clause-world c =
    (moved c).0 ∙ ap (λ (e : Engine). adopted_with e.world c.args.t.now.number (opened_by c.args.t.now.list) c.args.sub) c.self.view_is
