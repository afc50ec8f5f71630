use Rattle.std.proofs.Common.{ℕ, length, subst}
use Rattle.std.specs.Prelude.{Result, Ok, Err, IfOk, IfSome}
use Rattle.model.specs.declared.change.Change.{Change}
use Rattle.model.specs.Named.{NamesTables}
use Rattle.engine.specs.Events.{opened_by}
use Rattle.engine.specs.Engine.{Engine, world_in}
use Rattle.engine.proofs.StoreTickets.{its_ticket, open_under}
use Rattle.engine.proofs.store.Store.wanted.Goals as goal

if_ok : {T E : Type 0} (r : Result T E) (P Q : T → Type 0) → IfOk r P → ((x : T) → P x → Q x) → IfOk r Q
if_ok (Ok x) P Q h f = f x h
if_ok (Err e) P Q h f = tt

pub returns-clause-wanted : goal.returns-clause-wanted
returns-clause-wanted c =
    if_ok c.wanted.result _ _ c.wanted.ensures.wants (λ wants told.
    told (world_in c.self.inside) (opened_by c.args.t.now.list) c.self.invariant.tied
    (open_under c.self.invariant (its_ticket c.t.view_is c.number-xid.ensures c.t.view_is c.meet.ensures.listed)))

pub returns-clause-named : goal.returns-clause-named
returns-clause-named c =
    if_ok c.wanted.result _ _ c.wanted.ensures.named (λ wants named.
    subst (λ (e : Engine). IfSome wants (λ (p : ℕ × Change). NamesTables (length e.schema) p.1)) c.self.view_is
    (named (world_in c.self.inside) (opened_by c.args.t.now.list) c.self.invariant.tied
    (open_under c.self.invariant (its_ticket c.t.view_is c.number-xid.ensures c.t.view_is c.meet.ensures.listed))))
