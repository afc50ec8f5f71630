use Rattle.std.proofs.Common.{◌∙◌, ◌++◌, ◌∷◌, [], List, ℕ, sym, ap, subst}
use Rattle.std.proofs.lemmas.List.{with_items_is}
use Rattle.engine.specs.declared.events.Event.{Event}
use Rattle.engine.specs.declared.events.LineEvent.TheVariants.{Committed as WasCommitted}
use Rattle.engine.specs.Events.{opened_by}
use Rattle.parted_store.specs.Lent.{OpenTicket}
use Rattle.table_locks.specs.CallLemmas.{somewhere}
use Rattle.table_locks.specs.Lending.{FitEach}
use Rattle.table_locks.specs.declared.ticket.Waits.TheVariants.{Somewhere}
use Rattle.table_locks.proofs.store.Store.commit_with.Goals as goal

pub commit-count-requires-clause-ticket : goal.commit-count-requires-clause-ticket
commit-count-requires-clause-ticket g c =
    c.lend_its.ensures.ticket Somewhere
    (somewhere g.N.StoreNames.shares g.N.StoreNames.schema g.N.StoreNames.start c.ticket.inside.waits c.ticket.inside.ticket c.ticket.invariant.0)

pub put_each-requires : goal.put_each-requires
put_each-requires g c =
    subst (FitEach g.N.StoreNames.shares g.N.StoreNames.tables g.N.StoreNames.schema g.N.StoreNames.start c.commit-count.new.guards)
    (sym (with_items_is c.lend_its.new.lent c.commit-count.new.lent (c.commit-count.auto.lent ∙ c.as_mut_slice.ensures.len))) c.commit-count.ensures.fit

pub returns-clause-appended : goal.returns-clause-appended
returns-clause-appended g c =
    c.commit-count.ensures.appended
    ∙ ap (λ (number : ℕ). c.args.line.now.list ++ WasCommitted number (opened_by c.lend_its.new.ticket.events).items c.args.info ∷ [])
    (c.lend_its.ensures.xid ∙ ap (λ (t : OpenTicket). t.number) c.ticket.view_is)
    ∙ ap (λ (events : List Event). c.args.line.now.list ++ WasCommitted c.args.ticket.number (opened_by events).items c.args.info ∷ [])
    (c.lend_its.ensures.events ∙ ap (λ (t : OpenTicket). t.events) c.ticket.view_is)
