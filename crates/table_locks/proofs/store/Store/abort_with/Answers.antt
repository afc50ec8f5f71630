use Rattle.std.proofs.Common.{◌∙◌, ◌++◌, ◌∷◌, [], ℕ, sym, ap, subst}
use Rattle.std.proofs.lemmas.List.{with_items_is}
use Rattle.engine.specs.declared.events.LineEvent.TheVariants.{Aborted as WasAborted}
use Rattle.parted_store.specs.Lent.{OpenTicket}
use Rattle.table_locks.specs.CallLemmas.{somewhere, fit_again}
use Rattle.table_locks.specs.Lending.{FitEach}
use Rattle.table_locks.specs.declared.ticket.Waits.TheVariants.{Somewhere}
use Rattle.table_locks.proofs.store.Store.abort_with.Goals as goal

pub abort-requires-clause-ticket : goal.abort-requires-clause-ticket
abort-requires-clause-ticket g c =
    c.lend_its.ensures.ticket Somewhere
    (somewhere g.N.StoreNames.shares g.N.StoreNames.schema g.N.StoreNames.start c.ticket.inside.waits c.ticket.inside.ticket c.ticket.invariant.0)

pub put_each-requires : goal.put_each-requires
put_each-requires g c =
    let value = c.as_mut_slice.ensures.value in
    let still = c.abort.ensures.still in
    let fit = subst (FitEach g.N.StoreNames.shares g.N.StoreNames.tables g.N.StoreNames.schema g.N.StoreNames.start c.lend_its.new.guards) (sym value) c.lend_its.ensures.fit in
    subst (FitEach g.N.StoreNames.shares g.N.StoreNames.tables g.N.StoreNames.schema g.N.StoreNames.start c.lend_its.new.guards)
    (sym (with_items_is c.lend_its.new.lent c.abort.new.lent (still.long ∙ c.as_mut_slice.ensures.len)))
    (fit_again g.N.StoreNames.shares g.N.StoreNames.tables g.N.StoreNames.schema g.N.StoreNames.start c.lend_its.new.guards c.as_mut_slice.result.now c.abort.new.lent fit still)

pub returns-clause-appended : goal.returns-clause-appended
returns-clause-appended g c =
    c.abort.ensures.appended
    ∙ ap (λ (number : ℕ). c.args.line.now.list ++ WasAborted number ∷ []) (c.lend_its.ensures.xid ∙ ap (λ (t : OpenTicket). t.number) c.ticket.view_is)
