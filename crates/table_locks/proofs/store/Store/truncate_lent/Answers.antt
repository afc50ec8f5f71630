use Rattle.std.proofs.Common.{◌∙◌, List, Err, length, ap, sym, subst}
use Rattle.std.specs.Prelude.{slice_get}
use Rattle.std.proofs.lemmas.List.{with_items_is}
use Rattle.world.specs.Steps.{Stopped}
use Rattle.world_parts.specs.Parts.{wanted_by}
use Rattle.live_tables.specs.declared.answers.EngineFault.{EngineFault}
use Rattle.live_tables.specs.Answers.{told}
use Rattle.engine.specs.Events.{opened_by}
use Rattle.table_parts.specs.Part.{Part}
use Rattle.parted_store.specs.EachPart.{AreApart, IsBeside}
use Rattle.parted_store.specs.Truncating.{CutsHere}
use Rattle.table_locks.specs.Lending.{KeptEach, FitEach}
use Rattle.table_locks.specs.LendingLemmas.{kept_each, lent_apart}
use Rattle.table_locks.specs.Tickets.{IsTicket, waits_acted}
use Rattle.table_locks.specs.Truncating.{wipes_table, AreRunning}
use Rattle.table_locks.specs.TruncatingLemmas.{cuts_lent, waits_lent, fit_running, refused_is}
use Rattle.table_locks.proofs.store.Store.truncate_lent.Goals as goal

pub returns-then-not-runs-clause-is : goal.returns-then-not-runs-clause-is
returns-then-not-runs-clause-is g c waits is =
    subst (λ (fault : EngineFault). IsTicket g.N.StoreNames.shares g.N.StoreNames.schema (waits_acted waits (told (Err fault))) c.refuse.new.self)
    (sym c.refuse.ensures.same)
    (refused_is g.N.StoreNames.shares g.N.StoreNames.schema waits c.args.ticket.now c.refuse.new.self Stopped c.refuse.ensures.ticket is)

pub truncate_parts-answer-requires-clause-kept : goal.truncate_parts-answer-requires-clause-kept
truncate_parts-answer-requires-clause-kept g c =
    subst (KeptEach g.N.StoreNames.shares g.N.StoreNames.schema g.N.StoreNames.start) (sym c.as_mut_slice.ensures.value)
    (kept_each g.N.StoreNames.shares g.N.StoreNames.tables g.N.StoreNames.schema g.N.StoreNames.start c.lend_each.new.guards c.lend_each.new.lent.items
    c.lend_each.ensures.lent.fit)

pub truncate_parts-answer-requires-clause-known : goal.truncate_parts-answer-requires-clause-known
truncate_parts-answer-requires-clause-known g c i p at =
    (c.lend_each.ensures.lent.wanted_each i p (ap (λ (ps : List Part). slice_get ps i) (sym c.as_mut_slice.ensures.value) ∙ at)).1

pub truncate_parts-answer-requires-clause-apart : goal.truncate_parts-answer-requires-clause-apart
truncate_parts-answer-requires-clause-apart g c =
    subst AreApart (sym c.as_mut_slice.ensures.value)
    (lent_apart g.N.StoreNames.shares g.N.StoreNames.tables g.N.StoreNames.schema g.N.StoreNames.start (wipes_table c.args.c.now) (length g.N.StoreNames.schema)
    c.lend_each.new.guards c.lend_each.new.lent.items c.lend_each.ensures.lent)

pub truncate_parts-answer-requires-clause-cuts : goal.truncate_parts-answer-requires-clause-cuts
truncate_parts-answer-requires-clause-cuts g c = (
  c.requires.truncate.0,
  subst (CutsHere c.args.c.now c.requires.truncate.0) (sym c.as_mut_slice.ensures.value)
      (cuts_lent g.N.StoreNames.shares g.N.StoreNames.tables g.N.StoreNames.schema g.N.StoreNames.start c.args.c.now c.requires.truncate.0 c.requires.truncate.1
      c.lend_each.new.guards c.lend_each.new.lent.items c.lend_each.ensures.lent c.requires.names),
)

pub truncate_parts-answer-requires-clause-waits : goal.truncate_parts-answer-requires-clause-waits
truncate_parts-answer-requires-clause-waits g c table beside =
    waits_lent g.N.StoreNames.shares g.N.StoreNames.tables g.N.StoreNames.schema g.N.StoreNames.start c.args.c.now c.requires.truncate.0 c.requires.truncate.1
    c.lend_each.new.guards c.lend_each.new.lent.items c.lend_each.ensures.lent (wanted_by (opened_by c.args.ticket.now.events).wants) c.requires.names
    c.requires.waits table (subst (λ (ps : List Part). IsBeside ps table) c.as_mut_slice.ensures.value beside)

pub put_each-requires-2 : goal.put_each-requires-2
put_each-requires-2 g c =
    let parts : List Part = c.as_mut_slice.result.now in
    let new : List Part = c.truncate_parts-answer.new.lent in
    let value = c.as_mut_slice.ensures.value in
    let still = c.truncate_parts-answer.ensures.still in
    let fit = subst (FitEach g.N.StoreNames.shares g.N.StoreNames.tables g.N.StoreNames.schema g.N.StoreNames.start c.lend_each.new.guards) (sym value)
    c.lend_each.ensures.lent.fit in
    let running = subst (AreRunning c.lend_each.new.guards) (c.len.ensures ∙ sym c.as_mut_slice.ensures.len) (c.runs.ensures c.if-not-runs.false) in
    subst (FitEach g.N.StoreNames.shares g.N.StoreNames.tables g.N.StoreNames.schema g.N.StoreNames.start c.lend_each.new.guards)
    (sym (with_items_is c.lend_each.new.lent new (still.long ∙ c.as_mut_slice.ensures.len)))
    (fit_running g.N.StoreNames.shares g.N.StoreNames.tables g.N.StoreNames.schema g.N.StoreNames.start parts new still c.lend_each.new.guards fit running)

pub returns-clause-fault : goal.returns-clause-fault
returns-clause-fault g c = c.truncate_parts-answer.ensures.fault

pub returns-clause-is : goal.returns-clause-is
returns-clause-is g c = c.truncate_parts-answer.ensures.is

pub returns-clause-events : goal.returns-clause-events
returns-clause-events g c = c.truncate_parts-answer.ensures.events

pub returns-clause-xid : goal.returns-clause-xid
returns-clause-xid g c = c.truncate_parts-answer.ensures.xid
