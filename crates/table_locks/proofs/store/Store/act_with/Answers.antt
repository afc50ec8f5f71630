use Rattle.std.proofs.Common.{◌≡◌, List, [], ◌++◌, Ok, ap, sym, ◌∙◌, subst, append-nil, refl}
use Rattle.std.specs.Sync.Mutex.{mutex_guard_value}
use Rattle.world_parts.specs.ByTable.{changes_at}
use Rattle.world_parts.specs.Parts.{wanted_by}
use Rattle.engine.specs.declared.events.Event.{Event}
use Rattle.engine.specs.Events.{opened_by, events_of}
use Rattle.table_parts.specs.Part.{Part}
use Rattle.parted_store.specs.Acting.{as_told}
use Rattle.table_locks.specs.StateLemmas.{fits_behind}
use Rattle.table_locks.proofs.store.Store.act_with.Goals as goal

pub try_in-requires-clause-waits : goal.try_in-requires-clause-waits
try_in-requires-clause-waits g c other apart = c.requires.waits other (λ same. apart (same ∙ sym (ap (λ (p : Part). p.number) c.part.ensures.part)))

pub put-requires : goal.put-requires
put-requires g c =
    fits_behind g.N.StoreNames.shares g.N.StoreNames.tables g.N.StoreNames.schema g.N.StoreNames.start (mutex_guard_value c.args.guard.now) c.args.part
    c.requires.fits c.requires.lent.1 c.part.result.now c.try_in.new.part c.part.ensures.part c.try_in.ensures.fits c.try_in.ensures.sound
    c.deref_mut.result.now c.deref_mut.ensures.value

pub clash_in_one-requires-clause-fits : goal.clash_in_one-requires-clause-fits
clash_in_one-requires-clause-fits g c =
    fits_behind g.N.StoreNames.shares g.N.StoreNames.tables g.N.StoreNames.schema g.N.StoreNames.start (mutex_guard_value c.args.guard.now) c.args.part
    c.requires.fits c.requires.lent.1 c.part.result.now c.try_in.new.part c.part.ensures.part c.try_in.ensures.fits c.try_in.ensures.sound
    (mutex_guard_value c.args.guard.now) refl

pub clash_in_one-requires-clause-waits : goal.clash_in_one-requires-clause-waits
clash_in_one-requires-clause-waits g c other apart =
    subst (λ (events : List Event). changes_at other (wanted_by (opened_by events).wants) ≡ [])
    (sym (c.try_in.ensures.events ∙ ap (λ answer. c.args.ticket.now.events ++ events_of c.args.sub c.args.c.now (as_told answer)) (c.in-Ok-Clashes.is ∙ ap Ok c.in-Ok-Clashes.field-0-is)
    ∙ append-nil c.args.ticket.now.events))
    (c.requires.waits other (λ same. apart (same ∙ sym (ap (λ (p : Part). p.number) c.part.ensures.part) ∙ sym c.try_in.ensures.fits.number)))

pub put-requires-in-Err : goal.put-requires-in-Err
put-requires-in-Err g c =
    fits_behind g.N.StoreNames.shares g.N.StoreNames.tables g.N.StoreNames.schema g.N.StoreNames.start (mutex_guard_value c.args.guard.now) c.args.part
    c.requires.fits c.requires.lent.1 c.part.result.now c.try_in.new.part c.part.ensures.part c.try_in.ensures.fits c.try_in.ensures.sound
    c.deref_mut-in-Err.result.now c.deref_mut-in-Err.ensures.value
