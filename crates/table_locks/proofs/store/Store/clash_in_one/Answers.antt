use Rattle.std.proofs.Common.{◌≡◌, ◌⊎◌, ap, sym, ◌∙◌, subst, inl, inr}
use Rattle.std.specs.Sync.Mutex.{mutex_guard_value}
use Rattle.change.specs.declared.outcome.Clash.{Clash}
use Rattle.live_tables.specs.declared.answers.EngineFault.{EngineFault}
use Rattle.live_tables.specs.declared.answers.EngineFault.TheVariants.{Clash as ClashFault, OutOfMemory as NoMemory}
use Rattle.live_tables.specs.Answers.{cause_of, stop_for}
use Rattle.table_parts.specs.Part.{Part}
use Rattle.parted_store.specs.KeepsSound.{ClashesHere, StopsSound}
use Rattle.table_locks.specs.ActingLemmas.{was_clash}
use Rattle.table_locks.specs.Clashing.{WasClash}
use Rattle.table_locks.specs.StateLemmas.{fits_stopped}
use Rattle.table_locks.specs.TableStates.{StaysFit}
use Rattle.table_locks.proofs.store.Store.clash_in_one.Goals as goal

pub clash-fault-requires-clause-clashes : goal.clash-fault-requires-clause-clashes
clash-fault-requires-clause-clashes g c =
    subst (λ (p : Part). ClashesHere p c.args.ticket.now.shares c.args.c.now c.args.clash) (sym c.part.ensures.part) c.requires.clashes

pub clash-fault-requires-clause-waits : goal.clash-fault-requires-clause-waits
clash-fault-requires-clause-waits g c other apart =
    c.requires.waits other (λ same. apart (same ∙ sym (ap (λ (p : Part). p.number) c.part.ensures.part)))

-- what the call answers is its clash
is_clash : (fault : EngineFault) (clash other : Clash) → fault ≡ ClashFault other → (fault ≡ ClashFault clash) ⊎ (fault ≡ NoMemory) → fault ≡ ClashFault clash
is_clash fault clash other was (inl it) = it
is_clash fault clash other was (inr it) = let no : ClashFault other ≡ NoMemory = sym was ∙ it in cc

pub put-requires-in-Clash : goal.put-requires-in-Clash
put-requires-in-Clash g c =
    fits_stopped g.N.StoreNames.shares g.N.StoreNames.tables g.N.StoreNames.schema g.N.StoreNames.start (mutex_guard_value c.args.guard.now) c.args.part
    c.requires.fits c.clash-fault.new.part
    (subst (λ (p : Part). StaysFit g.N.StoreNames.shares g.N.StoreNames.tables g.N.StoreNames.schema g.N.StoreNames.start p c.clash-fault.new.part)
    c.part.ensures.part c.clash-fault.ensures.fits)
    c.deref_mut-in-Clash-2.result.now (stop_for c.args.ticket.now.number c.args.c.now (cause_of c.args.clash))
    (c.deref_mut-in-Clash-2.ensures.value ∙ c.stop.ensures ∙ stopped_now) c.requires.lent.1
    (subst (λ (p : Part). StopsSound c.args.ticket.now.number c.args.c.now c.args.clash p c.clash-fault.new.part) c.part.ensures.part
    (c.clash-fault.ensures.sound (is_clash c.clash-fault.result c.args.clash c.in-Clash.field-0 c.in-Clash.is c.clash-fault.ensures.fault)))
  where
    stopped_now : record c.deref_mut-in-Clash.result.now { stopped = stop_for c.xid-xid.result c.in-Ok.noted (cause_of c.args.clash) }
        ≡ record (mutex_guard_value c.args.guard.now) { stopped = stop_for c.args.ticket.now.number c.args.c.now (cause_of c.args.clash) }
    stopped_now =
        let value = c.deref_mut-in-Clash.ensures.value in
        let same = c.in-Ok.ensures in
        let number = c.xid-xid.ensures in cc

pub returns-in-Clash-clause-clashes : goal.returns-in-Clash-clause-clashes
returns-in-Clash-clause-clashes g c why is =
    let n = g.N.StoreNames in
    let clash = c.args.clash in
    let same : clash ≡ why =
    (let e : ClashFault clash ≡ ClashFault why = sym (is_clash c.clash-fault.result clash why is c.clash-fault.ensures.fault) ∙ is in cc) in
    subst (λ (it : Clash). WasClash n.schema n.start c.clash-fault.new.ticket.number c.args.c.now it) same
    (subst (λ number. WasClash n.schema n.start number c.args.c.now clash) (sym c.clash-fault.ensures.xid)
    (was_clash n.shares n.schema n.start c.args.part c.requires.fits.kept c.args.ticket.now c.recall_invariant.ensures.is c.requires.came.0 c.requires.came.1
    c.args.c.now clash c.requires.its c.requires.clashes))
