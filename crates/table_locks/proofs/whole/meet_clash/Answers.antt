use Rattle.std.proofs.Common.{◌≡◌, ◌∙◌, ℕ, Some, refl, sym, ap, subst}
use Rattle.std.specs.Prelude.{slice_get}
use Rattle.std.proofs.lemmas.Option.{same_Some}
use Rattle.std.specs.Sync.Mutex.{mutex_guard_value}
use Rattle.model.specs.declared.change.Change.{Change}
use Rattle.model.specs.Effect.{ClashCause}
use Rattle.world.specs.World.{ByClash}
use Rattle.world_parts.specs.ByTable.{IsIn}
use Rattle.live_tables.specs.Answers.{cause_of}
use Rattle.parted_store.specs.Lent.{OpenTicket}
use Rattle.table_locks.specs.Lending.{state_of}
use Rattle.table_locks.specs.TableStates.{TableState}
use Rattle.table_locks.specs.Whole.{WantsIn}
use Rattle.table_locks.proofs.whole.meet_clash.Goals as goal

pub returns-clause-noted : goal.returns-clause-noted
returns-clause-noted g c s at =
    let xid = c.args.xid in
    let value_is : mutex_guard_value c.in-Some.guard ≡ s =
    same_Some (mutex_guard_value c.in-Some.guard) s (sym (ap state_of (sym c.take.ensures.value ∙ c.in-Some.is)) ∙ at) in
    let told =
    subst
    (λ (t : TableState). (d : Change) × (cause : ClashCause) × (cause_of c.args.clash ≡ Some cause) × (t.stopped ≡ Some (ByClash xid d cause))
    × IsIn t.number d)
    (c.deref.ensures ∙ value_is) (c.knows.ensures c.if-not-knows.false) in
    let wants =
    subst (λ (t : TableState). (i : ℕ) (u : OpenTicket) → slice_get c.args.tickets.now i ≡ Some u → u.number ≡ xid → WantsIn t.number u)
    (c.deref_mut.ensures.value ∙ value_is) c.meet_waiting-wants.ensures.wants in
    (told.0, told.1, told.2, told.3, record { inside = told.4; noted = refl; wants = wants })
