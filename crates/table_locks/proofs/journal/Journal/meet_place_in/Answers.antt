use Rattle.std.proofs.Common.{◌≡◌, ◌∙◌, sym, ap, subst}
use Rattle.std.proofs.lemmas.Option.{same_Some}
use Rattle.std.specs.Sync.Mutex.{mutex_guard_value}
use Rattle.table_parts.specs.Part.{Part}
use Rattle.table_locks.specs.Lending.{state_of}
use Rattle.table_locks.specs.TableStates.{TableState}
use Rattle.table_locks.specs.Whole.{IsMetIn}
use Rattle.table_locks.proofs.journal.Journal.meet_place_in.Goals as goal

pub returns-clause-met : goal.returns-clause-met
returns-clause-met g c s at =
    let n = g.N.StoreNames in
    let value_is : mutex_guard_value c.in-Some.guard ≡ s =
    same_Some (mutex_guard_value c.in-Some.guard) s (sym (ap state_of (sym c.take.ensures.value ∙ c.in-Some.is)) ∙ at) in
    subst (λ (t : TableState). (p : Part) × IsMetIn n.shares n.tables n.schema n.start c.args.self.now.part.line.list c.args.tickets.now t.number t p)
    (c.deref_mut.ensures.value ∙ value_is) c.meet_in.ensures.met
