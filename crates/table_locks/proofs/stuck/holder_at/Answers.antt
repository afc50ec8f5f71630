use Rattle.std.proofs.Common.{◌≡◌, ◌∙◌, Some, sym, ap}
use Rattle.std.proofs.lemmas.Option.{IfSome_then, same_Some}
use Rattle.std.specs.Sync.Mutex.{mutex_guard_value}
use Rattle.table_locks.specs.Lending.{state_of}
use Rattle.table_locks.specs.TableStates.{TableState}
use Rattle.table_locks.proofs.stuck.holder_at.Goals as goal

pub returns-clause-held : goal.returns-clause-held
returns-clause-held g c =
    IfSome_then c.holder_of-holder.result c.holder_of-holder.ensures.held (λ holder told. (
      mutex_guard_value c.in-Some.guard,
      told.0,
      ap state_of (sym c.take.ensures.value ∙ c.in-Some.is),
      ap (λ (s : TableState). s.part) (sym c.deref_mut.ensures.value) ∙ told.1,
      told.2,
    ))

pub returns-clause-free : goal.returns-clause-free
returns-clause-free g c none s p at part =
    let value_is : mutex_guard_value c.in-Some.guard ≡ s =
    same_Some (mutex_guard_value c.in-Some.guard) s (sym (ap state_of (sym c.take.ensures.value ∙ c.in-Some.is)) ∙ at) in
    c.holder_of-holder.ensures.free none p (ap (λ (t : TableState). t.part) (c.deref_mut.ensures.value ∙ value_is) ∙ part)
