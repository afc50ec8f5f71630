use Rattle.std.proofs.Common.{ap, sym, ◌∙◌}
use Rattle.table_locks.specs.TableStates.{TableState}
use Rattle.table_locks.proofs.store.Store.act_in_table.Goals as goal

pub act_with-requires-clause-waits : goal.act_with-requires-clause-waits
act_with-requires-clause-waits g c other apart =
    c.requires.waits other (λ same.
    apart (same ∙ sym (c.take-part.ensures.fits.number ∙ ap (λ (s : TableState). s.number) c.deref_mut.ensures.value ∙ c.lock_for_change-guard.ensures)))
