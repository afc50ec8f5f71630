use Rattle.std.proofs.Common.{rules, ◌≡◌, ◌<◌, ◌∙◌, Some, length, sym, ap}
use Rattle.std.specs.Prelude.{slice_set}
use Rattle.std.specs.Sync.Mutex.{mutex_guard_with_value}
use Rattle.table_locks.specs.Lending.{state_at}
use Rattle.table_locks.specs.LendingLemmas.{state_here, fits_lent}
use Rattle.table_locks.specs.TableStates.{TableState}
use Rattle.table_locks.proofs.locks.lend.Goals as goal

pub returns-clause-lent : goal.returns-clause-lent
returns-clause-lent g c =
    let taken = c.deref_mut.result.now in
    let now = c.take.new.self in
    let place : c.len-place.result ≡ length c.args.lent.now.items = search rules in
    let room : c.len-place.result < length c.args.guards.now = search rules in
    let guard = Some (mutex_guard_with_value c.lock_table-guard.result now) in
    let fits = c.take.ensures.fits in (
      c.take.result,
      now,
      c.push_reserved.ensures.items,
      ap (state_at (slice_set c.args.guards.now c.len-place.result guard)) (sym place) ∙ state_here c.args.guards.now c.len-place.result guard room,
      ap (λ (s : TableState). s.part) c.take.ensures.lent,
      fits_lent g.N.StoreNames.shares g.N.StoreNames.tables g.N.StoreNames.schema g.N.StoreNames.start taken now c.take.result c.take.ensures.lent fits,
      fits.number ∙ ap (λ (s : TableState). s.number) c.deref_mut.ensures.value ∙ c.lock_table-guard.ensures,
    )
