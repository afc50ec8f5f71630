use Rattle.std.proofs.Common.{rules, ◌≡◌, ◌<◌, ◌≤◌, ◌∙◌, IsSome, arith, length, refl, sym, ap, subst}
use Rattle.std.proofs.lemmas.List.{length-set}
use Rattle.parted_store.specs.Journal.{JournalPart}
use Rattle.table_locks.specs.GuardLemmas.{state_there, there_put}
use Rattle.table_locks.specs.Journals.{IsJournal}
use Rattle.table_locks.specs.Lending.{state_at}
use Rattle.table_locks.specs.LendingLemmas.{holds_there}
use Rattle.table_locks.proofs.store.Store.stop_with.Goals as goal

pub loop-table-init : goal.loop-table-init
loop-table-init g c =
    let before = c.requires in
    let long = c.lock_all.ensures.long in (
      λ table below.
          let (s, at, number) = holds_there (state_at c.lock_all.new.guards table) (λ s. s.number ≡ table) (c.lock_all.ensures.locked table below) in
          subst IsSome (sym at) refl,
      omega (arith, before, long),
    )

pub stop_table-requires : goal.stop_table-requires
stop_table-requires g c =
    let l = c.loop-table in
    let room : l.table < length l.guards = search rules in
    let below : l.table < length g.N.StoreNames.schema = search rules in
    subst IsSome (sym (state_there l.guards l.table c.index-guards-table.result room)) (l.invariant.0 l.table below)

pub loop-table-preserved : goal.loop-table-preserved
loop-table-preserved g c =
    let l = c.loop-table in
    let more = l.invariant.1 in
    let long = length-set l.guards l.table c.stop_table.new.place in
    let room : l.table < length l.guards = search rules in
    (there_put l.guards (length g.N.StoreNames.schema) l.table c.stop_table.new.place l.invariant.0 room c.stop_table.ensures, omega (arith, more, long))

-- what stopped it is not asked
pub invariant_of-behind-journal : goal.invariant_of-behind-journal
invariant_of-behind-journal g c =
    let n = g.N.StoreNames in
    let is = c.behind-journal.invariant in
    subst (λ (part : JournalPart). IsJournal n.line n.tables n.schema (record { part = part; tables = c.behind-journal.inside.tables }))
    (sym c.stop_by_hold.ensures) (record { line = is.line; name = is.name; lists = is.lists; beyond = is.beyond })
