use Rattle.std.proofs.Common.{rules, arith, ◌≡◌, ◌<◌, ◌+◌, ◌∙◌, true, false, length, refl, sym, ap, subst, vec_capacity}
use Rattle.table_locks.specs.Lending.{AreLent}
use Rattle.table_locks.specs.LendingLemmas.{none_lent, lent_without, lent_more}
use Rattle.table_locks.proofs.locks.lend_each.Goals as goal
use Rattle.table_locks.proofs.locks.lend_each.Goals.{then-needs_table, else-needs_table}

pub loop-table-init : goal.loop-table-init
loop-table-init g c = (
  subst (AreLent g.N.StoreNames.shares g.N.StoreNames.tables g.N.StoreNames.schema g.N.StoreNames.start (g.D.Needs.needs c.args.needed.now) 0 c.args.guards.now)
      (sym c.requires.none) (none_lent g.N.StoreNames.shares g.N.StoreNames.tables g.N.StoreNames.schema g.N.StoreNames.start (g.D.Needs.needs c.args.needed.now) c.args.guards.now),
  refl,
  refl,
)

pub loop-table-preserved : goal.loop-table-preserved
loop-table-preserved g c =
    let l = c.loop-table in
    let wanted = g.D.Needs.needs c.args.needed.now in
    elim c.if-needs_table.branch [
      | then-needs_table w ↦
          let wants : wanted l.table ≡ true = sym c.needs_table.ensures ∙ w.if-needs_table.true in
          let items : c.if-needs_table.lent.items ≡ w.lend.new.lent.items = cc in
          let capacity : vec_capacity c.if-needs_table.lent ≡ vec_capacity w.lend.new.lent = cc in
          let few = l.invariant.0.few in
          let long = l.invariant.1 in
          let known : l.table < length g.N.StoreNames.schema = search rules in
          let enough = c.requires.guards in
          let room : length l.lent.items < length l.guards = omega (arith, few, long, known, enough) in
          let new_long : length w.lend.new.guards ≡ length c.args.guards.now = w.lend.ensures.long ∙ l.invariant.1 in
          let more =
          lent_more g.N.StoreNames.shares g.N.StoreNames.tables g.N.StoreNames.schema g.N.StoreNames.start wanted l.table l.guards l.lent.items l.invariant.0 wants room w.lend.new.guards
          w.lend.ensures.long w.lend.ensures.others w.lend.new.lent.items w.lend.ensures.lent in (
            subst (AreLent g.N.StoreNames.shares g.N.StoreNames.tables g.N.StoreNames.schema g.N.StoreNames.start wanted (l.table + 1) c.if-needs_table.guards) (sym items)
                (subst (λ guards. AreLent g.N.StoreNames.shares g.N.StoreNames.tables g.N.StoreNames.schema g.N.StoreNames.start wanted (l.table + 1) guards w.lend.new.lent.items)
                (sym w.guards-is) more),
            ap length w.guards-is ∙ new_long,
            capacity ∙ w.lend.ensures.capacity ∙ l.invariant.2,
          )
      | else-needs_table w ↦
          let unwanted : wanted l.table ≡ false = sym c.needs_table.ensures ∙ w.if-needs_table.false in
          let items : c.if-needs_table.lent.items ≡ l.lent.items = cc in
          let capacity : vec_capacity c.if-needs_table.lent ≡ vec_capacity l.lent = cc in
          let more =
          lent_without g.N.StoreNames.shares g.N.StoreNames.tables g.N.StoreNames.schema g.N.StoreNames.start wanted l.table l.guards l.lent.items l.invariant.0 unwanted in (
            subst (AreLent g.N.StoreNames.shares g.N.StoreNames.tables g.N.StoreNames.schema g.N.StoreNames.start wanted (l.table + 1) c.if-needs_table.guards) (sym items)
                (subst (λ guards. AreLent g.N.StoreNames.shares g.N.StoreNames.tables g.N.StoreNames.schema g.N.StoreNames.start wanted (l.table + 1) guards l.lent.items)
                (sym w.guards-is) more),
            ap length w.guards-is ∙ l.invariant.1,
            capacity ∙ l.invariant.2,
          )
    ]
