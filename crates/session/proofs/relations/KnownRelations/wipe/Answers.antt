use Rattle.std.proofs.Common.{◌≡◌, ◌<◌, arith, length, refl}
use Rattle.std.specs.Prelude.{Ok}
use Rattle.session.specs.Table.{tables_of}
use Rattle.session.proofs.Mappings.{HasTables-start, HasTables-next, IsPlanned-refused, no_table, all_tables}
use Rattle.session.proofs.relations.KnownRelations.wipe.Goals as goal

pub loop-oid-init : goal.loop-oid-init
loop-oid-init c = λ g h same known. rw c.new-tables.ensures.items (HasTables-start g h c.args.self.now c.args.oids.now known)

pub returns-in_err-table : goal.returns-in_err-table
returns-in_err-table c = λ g h same known.
    let has = c.loop-oid.invariant g h same known in
    let why = c.in_err-table.ensures g h.relations same has.known in
    let within : c.loop-oid.oid-index < length c.args.oids.now = omega arith in
    IsPlanned-refused g c.table.new.self h.relations _ c.from_residual.result c.in_err-table.field-0.0
    (λ other. no_table g h c.loop-oid.self c.args.oids.now c.loop-oid.oid-index c.loop-oid.tables.items c.in_err-table.field-0.0 has within (why.0 other)) why.1 c.from_residual.ensures.1

pub returns-in_err-push : goal.returns-in_err-push
returns-in_err-push c = λ g h same known.
    let has = c.loop-oid.invariant g h same known in
    let found = c.in_ok-table.ensures g h.relations same has.known in
    IsPlanned-refused g c.table.new.self h.relations _ c.from_residual-in_err-push.result _ (λ other. absurd (other refl)) found.3 c.from_residual-in_err-push.ensures.1

pub loop-oid-preserved : goal.loop-oid-preserved
loop-oid-preserved c = λ g h same known.
    let has = c.loop-oid.invariant g h same known in
    let found = c.in_ok-table.ensures g h.relations same has.known in
    let within : c.loop-oid.oid-index < length c.args.oids.now = omega arith in
    rw (c.in_ok-push.ensures.items, found.1) (HasTables-next g h c.loop-oid.self c.table.new.self c.args.oids.now c.loop-oid.oid-index c.loop-oid.tables.items found.0 has within found.2 found.3)

pub returns : goal.returns
returns c = λ g h same known.
    let has = c.loop-oid.invariant g h same known in
    let all : tables_of g.catalog h.relations c.args.oids.now ≡ Ok c.loop-oid.tables.items = all_tables g h c.loop-oid.self c.args.oids.now c.loop-oid.oid-index c.loop-oid.tables.items has (omega arith) in
    (rw (all, c.from_ids.ensures) refl, rw c.from_ids.ensures has.named, has.known)
