use Rattle.std.proofs.Common.{sym, arith}
use Rattle.std.proofs.lemmas.Option.{slice_get_read}
use Rattle.savepoint.proofs.Indexed.{mark_at-get, mark_at-none, index_within}
use Rattle.savepoint.proofs.savepoints.Savepoints.mark_of.Goals as goal

pub returns-in_err-index : goal.returns-in_err-index
returns-in_err-index g c =
    let e = mark_at-none c.self.inside.indexes c.self.inside.marks.items c.args.sub c.self.invariant (sym c.in_err-index.ensures.value) in
    cc

pub index-requires : goal.index-requires
index-requires g c =
    let within = index_within c.self.inside.indexes c.self.inside.marks.items c.args.sub c.in_ok-index.field-0.now c.self.invariant (sym c.in_ok-index.ensures.value) in
    omega (arith, c.self.inside.marks.ok.0)

pub returns : goal.returns
returns g c =
    let within = index_within c.self.inside.indexes c.self.inside.marks.items c.args.sub c.in_ok-index.field-0.now c.self.invariant (sym c.in_ok-index.ensures.value) in
    let at = slice_get_read c.self.inside.marks.items _ c.in_ok-index.field-0.now c.index.result.now c.self.inside.marks.ok.0 (omega (arith, c.self.inside.marks.ok.0)) c.index.ensures in
    let e = mark_at-get c.self.inside.indexes c.self.inside.marks.items c.args.sub c.in_ok-index.field-0.now c.index.result.now c.self.invariant (sym c.in_ok-index.ensures.value) at in
    cc
