use Rattle.std.proofs.Common.{◌≡◌, ◌+◌, ◌-◌, Some, ap, sym, subst, ◌∙◌, arith}
use Rattle.std.specs.Prelude.{slice_get}
use Rattle.std.specs.List.{Contains}
use Rattle.engine.specs.declared.entry.Entry as entry_type
use Rattle.table_locks.specs.Reading.{positions_of}
use Rattle.table_locks.proofs.Positions.{ends_from, found_next, in_none}
use Rattle.table_locks.proofs.entries.count_up_to.Goals as goal

pub returns-then-entries-left : goal.returns-then-entries-left
returns-then-entries-left c =
    let l = c.loop-left in
    let one : l.left ≡ l.left - 1 + 1 = omega (arith, c.loop-left-test.true) in
    ap (slice_get (positions_of c.args.entries.now)) one
    ∙ found_next c.index-entries-left.result c.args.entries.now (l.left - 1) (omega (arith, c.loop-left-test.true, l.invariant.within)) c.index-entries-left.is
    ∙ ap Some (ap (λ (e : entry_type.Entry). e.end) c.index-entries-left.is ∙ c.if-entries-left.true)

pub returns : goal.returns
returns c =
    let none : c.loop-left.left ≡ 0 = omega (arith, c.loop-left-test.false) in
    in_none c.args.entries.now c.args.position (λ same. omega (arith, same, c.if-position-eq0.false))
    (λ has. c.loop-left.invariant.behind (subst (λ n. Contains (ends_from n c.args.entries.now) c.args.position) (sym none) has))
