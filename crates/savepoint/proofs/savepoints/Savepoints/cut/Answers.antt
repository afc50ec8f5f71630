use Rattle.std.proofs.Common.{◌≡◌, sym, ap, ◌∙◌, arith, ◌+◌, length, take, vec_len}
use Rattle.std.proofs.lemmas.Option.{slice_get_read}
use Rattle.std.proofs.Math.Seq.{take-length}
use Rattle.savepoint.proofs.Indexed.{mark_at-get, mark_at-none, before_mark-get, before_mark-none, index_within, HasIndexes-pop, beginning-pop}
use Rattle.savepoint.proofs.savepoints.Savepoints.cut.Goals as goal

pub returns-in_err-index-clause-mark : goal.returns-in_err-index-clause-mark
returns-in_err-index-clause-mark g c =
    let e = mark_at-none c.self.inside.indexes c.self.inside.marks.items c.args.sub c.self.invariant (sym c.in_err-index.ensures.value) in
    cc

pub returns-in_err-index-clause-rest : goal.returns-in_err-index-clause-rest
returns-in_err-index-clause-rest g c =
    let e = before_mark-none c.self.inside.indexes c.self.inside.marks.items c.args.sub c.self.invariant (sym c.in_err-index.ensures.value) in
    cc

pub index-requires : goal.index-requires
index-requires g c =
    let within = index_within c.self.inside.indexes c.self.inside.marks.items c.args.sub c.in_ok-index.field-0.now c.self.invariant (sym c.in_ok-index.ensures.value) in
    omega (arith, c.self.inside.marks.ok.0)

pub loop-self-init : goal.loop-self-init
loop-self-init g c =
    let within = index_within c.self.inside.indexes c.self.inside.marks.items c.args.sub c.in_ok-index.field-0.now c.self.invariant (sym c.in_ok-index.ensures.value) in
    (omega (arith, c.self.inside.marks.ok.0), rw (c.self.inside.marks.ok.0, take-length), c.self.invariant)

pub loop-self-preserved-in-Some : goal.loop-self-preserved-in-Some
loop-self-preserved-in-Some g c =
    let popped = c.in-Some.ensures.items in
    let count : vec_len c.loop-self.self-inside.marks ≡ length c.pop.new.self.items + 1 = omega (arith, c.in-Some.ensures.len, c.pop.new.self.ok.0) in
    let kept = sym c.loop-self.invariant.1 ∙ popped in
    let front = beginning-pop c.self.inside.marks.items c.pop.new.self.items _ _ kept count in
    let indexes = rw popped at c.loop-self.invariant.2 in (
      omega (arith, c.in-Some.ensures.len, c.loop-self-test.true, c.len.ensures),
      rw c.pop.new.self.ok.0 front,
      HasIndexes-pop c.loop-self.self-inside.indexes c.remove.new.self c.pop.new.self.items c.in-Some.dropped _ indexes c.remove.ensures.updates,
    )

pub returns-clause-mark : goal.returns-clause-mark
returns-clause-mark g c =
    let within = index_within c.self.inside.indexes c.self.inside.marks.items c.args.sub c.in_ok-index.field-0.now c.self.invariant (sym c.in_ok-index.ensures.value) in
    let at = slice_get_read c.self.inside.marks.items _ c.in_ok-index.field-0.now c.index.result.now c.self.inside.marks.ok.0 (omega (arith, c.self.inside.marks.ok.0)) c.index.ensures in
    let e = mark_at-get c.self.inside.indexes c.self.inside.marks.items c.args.sub c.in_ok-index.field-0.now c.index.result.now c.self.invariant (sym c.in_ok-index.ensures.value) at in
    cc

pub returns-clause-rest : goal.returns-clause-rest
returns-clause-rest g c =
    let e = before_mark-get c.self.inside.indexes c.self.inside.marks.items c.args.sub c.in_ok-index.field-0.now c.self.invariant (sym c.in_ok-index.ensures.value) in
    let kept = c.loop-self.invariant.1 in
    let stopped : vec_len c.loop-self.self-inside.marks ≡ c.in_ok-index.field-0.now = omega (arith, c.loop-self.invariant.0, c.loop-self-test.false, c.len.ensures) in
    let cut : c.loop-self.self-inside.marks.items ≡ take c.in_ok-index.field-0.now c.self.inside.marks.items = kept ∙ ap (λ n. take n c.self.inside.marks.items) stopped in
    rw (← c.self.view_is) (cut ∙ sym e)
