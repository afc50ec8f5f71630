use Rattle.std.proofs.Common.{◌≡◌, sym, ◌∙◌, Option, Some, None, refl, Result, Ok, Err, false}
use Rattle.std.specs.Prelude.{OnOk, is_err, is_some}
use Rattle.savepoint.proofs.Indexed.{is_some-mark_at, HasIndexes-push, with_mark-marked, with_mark-unmarked}
use Rattle.savepoint.proofs.savepoints.Savepoints.note.Goals as goal

pub returns-then-contains_key-clause-ok : goal.returns-then-contains_key-clause-ok
returns-then-contains_key-clause-ok g c =
    let marked = sym (is_some-mark_at c.self.inside.indexes c.self.inside.marks.items c.args.sub c.self.invariant) ∙ sym c.contains_key.ensures ∙ c.if-contains_key.true in
    let e = with_mark-marked c.args.sub c.args.mark c.self.inside.marks.items marked in
    rw (← c.self.view_is) (sym e)

-- a clause on `Ok`, where the call was no error
at_ok : {T E : Type 0} (r : Result T E) (P : Type 0) → is_err r ≡ false → OnOk r P → P
at_ok (Ok x) P e h = h
at_ok (Err x) P e h = absurd cc

none_from : {A : Type 0} (o : Option A) → is_some o ≡ false → o ≡ None
none_from None e = refl
none_from (Some x) e = cc

pub invariant_of-self-else-is_err : goal.invariant_of-self-else-is_err
invariant_of-self-else-is_err g c =
    let absent = none_from _ (sym c.contains_key.ensures ∙ c.if-contains_key.false) in
    let done = sym c.is_err.ensures.value ∙ c.if-is_err.false in
    let step = at_ok c.insert.result _ done c.insert.ensures.updates in
    rw c.in_ok-push.ensures.items
    (HasIndexes-push c.self.inside.indexes c.insert.new.self c.self.inside.marks.items c.args.sub c.args.mark c.self.invariant absent (rw (← c.self.inside.marks.ok.0, ← c.len-index.ensures) step))

pub returns-clause-ok : goal.returns-clause-ok
returns-clause-ok g c =
    let unmarked = sym (is_some-mark_at c.self.inside.indexes c.self.inside.marks.items c.args.sub c.self.invariant) ∙ sym c.contains_key.ensures ∙ c.if-contains_key.false in
    let e = with_mark-unmarked c.args.sub c.args.mark c.self.inside.marks.items unmarked in
    rw (← c.self.view_is) (c.in_ok-push.ensures.items ∙ sym e)
