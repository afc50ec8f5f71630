use Rattle.std.proofs.Common.{OnOk, Ok, Err, Some, None, sym, subst}
use Rattle.std.specs.FinMap.{insert}
use Rattle.model.specs.Effect.{one_edit}
use Rattle.change.specs.declared.inverse.MovedKeys.{MovedKeys}
use Rattle.std.specs.Prelude.{Result}
use Rattle.change.specs.declared.inverse.Inverse.{Inverse}
use Rattle.change.specs.Inverse.{edits_of}
use Rattle.change.specs.Laid.{IsLaidUnder}
use Rattle.change.specs.LaidLemmas.{under_as, under_both}
use Rattle.change.proofs.LayingUnder.{replaced}
use Rattle.change.proofs.inverse.Inverse.lay_under.Goals as goal

-- what follows of what a call ensures where it succeeds holds where it does
on_ok : {T E : Type 0} (result : Result T E) (P Q : Type 0) → OnOk result P → (P → Q) → OnOk result Q
on_ok (Ok x) P Q p f = f p
on_ok (Err e) P Q p f = tt

pub returns-in_ok-lay_one-in-Move : goal.returns-in_ok-lay_one-in-Move
returns-in_ok-lay_one-in-Move c =
    on_ok c.lay_one-in-Move-2.result _ _ c.lay_one-in-Move-2.ensures (λ second.
    subst (λ (i : Inverse). IsLaidUnder c.args.known.now c.args.table (edits_of i) c.lay_one-in-Move-2.new.known) (sym c.in-Move.is)
    (subst (λ (k : MovedKeys). IsLaidUnder c.args.known.now c.args.table (insert (one_edit (c.in-Move.other, c.in-Move.keys.value.new_key) None) (c.in-Move.other, k.key) (Some c.in-Move.row)) c.lay_one-in-Move-2.new.known)
    c.deref.ensures
    (subst (λ (k : MovedKeys). IsLaidUnder c.args.known.now c.args.table (insert (one_edit (c.in-Move.other, k.new_key) None) (c.in-Move.other, c.deref.result.now.key) (Some c.in-Move.row)) c.lay_one-in-Move-2.new.known)
    c.deref-in-Move.ensures
    (under_as c.args.known.now c.lay_one-in-Move-2.new.known c.args.table _ _
    (replaced c.args.table c.deref.result.now.key c.deref-in-Move.result.now.new_key c.in-Move.row c.in-Move.other)
    (under_both c.args.known.now c.lay_one-in-Move.new.known c.lay_one-in-Move-2.new.known c.args.table _ _ c.in_ok-lay_one-in-Move.ensures second)))))
