use Rattle.std.proofs.Common.{◌≡◌, ◌≢◌, ◌∙◌, ◌++◌, ◌∷◌, ℕ, [], List, sym, ap, subst, is_some}
use Rattle.std.specs.Prelude.{IsSome, IsTrue}
use Rattle.std.specs.List.{list_any}
use Rattle.model.specs.declared.item.Item.{Item}
use Rattle.model.specs.declared.item.Item.TheVariants.{Change}
use Rattle.model.specs.declared.change.Change as change_type
use Rattle.model.specs.Survivors.{is_of}
use Rattle.savepoint.specs.Savepoints.{mark_at}
use Rattle.savepoint.specs.Record.{Record, AllAreNamed}
use Rattle.savepoint.specs.RecordInside.{IsMarked}
use Rattle.savepoint.specs.Adopted.{adopted}
use Rattle.savepoint.specs.AdoptedLemmas.{adopted_last}
use Rattle.savepoint.proofs.Marked.{is_noted, marked-marks_of, marks_cut}
use Rattle.savepoint.proofs.Adopting.{last_is, adopted_marked, adopted_named}
use Rattle.savepoint.proofs.record.TxRecord.adopt.Goals as goal

module _ (c : goal.After-push_reserved) where
  -- the last item
  survivors_are : c.self.inside.survivors.items ≡ c.requires.last.front ++ Change c.args.own c.requires.last.change ∷ []
  survivors_are = ap (λ (r : Record). r.survivors) c.self.view_is ∙ c.requires.last.is

  popped : (c.pop.new.self.items ≡ c.requires.last.front) × (c.in-Some-Change.field-0 ≡ Change c.args.own c.requires.last.change)
  popped =
      last_is c.pop.new.self.items c.requires.last.front c.in-Some-Change.field-0 (Change c.args.own c.requires.last.change)
      (sym c.in-Some-Change.ensures.items ∙ survivors_are)

  change_is : c.in-Some-Change.change ≡ c.requires.last.change
  change_is = let same = sym c.in-Some-Change.field-0-is ∙ popped.1 in cc

  pushed : c.push_reserved.new.self.items ≡ c.requires.last.front ++ Change c.args.sub c.requires.last.change ∷ []
  pushed =
      c.push_reserved.ensures.items ∙ ap (λ (is : List Item). is ++ Change c.args.sub c.in-Some-Change.change ∷ []) popped.0
      ∙ ap (λ (d : change_type.Change). c.requires.last.front ++ Change c.args.sub d ∷ []) change_is

  was : IsMarked c.self.inside.top (c.requires.last.front ++ Change c.args.own c.requires.last.change ∷ []) c.self.inside.savepoints c.self.inside.undo.inverses
  was = subst (λ (is : List Item). IsMarked c.self.inside.top is c.self.inside.savepoints c.self.inside.undo.inverses) survivors_are c.self.invariant

  below : c.args.own ≢ c.self.inside.top
  below = subst (λ (r : Record). c.args.own ≢ r.top) (sym c.self.view_is) c.requires.below

  named : (other : ℕ) → IsSome (mark_at other c.self.inside.savepoints)
      → IsTrue (list_any (is_of other) (c.requires.last.front ++ Change c.args.own c.requires.last.change ∷ []))
  named other some =
      subst (λ (is : List Item). IsTrue (list_any (is_of other) is)) survivors_are
      (subst AllAreNamed (sym c.self.view_is) c.requires.named other (marked-marks_of other c.self.inside.savepoints ∙ some))

  noted : c.args.sub ≢ c.self.inside.top → IsSome (mark_at c.args.sub c.self.inside.savepoints)
  noted = is_noted c.self.inside c.args.self.now c.self.view_is c.args.sub c.requires.noted

pub invariant_of-self : goal.invariant_of-self
invariant_of-self c =
    rw (pushed c, c.cut.ensures.rest)
    (adopted_marked c.self.inside.top c.args.own c.args.sub c.requires.last.front c.requires.last.change c.self.inside.savepoints c.self.inside.undo.inverses (was c)
    c.requires.last.alone (below c) c.requires.apart (noted c) (named c))

pub returns-clause-survivors : goal.returns-clause-survivors
returns-clause-survivors c =
    pushed c ∙ sym (ap (adopted c.args.sub) c.requires.last.is ∙ adopted_last c.args.sub c.args.own c.requires.last.front c.requires.last.change)

pub returns-clause-marks : goal.returns-clause-marks
returns-clause-marks c = marks_cut c.self.inside c.args.self.now c.self.view_is c.args.own c.cut.new.self c.cut.ensures.rest

pub returns-clause-named : goal.returns-clause-named
returns-clause-named c = λ other some.
    subst (λ (is : List Item). IsTrue (list_any (is_of other) is)) (sym (pushed c))
    (adopted_named c.self.inside.top c.args.own c.args.sub c.requires.last.front c.requires.last.change c.self.inside.savepoints c.self.inside.undo.inverses (was c)
    c.requires.last.alone (below c) c.requires.apart (noted c) (named c) other
    (ap (λ (ps : _). is_some (mark_at other ps)) (sym c.cut.ensures.rest) ∙ sym (marked-marks_of other c.cut.new.self) ∙ some))
