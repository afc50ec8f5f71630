-- The savepoints of a record whose last change another subtransaction adopts.
--     last_is      the last element of a list, and what is before it
--     point, items_before, front_named      its own savepoint; how many items are before it; those of the others are named there
--     adopted_marked, adopted_named      the savepoints once its own is dropped
use Rattle.std.proofs.Common.{◌≡◌, ◌≢◌, ℕ, ◌≤◌, ◌==◌, ◌||◌, false, true, List, [], ◌∷◌, ◌++◌, length, take, Some, None, Option, refl, sym, ap, subst, ◌∙◌, arith, inl, inr, is_some}
use Rattle.std.specs.Prelude.{IsSome, IsTrue}
use Rattle.std.specs.List.{list_any}
use Rattle.std.proofs.lemmas.Bool.{eq-eqb, ne_eqb}
use Rattle.std.proofs.lemmas.List.{length-append, length-take-le, take-append-le}
use Rattle.std.proofs.lemmas.List.Folds.{list_any-append}
use Rattle.std.proofs.Math.Seq.{take-length}
use Rattle.change.specs.declared.inverse.Inverse.{Inverse}
use Rattle.model.specs.declared.change.Change as change_type
use Rattle.model.specs.declared.item.Item.{Item}
use Rattle.model.specs.declared.item.Item.TheVariants.{Change}
use Rattle.model.specs.Survivors.{is_of, before_savepoint}
use Rattle.savepoint.specs.declared.record.CutPoint.{CutPoint}
use Rattle.savepoint.specs.Savepoints.{mark_at, before_mark}
use Rattle.savepoint.specs.RecordInside.{IsMarked}
use Rattle.savepoint.proofs.Indexed.{take-take}
use Rattle.savepoint.proofs.Marked.{one_or_behind, before-take, before-last, before-behind, before-none, same_first, marked_more, marked_cut, named_cut, named_more}

not_last : {X : Type 0} (x y : X) (ys : List X) → ¬ ([] ≡ ys ++ y ∷ [])
not_last x y ys e = let long = length-append ys (y ∷ []) in omega (arith, ap length e)

-- the last element of a list, and what is before it
pub last_is : {X : Type 0} (xs ys : List X) (x y : X) → xs ++ x ∷ [] ≡ ys ++ y ∷ [] → (xs ≡ ys) × (x ≡ y)
last_is [] [] x y e = (refl, cc)
last_is {X = X} [] (z ∷ ys) x y e = let rest : [] ≡ ys ++ y ∷ [] = cc in absurd (not_last x y ys rest)
last_is {X = X} (z ∷ xs) [] x y e = let rest : [] ≡ xs ++ x ∷ [] = cc in absurd (not_last x x xs rest)
last_is {X = X} (z ∷ xs) (w ∷ ys) x y e =
    let first : z ≡ w = cc in
    let rest = last_is xs ys x y cc in
    (ap (λ v. v ∷ xs) first ∙ ap (λ (vs : List X). w ∷ vs) rest.0, rest.1)

module _ (top own sub : ℕ) (front : List Item) (c : change_type.Change) (points : List (ℕ × CutPoint)) (inverses : List Inverse)
    (was : IsMarked top (front ++ Change own c ∷ []) points inverses) (alone : list_any (is_of own) front ≡ false) (below : own ≢ top) (apart : own ≢ sub)
    (noted : sub ≢ top → IsSome (mark_at sub points))
    (named : (other : ℕ) → IsSome (mark_at other points) → IsTrue (list_any (is_of other) (front ++ Change own c ∷ []))) where
  abbrev all : List Item
  all = front ++ Change own c ∷ []

  before_own : before_savepoint own all ≡ front
  before_own = before-last own front (Change own c) (eq-eqb own own refl) ∙ before-none own front alone

  -- its own savepoint
  pub point : (p : CutPoint) × (mark_at own points ≡ Some p)
  point = by_mark (mark_at own points) refl
    where
      by_mark : (found : Option CutPoint) → mark_at own points ≡ found → (p : CutPoint) × (mark_at own points ≡ Some p)
      by_mark (Some p) at = (p, at)
      by_mark None none =
          let whole : front ≡ all = sym before_own ∙ was.unmarked own below none in
          absurd (let long = length-append front (Change own c ∷ []) in omega (arith, ap length whole))

  front_is : take point.0.items all ≡ front
  front_is = sym (was.marked own point.0 point.1) ∙ before_own

  pub items_before : point.0.items ≡ length front
  items_before = sym (length-take-le point.0.items all (was.within own point.0 point.1).0) ∙ ap length front_is

  cut : IsMarked top front (before_mark own points) inverses
  cut =
      subst (λ (is : List Item). IsMarked top is (before_mark own points) inverses) front_is
      (marked_cut top all points inverses was own point.0 inverses point.1 (was.within own point.0 point.1).1)

  pub front_named : (other : ℕ) → IsSome (mark_at other (before_mark own points)) → IsTrue (list_any (is_of other) front)
  front_named other some =
      subst (λ (is : List Item). IsTrue (list_any (is_of other) is)) front_is
      (named_cut top all points inverses was own point.0 point.1 (λ one differs there. named one there) other some)

  -- another is named before the last item
  named_before : (other : ℕ) → own ≢ other → list_any (is_of other) all ≡ true → list_any (is_of other) front ≡ true
  named_before other differs any =
      let no : (own == other) ≡ false = ne_eqb own other differs in
      let both : (list_any (is_of other) front || ((own == other) || false)) ≡ true = sym (list_any-append (is_of other) front (Change own c ∷ [])) ∙ any in
      rest (list_any (is_of other) front) (rw no at both)
    where
      rest : (b : _) → (b || (false || false)) ≡ true → b ≡ true
      rest true e = refl
      rest false e = e

  -- who adopts it has its savepoint before
  noted_before : sub ≢ top → IsSome (mark_at sub (before_mark own points))
  noted_before differs = by_mark (mark_at sub points) refl (mark_at sub (before_mark own points)) refl
    where
      by_mark : (there : Option CutPoint) → mark_at sub points ≡ there → (found : Option CutPoint) → mark_at sub (before_mark own points) ≡ found
          → IsSome (mark_at sub (before_mark own points))
      by_mark there at (Some q) found = ap is_some found
      by_mark None none None found = absurd (let some = noted differs in let both : true ≡ false = sym some ∙ ap is_some none in cc)
      by_mark (Some q) at None found =
          elim (one_or_behind own sub points point.0 q point.1 at found) [
            | inl same ↦ absurd (apart same)
            | inr behind ↦
                let lower = (was.rising sub own q point.0 at behind).0 in
                let long : length front ≤ q.items = omega (arith, items_before) in
                let any = named_before sub apart (named sub (ap is_some at)) in
                let whole : before_savepoint sub front ≡ front =
                ap (before_savepoint sub) (sym (take-length front)) ∙ before-take sub (length front) front
                ∙ ap (take (length front)) (sym (before-behind sub front (Change own c ∷ []) any) ∙ was.marked sub q at)
                ∙ take-take (length front) q.items all long
                ∙ take-append-le (length front) front (Change own c ∷ []) (omega arith) ∙ take-length front in
                absurd (apart (sym (same_first sub own front any (whole ∙ sym (before-none own front alone)))))
          ]

  pub adopted_marked : IsMarked top (front ++ Change sub c ∷ []) (before_mark own points) inverses
  adopted_marked =
      marked_more top front (before_mark own points) inverses cut sub (Change sub c) inverses (λ other. refl) noted_before
      (λ other differs some. front_named other some) (omega arith)

  pub adopted_named : (other : ℕ) → IsSome (mark_at other (before_mark own points)) → IsTrue (list_any (is_of other) (front ++ Change sub c ∷ []))
  adopted_named =
      named_more top front (before_mark own points) inverses cut sub (Change sub c) (eq-eqb sub sub refl) (λ other differs some. front_named other some)
