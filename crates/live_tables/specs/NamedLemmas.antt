-- The tables that the changes of items name.
--     front      of a list and of a beginning of it
--     changes_at      the changes of one among others
use Rattle.std.proofs.Common.{List, [], ◌∷◌, ◌++◌, subst}
use Rattle.std.specs.Prelude.{All}
use Rattle.std.proofs.lemmas.List.Elements.{All-nil, All-cons, All-head, All-tail}
use Rattle.model.specs.declared.change.Change as change_type
use Rattle.model.specs.declared.item.Item.{Item}
use Rattle.model.specs.Survivors.{changes_of}
use Rattle.model.specs.SurvivorLemmas.{changes_of_both}

module _ {X : Type 0} (P : X → Type 0) where
  front : (xs ys : List X) → All P (xs ++ ys) → All P xs
  front [] ys all = All-nil P
  front (x ∷ xs) ys all = All-cons P x xs (All-head P x (xs ++ ys) all) (front xs ys (All-tail P x (xs ++ ys) all))

  back : (xs ys : List X) → All P (xs ++ ys) → All P ys
  back [] ys all = all
  back (x ∷ xs) ys all = back xs ys (All-tail P x (xs ++ ys) all)

module _ (P : change_type.Change → Type 0) where
  -- one item among others
  pub changes_at : (before more : List Item) (item : Item) → All P (changes_of (before ++ item ∷ more)) → All P (changes_of (item ∷ []))
  changes_at before more item all =
      front P (changes_of (item ∷ [])) (changes_of more)
      (subst (All P) (changes_of_both (item ∷ []) more) (back P (changes_of before) (changes_of (item ∷ more)) (subst (All P) (changes_of_both before (item ∷ more)) all)))
