-- What follows where another subtransaction adopts the last change.
--     adopted_last      of items of which it is the last
--     survive, ends_alone, adopted_survivors      so it is of those that survive
--     adopted_items, adopted_work      the items then; it is the same work
use Rattle.std.proofs.Common.{◌≡◌, ℕ, List, [], ◌∷◌, ◌++◌, refl, sym, ap, ◌∙◌}
use Rattle.model.specs.declared.change.Change as change_type
use Rattle.model.specs.declared.item.Item.{Item}
use Rattle.model.specs.declared.item.Item.TheVariants.{Change}
use Rattle.model.specs.Survivors.{survivors, changes_of}
use Rattle.model.specs.SurvivorLemmas.{survivors_with, changes_of_both}
use Rattle.savepoint.specs.Adopted.{adopted, EndsAlone, CanAdopt}

pub adopted_last : (sub own : ℕ) (items : List Item) (c : change_type.Change) → adopted sub (items ++ Change own c ∷ []) ≡ items ++ Change sub c ∷ []
adopted_last sub own [] c = refl
adopted_last sub own (i ∷ []) c = refl
adopted_last sub own (i ∷ j ∷ items) c = ap (λ (is : List Item). i ∷ is) (adopted_last sub own (j ∷ items) c)

module _ (top own sub : ℕ) (items : List Item) (can : CanAdopt top own sub items) where
  -- the items that survive end with it too
  pub survive : survivors top items ≡ survivors top can.front ++ Change own can.change ∷ []
  survive = ap (survivors top) can.is ∙ survivors_with top can.front (Change own can.change)

  pub ends_alone : EndsAlone own (survivors top items)
  ends_alone = record { front = survivors top can.front; change = can.change; is = survive; alone = can.alone }

  pub adopted_items : adopted sub items ≡ can.front ++ Change sub can.change ∷ []
  adopted_items = ap (adopted sub) can.is ∙ adopted_last sub own can.front can.change

  pub adopted_survivors : survivors top (adopted sub items) ≡ adopted sub (survivors top items)
  adopted_survivors =
      ap (survivors top) adopted_items ∙ survivors_with top can.front (Change sub can.change)
      ∙ sym (ap (adopted sub) survive ∙ adopted_last sub own (survivors top can.front) can.change)

  -- it is the same work
  pub adopted_work : changes_of (survivors top (adopted sub items)) ≡ changes_of (survivors top items)
  adopted_work =
      ap changes_of (ap (survivors top) adopted_items ∙ survivors_with top can.front (Change sub can.change))
      ∙ changes_of_both (survivors top can.front) (Change sub can.change ∷ [])
      ∙ sym (ap changes_of survive ∙ changes_of_both (survivors top can.front) (Change own can.change ∷ []))
