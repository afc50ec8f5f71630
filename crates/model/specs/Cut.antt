-- What a rollback drops.
--     IsCut      a list of items is cut before its first item that names the subtransaction
use Rattle.std.specs.Prelude.{◌≡◌, ℕ, true, false, List, [], ◌∷◌, ◌++◌}
use Rattle.std.specs.List.{list_any}
use Rattle.model.specs.declared.item.Item.{Item}
use Rattle.model.specs.Survivors.{is_of}

-- it is empty, or its first item names the subtransaction
abbrev pub StartsAt : ℕ → List Item → Type 0
StartsAt sub [] = Unit {0}
StartsAt sub (item ∷ items) = is_of sub item ≡ true

-- Items are cut before the first that names the subtransaction: none that is kept names it, and the rest starts there.
pub record IsCut (sub : ℕ) (items kept rest : List Item) : Type 0 where
  pub both : items ≡ kept ++ rest
  pub unnamed : list_any (is_of sub) kept ≡ false
  pub starts : StartsAt sub rest
