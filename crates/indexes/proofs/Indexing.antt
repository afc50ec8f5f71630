-- An index after a change of the rows that it is of.
use Rattle.std.specs.Prelude.{◌≡◌, ◌≢◌, ℕ, false, List, Option, Some, None, ◌⊎◌}
use Rattle.std.specs.Ordering.{eq_by_cmp}
use Rattle.std.proofs.Common.{sym, ◌∙◌, ap, subst, inl, inr}
use Rattle.std.specs.FinMap.{get, insert, remove}
use Rattle.model.specs.declared.key.Key.{Key}
use Rattle.model.specs.declared.row.Row.{Row}
use Rattle.model.specs.Key.{key_cmp}
use Rattle.model.specs.Rows.{values_in}
use Rattle.rows.specs.Kept.{Kept, KeepsSlots, IsNumbered, IsSlotted}
use Rattle.rows.specs.KeyLemmas.{one_or_apart, same_key, get_inserted, get_beside_insert, get_removed, get_beside_remove}
use Rattle.indexes.specs.Unique.{Entries, entry_at, held, number_in, with_number, SetsEntry, PutsEntry}
use Rattle.indexes.specs.Indexed.{IsIndex}

-- a row has these values, or has not
pub has_or_not : (o : Option Key) (values : Key) → (o ≡ Some values) ⊎ (o ≢ Some values)
has_or_not None values = inr (λ e. cc)
has_or_not (Some found) values = elim (one_or_apart found values) [
  | inl same ↦ inl (ap Some same)
  | inr apart ↦ inr (λ e. let same : found ≡ values = cc in
      let itself : eq_by_cmp key_cmp found found ≡ false = subst (λ (k : Key). eq_by_cmp key_cmp found k ≡ false) (sym same) apart.there in
      let alike = same_key found in
      cc)
]

-- no row changed, no slot went, and no number in an entry changed
pub index_kept : (columns : List ℕ) (old new : Kept) (before after : Entries) → IsIndex columns old before → IsSlotted old
    → new.rows ≡ old.rows → KeepsSlots old.slots new.slots → ((values : Key) → held after values ≡ held before values) → IsIndex columns new after
index_kept columns old new before after was slotted rows slots numbers = record {
  holds = λ key row values number at slot has.
      let before_at = ap (λ m. get m key) (sym rows) ∙ at in
      let place = slotted key row before_at in
      let kept = slots key place.0 place.1 in
      let same : place.0 ≡ number = cc in
      numbers values ∙ was.holds key row values number before_at (place.1 ∙ ap Some same) has;
  only = λ values number e.
      let h = was.only values number (sym (numbers values) ∙ e) in
      record { key = h.key; row = h.row; slot = slots h.key number h.slot; at = ap (λ m. get m h.key) rows ∙ h.at; has = h.has };
}

module _ (columns : List ℕ) (kept : Kept) (before after : Entries) (was : IsIndex columns kept before) (key : Key) (row : Row) where
  -- a row came into its slot, with values that no row has
  pub index_filled : (number : ℕ) → get kept.slots key ≡ Some number → get kept.rows key ≡ None
      → ((values : Key) → values_in columns row ≡ Some values → held before values ≡ None)
      → PutsEntry columns row number before after
      → IsIndex columns (record { rows = insert kept.rows key row; slots = kept.slots }) after
  index_filled number slot absent free puts =
      record {
        holds = λ other there values n at at_slot has. elim (one_or_apart key other) [
          | inl same ↦
              let row_is : row ≡ there = let now : get (insert kept.rows key row) other ≡ Some row = subst (λ (k : Key). get (insert kept.rows key row) k ≡ Some row) same (get_inserted kept.rows key row) in cc in
              let number_is : number ≡ n = let mine : get kept.slots other ≡ Some number = ap (get kept.slots) (sym same) ∙ slot in cc in
              puts.here values (ap (values_in columns) row_is ∙ has) ∙ ap Some number_is
          | inr apart ↦
              let old_at = sym (get_beside_insert kept.rows key row other apart) ∙ at in
              let old = was.holds other there values n old_at at_slot has in
              puts.beside values (λ mine. let gone = free values mine in cc) ∙ old
        ];
        only = λ values n e. elim (has_or_not (values_in columns row) values) [
          | inl has ↦
              let mine = puts.here values has in
              let number_is : number ≡ n = cc in
              record { key = key; row = row; slot = slot ∙ ap Some number_is; at = get_inserted kept.rows key row; has = has }
          | inr has_not ↦
              let h = was.only values n (sym (puts.beside values has_not) ∙ e) in
              elim (one_or_apart key h.key) [
                | inl same ↦ absurd (let gone : get kept.rows h.key ≡ None = ap (get kept.rows) (sym same) ∙ absent in let at = h.at in cc)
                | inr apart ↦ record { key = h.key; row = h.row; slot = h.slot; at = get_beside_insert kept.rows key row h.key apart ∙ h.at; has = h.has }
              ]
        ];
      }

  -- a row came in place of one with the same values
  pub index_swapped : (stood : Row) → get kept.rows key ≡ Some stood → values_in columns row ≡ values_in columns stood
      → IsIndex columns (record { rows = insert kept.rows key row; slots = kept.slots }) before
  index_swapped stood there agrees =
      record {
        holds = λ other found values n at at_slot has. elim (one_or_apart key other) [
          | inl same ↦
              let row_is : row ≡ found = let now : get (insert kept.rows key row) other ≡ Some row = subst (λ (k : Key). get (insert kept.rows key row) k ≡ Some row) same (get_inserted kept.rows key row) in cc in
              was.holds other stood values n (ap (get kept.rows) (sym same) ∙ there) at_slot (sym agrees ∙ ap (values_in columns) row_is ∙ has)
          | inr apart ↦ was.holds other found values n (sym (get_beside_insert kept.rows key row other apart) ∙ at) at_slot has
        ];
        only = λ values n e.
            let h = was.only values n e in
            elim (one_or_apart key h.key) [
              | inl same ↦
                  let mine : get kept.rows h.key ≡ Some stood = ap (get kept.rows) (sym same) ∙ there in
                  let at = h.at in
                  let row_is : h.row ≡ stood = cc in
                  let now : get (insert kept.rows key row) h.key ≡ Some row = subst (λ (k : Key). get (insert kept.rows key row) k ≡ Some row) same (get_inserted kept.rows key row) in
                  record { key = h.key; row = row; slot = h.slot; at = now; has = agrees ∙ ap (values_in columns) (sym row_is) ∙ h.has }
              | inr apart ↦ record { key = h.key; row = h.row; slot = h.slot; at = get_beside_insert kept.rows key row h.key apart ∙ h.at; has = h.has }
            ];
      }

  -- a row went
  pub index_cleared : IsNumbered kept.slots → IsSlotted kept → get kept.rows key ≡ Some row → SetsEntry columns row None before after
      → IsIndex columns (record { rows = remove kept.rows key; slots = kept.slots }) after
  index_cleared numbered slotted there sets =
      record {
        holds = λ other duplicate values n at at_slot has. elim (one_or_apart key other) [
          | inl same ↦ absurd (let gone : get (remove kept.rows key) other ≡ None = subst (λ (k : Key). get (remove kept.rows key) k ≡ None) same (get_removed kept.rows key) in cc)
          | inr apart ↦
              let old_at = sym (get_beside_remove kept.rows key other apart) ∙ at in
              let old = was.holds other duplicate values n old_at at_slot has in
              ap number_in (sets.beside values (λ mine.
              let place = slotted key row there in
              let held_mine = was.holds key row values place.0 there place.1 mine in
              let number_is : place.0 ≡ n = cc in
              let same = numbered key other n (place.1 ∙ ap Some number_is) at_slot in
              let gone : get (remove kept.rows key) other ≡ None = subst (λ (k : Key). get (remove kept.rows key) k ≡ None) same (get_removed kept.rows key) in
              cc)) ∙ old
        ];
        only = λ values n e. elim (has_or_not (values_in columns row) values) [
          | inl has ↦ absurd (emptied (entry_at before values) (entry_at after values) n (sets.here values has) e)
          | inr has_not ↦
              let h = was.only values n (sym (ap number_in (sets.beside values has_not)) ∙ e) in
              elim (one_or_apart key h.key) [
                | inl same ↦
                    let mine : get kept.rows h.key ≡ Some row = ap (get kept.rows) (sym same) ∙ there in
                    let at = h.at in
                    let row_is : h.row ≡ row = cc in
                    absurd (has_not (sym (ap (values_in columns) row_is) ∙ h.has))
                | inr apart ↦ record { key = h.key; row = h.row; slot = h.slot; at = get_beside_remove kept.rows key h.key apart ∙ h.at; has = h.has }
              ]
        ];
      }
    where
      emptied : (o p : Option (Option ℕ)) (n : ℕ) → p ≡ with_number None o → number_in p ≡ Some n → ⊥
      emptied None p n is e = let none : number_in p ≡ None = ap number_in is in cc
      emptied (Some b) p n is e = let none : number_in p ≡ None = ap number_in is in cc
