-- What is empty after it was settled is given up.
use Rattle.std.specs.Prelude.{◌≡◌, ℕ, suc, List, Option, Some, None, refl, IsSome, is_some, slice_get, slice_index_or, ◌<◌, length, if◌then◌else◌}
use Rattle.std.proofs.Common.{sym, ◌∙◌, ap, subst, inl, inr, arith}
use Rattle.std.specs.List.{Contains}
use Rattle.std.specs.FinMap.{FinMap, get, remove}
use Rattle.model.specs.Key.{key_cmp}
use Rattle.model.specs.declared.key.Key.{Key}
use Rattle.model.specs.declared.row.Row.{Row}
use Rattle.model.specs.Rows.{TableKeys, values_in}
use Rattle.rows.specs.Kept.{Kept}
use Rattle.rows.specs.KeyLemmas.{get_removed}
use Rattle.indexes.specs.declared.unique.Unique.{Unique}
use Rattle.indexes.specs.Unique.{Entries, entry_at, held, Settles, EachStep}
use Rattle.indexes.specs.Table.{Spot, IsOfSettled, IsFilled}
use Rattle.indexes.specs.Indexed.{IsIndexed, room_of, columns_of}
use Rattle.indexes.proofs.Room.{OfUnique, key_spot, unique_spot, unique_spot_of, in_room, columns_at, column_within}

-- a key's spot is in the room, once it was settled, only where its row stands
module _ (keys : TableKeys) (old new : Kept) (us vs : List Unique) (key : Key) (was : IsIndexed keys.primary old us)
    (slots : new.slots ≡ (if is_some (get old.rows key) then old.slots else remove old.slots key)) where
  no_slot : (at : Option Row) → get old.rows key ≡ at → (number : ℕ) → get new.slots key ≡ Some number → IsFilled keys old.rows (0, key)
  no_slot (Some there) at number slot = (key, there, at, key_spot keys there key (was.own_key key there at))
  no_slot None at number slot =
      let removed : new.slots ≡ remove old.slots key = slots ∙ ap (λ (o : Option Row). if is_some o then old.slots else remove old.slots key) at in
      absurd (let none : get new.slots key ≡ None = ap (λ (m : FinMap key_cmp ℕ). get m key) removed ∙ get_removed old.slots key in cc)

  pub key_gone : (s : Spot) → s ≡ (0, key) → Contains (room_of new vs) s → IsFilled keys old.rows s
  key_gone s at room = elim (in_room new vs s room) [
    | inl (other, same, number, slot) ↦
        let key_is : other ≡ key = ap (λ (t : Spot). t.1) (sym same ∙ at) in
        subst (λ (t : Spot). IsFilled keys old.rows t) (sym at) (no_slot (get old.rows key) refl number (ap (get new.slots) (sym key_is) ∙ slot))
    | inr h ↦ absurd (let none : s.0 ≡ 0 = ap (λ (t : Spot). t.0) at in let e = h.number in omega arith)
  ]

-- values are in the room, once their entry was dropped if it had no number, only where a row has them
pub entry_gone : (keys : TableKeys) (kept : Kept) (us : List Unique) → keys.uniques ≡ columns_of us → IsIndexed keys.primary kept us
    → (k : ℕ) (d : Unique) → k < length us → (after : Entries) (values : Key) → (held (slice_index_or us k d).entries values ≡ None → entry_at after values ≡ None)
    → IsSome (entry_at after values) → IsFilled keys kept.rows (suc k, values)
entry_gone keys kept us is was k d l after values gone entry =
    elim (held (slice_index_or us k d).entries values) as (λ at. held (slice_index_or us k d).entries values ≡ at → IsFilled keys kept.rows (suc k, values)) [
      | None ↦ λ none. absurd (let no = ap is_some (gone none) in cc)
      | Some number ↦ λ at.
          let holder = (was.each k d l).only values number at in (
            holder.key,
            holder.row,
            holder.at,
            unique_spot keys holder.row k (slice_index_or us k d).columns values (ap (λ cs. slice_get cs k) is ∙ columns_at us k d l) holder.has,
          )
    ] refl

module _ (keys : TableKeys) (old new : Kept) (us vs : List Unique) (key : Key) (row : Row) (is : keys.uniques ≡ columns_of us) (was : IsIndexed keys.primary old us)
    (slots : new.slots ≡ (if is_some (get old.rows key) then old.slots else remove old.slots key)) (steps : EachStep (Settles row) us vs) where
  -- a spot of unique values is in the room only where a row has them
  values_gone : (s : Spot) → OfUnique row 1 keys.uniques s → Contains (room_of new vs) s → IsFilled keys old.rows s
  values_gone s o room = elim (in_room new vs s room) [
    | inl (other, same, number, slot) ↦ absurd (let none : s.0 ≡ 0 = ap (λ (t : Spot). t.0) same in let e = o.number in omega arith)
    | inr h ↦
        let within = column_within us o.i o.columns (ap (λ cs. slice_get cs o.i) (sym is) ∙ o.at) in
        let has = ap (λ cs. values_in cs row) within.2 ∙ o.has in
        let i_is : h.i ≡ o.i = let e = h.number in let f = o.number in omega arith in
        let number_is : suc o.i ≡ s.0 = let e = o.number in omega arith in
        let entry : IsSome (entry_at (slice_index_or vs o.i within.1).entries s.1) =
        subst (λ (i : ℕ). IsSome (entry_at (slice_index_or vs i within.1).entries s.1)) i_is (h.entry within.1) in
        subst (λ (n : ℕ). IsFilled keys old.rows (n, s.1)) number_is
        (entry_gone keys old us is was o.i within.1 within.0 (slice_index_or vs o.i within.1).entries s.1 ((steps.each o.i within.1 within.0).entries.gone s.1 has) entry)
  ]

  pub settled_gone : (s : Spot) → IsOfSettled keys key row s → (IsFilled keys old.rows s → ⊥) → Contains (room_of new vs) s → ⊥
  settled_gone s (inl at) empty room = empty (key_gone keys old new us vs key was slots s at room)
  settled_gone s (inr c) empty room = empty (values_gone s (unique_spot_of keys row s c) room)
