-- What is held once cells were taken: as a set, from the front, and apart from others.
use Rattle.std.specs.Prelude.{◌≡◌, ◌≢◌, ℕ, ◌≤◌, zero, suc, Bool, true, false, List, [], ◌∷◌, ◌++◌, Some, refl, ◌⊎◌, Contains, slice_get, length, take, if◌then◌else◌}
use Rattle.std.proofs.Common.{sym, ◌∙◌, ap, subst, inl, inr, arith, true≢false}
use Rattle.std.specs.Cmp.{eq_by_cmp_equiv}
use Rattle.std.proofs.Math.Seq.{take-length}
use Rattle.std.specs.Map.{keys_of}
use Rattle.std.proofs.lemmas.Bool.{cases_eq}
use Rattle.std.proofs.lemmas.List.{map-append}
use Rattle.std.proofs.lemmas.List.Elements.{All-contains, Contains-append_left, Contains-push, Contains-push_cases}
use Rattle.std.proofs.lemmas.Map.Views.{IsSome-lookup_from_Contains, Contains-keys_from_lookup, tells_apart}
use Rattle.model.specs.declared.cell.Cell.{Cell}
use Rattle.model.specs.CellOrder.{cell_cmp_total, cell_cmp_exact}
use Rattle.keyholds.specs.Holds.{has_cell, with_hold, with_holds, IsFreeCell}
use Rattle.keyholds.specs.Statements.{TakingAddsCells, TakingKeepsHeld, TakingAddsEach, TakingKeepsApart}
use Rattle.keyholds.proofs.Overlaps.{contains_at, at_contains, contains_next, overlaps_symm}
use Rattle.keyholds.proofs.Ties.{same_value}
use Rattle.keyholds.proofs.Taking.{held_first, front_of_hold, front_of_holds}

pub head_or_rest : {X : Type 0} (y : X) (ys : List X) (x : X) → Contains (y ∷ ys) x → (y ≡ x) ⊎ Contains ys x
head_or_rest {X} y ys x has = by has.0 (at_contains (y ∷ ys) x has)
  where
    by : (i : ℕ) → slice_get (y ∷ ys) i ≡ Some x → (y ≡ x) ⊎ Contains ys x
    by zero e = inl (same_value y x e)
    by (suc i) e = inr (contains_at ys i x e)

-- what stands in a list with one more at its end
push_cases : {X : Type 0} (xs : List X) (x : X) (i : ℕ) (y : X) → slice_get (xs ++ x ∷ []) i ≡ Some y → (slice_get xs i ≡ Some y) ⊎ ((i ≡ length xs) × (x ≡ y))
push_cases [] x zero y e = inr (refl, same_value x y e)
push_cases [] x (suc i) y e = absurd cc
push_cases (z ∷ xs) x zero y e = inl e
push_cases (z ∷ xs) x (suc i) y e = elim (push_cases xs x i y e) [ inl was ↦ inl was | inr last ↦ inr (omega (arith, last.0), last.1) ]

module _ {S : Type 0} where
  hold_cases : (held : List (Cell × S)) (hold : Cell × S) (cell : Cell) → Contains (keys_of (with_hold held hold)) cell → Contains (keys_of held) cell ⊎ (hold.0 ≡ cell)
  hold_cases held hold cell has = by (has_cell hold.0 held) refl has
    where
      by : (b : Bool) → has_cell hold.0 held ≡ b → Contains (keys_of (if b then held else held ++ hold ∷ [])) cell → Contains (keys_of held) cell ⊎ (hold.0 ≡ cell)
      by true e there = inl there
      by false e there = Contains-push_cases (keys_of held) hold.0 cell (subst (λ l. Contains l cell) (map-append (λ h. h.0) held (hold ∷ [])) there)

  hold_old : (held : List (Cell × S)) (hold : Cell × S) (cell : Cell) → Contains (keys_of held) cell → Contains (keys_of (with_hold held hold)) cell
  hold_old held hold cell has = by (has_cell hold.0 held) refl
    where
      by : (b : Bool) → has_cell hold.0 held ≡ b → Contains (keys_of (if b then held else held ++ hold ∷ [])) cell
      by true e = has
      by false e = subst (λ l. Contains l cell) (sym (map-append (λ h. h.0) held (hold ∷ []))) (Contains-append_left (keys_of held) (hold.0 ∷ []) cell has)

  hold_new : (held : List (Cell × S)) (hold : Cell × S) → Contains (keys_of (with_hold held hold)) hold.0
  hold_new held hold = by (has_cell hold.0 held) refl
    where
      by : (b : Bool) → has_cell hold.0 held ≡ b → Contains (keys_of (if b then held else held ++ hold ∷ [])) hold.0
      by true e = Contains-keys_from_lookup (tells_apart cell_cmp_exact) hold.0 held e
      by false e = subst (λ l. Contains l hold.0) (sym (map-append (λ h. h.0) held (hold ∷ []))) (Contains-push (keys_of held) hold.0)

  cases : (held more : List (Cell × S)) (cell : Cell) → Contains (keys_of (with_holds held more)) cell → Contains (keys_of held) cell ⊎ Contains (keys_of more) cell
  cases held [] cell has = inl has
  cases held (hold ∷ more) cell has = elim (cases (with_hold held hold) more cell has) [
    | inl first ↦ elim (hold_cases held hold cell first) [
      | inl old ↦ inl old
      | inr is ↦ inr (contains_at (keys_of (hold ∷ more)) 0 cell (ap Some is))
    ]
    | inr rest ↦ inr (contains_next hold.0 (keys_of more) cell rest)
  ]

  old_ones : (held more : List (Cell × S)) (cell : Cell) → Contains (keys_of held) cell → Contains (keys_of (with_holds held more)) cell
  old_ones held [] cell has = has
  old_ones held (hold ∷ more) cell has = old_ones (with_hold held hold) more cell (hold_old held hold cell has)

  new_ones : (held more : List (Cell × S)) (cell : Cell) → Contains (keys_of more) cell → Contains (keys_of (with_holds held more)) cell
  new_ones held [] cell has = absurd (let none = has.1 in omega (arith, none))
  new_ones held (hold ∷ more) cell has = elim (head_or_rest hold.0 (keys_of more) cell has) [
    | inl is ↦ old_ones (with_hold held hold) more cell (subst (λ c. Contains (keys_of (with_hold held hold)) c) is (hold_new held hold))
    | inr rest ↦ new_ones (with_hold held hold) more cell rest
  ]

  pub taking_adds : TakingAddsCells S
  taking_adds held more cell = (cases held more cell, λ either. elim either [ inl old ↦ old_ones held more cell old | inr new ↦ new_ones held more cell new ])

  pub taking_keeps_held : TakingKeepsHeld S
  taking_keeps_held = held_first

  -- ---- each by itself

  newly_at : (held : List (Cell × S)) (first : Cell × S) (more : List (Cell × S)) → has_cell first.0 held ≡ false → (index : ℕ) (hold : Cell × S)
      → index ≡ length held → first ≡ hold → Contains (keys_of (take index (with_holds (with_hold held first) more))) hold.0 → ⊥
  newly_at held first more e index hold here is has =
      let front : take index (with_holds (with_hold held first) more) ≡ held =
      ap (λ n. take n (with_holds (with_hold held first) more)) here
      ∙ front_of_holds (with_hold held first) more (length held) (front_of_hold held first (length held) (omega arith)).1
      ∙ (front_of_hold held first (length held) (omega arith)).0 ∙ take-length held in
      let there : Contains (keys_of held) first.0 = subst (λ c. Contains (keys_of held) c) (sym (ap (λ h. h.0) is)) (subst (λ l. Contains (keys_of l) hold.0) front has) in
      true≢false (sym (IsSome-lookup_from_Contains (eq_by_cmp_equiv cell_cmp_total) first.0 held there) ∙ e)

  pub taking_adds_each : TakingAddsEach S
  taking_adds_each held [] index hold at = inl at
  taking_adds_each held (first ∷ more) index hold at = elim (taking_adds_each (with_hold held first) more index hold at) [
    | inl there ↦ by (has_cell first.0 held) refl there
    | inr later ↦ inr (omega (arith, later.0, (front_of_hold held first (length held) (omega arith)).1), contains_next first more hold later.1, later.2)
  ]
    where
      by : (b : Bool) → has_cell first.0 held ≡ b → slice_get (if b then held else held ++ first ∷ []) index ≡ Some hold
          → (slice_get held index ≡ Some hold)
          ⊎ ((length held ≤ index) × Contains (first ∷ more) hold × (Contains (keys_of (take index (with_holds (with_hold held first) more))) hold.0 → ⊥))
      by true e there = inl there
      by false e there = elim (push_cases held first index hold there) [
        | inl was ↦ inl was
        | inr last ↦
            inr (omega (arith, last.0), contains_at (first ∷ more) 0 hold (ap Some last.1), newly_at held first more e index hold last.0 last.1)
      ]

pub taking_keeps_apart : TakingKeepsApart
taking_keeps_apart held new xid cells apart free adds same x y c d differs has_c has_d = elim (cases_eq x xid) [
  | inl is_x ↦
      let beside : y ≢ xid = λ e. differs (e ∙ sym is_x) in
      let d_there = subst (λ l. Contains l d) (same y beside) has_d in
      elim (adds c (subst (λ z. Contains (new z) c) is_x has_c)) [
        | inl old ↦ apart xid y c d beside old d_there
        | inr taken ↦ All-contains (IsFreeCell held xid) cells c free taken y d beside d_there
      ]
  | inr apart_x ↦
      let c_there = subst (λ l. Contains l c) (same x apart_x) has_c in
      elim (cases_eq y xid) [
        | inl is_y ↦ elim (adds d (subst (λ z. Contains (new z) d) is_y has_d)) [
          | inl old ↦ apart x xid c d (λ e. apart_x (sym e)) c_there old
          | inr taken ↦ overlaps_symm c d ∙ All-contains (IsFreeCell held xid) cells d free taken x c apart_x c_there
        ]
        | inr apart_y ↦ apart x y c d differs c_there (subst (λ l. Contains l d) (same y apart_y) has_d)
      ]
]
