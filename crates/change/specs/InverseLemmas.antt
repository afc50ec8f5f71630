-- The laws of inverses.
--     rows_held_last, unwiped_last, ..      the last table that was emptied, apart from those before it
--     room_unwiped_keeps, room_back_keeps, CanPutBack_keeps      with more room
--     contains_first, contains_here, contains_later, contains_one      the elements of a list, the first apart
--     back_unwipe      what stood where a wipe altered the tables, put back
use Rattle.std.specs.Prelude.{◌≡◌, Bool, true, false, cond, List, [], ◌∷◌, ◌++◌, map, Contains, filter, refl}
use Rattle.std.proofs.Common.{sym, ◌∙◌, ap, subst, inl, inr, ◌⊎◌, arith}
use Rattle.std.proofs.lemmas.List.Elements.{Contains-append_left, Contains-append_right, Contains-append_cases, Contains-push, Contains-push_cases}
use Rattle.model.specs.declared.cell.Cell.{Cell}
use Rattle.model.specs.Rows.{Rows, Schema, IsValid}
use Rattle.model.specs.Effect.{Edits, back, all_back}
use Rattle.model.specs.EffectLemmas.{all_back_append}
use Rattle.indexes.specs.Content.{Content, KeepsCells}
use Rattle.indexes.specs.Table.{cells_in}
use Rattle.change.specs.declared.inverse.Wiped.{Wiped}
use Rattle.change.specs.declared.inverse.Inverse.{Inverse}
use Rattle.change.specs.declared.inverse.Inverse.TheVariants.{Take, Put, Replace, Move, Unwipe}
use Rattle.change.specs.Inverse.{rows_held, HasNoRows, BelongsTo, is_elsewhere, room_with, room_unwiped, room_back, AreEmpty, AreKnown, IsKnown, AsLeft, HasItsRoom, edits_of, CanPutBack}
use Rattle.change.specs.Edits.{laid_together}
use Rattle.change.specs.EditsLemmas.{back_together}

-- ---- the last of the emptied tables

pub rows_held_last : (ws : List Wiped) (w : Wiped) → map rows_held (ws ++ w ∷ []) ≡ map rows_held ws ++ rows_held w ∷ []
rows_held_last [] w = refl
rows_held_last (first ∷ ws) w = ap (λ (es : List Edits). rows_held first ∷ es) (rows_held_last ws w)

pub unwiped_last : (rows : Rows) (ws : List Wiped) (w : Wiped) → all_back rows (map rows_held (ws ++ w ∷ [])) ≡ all_back (back rows (rows_held w)) (map rows_held ws)
unwiped_last rows ws w = ap (all_back rows) (rows_held_last ws w) ∙ all_back_append rows (map rows_held ws) (rows_held w ∷ [])

pub room_unwiped_last : (room : List Cell) (ws : List Wiped) (w : Wiped) → room_unwiped room (ws ++ w ∷ []) ≡ room_unwiped (room_with room w) ws
room_unwiped_last room [] w = refl
room_unwiped_last room (first ∷ ws) w = ap (λ (r : List Cell). room_with r first) (room_unwiped_last room ws w)

pub known_last : (schema : Schema) (ws : List Wiped) (w : Wiped) → AreKnown schema (ws ++ w ∷ []) → AreKnown schema ws × BelongsTo schema w
known_last schema [] w known = (tt, known.1)
known_last schema (first ∷ ws) w known = let rest = known_last schema ws w known.0 in ((rest.0, known.1), rest.1)

pub known_more : (schema : Schema) (ws : List Wiped) (w : Wiped) → AreKnown schema ws → BelongsTo schema w → AreKnown schema (ws ++ w ∷ [])
known_more schema [] w known last = (tt, last)
known_more schema (first ∷ ws) w known last = (known_more schema ws w known.0 last, known.1)

pub empty_last : (rows : Rows) (ws : List Wiped) (w : Wiped) → AreEmpty rows (ws ++ w ∷ []) → AreEmpty (back rows (rows_held w)) ws × HasNoRows rows w.table
empty_last rows [] w empty = (tt, empty.1)
empty_last rows (first ∷ ws) w empty =
    let rest = empty_last rows ws w empty.0 in
    ((rest.0, subst (λ (r : Rows). HasNoRows r first.table) (unwiped_last rows ws w) empty.1), rest.1)

pub empty_more : (rows : Rows) (ws : List Wiped) (w : Wiped) → AreEmpty (back rows (rows_held w)) ws → HasNoRows rows w.table → AreEmpty rows (ws ++ w ∷ [])
empty_more rows [] w empty last = (tt, last)
empty_more rows (first ∷ ws) w empty last =
    (empty_more rows ws w empty.0 last, subst (λ (r : Rows). HasNoRows r first.table) (sym (unwiped_last rows ws w)) empty.1)

-- ---- more room

pub Keeps_all : (room : List Cell) → KeepsCells room room
Keeps_all room cell is = is

pub Keeps_append : (a b c d : List Cell) → KeepsCells a c → KeepsCells b d → KeepsCells (a ++ b) (c ++ d)
Keeps_append a b c d front rear cell is =
    elim (Contains-append_cases a b cell is) [
      | inl in_front ↦ Contains-append_left c d cell (front cell in_front)
      | inr in_rear ↦ Contains-append_right c d cell (rear cell in_rear)
    ]

pub contains_first : {X : Type 0} (x : X) (xs : List X) (y : X) → Contains (x ∷ xs) y → (x ≡ y) ⊎ Contains xs y
contains_first x xs y is =
    elim (Contains-append_cases (x ∷ []) xs y is) [
      | inl here ↦ elim (Contains-push_cases [] x y here) [
        | inl none ↦ absurd (omega (arith, none.1))
        | inr same ↦ inl same
      ]
      | inr later ↦ inr later
    ]

pub contains_here : {X : Type 0} (x : X) (xs : List X) → Contains (x ∷ xs) x
contains_here x xs = Contains-append_left (x ∷ []) xs x (Contains-push [] x)

pub contains_later : {X : Type 0} (x : X) (xs : List X) (y : X) → Contains xs y → Contains (x ∷ xs) y
contains_later x xs y is = Contains-append_right (x ∷ []) xs y is

-- a list of one has that alone
pub contains_one : {X : Type 0} (x y : X) → Contains (x ∷ []) y → x ≡ y
contains_one x y is =
    elim (contains_first x [] y is) [
      | inl same ↦ same
      | inr none ↦ absurd (omega (arith, none.1))
    ]

pub contains_filter : {X : Type 0} (p : X → Bool) (xs : List X) (y : X) → Contains xs y → p y ≡ true → Contains (filter p xs) y
contains_filter p [] y is passes = absurd (omega (arith, is.1))
contains_filter {X = X} p (x ∷ xs) y is passes =
    elim (p x) as (λ b. p x ≡ b → Contains (cond b (x ∷ filter p xs) (filter p xs)) y) [
      | true ↦ λ px. elim (contains_first x xs y is) [
        | inl same ↦ subst (λ (z : X). Contains (x ∷ filter p xs) z) same (contains_here x (filter p xs))
        | inr later ↦ contains_later x (filter p xs) y (contains_filter p xs y later passes)
      ]
      | false ↦ λ px. elim (contains_first x xs y is) [
        | inl same ↦ let both : true ≡ false = sym passes ∙ ap p (sym same) ∙ px in cc
        | inr later ↦ contains_filter p xs y later passes
      ]
    ] refl

pub filter_contains : {X : Type 0} (p : X → Bool) (xs : List X) (y : X) → Contains (filter p xs) y → Contains xs y × (p y ≡ true)
filter_contains p [] y is = absurd (omega (arith, is.1))
filter_contains {X = X} p (x ∷ xs) y is =
    elim (p x) as (λ b. p x ≡ b → Contains (cond b (x ∷ filter p xs) (filter p xs)) y → Contains (x ∷ xs) y × (p y ≡ true)) [
      | true ↦ λ px is. elim (contains_first x (filter p xs) y is) [
        | inl same ↦ (subst (λ (z : X). Contains (x ∷ xs) z) same (contains_here x xs), ap p (sym same) ∙ px)
        | inr later ↦ let rest = filter_contains p xs y later in (contains_later x xs y rest.0, rest.1)
      ]
      | false ↦ λ px is. let rest = filter_contains p xs y is in (contains_later x xs y rest.0, rest.1)
    ] refl is

pub Keeps_filter : (p : Cell → Bool) (old new : List Cell) → KeepsCells old new → KeepsCells (filter p old) (filter p new)
Keeps_filter p old new keeps cell is = let parts = filter_contains p old cell is in contains_filter p new cell (keeps cell parts.0) parts.1

pub room_with_keeps : (old new : List Cell) (w : Wiped) → KeepsCells old new → KeepsCells (room_with old w) (room_with new w)
room_with_keeps old new w keeps =
    Keeps_append (cells_in w.table w.contents) (filter (is_elsewhere w.table) old) (cells_in w.table w.contents) (filter (is_elsewhere w.table) new)
    (Keeps_all (cells_in w.table w.contents)) (Keeps_filter (is_elsewhere w.table) old new keeps)

pub room_unwiped_keeps : (old new : List Cell) (ws : List Wiped) → KeepsCells old new → KeepsCells (room_unwiped old ws) (room_unwiped new ws)
room_unwiped_keeps old new [] keeps = keeps
room_unwiped_keeps old new (w ∷ ws) keeps = room_with_keeps (room_unwiped old ws) (room_unwiped new ws) w (room_unwiped_keeps old new ws keeps)

pub room_back_keeps : (old new : List Cell) (inverse : Inverse) → KeepsCells old new → KeepsCells (room_back old inverse) (room_back new inverse)
room_back_keeps old new (Take table key) keeps = keeps
room_back_keeps old new (Put table key row) keeps = keeps
room_back_keeps old new (Replace table key row) keeps = keeps
room_back_keeps old new (Move table keys row) keeps = keeps
room_back_keeps old new (Unwipe wiped) keeps = room_unwiped_keeps old new wiped.items keeps

pub HasItsRoom_keeps : (schema : Schema) (old new : List Cell) (inverse : Inverse) → KeepsCells old new → HasItsRoom schema old inverse → HasItsRoom schema new inverse
HasItsRoom_keeps schema old new (Take table key) keeps has = has
HasItsRoom_keeps schema old new (Put table key row) keeps has = λ cell is. keeps cell (has cell is)
HasItsRoom_keeps schema old new (Replace table key row) keeps has = λ cell is. keeps cell (has cell is)
HasItsRoom_keeps schema old new (Move table keys row) keeps has = λ cell is. keeps cell (has cell is)
HasItsRoom_keeps schema old new (Unwipe wiped) keeps has = has

-- an inverse that can be put back can be so with more room
pub CanPutBack_keeps : (t more : Content) (inverse : Inverse) → t.schema ≡ more.schema → t.rows ≡ more.rows → KeepsCells t.room more.room
    → CanPutBack t inverse → CanPutBack more inverse
CanPutBack_keeps t more inverse schema rows keeps can = record {
  known = subst (λ (s : Schema). IsKnown s inverse) schema can.known;
  as_left = subst (λ (r : Rows). AsLeft r inverse) rows can.as_left;
  valid = subst (λ (r : Rows). IsValid more.schema (back r (edits_of inverse))) rows (subst (λ (s : Schema). IsValid s (back t.rows (edits_of inverse))) schema can.valid);
  room = subst (λ (s : Schema). HasItsRoom s more.room inverse) schema (HasItsRoom_keeps t.schema t.room more.room inverse keeps can.room);
}

-- what emptied tables held, together
pub back_unwipe : (rows : Rows) (ws : List Wiped) → back rows (laid_together (map rows_held ws)) ≡ all_back rows (map rows_held ws)
back_unwipe rows ws = back_together rows (map rows_held ws)
