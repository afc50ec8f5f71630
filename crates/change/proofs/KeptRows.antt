-- What an inverse edits at a place, by what it keeps.
--     edit_is_kept      the row that it keeps for it, or none where its change put one
--     row_is_kept      so the row that it puts back there is the one that it keeps
use Rattle.std.proofs.Common.{◌≡◌, ℕ, ◌==◌, Bool, true, false, cond, List, [], ◌∷◌, map, Option, Some, None, refl, sym, ap, ◌∙◌, inl, inr}
use Rattle.std.specs.Prelude.{if◌then◌else◌, unwrap_or}
use Rattle.std.specs.FinMap.{get, get-empty}
use Rattle.std.proofs.lemmas.Bool.{cases_Bool, eqb-true}
use Rattle.model.specs.declared.key.Key.{Key}
use Rattle.model.specs.declared.row.Row.{Row}
use Rattle.model.specs.Rows.{place_cmp, is_place}
use Rattle.model.specs.Effect.{one_edit}
use Rattle.model.specs.EditLemmas.{get_edit, get_one_edit}
use Rattle.change.specs.declared.inverse.Wiped.{Wiped}
use Rattle.change.specs.declared.inverse.Inverse.{Inverse}
use Rattle.change.specs.declared.inverse.Inverse.TheVariants.{Take, Put, Replace, Move, Unwipe}
use Rattle.change.specs.Inverse.{rows_held, edits_of, row_by_inverse}
use Rattle.change.specs.Edits.{laid_together, or_else}
use Rattle.change.specs.KeptRow.{first_emptied, row_kept, came_to}
use Rattle.change.specs.EditsLemmas.{as_edit, get_over, get_rows_held_at, get_rows_held_other}

-- an edit that takes a row away, if one came
abbrev pub taken_if : Bool → Option (Option Row)
taken_if came = if came then Some None else None

-- what an inverse edits at a place: it puts back the row that it keeps, or takes away the one that came
abbrev pub edit_kept : Inverse → ℕ → Key → Option (Option Row)
edit_kept i table key = or_else (as_edit (row_kept i table key)) (taken_if (came_to i table key))

taken : (came : Bool) → cond came (Some None) None ≡ taken_if came
taken true = refl
taken false = refl

-- the row of an edit at a place, if it is the place, or else another edit
row_first : (b : Bool) (row : Row) (rest : Option (Option Row)) → cond b (Some (Some row)) rest ≡ or_else (as_edit (if b then Some row else None)) rest
row_first true row rest = refl
row_first false row rest = refl

-- ---- an emptied table

-- a row that an emptied table held, or else what is edited behind it
held_first : (row rest : Option Row) → or_else (as_edit row) (as_edit rest) ≡ as_edit (or_else row rest)
held_first None rest = refl
held_first (Some row) rest = refl

no_edit_behind : (e : Option (Option Row)) → or_else e None ≡ e
no_edit_behind None = refl
no_edit_behind (Some e) = refl

emptied : (wiped : List Wiped) (table : ℕ) (key : Key) → get (laid_together (map rows_held wiped)) (table, key) ≡ as_edit (first_emptied wiped table key)
emptied [] table key = get-empty place_cmp (table, key)
emptied (w ∷ wiped) table key =
    elim (cases_Bool (table == w.table)) [
      | inl same ↦
          get_over (rows_held w) (laid_together (map rows_held wiped)) (table, key)
          ∙ ap (λ e. or_else e (get (laid_together (map rows_held wiped)) (table, key)))
          (ap (λ (n : ℕ). get (rows_held w) (n, key)) (eqb-true table w.table same) ∙ get_rows_held_at w key)
          ∙ ap (or_else (as_edit (get w.contents.rows key))) (emptied wiped table key)
          ∙ held_first (get w.contents.rows key) (first_emptied wiped table key)
          ∙ sym (ap (λ b. as_edit (if b then or_else (get w.contents.rows key) (first_emptied wiped table key) else first_emptied wiped table key)) same)
      | inr other ↦
          get_over (rows_held w) (laid_together (map rows_held wiped)) (table, key)
          ∙ ap (λ e. or_else e (get (laid_together (map rows_held wiped)) (table, key))) (get_rows_held_other w (table, key) other)
          ∙ emptied wiped table key
          ∙ sym (ap (λ b. as_edit (if b then or_else (get w.contents.rows key) (first_emptied wiped table key) else first_emptied wiped table key)) other)
    ]

-- ---- an inverse

pub edit_is_kept : (i : Inverse) (table : ℕ) (key : Key) → get (edits_of i) (table, key) ≡ edit_kept i table key
edit_is_kept (Take other values) table key = get_one_edit (other, values) None (table, key) ∙ taken (is_place (table, key) (other, values))
edit_is_kept (Put other values row) table key =
    get_one_edit (other, values) (Some row) (table, key) ∙ row_first (is_place (table, key) (other, values)) row None
edit_is_kept (Replace other values row) table key =
    get_one_edit (other, values) (Some row) (table, key) ∙ row_first (is_place (table, key) (other, values)) row None
edit_is_kept (Move other keys row) table key =
    get_edit (one_edit (other, keys.value.new_key) None) (other, keys.value.key) (Some row) (table, key)
    ∙ ap (cond (is_place (table, key) (other, keys.value.key)) (Some (Some row)))
    (get_one_edit (other, keys.value.new_key) None (table, key) ∙ taken (is_place (table, key) (other, keys.value.new_key)))
    ∙ row_first (is_place (table, key) (other, keys.value.key)) row (taken_if (is_place (table, key) (other, keys.value.new_key)))
edit_is_kept (Unwipe wiped) table key =
    emptied wiped.items table key ∙ sym (no_edit_behind (as_edit (first_emptied wiped.items table key)))

-- the row of what is edited is the row kept
row_edited : (row : Option Row) (came : Bool) → unwrap_or (or_else (as_edit row) (taken_if came)) None ≡ row
row_edited (Some row) came = refl
row_edited None true = refl
row_edited None false = refl

pub row_is_kept : (i : Inverse) (table : ℕ) (key : Key) → row_by_inverse i (table, key) ≡ row_kept i table key
row_is_kept i table key = ap (λ e. unwrap_or e None) (edit_is_kept i table key) ∙ row_edited (row_kept i table key) (came_to i table key)
