-- The laws of undoing.
--     content_undone_last, CanUndo_last, CanUndo_more      the newest inverse, apart from those before it
--     CanUndo_keeps      with more room
--     CanUndo_applied      what was just applied can be undone, and then what could be before it
--     rows_undone      the rows of tables that are undone
--     content_undone_both, CanUndo_both      the last inverses of a list, and then the first
use Rattle.std.specs.Prelude.{◌≡◌, List, [], ◌∷◌, ◌++◌, map, refl}
use Rattle.std.proofs.Common.{sym, ◌∙◌, ap, subst}
use Rattle.model.specs.Rows.{Rows}
use Rattle.model.specs.Effect.{back, all_back}
use Rattle.indexes.specs.Content.{Content, KeepsCells}
use Rattle.change.specs.declared.inverse.Inverse.{Inverse}
use Rattle.change.specs.Inverse.{edits_of, room_back, CanPutBack}
use Rattle.change.specs.InverseLemmas.{room_back_keeps, CanPutBack_keeps}
use Rattle.undo.specs.Undo.{content_back, content_undone, CanUndo}

pub rows_undone : (t : Content) (is : List Inverse) → (content_undone t is).rows ≡ all_back t.rows (map edits_of is)
rows_undone t [] = refl
rows_undone t (i ∷ is) = ap (λ (r : Rows). back r (edits_of i)) (rows_undone t is)

pub content_undone_last : (t : Content) (is : List Inverse) (i : Inverse) → content_undone t (is ++ i ∷ []) ≡ content_undone (content_back t i) is
content_undone_last t [] i = refl
content_undone_last t (first ∷ is) i = ap (λ (u : Content). content_back u first) (content_undone_last t is i)

pub CanUndo_last : (t : Content) (is : List Inverse) (i : Inverse) → CanUndo t (is ++ i ∷ []) → CanPutBack t i × CanUndo (content_back t i) is
CanUndo_last t [] i can = (can.1, tt)
CanUndo_last t (first ∷ is) i can =
    let rest = CanUndo_last t is i can.0 in
    (rest.0, (rest.1, subst (λ (u : Content). CanPutBack u first) (content_undone_last t is i) can.1))

pub CanUndo_more : (t : Content) (is : List Inverse) (i : Inverse) → CanPutBack t i → CanUndo (content_back t i) is → CanUndo t (is ++ i ∷ [])
CanUndo_more t [] i can rest = (tt, can)
CanUndo_more t (first ∷ is) i can rest =
    (CanUndo_more t is i can rest.0, subst (λ (u : Content). CanPutBack u first) (sym (content_undone_last t is i)) rest.1)

-- ---- the same tables with more room

pub schema_undone : (t : Content) (is : List Inverse) → (content_undone t is).schema ≡ t.schema
schema_undone t [] = refl
schema_undone t (i ∷ is) = schema_undone t is

module _ (t more : Content) (schema : t.schema ≡ more.schema) (rows : t.rows ≡ more.rows) (keeps : KeepsCells t.room more.room) where
  pub same_rows_undone : (is : List Inverse) → (content_undone t is).rows ≡ (content_undone more is).rows
  same_rows_undone [] = rows
  same_rows_undone (i ∷ is) = ap (λ (r : Rows). back r (edits_of i)) (same_rows_undone is)

  pub room_undone_keeps : (is : List Inverse) → KeepsCells (content_undone t is).room (content_undone more is).room
  room_undone_keeps [] = keeps
  room_undone_keeps (i ∷ is) = room_back_keeps (content_undone t is).room (content_undone more is).room i (room_undone_keeps is)

  pub CanUndo_keeps : (is : List Inverse) → CanUndo t is → CanUndo more is
  CanUndo_keeps [] can = tt
  CanUndo_keeps (i ∷ is) can = (
    CanUndo_keeps is can.0,
    CanPutBack_keeps (content_undone t is) (content_undone more is) i (schema_undone t is ∙ schema ∙ sym (schema_undone more is)) (same_rows_undone is) (room_undone_keeps is) can.1,
  )

-- ---- one more change

-- a change was applied, and its inverse takes it back: so can all be
pub CanUndo_applied : (old new : Content) (is : List Inverse) (i : Inverse) → new.schema ≡ old.schema → back new.rows (edits_of i) ≡ old.rows
    → KeepsCells old.room (room_back new.room i) → CanPutBack new i → CanUndo old is → CanUndo new (is ++ i ∷ [])
CanUndo_applied old new is i schema rows keeps can before =
    CanUndo_more new is i can (CanUndo_keeps old (content_back new i) (sym schema) (sym rows) keeps is before)

-- ---- the last inverses of a list

pub content_undone_both : (t : Content) (first rest : List Inverse) → content_undone t (first ++ rest) ≡ content_undone (content_undone t rest) first
content_undone_both t [] rest = refl
content_undone_both t (i ∷ first) rest = ap (λ (u : Content). content_back u i) (content_undone_both t first rest)

-- the last of them can be undone, and then the first
pub CanUndo_both : (t : Content) (first rest : List Inverse) → CanUndo t (first ++ rest) → CanUndo t rest × CanUndo (content_undone t rest) first
CanUndo_both t [] rest can = (can, tt)
CanUndo_both t (i ∷ first) rest can =
    let parts = CanUndo_both t first rest can.0 in
    (parts.0, (parts.1, subst (λ (u : Content). CanPutBack u i) (content_undone_both t first rest) can.1))
