-- What a change that was applied leaves of the rows that its undo gives.
use Rattle.std.specs.Prelude.{◌≡◌, List, [], ◌∷◌, ◌++◌, map}
use Rattle.std.proofs.Common.{sym, ◌∙◌, ap}
use Rattle.model.specs.declared.change.Change.{Change}
use Rattle.model.specs.Rows.{Rows}
use Rattle.model.specs.Effect.{effect, inverse, back, all_back}
use Rattle.model.specs.EffectLemmas.{back_of_inverse}
use Rattle.indexes.specs.Content.{Content}
use Rattle.change.specs.declared.inverse.Inverse.{Inverse}
use Rattle.change.specs.Inverse.{edits_of}
use Rattle.undo.specs.Undo.{content_back}
use Rattle.undo.specs.UndoLemmas.{rows_undone, content_undone_last}

-- putting the inverse of a change back gives the rows before it
pub rows_back : (old new : Content) (c : Change) (i : Inverse) → new.rows ≡ effect old.schema old.rows c → edits_of i ≡ inverse old.schema old.rows c → back new.rows (edits_of i) ≡ old.rows
rows_back old new c i rows edits =
    ap (λ (r : Rows). back r (edits_of i)) rows ∙ ap (back (effect old.schema old.rows c)) edits ∙ back_of_inverse old.schema old.rows c

-- the rows that an undo of all gives are the same with one change more
pub base_back : (old new : Content) (is : List Inverse) (i : Inverse) → back new.rows (edits_of i) ≡ old.rows → all_back new.rows (map edits_of (is ++ i ∷ [])) ≡ all_back old.rows (map edits_of is)
base_back old new is i rows =
    sym (rows_undone new (is ++ i ∷ []))
    ∙ ap (λ (t : Content). t.rows) (content_undone_last new is i)
    ∙ rows_undone (content_back new i) is
    ∙ ap (λ (r : Rows). all_back r (map edits_of is)) rows
