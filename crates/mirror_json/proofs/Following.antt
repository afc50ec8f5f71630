-- The rows after changes, by those that are still to be made.
--     change_made, commit_made      one change fewer, and one commit fewer
--     known_all      what can be undone is of tables that are there
use Rattle.std.proofs.Common.{◌≡◌, ℕ, suc, ◌+◌, ◌<◌, List, [], ◌∷◌, length, get_or, drop, add-one, drop-cons, ap, subst, sym, ◌∙◌}
use Rattle.std.specs.List.{flat_map}
use Rattle.model.specs.declared.change.Change.{Change}
use Rattle.model.specs.Rows.{Rows, Schema}
use Rattle.model.specs.Effect.{effect, serial}
use Rattle.model.specs.EffectLemmas.{serial_append}
use Rattle.world.specs.World.{Entry}
use Rattle.indexes.specs.Content.{Content}
use Rattle.change.specs.declared.inverse.Inverse.{Inverse}
use Rattle.change.specs.Inverse.{IsKnown}
use Rattle.undo.specs.Undo.{CanUndo, AreKnownAll}
use Rattle.undo.specs.UndoLemmas.{schema_undone}

pub change_made : (schema : Schema) (at new all : Rows) (cs : List Change) (n : ℕ) (c : Change) → n < length cs → c ≡ get_or cs n c
    → new ≡ effect schema at c → serial schema at (drop n cs) ≡ all → serial schema new (drop (n + 1) cs) ≡ all
change_made schema at new all cs n c below is made so =
    ap (λ (m : ℕ). serial schema new (drop m cs)) (add-one n)
    ∙ ap (λ (r : Rows). serial schema r (drop (suc n) cs)) made
    ∙ ap (λ (d : Change). serial schema (effect schema at d) (drop (suc n) cs)) is
    ∙ ap (serial schema at) (sym (drop-cons cs n c below))
    ∙ so

-- the changes of commits, in order
abbrev pub changes_of : List Entry → List Change
changes_of = flat_map (λ (e : Entry). e.changes)

pub commit_made : (schema : Schema) (at new all : Rows) (es : List Entry) (n : ℕ) (e : Entry) → n < length es → e ≡ get_or es n e
    → new ≡ serial schema at e.changes → serial schema at (changes_of (drop n es)) ≡ all → serial schema new (changes_of (drop (n + 1) es)) ≡ all
commit_made schema at new all es n e below is made so =
    ap (λ (m : ℕ). serial schema new (changes_of (drop m es))) (add-one n)
    ∙ ap (λ (r : Rows). serial schema r (changes_of (drop (suc n) es))) made
    ∙ sym (serial_append schema at e.changes (changes_of (drop (suc n) es)))
    ∙ ap (λ (d : Entry). serial schema at (changes_of (d ∷ drop (suc n) es))) is
    ∙ ap (λ (ds : List Entry). serial schema at (changes_of ds)) (sym (drop-cons es n e below))
    ∙ so

pub known_all : (t : Content) (is : List Inverse) → CanUndo t is → AreKnownAll t.schema is
known_all t [] can = tt
known_all t (i ∷ is) can = (subst (λ (s : Schema). IsKnown s i) (schema_undone t is) can.1.known, known_all t is can.0)
