-- What the journal's entries keep, put back.
--     taken_back_more      with an entry more
--     rows_taken_back      of the entries behind the first so many, put back: the rows after these
--     edits_more      what entries keep, with an entry more
use Rattle.std.proofs.Common.{◌≡◌, ℕ, zero, suc, List, [], ◌∷◌, ◌++◌, take, drop, map, refl, sym, ap, ◌∙◌, append_assoc, append-nil}
use Rattle.model.specs.Rows.{Rows, Schema}
use Rattle.model.specs.Effect.{Edits, all_back, serial}
use Rattle.model.specs.EffectLemmas.{all_back_append}
use Rattle.change.specs.Inverse.{edits_of}
use Rattle.engine.specs.declared.entry.Entry.{Entry}
use Rattle.engine.specs.Engine.{entry_in, AreTakenBack, edits_behind}
use Rattle.live_tables.specs.Journal.{rows_after}

pub taken_back_more : (schema : Schema) (rows : Rows) (es : List Entry) (e : Entry) → AreTakenBack schema rows es
    → all_back (serial schema (rows_after schema rows (map entry_in es)) e.changes) (map edits_of e.inverses.inverses) ≡ rows_after schema rows (map entry_in es)
    → AreTakenBack schema rows (es ++ e ∷ [])
taken_back_more schema rows [] e had one = (one, tt)
taken_back_more schema rows (first ∷ es) e had one = (had.0, taken_back_more schema (serial schema rows first.changes) es e had.1 one)

-- all of them
all_taken_back : (schema : Schema) (rows : Rows) (es : List Entry) → AreTakenBack schema rows es
    → rows ≡ all_back (rows_after schema rows (map entry_in es)) (edits_behind es)
all_taken_back schema rows [] had = refl
all_taken_back schema rows (e ∷ es) had =
    let last : Rows = rows_after schema (serial schema rows e.changes) (map entry_in es) in
    sym had.0 ∙ ap (λ (r : Rows). all_back r (map edits_of e.inverses.inverses)) (all_taken_back schema (serial schema rows e.changes) es had.1)
    ∙ sym (all_back_append last (map edits_of e.inverses.inverses) (edits_behind es))

pub rows_taken_back : (schema : Schema) (rows : Rows) (es : List Entry) (count : ℕ) → AreTakenBack schema rows es
    → rows_after schema rows (map entry_in (take count es)) ≡ all_back (rows_after schema rows (map entry_in es)) (edits_behind (drop count es))
rows_taken_back schema rows es zero had = all_taken_back schema rows es had
rows_taken_back schema rows [] (suc count) had = refl
rows_taken_back schema rows (e ∷ es) (suc count) had = rows_taken_back schema (serial schema rows e.changes) es count had.1

pub edits_more : (es : List Entry) (e : Entry) → edits_behind (es ++ e ∷ []) ≡ edits_behind es ++ map edits_of e.inverses.inverses
edits_more [] e = append-nil (map edits_of e.inverses.inverses)
edits_more (first ∷ es) e =
    ap (λ (edits : List Edits). map edits_of first.inverses.inverses ++ edits) (edits_more es e)
    ∙ sym (append_assoc (map edits_of first.inverses.inverses) (edits_behind es) (map edits_of e.inverses.inverses))
