-- The laws of what goes beneath what is known of a table.
--     under_none, under_as, under_both      no edits; edits that have the same at each key; some, and then others
--     under_nothing, under_lists, under_more      edits of a list, together: none; those of two lists; one more
use Rattle.std.specs.Prelude.{◌≡◌, ℕ, List, [], ◌∷◌, ◌++◌, Option, None}
use Rattle.std.proofs.Common.{sym, ◌∙◌, ap}
use Rattle.std.specs.BTreeMap.{BTreeMap}
use Rattle.std.specs.FinMap.{get, get-empty}
use Rattle.model.specs.declared.key.Key.{Key}
use Rattle.model.specs.declared.row.Row.{Row}
use Rattle.model.specs.Rows.{place_cmp}
use Rattle.model.specs.Effect.{Edits}
use Rattle.change.specs.Edits.{or_else, laid_over, laid_together}
use Rattle.change.specs.EditsLemmas.{or_none, or_both, get_over, get_together}
use Rattle.change.specs.Laid.{known_at, IsLaidUnder}

pub under_none : (known : BTreeMap Key (Option Row)) (table : ℕ) (edits : Edits) → ((key : Key) → get edits (table, key) ≡ None) → IsLaidUnder known table edits known
under_none known table edits none key = sym (or_none (known_at known key)) ∙ ap (or_else (known_at known key)) (sym (none key))

pub under_as : (old new : BTreeMap Key (Option Row)) (table : ℕ) (edits others : Edits) → ((key : Key) → get edits (table, key) ≡ get others (table, key))
    → IsLaidUnder old table edits new → IsLaidUnder old table others new
under_as old new table edits others same under key = under key ∙ ap (or_else (known_at old key)) (same key)

pub under_both : (old now new : BTreeMap Key (Option Row)) (table : ℕ) (edits others : Edits) → IsLaidUnder old table edits now → IsLaidUnder now table others new
    → IsLaidUnder old table (laid_over edits others) new
under_both old now new table edits others first second key =
    second key ∙ ap (λ o. or_else o (get others (table, key))) (first key)
    ∙ or_both (known_at old key) (get edits (table, key)) (get others (table, key))
    ∙ ap (or_else (known_at old key)) (sym (get_over edits others (table, key)))

-- edits of a list, together: none; those of two lists; one more
pub under_nothing : (known : BTreeMap Key (Option Row)) (table : ℕ) → IsLaidUnder known table (laid_together []) known
under_nothing known table = under_none known table (laid_together []) (λ key. get-empty place_cmp (table, key))

pub under_lists : (old now new : BTreeMap Key (Option Row)) (table : ℕ) (es fs all : List Edits) → all ≡ es ++ fs → IsLaidUnder old table (laid_together es) now
    → IsLaidUnder now table (laid_together fs) new → IsLaidUnder old table (laid_together all) new
under_lists old now new table es fs all more first second =
    under_as old new table (laid_over (laid_together es) (laid_together fs)) (laid_together all)
    (λ key.
    get_over (laid_together es) (laid_together fs) (table, key)
    ∙ sym (get_together es fs (table, key)) ∙ ap (λ (gs : List Edits). get (laid_together gs) (table, key)) (sym more))
    (under_both old now new table (laid_together es) (laid_together fs) first second)

pub under_more : (old now new : BTreeMap Key (Option Row)) (table : ℕ) (es : List Edits) (e : Edits) (all : List Edits) → all ≡ es ++ e ∷ [] → IsLaidUnder old table (laid_together es) now
    → IsLaidUnder now table e new → IsLaidUnder old table (laid_together all) new
under_more old now new table es e all more first second =
    under_lists old now new table es (e ∷ []) all more first
    (under_as now new table e (laid_together (e ∷ []))
    (λ key. sym (get_over e (laid_together []) (table, key) ∙ ap (or_else (get e (table, key))) (get-empty place_cmp (table, key)) ∙ or_none (get e (table, key)))) second)
