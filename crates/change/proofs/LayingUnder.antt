-- What goes beneath what is known of a table.
--     other_table, is_known, one_under      a place of another table; a key of which something is known; one of which it is known now
--     IsLaying, begins_laying, lays_next, ends_laying      the rows that an emptied table held, one after another
use Rattle.std.specs.Prelude.{◌≡◌, ◌≢◌, ℕ, ◌==◌, Bool, true, false, cond, List, [], ◌∷◌, Option, Some, None, refl, is_some}
use Rattle.std.proofs.Common.{sym, ◌∙◌, ap, subst, inl, inr, true≢false}
use Rattle.std.specs.Ordering.{eq_by_cmp}
use Rattle.std.specs.BTreeMap.{BTreeMap, Updates}
use Rattle.std.specs.FinMap as finite
use Rattle.std.specs.FinMap.{find, get, entries, entries_sorted, get-entries}
use Rattle.std.specs.Map.{values_of}
use Rattle.std.proofs.lemmas.Bool.{cases_Bool}
use Rattle.std.proofs.lemmas.Map.Views.{tells_apart}
use Rattle.model.specs.declared.key.Key.{Key}
use Rattle.model.specs.declared.row.Row.{Row}
use Rattle.model.specs.Key.{key_cmp}
use Rattle.model.specs.ExactLemmas.{key_cmp_exact}
use Rattle.model.specs.Rows.{is_place, values_in}
use Rattle.model.specs.Effect.{one_edit}
use Rattle.model.specs.EditLemmas.{get_one_edit, get_edit}
use Rattle.rows.specs.KeyLemmas.{same_key}
use Rattle.indexes.specs.Table.{TableContent, IsSound}
use Rattle.change.specs.declared.inverse.Wiped.{Wiped}
use Rattle.change.specs.Edits.{or_else, laid_over}
use Rattle.change.specs.EditsLemmas.{or_none, get_over, number_is, place_in_table, place_in_other, as_edit, get_rows_held_at, get_rows_held_other}
use Rattle.change.specs.Inverse.{rows_held}
use Rattle.change.specs.Laid.{known_at, IsLaidUnder}
use Rattle.change.specs.LaidLemmas.{under_none}
use Rattle.change.specs.OwnKeys.{OwnKeys, own_by_find}

-- ---- one place

-- the edit of one place, at a key of its table
at_key : (table : ℕ) (key : Key) (row : Option Row) (other : Key) → get (one_edit (table, key) row) (table, other) ≡ cond (eq_by_cmp key_cmp other key) (Some row) None
at_key table key row other = get_one_edit (table, key) row (table, other) ∙ ap (λ b. cond b (Some row) None) (place_in_table table other key)

differs : (table other : ℕ) → other ≢ table → (table == other) ≡ false
differs table other apart = elim (cases_Bool (table == other)) [
  | inl same ↦ absurd (apart (sym (number_is table other same)))
  | inr is ↦ is
]

-- of a place of another table nothing is added
pub other_table : (known : BTreeMap Key (Option Row)) (table other : ℕ) (key : Key) (row : Option Row) → other ≢ table
    → IsLaidUnder known table (one_edit (other, key) row) known
other_table known table other key row apart =
    under_none known table (one_edit (other, key) row) (λ q.
    get_one_edit (other, key) row (table, q) ∙ ap (λ b. cond b (Some row) None) (place_in_other (table, q) other key (differs table other apart)))

-- nor of one of which something is known
pub is_known : (known : BTreeMap Key (Option Row)) (table : ℕ) (key : Key) (row : Option Row) → is_some (known_at known key) ≡ true
    → IsLaidUnder known table (one_edit (table, key) row) known
is_known known table key row there other = by (eq_by_cmp key_cmp other key) refl
  where
    stays : {X : Type 0} (o rest : Option X) → is_some o ≡ true → o ≡ or_else o rest
    stays None rest some = absurd (true≢false (sym some))
    stays (Some x) rest some = refl

    by : (b : Bool) → eq_by_cmp key_cmp other key ≡ b → known_at known other ≡ or_else (known_at known other) (get (one_edit (table, key) row) (table, other))
    by true e = stays (known_at known other) _ (ap (λ (k : Key). is_some (known_at known k)) (tells_apart key_cmp_exact other key e) ∙ there)
    by false e = sym (ap (or_else (known_at known other)) (at_key table key row other ∙ ap (λ b. cond b (Some row) None) e) ∙ or_none (known_at known other))

-- of one of which nothing is known, this is known now
pub one_under : (known new : BTreeMap Key (Option Row)) (table : ℕ) (key : Key) (row : Option Row) → is_some (known_at known key) ≡ false
    → Updates key_cmp known new key (Some row) → IsLaidUnder known table (one_edit (table, key) row) new
one_under known new table key row none step other = by (eq_by_cmp key_cmp other key) refl
  where
    nothing : {X : Type 0} (o rest : Option X) → is_some o ≡ false → rest ≡ or_else o rest
    nothing None rest is = refl
    nothing (Some x) rest is = absurd (true≢false is)

    here : known_at new key ≡ or_else (known_at known key) (get (one_edit (table, key) row) (table, key))
    here =
        step.0 key ∙ ap (λ b. cond b (Some row) (known_at known key)) (same_key key)
        ∙ sym (at_key table key row key ∙ ap (λ b. cond b (Some row) None) (same_key key))
        ∙ nothing (known_at known key) _ none

    by : (b : Bool) → eq_by_cmp key_cmp other key ≡ b → known_at new other ≡ or_else (known_at known other) (get (one_edit (table, key) row) (table, other))
    by true e =
        subst (λ (k : Key). known_at new k ≡ or_else (known_at known k) (get (one_edit (table, key) row) (table, k))) (sym (tells_apart key_cmp_exact other key e)) here
    by false e = turned (eq_by_cmp key_cmp key other) refl
      where
        turned : (b : Bool) → eq_by_cmp key_cmp key other ≡ b → known_at new other ≡ or_else (known_at known other) (get (one_edit (table, key) row) (table, other))
        turned true same =
            absurd (true≢false (sym (same_key key) ∙ ap (λ (k : Key). eq_by_cmp key_cmp k key) (tells_apart key_cmp_exact key other same) ∙ e))
        turned false differs =
            step.2 other differs ∙ sym (or_none (known_at known other))
            ∙ ap (or_else (known_at known other)) (sym (at_key table key row other ∙ ap (λ b. cond b (Some row) None) e))

-- the same, where the table is told by its number
pub known_here : (known : BTreeMap Key (Option Row)) (table other : ℕ) → other ≡ table → (key : Key) (row : Option Row) → is_some (known_at known key) ≡ true
    → IsLaidUnder known table (one_edit (other, key) row) known
known_here known table other same key row there =
    subst (λ (n : ℕ). IsLaidUnder known table (one_edit (n, key) row) known) (sym same) (is_known known table key row there)

pub laid_here : (known new : BTreeMap Key (Option Row)) (table other : ℕ) → other ≡ table → (key copy : Key) → copy ≡ key → (row laid : Option Row) → laid ≡ row
    → is_some (known_at known key) ≡ false → Updates key_cmp known new copy (Some laid) → IsLaidUnder known table (one_edit (other, key) row) new
laid_here known new table other same key copy copied row laid rows none step =
    subst (λ (n : ℕ). IsLaidUnder known table (one_edit (n, key) row) new) (sym same)
    (one_under known new table key row none
    (subst (λ (k : Key). Updates key_cmp known new k (Some row)) copied (subst (λ (r : Option Row). Updates key_cmp known new copy (Some r)) rows step)))

-- a row that was replaced, with none where the one stands that came for it
pub replaced : (table : ℕ) (key new_key : Key) (row : Row) (other : ℕ) (q : Key)
    → get (laid_over (one_edit (other, key) (Some row)) (one_edit (other, new_key) None)) (table, q)
    ≡ get (finite.insert (one_edit (other, new_key) None) (other, key) (Some row)) (table, q)
replaced table key new_key row other q =
    get_over (one_edit (other, key) (Some row)) (one_edit (other, new_key) None) (table, q)
    ∙ ap (λ o. or_else o (get (one_edit (other, new_key) None) (table, q))) (get_one_edit (other, key) (Some row) (table, q))
    ∙ first (is_place (table, q) (other, key)) (Some row) (get (one_edit (other, new_key) None) (table, q))
    ∙ sym (get_edit (one_edit (other, new_key) None) (other, key) (Some row) (table, q))
  where
    first : {X : Type 0} (b : Bool) (x : X) (rest : Option X) → or_else (cond b (Some x) None) rest ≡ cond b (Some x) rest
    first true x rest = refl
    first false x rest = refl

-- ---- the rows of an emptied table

-- of another table nothing is added
pub other_emptied : (known : BTreeMap Key (Option Row)) (table : ℕ) (w : Wiped) → w.table ≢ table → IsLaidUnder known table (rows_held w) known
other_emptied known table w apart = under_none known table (rows_held w) (λ q. get_rows_held_other w (table, q) (differs table w.table apart))

-- What is known, with the rows that are left laid under it, is what is to be known.
pub record IsLaying (t : TableContent) (old now : BTreeMap Key (Option Row)) (walk : List Row) : Type 0 where
  pub rest : List (Key × Row)
  pub its : values_of rest ≡ walk
  pub own : OwnKeys (values_in t.keys.primary) rest
  pub same : (key : Key) → or_else (known_at now key) (as_edit (find key_cmp key rest)) ≡ or_else (known_at old key) (as_edit (get t.rows key))

pub begins_laying : (t : TableContent) → IsSound t → (old : BTreeMap Key (Option Row)) (walk : List Row) → walk ≡ finite.values t.rows → IsLaying t old old walk
begins_laying t sound old walk walks = record {
  rest = entries t.rows;
  its = sym walks;
  own = own_by_find (values_in t.keys.primary) (entries t.rows) (entries_sorted t.rows) (λ key row at. sound.own_key key row (get-entries t.rows key ∙ at));
  same = λ key. ap (λ o. or_else (known_at old key) (as_edit o)) (sym (get-entries t.rows key));
}

module _ (t : TableContent) (old now : BTreeMap Key (Option Row)) (walk : List Row) (was : IsLaying t old now walk) where
  -- no row is left
  pub ends_laying : walk ≡ [] → (w : Wiped) → w.contents ≡ t → IsLaidUnder old w.table (rows_held w) now
  ends_laying none w is key = by was.rest (was.its ∙ none) (was.same key)
    where
      by : (rest : List (Key × Row)) → values_of rest ≡ [] → or_else (known_at now key) (as_edit (find key_cmp key rest)) ≡ or_else (known_at old key) (as_edit (get t.rows key))
          → known_at now key ≡ or_else (known_at old key) (get (rows_held w) (w.table, key))
      by [] its same =
          sym (or_none (known_at now key)) ∙ same
          ∙ ap (or_else (known_at old key)) (ap (λ (c : TableContent). as_edit (get c.rows key)) (sym is) ∙ sym (get_rows_held_at w key))
      by (e ∷ es) its same = absurd cc

  module _ (row : Row) (next : List Row) (split : walk ≡ row ∷ next) where
    -- the next one has a key
    pub has_key : ¬ (values_in t.keys.primary row ≡ None)
    has_key none = by was.rest (was.its ∙ split) was.own
      where
        by : (rest : List (Key × Row)) → values_of rest ≡ row ∷ next → OwnKeys (values_in t.keys.primary) rest → ⊥
        by [] its own = absurd cc
        by (e ∷ es) its own =
            let row_is : e.1 ≡ row = cc in
            absurd (let clash : None ≡ Some e.0 = sym none ∙ ap (values_in t.keys.primary) (sym row_is) ∙ own.0 in cc)

    -- it is laid under what is known
    pub lays_next : (table : ℕ) (key : Key) → values_in t.keys.primary row ≡ Some key → (new : BTreeMap Key (Option Row)) → IsLaidUnder now table (one_edit (table, key) (Some row)) new
        → IsLaying t old new next
    lays_next table key keyed new step = by was.rest (was.its ∙ split) was.own was.same
      where
        behind : (b : Bool) (n : Option (Option Row)) (rest : Option Row)
            → or_else (or_else n (cond b (Some (Some row)) None)) (as_edit rest) ≡ or_else n (as_edit (cond b (Some row) rest))
        behind true None rest = refl
        behind false None rest = refl
        behind true (Some x) rest = refl
        behind false (Some x) rest = refl

        by : (rest : List (Key × Row)) → values_of rest ≡ row ∷ next → OwnKeys (values_in t.keys.primary) rest
            → ((q : Key) → or_else (known_at now q) (as_edit (find key_cmp q rest)) ≡ or_else (known_at old q) (as_edit (get t.rows q)))
            → IsLaying t old new next
        by [] its own same = absurd cc
        by (e ∷ es) its own same =
            let row_is : e.1 ≡ row = cc in
            let rest_is : values_of es ≡ next = cc in
            let both : Some e.0 ≡ Some key = sym own.0 ∙ ap (values_in t.keys.primary) row_is ∙ keyed in
            let key_is : e.0 ≡ key = cc in
            record {
              rest = es;
              its = rest_is;
              own = own.1;
              same = λ q.
                  ap (λ o. or_else o (as_edit (find key_cmp q es))) (step q ∙ ap (or_else (known_at now q)) (at_key table key (Some row) q))
                  ∙ behind (eq_by_cmp key_cmp q key) (known_at now q) (find key_cmp q es)
                  ∙ ap (λ (k : Key). or_else (known_at now q) (as_edit (cond (eq_by_cmp key_cmp q k) (Some row) (find key_cmp q es)))) (sym key_is)
                  ∙ ap (λ (r : Row). or_else (known_at now q) (as_edit (cond (eq_by_cmp key_cmp q e.0) (Some r) (find key_cmp q es)))) (sym row_is)
                  ∙ same q;
            }
