-- The steps of a merge of a table's rows with what stands at some keys.
--     GoesOn      what stands at the keys so far is behind the rows
--     own_table, IsMerging      rows stand at their own keys; the rows that a walk has left are to be merged
use Rattle.std.specs.Prelude.{◌≡◌, ℕ, Bool, true, false, if◌then◌else◌, List, [], ◌∷◌, ◌++◌, Option, Some, None, refl, length, ◌<◌, slice_get}
use Rattle.std.proofs.Common.{sym, ◌∙◌, ap, subst, arith, true≢false, is_gt}
use Rattle.std.specs.Ordering.{is_eq}
use Rattle.std.specs.declared.cmp.Ordering.{Ordering}
use Rattle.std.specs.declared.cmp.Ordering.TheVariants.{Less, Equal, Greater}
use Rattle.std.specs.Map.{values_of}
use Rattle.std.specs.BTreeMap as tree
use Rattle.std.specs.BTreeMap.{BTreeMap}
use Rattle.std.specs.FinMap.{find, get, entries}
use Rattle.std.specs.FinMap.Entries.{by_order}
use Rattle.std.proofs.lemmas.List.{append_assoc}
use Rattle.model.specs.declared.key.Key.{Key}
use Rattle.model.specs.declared.row.Row.{Row}
use Rattle.model.specs.Key.{key_cmp}
use Rattle.model.specs.Rows.{Rows, Schema, IsValid, key_of}
use Rattle.model.specs.TableRows.{rows_of_table}
use Rattle.live_tables.specs.Merged.{or_row, row_list, kept, kept_each, around, merged, PutsUpTo, PutsRest}
use Rattle.live_tables.proofs.MergedLemmas.{merged_sorted, find_merged}
use Rattle.change.specs.OwnKeys.{OwnKeys, own_by_find}
use Rattle.live_tables.proofs.TableRows.{keyed, get_keyed, table_sorted, values_keyed, found, ordered, rows_by_keys}

pub values_kept : (key : Key) (o : Option Row) (es : List (Key × Row)) → values_of (kept key o es) ≡ row_list o ++ values_of es
values_kept key None es = refl
values_kept key (Some row) es = refl

-- ---- how two keys compare, and the first of some

pub greater : (r : Ordering) → true ≡ is_gt r → r ≡ Greater
greater Less e = absurd (true≢false e)
greater Equal e = absurd (true≢false e)
greater Greater e = refl

pub equal : (r : Ordering) → true ≡ is_eq r → r ≡ Equal
equal Less e = absurd (true≢false e)
equal Equal e = refl
equal Greater e = absurd (true≢false e)

pub less : (r : Ordering) → false ≡ is_gt r → false ≡ is_eq r → r ≡ Less
less Less e f = refl
less Equal e f = absurd (true≢false (sym f))
less Greater e f = absurd (true≢false (sym e))

module _ {X : Type 0} where
  pub split_first : (xs : List X) (x : X) → slice_get xs 0 ≡ Some x → (later : List X) × (xs ≡ x ∷ later)
  split_first [] x e = absurd cc
  split_first (y ∷ ys) x e = let same : y ≡ x = cc in (ys, ap (λ (z : X). z ∷ ys) same)

  pub same_first : (xs : List X) (x y : X) (later : List X) → slice_get xs 0 ≡ Some x → xs ≡ y ∷ later → y ≡ x
  same_first xs x y later at split = let there : Some y ≡ Some x = sym (ap (λ (l : List X). slice_get l 0) split) ∙ at in cc

  pub no_first : (xs : List X) → (0 < length xs → false ≡ true) → xs ≡ []
  no_first [] none = refl
  no_first (x ∷ xs) none = absurd (true≢false (sym (none (omega arith))))

-- ---- up to a key

-- What stood at the keys so far is behind the rows.
abbrev pub GoesOn : Key → List Row → List (Key × Option Row) → List Row → List (Key × Option Row) → Type 0
GoesOn key rows stands now left =
    (e : Key × Row) (others : List (Key × Option Row) → List (Key × Row)) → e.0 ≡ key
    → rows ++ values_of (around e others stands) ≡ now ++ values_of (around e others left)

module _ (key : Key) (rows : List Row) (stands : List (Key × Option Row)) (now : List Row) (left : List (Key × Option Row)) (was : GoesOn key rows stands now left) where
  -- no key is left
  pub none_left : left ≡ [] → PutsUpTo key rows stands false now left
  none_left none = λ e others is.
      was e others is
      ∙ subst (λ (l : List (Key × Option Row)). now ++ values_of (around e others l) ≡ now ++ values_of (e ∷ others l)) (sym none) refl

  module _ (h : Key × Option Row) (later : List (Key × Option Row)) (split : left ≡ h ∷ later) where
    turn : (r : Ordering) → key_cmp h.0 key ≡ r → (e : Key × Row) (others : List (Key × Option Row) → List (Key × Row)) → e.0 ≡ key
        → rows ++ values_of (around e others stands)
        ≡ now ++ values_of (by_order r (kept h.0 h.1 (around e others later)) (kept h.0 h.1 (others later)) (e ∷ others (h ∷ later)))
    turn r at e others is =
        was e others is ∙ ap (λ (l : List (Key × Option Row)). now ++ values_of (around e others l)) split
        ∙ ap (λ (o : Ordering). now ++ values_of (by_order o (kept h.0 h.1 (around e others later)) (kept h.0 h.1 (others later)) (e ∷ others (h ∷ later))))
        (ap (key_cmp h.0) is ∙ at)

    -- the first key that is left is above
    pub one_above : key_cmp h.0 key ≡ Greater → PutsUpTo key rows stands false now left
    one_above at = λ e others is.
        turn Greater at e others is ∙ ap (λ (l : List (Key × Option Row)). now ++ values_of (e ∷ others l)) (sym split)

    module _ (new : List Row) (put : new ≡ now ++ row_list h.1) where
      behind : (es : List (Key × Row)) → now ++ values_of (kept h.0 h.1 es) ≡ new ++ values_of es
      behind es =
          ap (λ (l : List Row). now ++ l) (values_kept h.0 h.1 es) ∙ sym (append_assoc now (row_list h.1) (values_of es))
          ∙ ap (λ (l : List Row). l ++ values_of es) (sym put)

      -- it is below
      pub one_below : key_cmp h.0 key ≡ Less → GoesOn key rows stands new later
      one_below at = λ e others is. turn Less at e others is ∙ behind (around e others later)

      -- it is the key
      pub one_here : key_cmp h.0 key ≡ Equal → PutsUpTo key rows stands true new later
      one_here at = λ e others is. turn Equal at e others is ∙ behind (others later)

-- where no key is left, nothing is put
pub none_put : (key : Key) (rows : List Row) (stands : List (Key × Option Row)) → stands ≡ [] → PutsUpTo key rows stands false rows stands
none_put key rows stands none = none_left key rows stands rows stands (λ e others is. refl) none

-- ---- all that is left

-- one more
pub rest_next : (rows : List Row) (stands : List (Key × Option Row)) (now : List Row) (left : List (Key × Option Row))
    → rows ++ values_of (kept_each stands) ≡ now ++ values_of (kept_each left) → (h : Key × Option Row) (later : List (Key × Option Row)) → left ≡ h ∷ later
    → (new : List Row) → new ≡ now ++ row_list h.1 → rows ++ values_of (kept_each stands) ≡ new ++ values_of (kept_each later)
rest_next rows stands now left was h later split new put =
    was ∙ ap (λ (l : List (Key × Option Row)). now ++ values_of (kept_each l)) split
    ∙ ap (λ (l : List Row). now ++ l) (values_kept h.0 h.1 (kept_each later)) ∙ sym (append_assoc now (row_list h.1) (values_of (kept_each later)))
    ∙ ap (λ (l : List Row). l ++ values_of (kept_each later)) (sym put)

-- ---- a table

-- the rows of a table that is valid stand at their own keys
pub own_table : (schema : Schema) (rows : Rows) → IsValid schema rows → (table : ℕ) → OwnKeys (key_of schema table) (keyed table (entries rows))
own_table schema rows valid table =
    own_by_find (key_of schema table) (keyed table (entries rows)) (table_sorted rows table) (λ key row at. valid.own_key table key row (sym (get_keyed rows table key) ∙ at))

-- What is to come are these rows and then those that a walk has left, merged with what stands at the keys that are left.
pub record IsMerging (schema : Schema) (table : ℕ) (all rows : List Row) (left : List (Key × Option Row)) (walk : List Row) : Type 0 where
  pub rest : List (Key × Row)
  pub its : values_of rest ≡ walk
  pub own : OwnKeys (key_of schema table) rest
  pub same : all ≡ rows ++ values_of (merged rest left)

-- at first
pub begins_merging : (schema : Schema) (rows : Rows) → IsValid schema rows → (table : ℕ) (stands : List (Key × Option Row)) (now walk : List Row) → now ≡ []
    → walk ≡ rows_of_table rows table → IsMerging schema table (values_of (merged (keyed table (entries rows)) stands)) now stands walk
begins_merging schema rows valid table stands now walk none walks = record {
  rest = keyed table (entries rows);
  its = values_keyed table (entries rows) ∙ sym walks;
  own = own_table schema rows valid table;
  same = ap (λ (l : List Row). l ++ values_of (merged (keyed table (entries rows)) stands)) (sym none);
}

module _ (schema : Schema) (table : ℕ) (all rows : List Row) (left : List (Key × Option Row)) (walk : List Row) (was : IsMerging schema table all rows left walk) where
  -- no row is left
  pub ends_merging : walk ≡ [] → (new : List Row) → PutsRest rows left new → new ≡ all
  ends_merging none new put = by was.rest (was.its ∙ none) was.same
    where
      by : (rest : List (Key × Row)) → values_of rest ≡ [] → all ≡ rows ++ values_of (merged rest left) → new ≡ all
      by [] is same = put ∙ sym same
      by (e ∷ es) is same = absurd cc

  module _ (row : Row) (next : List Row) (split : walk ≡ row ∷ next) where
    -- what stands at the keys up to its own is put, and the row itself where nothing stands there
    pub merges_next : (found : Bool) (now : List Row) (later : List (Key × Option Row)) → ((key : Key) → key_of schema table row ≡ Some key → PutsUpTo key rows left found now later)
        → (new : List Row) → new ≡ (if found then now else now ++ row ∷ []) → IsMerging schema table all new later next
    merges_next found now later put new pushed = by was.rest (was.its ∙ split) was.own was.same
      where
        -- the row before others, unless something was found, is behind what was put
        puts : (b : Bool) (e : Key × Row) (es : List (Key × Row)) → e.1 ≡ row → new ≡ (if b then now else now ++ row ∷ []) → now ++ values_of (if b then es else e ∷ es) ≡ new ++ values_of es
        puts true e es row_is is = ap (λ (l : List Row). l ++ values_of es) (sym is)
        puts false e es row_is is =
            ap (λ (r : Row). now ++ r ∷ values_of es) row_is
            ∙ sym (append_assoc now (row ∷ []) (values_of es)) ∙ ap (λ (l : List Row). l ++ values_of es) (sym is)

        by : (rest : List (Key × Row)) → values_of rest ≡ row ∷ next → OwnKeys (key_of schema table) rest → all ≡ rows ++ values_of (merged rest left)
            → IsMerging schema table all new later next
        by [] its own same = absurd cc
        by (e ∷ es) its own same =
            let row_is : e.1 ≡ row = cc in
            let rest_is : values_of es ≡ next = cc in
            record {
              rest = es;
              its = rest_is;
              own = own.1;
              same = same ∙ put e.0 (ap (key_of schema table) (sym row_is) ∙ own.0) e (merged es) refl ∙ puts found e (merged es later) row_is pushed;
            }

-- rows that have at each key what stands there, or else the table's row, are those of the merge
pub merged_rows : (rows : Rows) (table : ℕ) (stands : BTreeMap Key (Option Row)) → tree.IsOrdered key_cmp stands
    → (all : Rows) → ((key : Key) → or_row (tree.get key_cmp stands key) (get rows (table, key)) ≡ get all (table, key))
    → values_of (merged (keyed table (entries rows)) stands.entries) ≡ rows_of_table all table
merged_rows rows table stands sorted all tells =
    rows_by_keys (merged (keyed table (entries rows)) stands.entries)
    (merged_sorted (keyed table (entries rows)) (table_sorted rows table) stands.entries (ordered stands.entries sorted)) all table
    (λ key. find_merged key (keyed table (entries rows)) (table_sorted rows table) stands.entries (ordered stands.entries sorted)
    ∙ ap (or_row (find key_cmp key stands.entries)) (get_keyed rows table key)
    ∙ ap (λ (o : Option (Option Row)). or_row o (get rows (table, key))) (sym (found key stands.entries)) ∙ tells key)
