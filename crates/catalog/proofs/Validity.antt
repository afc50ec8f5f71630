-- Tables to which no fault applies make a valid catalog.
use Rattle.std.proofs.Common.{◌≡◌, ◌≢◌, ℕ, Bool, true, false, not, nat_lt, ◌<◌, cond, List, [], ◌∷◌, length, get_or, map, Option, Some, None, Ok, IsTrue, refl, sym, ◌∙◌, ap, subst, arith, All}
use Rattle.std.specs.List.{AllZip, list_any, list_all}
use Rattle.std.specs.Str.{bytes_eq}
use Rattle.std.proofs.lemmas.List.{length-map}
use Rattle.std.proofs.lemmas.Bool.{or_parts, and_parts, false≢true}
use Rattle.std.proofs.lemmas.Bool.Decides.{nat_tests}
use Rattle.std.proofs.lemmas.List.Elements.{All-map}
use Rattle.std.proofs.lemmas.List.Sums.{AllPass-from_list_all, passes_at_first}
use Rattle.std.proofs.lemmas.Slice.Eq.{bytes_eq-Decides}
use Rattle.toml.specs.Data.{Members}
use Rattle.toml.specs.Parse.{parse_document}
use Rattle.model.specs.Definition.{Definition}
use Rattle.model.specs.declared.table_def.ColumnType.{ColumnType}
use Rattle.model.specs.declared.table_def.ColumnType.TheVariants.{Int}
use Rattle.catalog.specs.declared.draft.DefaultDraft.{DefaultDraft}
use Rattle.catalog.specs.declared.draft.DefaultDraft.TheVariants.{Missing, Given, OtherKind}
use Rattle.catalog.specs.declared.draft.ColumnDraft.{ColumnDraft}
use Rattle.catalog.specs.declared.fault.CatalogFault.{CatalogFault}
use Rattle.catalog.specs.declared.draft.TableDraft.{TableDraft}
use Rattle.catalog.specs.Document.{is_name, tables_of}
use Rattle.catalog.specs.Faults.{repeats, is_empty, same_table, same_column, repeats_column, lacks_primary, has_column, names_columns, is_unknown_unique, has_unknown_key, is_of_type, is_bad_default, has_bad_default, is_over_limit, are_over_limit, first_fault}
use Rattle.catalog.specs.Definitions.{column_from, value_given, default_from, column_number, key_from, definition_from}
use Rattle.catalog.specs.Valid.{IsKey, IsDefaultOf, IsValidTable, IsValid}
use Rattle.catalog.proofs.Distinct.{All-from_list_any, position_or_len-within, AllPairs-map-distinct}
use Rattle.catalog.specs.Catalog.{catalog_from, catalog_of_tables, catalog_of_document, catalog_of}
use Rattle.catalog.proofs.Named.{IsNamed, tables_of_are_named}

differ : (a b : List ℕ) → bytes_eq a b ≡ false → a ≢ b
differ a b apart same = false≢true (sym apart ∙ (bytes_eq-Decides a b).1 same)

not_true : (b : Bool) → not b ≡ false → b ≡ true
not_true true h = refl
not_true false h = cc

not_false : (b : Bool) → not b ≡ true → b ≡ false
not_false true h = cc
not_false false h = refl

-- two names of columns whose numbers are the same are the same
numbers_apart : (columns : List ColumnDraft) (a b : List ℕ) → has_column columns a ≡ true → has_column columns b ≡ true → bytes_eq a b ≡ false → column_number columns a ≢ column_number columns b
numbers_apart columns a b has_a has_b apart same =
    let d : ColumnDraft = record { name = []; kind = Int; default = Missing } in
    let at_a = passes_at_first (λ (c : ColumnDraft). bytes_eq a c.name) columns d (position_or_len-within (λ (c : ColumnDraft). bytes_eq a c.name) columns has_a) in
    let at_b = passes_at_first (λ (c : ColumnDraft). bytes_eq b c.name) columns d (position_or_len-within (λ (c : ColumnDraft). bytes_eq b c.name) columns has_b) in
    let is_a = (bytes_eq-Decides a (get_or columns (column_number columns a) d).name).0 at_a in
    let is_b = (bytes_eq-Decides b (get_or columns (column_number columns b) d).name).0 at_b in
    let same_column_name : (get_or columns (column_number columns a) d).name ≡ (get_or columns (column_number columns b) d).name = ap (λ n. (get_or columns n d).name) same in
    differ a b apart (is_a ∙ same_column_name ∙ sym is_b)

key_is_valid : (columns : List ColumnDraft) (names : List (List ℕ)) → is_empty names ≡ false → names_columns columns names ≡ true → IsKey (length columns) (key_from columns names)
key_is_valid columns names some known =
    let (are, once) = and_parts (list_all (has_column columns) names) (not (repeats bytes_eq names)) known in
    let each : All (λ name. has_column columns name ≡ true) names = AllPass-from_list_all (has_column columns) names are in
    record {
      has_column = rw length-map (grind (arith, nat_tests));
      in_range = All-map (λ n. n < length columns) (column_number columns) names (λ k d within. position_or_len-within (λ (c : ColumnDraft). bytes_eq (get_or names k d) c.name) columns (each k d within));
      distinct = AllPairs-map-distinct bytes_eq (λ name. has_column columns name ≡ true) (column_number columns) (λ m n. m ≢ n) (numbers_apart columns) names each (not_false (repeats bytes_eq names) once);
    }

default_fits : (kind : ColumnType) (name : List ℕ) (default : DefaultDraft) → is_bad_default (record { name = name; kind = kind; default = default }) ≡ false → IsDefaultOf kind (value_given default)
default_fits kind name Missing h = tt
default_fits kind name (Given value) h = not_true (is_of_type kind value) h
default_fits kind name OtherKind h = tt

defaults_fit : (columns : List ColumnDraft) → list_any is_bad_default columns ≡ false → AllZip (λ c default. IsDefaultOf c.kind default) (map column_from columns) (map default_from columns)
defaults_fit [] h = tt
defaults_fit (c ∷ cs) h =
    let (here, more) = or_parts (is_bad_default c) (list_any is_bad_default cs) h in
    (default_fits c.kind c.name c.default here, defaults_fit cs more)

-- no fault applies to a table
record IsFaultless (t : TableDraft) : Type 0 where
  columns_distinct : repeats_column t ≡ false
  has_primary : lacks_primary t ≡ false
  keys_known : has_unknown_key t ≡ false
  defaults_good : has_bad_default t ≡ false
  within_limit : is_over_limit t ≡ false

unique_is_valid : (columns : List ColumnDraft) (names : List (List ℕ)) → is_unknown_unique columns names ≡ false → IsKey (length columns) (key_from columns names)
unique_is_valid columns names h =
    let (some, known) = or_parts (is_empty names) (not (names_columns columns names)) h in
    key_is_valid columns names some (not_true (names_columns columns names) known)

table_is_valid : (t : TableDraft) → IsNamed t → IsFaultless t → IsValidTable (definition_from t)
table_is_valid t names faultless =
    let (primary, uniques) = or_parts (not (names_columns t.columns t.primary)) (list_any (is_unknown_unique t.columns) t.uniques) faultless.keys_known in
    let (few_columns, few_uniques) = or_parts (nat_lt 1600 (length t.columns)) (nat_lt 16 (length t.uniques)) faultless.within_limit in
    let same_length : length (map column_from t.columns) ≡ length t.columns = simp length-map in
    record {
      namespace_named = names.namespace_named;
      named = names.named;
      columns_named = All-map (λ c. IsTrue (is_name c.name)) column_from t.columns names.columns_named;
      columns_distinct = AllPairs-map-distinct same_column (λ _. Unit {0}) column_from (λ c d. c.name ≢ d.name) (λ c d _ _ apart. differ c.name d.name apart) t.columns (λ _ _ _. tt) faultless.columns_distinct;
      columns_limit = rw same_length (grind (arith, nat_tests));
      primary_key = rw same_length (key_is_valid t.columns t.primary faultless.has_primary (not_true (names_columns t.columns t.primary) primary));
      unique_keys = rw same_length (All-map (IsKey (length t.columns)) (key_from t.columns) t.uniques (λ k d within. unique_is_valid t.columns (get_or t.uniques k d) (All-from_list_any (is_unknown_unique t.columns) t.uniques uniques k d within)));
      uniques_limit = rw length-map (grind (arith, nat_tests));
      defaults_fit = defaults_fit t.columns faultless.defaults_good;
    }

-- no fault applies to the tables
record AreFaultless (ts : List TableDraft) : Type 0 where
  distinct : repeats same_table ts ≡ false
  each : All IsFaultless ts
  within_limit : nat_lt 1024 (length ts) ≡ false

passed : (b : Bool) (fault : CatalogFault) (others : Option CatalogFault) → cond b (Some fault) others ≡ None → (b ≡ false) × (others ≡ None)
passed true fault others h = cc
passed false fault others h = (refl, h)

are_faultless : (ts : List TableDraft) → first_fault ts ≡ None → AreFaultless ts
unfolding first_fault
are_faultless ts h =
    let (tables, h1) = passed (repeats same_table ts) _ _ h in
    let (columns, h2) = passed (list_any repeats_column ts) _ _ h1 in
    let (primaries, h3) = passed (list_any lacks_primary ts) _ _ h2 in
    let (keys, h4) = passed (list_any has_unknown_key ts) _ _ h3 in
    let (defaults, h5) = passed (list_any has_bad_default ts) _ _ h4 in
    let (limits, _) = passed (are_over_limit ts) _ _ h5 in
    let (few, each_few) = or_parts (nat_lt 1024 (length ts)) (list_any is_over_limit ts) limits in
    record {
      distinct = tables;
      each = λ k d within. record {
        columns_distinct = All-from_list_any repeats_column ts columns k d within;
        has_primary = All-from_list_any lacks_primary ts primaries k d within;
        keys_known = All-from_list_any has_unknown_key ts keys k d within;
        defaults_good = All-from_list_any has_bad_default ts defaults k d within;
        within_limit = All-from_list_any is_over_limit ts each_few k d within;
      };
      within_limit = few;
    }

tables_apart : (t u : TableDraft) → same_table t u ≡ false → t.namespace ≡ u.namespace → t.name ≢ u.name
tables_apart t u apart same_namespace same_name =
    let e1 : bytes_eq t.namespace u.namespace ≡ true = (bytes_eq-Decides t.namespace u.namespace).1 same_namespace in
    let e2 : bytes_eq t.name u.name ≡ true = (bytes_eq-Decides t.name u.name).1 same_name in
    false≢true (sym apart ∙ rw (e1, e2))

are_valid : (ts : List TableDraft) → All IsNamed ts → first_fault ts ≡ None → IsValid (map definition_from ts)
are_valid ts names h =
    let faultless = are_faultless ts h in
    let few = faultless.within_limit in
    record {
      tables_valid = All-map IsValidTable definition_from ts (λ k d within. table_is_valid (get_or ts k d) (names k d within) (faultless.each k d within));
      tables_distinct = AllPairs-map-distinct same_table (λ _. Unit {0}) definition_from (λ t u. t.namespace ≡ u.namespace → t.name ≢ u.name) (λ t u _ _ apart. tables_apart t u apart) ts (λ _ _ _. tt) faultless.distinct;
      tables_limit = rw length-map (grind (arith, nat_tests));
    }

from_fault : (ts : List TableDraft) → All IsNamed ts → (fault : Option CatalogFault) → first_fault ts ≡ fault → (c : List Definition) → catalog_from ts fault ≡ Ok c → IsValid c
from_fault ts names (Some fault) is c h = cc
from_fault ts names None is c h =
    let e : map definition_from ts ≡ c = cc in
    subst IsValid e (are_valid ts names is)

from_tables : (doc : Members) (ts : Option (List TableDraft)) → tables_of doc ≡ ts → (c : List Definition) → catalog_of_tables ts ≡ Ok c → IsValid c
from_tables doc None is c h = cc
from_tables doc (Some ts) is c h = from_fault ts (tables_of_are_named doc ts is) (first_fault ts) refl c h

from_document : (doc : Option Members) (c : List Definition) → catalog_of_document doc ≡ Ok c → IsValid c
from_document None c h = cc
from_document (Some doc) c h = from_tables doc (tables_of doc) refl c h

-- a catalog that a text describes is valid
pub catalog_of_is_valid : (text : List ℕ) (c : List Definition) → catalog_of text ≡ Ok c → IsValid c
catalog_of_is_valid text c h = from_document (parse_document text) c h
