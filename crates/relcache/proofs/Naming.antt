-- What a relation's names find: its table, and the columns and key of that.
use Rattle.std.proofs.Common.{◌≡◌, ◌≢◌, ℕ, zero, suc, ◌<◌, Bool, true, false, ◌||◌, codes, List, [], ◌∷◌, length, Option, Some, None, option_map, refl, sym, ap, ◌∙◌, subst, arith, ⊎_elim}
use Rattle.std.specs.List.{slice_get, position, list_any, list_all}
use Rattle.std.specs.Option.{option_and_then, option_flatten}
use Rattle.std.specs.Str.{bytes_eq}
use Rattle.std.proofs.lemmas.Bool.{and_parts, or_parts, and_from, false≢true, cases_order}
use Rattle.std.proofs.lemmas.Option.{same_Some}
use Rattle.std.proofs.lemmas.Slice.Eq.{bytes_eq-Decides}
use Rattle.model.specs.declared.table_def.Column.{Column}
use Rattle.model.specs.declared.value.Value.{Value}
use Rattle.model.specs.Definition.{Definition}
use Rattle.relcache.specs.declared.published.PublishedColumn.{PublishedColumn}
use Rattle.relcache.specs.declared.mapping.Field.{Field}
use Rattle.relcache.specs.declared.mapping.ColumnSource.TheVariants.{Sent, Default}
use Rattle.relcache.specs.Published.{Published}
use Rattle.relcache.specs.Mapping.{namespace_of, is_table_of, table_of, is_named, has_column, has_twice, field_at, sent_or, source_of, sources_of, is_key_named, key_field_of, key_field_at, key_of, mapped}
use Rattle.relcache.specs.Statements.{IsNamedBy, HasNoTable, IsTableOf, Publishes, Flags, PublishesOther, PublishesTwice, IsKeyColumn, IsKeyUnsent, Maps}
use Rattle.relcache.proofs.Each.{length-each, each_gives, each_fails}
use Rattle.relcache.proofs.Fitting.{length-sources_of, found_at}
use Rattle.catalog.proofs.Places.{position_passes, position_first, position_none, position_is, position_is_none, list_any_finds, list_any_lacks, list_all_passes, list_all_fails}

same_bytes : (a b : List ℕ) → bytes_eq a b ≡ true → a ≡ b
same_bytes a b = (bytes_eq-Decides a b).0

bytes_same : (a b : List ℕ) → a ≡ b → bytes_eq a b ≡ true
bytes_same a b = (bytes_eq-Decides a b).1

-- ---- tables

schema_is : (namespace own : List ℕ) → bytes_eq own (namespace_of namespace) ≡ true → (namespace ≢ [] → own ≡ namespace) × (namespace ≡ [] → own ≡ codes "pg_catalog")
schema_is [] own e = (λ some. absurd (some refl), λ _. same_bytes own (codes "pg_catalog") e)
schema_is (c ∷ cs) own e = (λ _. same_bytes own (c ∷ cs) e, λ none. cc)

schema_from : (namespace own : List ℕ) → (namespace ≢ [] → own ≡ namespace) → (namespace ≡ [] → own ≡ codes "pg_catalog") → bytes_eq own (namespace_of namespace) ≡ true
schema_from [] own some none = bytes_same own (codes "pg_catalog") (none refl)
schema_from (c ∷ cs) own some none = bytes_same own (c ∷ cs) (some (λ e. cc))

pub named_by : (r : Published) (t : Definition) → is_table_of r t ≡ true → IsNamedBy t r
named_by r t e =
    let parts = and_parts (bytes_eq t.namespace (namespace_of r.namespace)) (bytes_eq t.name r.name) e in
    let schema = schema_is r.namespace t.namespace parts.0 in
    record { name = same_bytes t.name r.name parts.1; namespace = schema.0; system = schema.1 }

pub is_table : (r : Published) (t : Definition) → IsNamedBy t r → is_table_of r t ≡ true
is_table r t named = and_from _ _ (schema_from r.namespace t.namespace named.namespace named.system) (bytes_same t.name r.name named.name)

not_named : (r : Published) (t : Definition) → is_table_of r t ≡ false → ¬ (IsNamedBy t r)
not_named r t e named = false≢true (sym e ∙ is_table r t named)

module _ (r : Published) (tables : List Definition) where
  table_at : (o : Option ℕ) → position (is_table_of r) tables ≡ o → (t : ℕ × Definition) → option_and_then (λ place. option_map (λ table. (place, table)) (slice_get tables place)) o ≡ Some t → IsTableOf tables r t.0 t.1
  table_at None is t e = cc
  table_at (Some place) is t e =
      let found = position_passes (is_table_of r) tables place is in
      let at = found_at place (slice_get tables place) t e in
      let same : found.0 ≡ t.1 = same_Some _ _ (sym found.1 ∙ at.1) in
      let here : IsTableOf tables r place t.1 = record {
        stands = at.1;
        named = named_by r t.1 (ap (is_table_of r) (sym same) ∙ found.2);
        first = λ before other below stands. not_named r other (position_first (is_table_of r) tables place before other is below stands);
      } in
      subst (λ (p : ℕ). IsTableOf tables r p t.1) at.0 here

  pub table_found : (t : ℕ × Definition) → table_of r tables ≡ Some t → IsTableOf tables r t.0 t.1
  table_found t e = table_at (position (is_table_of r) tables) refl t e

  table_lacks : (o : Option ℕ) → position (is_table_of r) tables ≡ o → option_and_then {U = ℕ × Definition} (λ place. option_map (λ table. (place, table)) (slice_get tables place)) o ≡ None → HasNoTable tables r
  table_lacks None is e = λ place t at. not_named r t (position_none (is_table_of r) tables place t is at)
  table_lacks (Some place) is e =
      let found = position_passes (is_table_of r) tables place is in
      let pair : ℕ × Definition = (place, found.0) in
      let there : Some pair ≡ None = ap (option_map {U = ℕ × Definition} (λ (table : Definition). (place, table))) (sym found.1) ∙ e in
      cc

  pub table_missing : table_of r tables ≡ None → HasNoTable tables r
  table_missing e = table_lacks (position (is_table_of r) tables) refl e

-- the first table is one table
pub one_table : (tables : List Definition) (r : Published) (i j : ℕ) (t u : Definition) → IsTableOf tables r i t → IsTableOf tables r j u → (i ≡ j) × (t ≡ u)
one_table tables r i j t u one other =
    let same : i ≡ j =
    ⊎_elim
    (λ (same : i ≡ j). same)
    (λ apart.
    ⊎_elim
    (λ (below : i < j). absurd (other.first i t below one.stands one.named))
    (λ (above : j < i). absurd (one.first j u above other.stands other.named))
    apart)
    (cases_order i j)
    in
    (same, same_Some t u (sym one.stands ∙ ap (slice_get tables) same ∙ other.stands))

-- ---- columns

pub columns_had : (columns : List Column) (sent : List PublishedColumn) → list_all (has_column columns) sent ≡ true → ¬ (PublishesOther sent columns)
columns_had columns sent all other =
    let column = other.2.0 in
    let had = list_any_finds (λ (c : Column). bytes_eq c.name column.name) columns (list_all_passes (has_column columns) sent other.0 column all other.2.1) in
    other.3 (had.0, had.1, had.2, same_bytes had.1.name column.name had.3 ∙ other.2.2)

pub column_lacks : (columns : List Column) (sent : List PublishedColumn) → list_all (has_column columns) sent ≡ false → PublishesOther sent columns
column_lacks columns sent some =
    let lacks = list_all_fails (has_column columns) sent some in (
      lacks.0,
      lacks.1.name,
      (lacks.1, lacks.2, refl),
      λ had.
          false≢true (sym (list_any_lacks (λ (c : Column). bytes_eq c.name lacks.1.name) columns had.0 had.1 lacks.3 had.2) ∙ bytes_same had.1.name lacks.1.name had.3),
    )

pub twice : (sent : List PublishedColumn) → has_twice sent ≡ true → PublishesTwice sent
twice [] e = cc
twice (c ∷ cs) e = here (list_any (is_named c.name) cs) refl e (twice cs)
  where
    here : (b : Bool) → list_any (is_named c.name) cs ≡ b → (b || has_twice cs) ≡ true → (has_twice cs ≡ true → PublishesTwice cs) → PublishesTwice (c ∷ cs)
    here true is e later =
        let found = list_any_finds (is_named c.name) cs is in
        (0, suc found.0, c.name, omega arith, (c, refl, refl), (found.1, found.2, same_bytes found.1.name c.name found.3))
    here false is e later =
        let rest = later e in
        (suc rest.0, suc rest.1, rest.2, omega (arith, rest.3), rest.4, rest.5)

pub once : (sent : List PublishedColumn) → has_twice sent ≡ false → ¬ (PublishesTwice sent)
once [] e (place, later, name, below, one, other) = cc
once (c ∷ cs) e (zero, zero, name, below, one, other) = absurd (omega arith)
once (c ∷ cs) e (suc place, zero, name, below, one, other) = absurd (omega arith)
once (c ∷ cs) e (zero, suc later, name, below, one, other) =
    let none = (or_parts (list_any (is_named c.name) cs) (has_twice cs) e).0 in
    let same : other.0.name ≡ c.name = other.2 ∙ sym one.2 ∙ ap (λ (x : PublishedColumn). x.name) (sym (same_Some c one.0 one.1)) in
    false≢true (sym (list_any_lacks (is_named c.name) cs later other.0 none other.1) ∙ bytes_same other.0.name c.name same)
once (c ∷ cs) e (suc place, suc later, name, below, one, other) =
    once cs (or_parts (list_any (is_named c.name) cs) (has_twice cs) e).1 (place, later, name, omega (arith, below), one, other)

-- ---- the mapping of a relation that names no column twice

module _ (sent : List PublishedColumn) (once : ¬ (PublishesTwice sent)) where
  -- a name is published in one place
  one_place : (i k : ℕ) (name : List ℕ) → Publishes sent i name → Publishes sent k name → i ≡ k
  one_place i k name one other =
      ⊎_elim
      (λ (same : i ≡ k). same)
      (λ apart.
      ⊎_elim
      (λ (below : i < k). absurd (once (i, k, name, below, one, other)))
      (λ (above : k < i). absurd (once (k, i, name, above, other, one)))
      apart)
      (cases_order i k)

  place_of : (place : ℕ) (name : List ℕ) → Publishes sent place name → position (is_named name) sent ≡ Some place
  place_of place name published =
      position_is (is_named name) sent place published.0 published.1 (bytes_same published.0.name name published.2)
      (λ i y at passes. one_place i place name (y, at, same_bytes y.name name passes) published)

  key_place_of : (place : ℕ) (name : List ℕ) → Flags sent place name → position (is_key_named name) sent ≡ Some place
  key_place_of place name flagged =
      position_is (is_key_named name) sent place flagged.0 flagged.1 (and_from _ _ (bytes_same flagged.0.name name flagged.2) flagged.3)
      (λ i y at passes. one_place i place name
      (y, at, same_bytes y.name name (and_parts (bytes_eq y.name name) y.is_key passes).0) (flagged.0, flagged.1, flagged.2))

  no_place_of : (name : List ℕ) → ((place : ℕ) → ¬ (Publishes sent place name)) → position (is_named name) sent ≡ None
  no_place_of name none = position_is_none (is_named name) sent (λ i y at passes. none i (y, at, same_bytes y.name name passes))

  -- ---- columns

  source_at : (columns : List Column) (defaults : List (Option Value)) (number : ℕ) (c : Column) → slice_get columns number ≡ Some c
      → slice_get (sources_of sent columns defaults) number ≡ Some (source_of sent c (option_flatten (slice_get defaults number)))
  source_at [] defaults number c at = cc
  source_at (x ∷ xs) [] zero c at = ap (λ (y : Column). Some (source_of sent y None)) (same_Some x c at)
  source_at (x ∷ xs) (d ∷ ds) zero c at = ap (λ (y : Column). Some (source_of sent y d)) (same_Some x c at)
  source_at (x ∷ xs) [] (suc number) c at = source_at xs [] number c at
  source_at (x ∷ xs) (d ∷ ds) (suc number) c at = source_at xs ds number c at

  source_by_name : (place : ℕ) (c : Column) (default : Option Value) → Publishes sent place c.name → source_of sent c default ≡ Sent (field_at c place)
  source_by_name place c default published = ap (λ o. sent_or default (option_map (field_at c) o)) (place_of place c.name published)

  source_by_default : (c : Column) (default : Option Value) → ((place : ℕ) → ¬ (Publishes sent place c.name)) → source_of sent c default ≡ Default default
  source_by_default c default none = ap (λ o. sent_or default (option_map (field_at c) o)) (no_place_of c.name none)

  -- ---- the key

  key_field_by_name : (columns : List Column) (number place : ℕ) (c : Column) → slice_get columns number ≡ Some c → Flags sent place c.name → key_field_at sent columns number ≡ Some (field_at c place)
  key_field_by_name columns number place c at flagged =
      ap (option_and_then (key_field_of sent)) at ∙ ap (option_map (field_at c)) (key_place_of place c.name flagged)

  -- a key column without a field is not flagged, and one with a field is
  key_field_lacks : (columns : List Column) (number place : ℕ) (c : Column) → key_field_at sent columns number ≡ None → slice_get columns number ≡ Some c → ¬ (Flags sent place c.name)
  key_field_lacks columns number place c none at flagged =
      let there : None ≡ Some (field_at c place) = sym none ∙ key_field_by_name columns number place c at flagged in
      cc

  flagged_at : (columns : List Column) (o : Option Column) (q : Column → Option ℕ) (field : Field) → option_and_then (λ c. option_map (field_at c) (q c)) o ≡ Some field → (c : Column) × (place : ℕ) × (o ≡ Some c) × (q c ≡ Some place)
  flagged_at columns None q field e = cc
  flagged_at columns (Some c) q field e = here (q c) refl e
    where
      here : (o : Option ℕ) → q c ≡ o → option_map (field_at c) o ≡ Some field → (d : Column) × (place : ℕ) × (Some c ≡ Some d) × (q d ≡ Some place)
      here None is h = cc
      here (Some place) is h = (c, place, refl, is)

  key_field_flagged : (columns : List Column) (number : ℕ) (field : Field) → key_field_at sent columns number ≡ Some field → (c : Column) × (place : ℕ) × (slice_get columns number ≡ Some c) × Flags sent place c.name
  key_field_flagged columns number field e =
      let at = flagged_at columns (slice_get columns number) (λ c. position (is_key_named c.name) sent) field e in
      let found = position_passes (is_key_named at.0.name) sent at.1 at.3 in
      let parts = and_parts (bytes_eq found.0.name at.0.name) found.0.is_key found.2 in
      (at.0, at.1, at.2, (found.0, found.1, same_bytes found.0.name at.0.name parts.0, parts.1))

  module _ (t : Definition) where
    unsent_from : key_of sent t ≡ None → IsKeyUnsent sent t
    unsent_from none =
        let fails = each_fails (key_field_at sent t.columns) t.primary none in
        (fails.0, fails.1, fails.2, λ c place at. key_field_lacks t.columns fails.1 place c fails.3 at)

    none_from : (key : Option (List Field)) → key_of sent t ≡ key → IsKeyUnsent sent t → key ≡ None
    none_from None is unsent = refl
    none_from (Some fields) is unsent =
        let gives = each_gives (key_field_at sent t.columns) t.primary fields unsent.0 unsent.1 is unsent.2 in
        let flagged = key_field_flagged t.columns unsent.1 gives.0 gives.1 in
        absurd (unsent.3 flagged.0 flagged.1 flagged.2 flagged.3)

    key_at : (fields : List Field) (k place : ℕ) (c : Column) → key_of sent t ≡ Some fields → IsKeyColumn t k c → Flags sent place c.name → slice_get fields k ≡ Some (field_at c place)
    key_at fields k place c is column flagged =
        let gives = each_gives (key_field_at sent t.columns) t.primary fields k column.0 is column.1 in
        gives.2 ∙ sym gives.1 ∙ key_field_by_name t.columns column.0 place c column.2 flagged

    pub maps : (r : Published) (place : ℕ) → r.columns ≡ sent → Maps sent t (mapped r (place, t))
    maps r place same = subst (λ (columns : List PublishedColumn). Maps sent t (record { table = place; published = length columns; columns = sources_of columns t.columns t.defaults; key = key_of columns t })) (sym same) (record {
      published = refl;
      width = length-sources_of sent t.columns t.defaults;
      by_name = λ number place c at published. source_at t.columns t.defaults number c at ∙ ap Some (source_by_name place c _ published);
      by_default = λ number c default at none given.
          source_at t.columns t.defaults number c at ∙ ap (λ (o : Option (Option Value)). Some (source_of sent c (option_flatten o))) given ∙ ap Some (source_by_default c default none);
      by_null = λ number c at none given.
          source_at t.columns t.defaults number c at ∙ ap (λ (o : Option (Option Value)). Some (source_of sent c (option_flatten o))) given ∙ ap Some (source_by_default c None none);
      unsent = (unsent_from, λ unsent. none_from (key_of sent t) refl unsent);
      key_width = λ fields is. length-each (key_field_at sent t.columns) t.primary fields is;
      key = λ fields k place c is column flagged. key_at fields k place c is column flagged;
    })
