-- What the tests of tables find wrong is what is wrong with them.
use Rattle.std.proofs.Common.{◌≡◌, ℕ, zero, suc, ◌<◌, ◌⊎◌, ⊎_elim, inl, inr, Bool, true, false, not, List, [], ◌∷◌, length, Option, Some, None, refl, sym, ◌∙◌, subst, arith}
use Rattle.std.specs.Prelude.{if◌then◌else◌}
use Rattle.std.specs.Bool.{Decides}
use Rattle.std.specs.List.{list_any, list_all}
use Rattle.std.specs.Str.{bytes_eq}
use Rattle.std.proofs.lemmas.Bool.{or_parts, or_cases, and_cases, and_from, not_from_false, not_from_true, not-true, not-false, false≢true, true_from_ne_false, false_from_ne_true, and_parts, eqb-true}
use Rattle.std.proofs.lemmas.Bool.Decides.{Decides-or, Decides-ltb}
use Rattle.std.proofs.lemmas.Option.{same_Some}
use Rattle.std.proofs.lemmas.Slice.Eq.{bytes_eq-Decides}
use Rattle.model.specs.declared.table_def.ColumnType.{ColumnType}
use Rattle.model.specs.declared.table_def.ColumnType.TheVariants.{Int, Text, Bool as Truth}
use Rattle.model.specs.declared.value.Value.{Value}
use Rattle.model.specs.declared.value.Value.TheVariants.{Int as IntValue, Text as TextValue, Bool as TruthValue}
use Rattle.catalog.specs.declared.draft.DefaultDraft.{DefaultDraft}
use Rattle.catalog.specs.declared.draft.DefaultDraft.TheVariants.{Missing, Given, OtherKind}
use Rattle.catalog.specs.declared.draft.ColumnDraft.{ColumnDraft}
use Rattle.catalog.specs.declared.fault.CatalogFault.{CatalogFault}
use Rattle.catalog.specs.declared.fault.CatalogFault.TheVariants.{DuplicateTable, DuplicateColumn, NoPrimaryKey, KeyColumnUnknown, BadDefault, OverLimit}
use Rattle.catalog.specs.declared.draft.TableDraft.{TableDraft}
use Rattle.catalog.specs.First.{IsFirst}
use Rattle.catalog.proofs.Firsts.{first_at}
use Rattle.catalog.specs.Faults.{repeats, is_empty, same_table, same_column, repeats_column, lacks_primary, has_column, names_columns, is_unknown_unique, has_unknown_key, is_of_type, is_bad_default, has_bad_default, is_over_limit, first_fault}
use Rattle.catalog.specs.Statements.{SomeTwo, SomeOne, IsUnknownKey, IsOfType, IsWrongDefault, IsTablesFault, order}
use Rattle.catalog.proofs.Places.{list_any_finds, list_any_lacks, list_all_passes, list_all_fails}

-- ---- one element, and two

module _ {A : Type 0} (p : A → Bool) (P : A → Type 0) (decides : (x : A) → Decides (p x) (P x)) where
  pub some_one : (xs : List A) → Decides (list_any p xs) (SomeOne xs P)
  some_one xs = (
    λ e.
        let found = list_any_finds p xs e in
        (found.0, found.1, found.2, (decides found.1).0 found.3),
    λ (place, x, at, holds). true_from_ne_false _ (λ none. false≢true (sym (list_any_lacks p xs place x none at) ∙ (decides x).1 holds)),
  )

  some_other : (xs : List A) → Decides (not (list_all p xs)) (SomeOne xs (λ x. ¬ (P x)))
  some_other xs = (
    λ e.
        let fails = list_all_fails p xs (not-true _ e) in
        (fails.0, fails.1, fails.2, λ holds. false≢true (sym fails.3 ∙ (decides fails.1).1 holds)),
    λ (place, x, at, fails). not_from_false _ (false_from_ne_true _ (λ all. fails ((decides x).0 (list_all_passes p xs place x all at)))),
  )

module _ {A : Type 0} (same : A → A → Bool) (R : A → A → Type 0) (decides : (x y : A) → Decides (same x y) (R x y)) where
  two_found : (xs : List A) → repeats same xs ≡ true → SomeTwo xs R
  two_found [] e = cc
  two_found (x ∷ xs) e =
      ⊎_elim
      (λ here.
      let found = list_any_finds (same x) xs here in
      (0, suc found.0, x, found.1, omega arith, refl, found.2, (decides x found.1).0 found.3))
      (λ later.
      let rest = two_found xs later in
      (suc rest.0, suc rest.1, rest.2, rest.3, omega (arith, rest.4), rest.5, rest.6, rest.7))
      (or_cases (list_any (same x) xs) (repeats same xs) e)

  none_two : (xs : List A) → repeats same xs ≡ false → ¬ (SomeTwo xs R)
  none_two [] e (place, later, x, y, below, one, other, holds) = cc
  none_two (z ∷ zs) e (zero, zero, x, y, below, one, other, holds) = absurd (omega (arith, below))
  none_two (z ∷ zs) e (suc place, zero, x, y, below, one, other, holds) = absurd (omega (arith, below))
  none_two (z ∷ zs) e (zero, suc later, x, y, below, one, other, holds) =
      let none = (or_parts (list_any (same z) zs) (repeats same zs) e).0 in
      let there : same z y ≡ true = (decides z y).1 (subst (λ (w : A). R w y) (sym (same_Some z x one)) holds) in
      false≢true (sym (list_any_lacks (same z) zs later y none other) ∙ there)
  none_two (z ∷ zs) e (suc place, suc later, x, y, below, one, other, holds) =
      none_two zs (or_parts (list_any (same z) zs) (repeats same zs) e).1 (place, later, x, y, omega (arith, below), one, other, holds)

  some_two : (xs : List A) → Decides (repeats same xs) (SomeTwo xs R)
  some_two xs = (two_found xs, λ two. true_from_ne_false _ (λ none. none_two xs none two))

-- ---- keys

named : (name : List ℕ) (c : ColumnDraft) → Decides (bytes_eq name c.name) (c.name ≡ name)
named name c = (λ e. sym ((bytes_eq-Decides name c.name).0 e), λ is. (bytes_eq-Decides name c.name).1 (sym is))

pub column_named : (columns : List ColumnDraft) (name : List ℕ) → Decides (has_column columns name) (SomeOne columns (λ c. c.name ≡ name))
column_named columns name = some_one (λ c. bytes_eq name c.name) (λ c. c.name ≡ name) (named name) columns

key_unknown : (columns : List ColumnDraft) (names : List (List ℕ)) → Decides (not (names_columns columns names)) (IsUnknownKey columns names)
key_unknown columns names =
    let lacks = some_other (has_column columns) (λ name. SomeOne columns (λ c. c.name ≡ name)) (column_named columns) names in
    let twice = some_two bytes_eq (λ name other. name ≡ other) bytes_eq-Decides names in (
      λ e.
          ⊎_elim
          (λ (some : list_all (has_column columns) names ≡ false). inl (lacks.0 (not_from_false _ some)))
          (λ (again : not (repeats bytes_eq names) ≡ false). inr (twice.0 (not-false _ again)))
          (and_cases _ _ (not-true _ e)),
      λ unknown. not_from_false _ (false_from_ne_true _ (λ both.
          let tests = and_parts (list_all (has_column columns) names) (not (repeats bytes_eq names)) both in
          ⊎_elim
          (λ (some : SomeOne names (λ name. ¬ (SomeOne columns (λ c. c.name ≡ name)))). false≢true (sym (not_from_true _ tests.0) ∙ lacks.1 some))
          (λ (again : SomeTwo names (λ name other. name ≡ other)). false≢true (sym (not-true _ tests.1) ∙ twice.1 again))
          unknown)),
    )

empty_decides : {A : Type 0} (xs : List A) → Decides (is_empty xs) (xs ≡ [])
empty_decides [] = (λ e. refl, λ e. refl)
empty_decides (x ∷ xs) = (λ e. absurd (omega (arith, eqb-true (length (x ∷ xs)) 0 e)), λ e. cc)

unique_unknown : (columns : List ColumnDraft) (names : List (List ℕ)) → Decides (is_unknown_unique columns names) ((names ≡ []) ⊎ IsUnknownKey columns names)
unique_unknown columns names = Decides-or _ _ (empty_decides names) (key_unknown columns names)

table_key_unknown : (t : TableDraft) → Decides (has_unknown_key t) (IsUnknownKey t.columns t.primary ⊎ SomeOne t.uniques (λ key. (key ≡ []) ⊎ IsUnknownKey t.columns key))
table_key_unknown t =
    Decides-or _ _ (key_unknown t.columns t.primary)
    (some_one (is_unknown_unique t.columns) (λ key. (key ≡ []) ⊎ IsUnknownKey t.columns key) (unique_unknown t.columns) t.uniques)

-- ---- defaults

of_type : (kind : ColumnType) (value : Value) → Decides (is_of_type kind value) (IsOfType kind value)
of_type Int (IntValue n) = (λ e. (n, refl), λ is. refl)
of_type Int (TextValue text) = (λ e. cc, λ (n, is). cc)
of_type Int (TruthValue b) = (λ e. cc, λ (n, is). cc)
of_type Text (IntValue n) = (λ e. cc, λ (text, is). cc)
of_type Text (TextValue text) = (λ e. (text, refl), λ is. refl)
of_type Text (TruthValue b) = (λ e. cc, λ (text, is). cc)
of_type Truth (IntValue n) = (λ e. cc, λ (b, is). cc)
of_type Truth (TextValue text) = (λ e. cc, λ (b, is). cc)
of_type Truth (TruthValue b) = (λ e. (b, refl), λ is. refl)

default_wrong : (name : List ℕ) (kind : ColumnType) (default : DefaultDraft) → Decides (is_bad_default (record { name = name; kind = kind; default = default })) (IsWrongDefault kind default)
default_wrong name kind Missing = (λ e. cc, λ wrong. ⊎_elim (λ (is : Missing ≡ OtherKind). cc) (λ (value, is, other). cc) wrong)
default_wrong name kind (Given value) = (
  λ e. inr (value, refl, λ is. false≢true (sym (not-true _ e) ∙ (of_type kind value).1 is)),
  λ wrong.
      ⊎_elim
      (λ (is : Given value ≡ OtherKind). cc)
      (λ (given : (v : Value) × (Given value ≡ Given v) × (¬ (IsOfType kind v))).
      let same : value ≡ given.0 = cc in
      not_from_false _ (false_from_ne_true _ (λ is. given.2 (subst (IsOfType kind) same ((of_type kind value).0 is)))))
      wrong,
)
default_wrong name kind OtherKind = (λ e. inl refl, λ wrong. refl)

table_default_wrong : (t : TableDraft) → Decides (has_bad_default t) (SomeOne t.columns (λ c. IsWrongDefault c.kind c.default))
table_default_wrong t = some_one is_bad_default (λ c. IsWrongDefault c.kind c.default) (λ c. default_wrong c.name c.kind c.default) t.columns

-- ---- tables

tables_same : (t u : TableDraft) → Decides (same_table t u) ((t.namespace ≡ u.namespace) × (t.name ≡ u.name))
tables_same t u = (
  λ e.
      let parts = and_parts (bytes_eq t.namespace u.namespace) (bytes_eq t.name u.name) e in
      ((bytes_eq-Decides t.namespace u.namespace).0 parts.0, (bytes_eq-Decides t.name u.name).0 parts.1),
  λ is. and_from _ _ ((bytes_eq-Decides t.namespace u.namespace).1 is.0) ((bytes_eq-Decides t.name u.name).1 is.1),
)

column_twice : (t : TableDraft) → Decides (repeats_column t) (SomeTwo t.columns (λ c d. c.name ≡ d.name))
column_twice t = some_two same_column (λ c d. c.name ≡ d.name) (λ c d. bytes_eq-Decides c.name d.name) t.columns

over_limit : (t : TableDraft) → Decides (is_over_limit t) ((1600 < length t.columns) ⊎ (16 < length t.uniques))
over_limit t = Decides-or _ _ (Decides-ltb 1600 (length t.columns)) (Decides-ltb 16 (length t.uniques))

module _ (ts : List TableDraft) where
  -- what the first fault tells, or that there is none
  abbrev pub Stands : Option CatalogFault → Type 0
  Stands None = (fault : CatalogFault) → ¬ (IsTablesFault ts fault)
  Stands (Some fault) = IsFirst order (IsTablesFault ts) fault

  fails : {P : Type 0} → Decides false P → ¬ P
  fails decides holds = false≢true (decides.1 holds)

  by_tests : (table column primary key default over : Bool)
      → Decides table (IsTablesFault ts DuplicateTable) → Decides column (IsTablesFault ts DuplicateColumn) → Decides primary (IsTablesFault ts NoPrimaryKey)
      → Decides key (IsTablesFault ts KeyColumnUnknown) → Decides default (IsTablesFault ts BadDefault) → Decides over (IsTablesFault ts OverLimit)
      → Stands (if table then Some DuplicateTable else (if column then Some DuplicateColumn else (if primary then Some NoPrimaryKey
      else (if key then Some KeyColumnUnknown else (if default then Some BadDefault else (if over then Some OverLimit else None))))))
  by_tests true column primary key default over a b c d e f = first_at order (IsTablesFault ts) 2 DuplicateTable refl (a.0 refl) (λ x. x, (λ x. x, tt))
  by_tests false true primary key default over a b c d e f = first_at order (IsTablesFault ts) 3 DuplicateColumn refl (b.0 refl) (λ x. x, (λ x. x, (fails a, tt)))
  by_tests false false true key default over a b c d e f = first_at order (IsTablesFault ts) 4 NoPrimaryKey refl (c.0 refl) (λ x. x, (λ x. x, (fails a, (fails b, tt))))
  by_tests false false false true default over a b c d e f = first_at order (IsTablesFault ts) 5 KeyColumnUnknown refl (d.0 refl) (λ x. x, (λ x. x, (fails a, (fails b, (fails c, tt)))))
  by_tests false false false false true over a b c d e f = first_at order (IsTablesFault ts) 6 BadDefault refl (e.0 refl) (λ x. x, (λ x. x, (fails a, (fails b, (fails c, (fails d, tt))))))
  by_tests false false false false false true a b c d e f = first_at order (IsTablesFault ts) 7 OverLimit refl (f.0 refl) (λ x. x, (λ x. x, (fails a, (fails b, (fails c, (fails d, (fails e, tt)))))))
  by_tests false false false false false false a b c d e f = none
    where
      none : (fault : CatalogFault) → ¬ (IsTablesFault ts fault)
      none DuplicateTable = fails a
      none DuplicateColumn = fails b
      none NoPrimaryKey = fails c
      none KeyColumnUnknown = fails d
      none BadDefault = fails e
      none OverLimit = fails f
      none _ = λ x. x

  pub first_stands : Stands (first_fault ts)
  unfolding first_fault
  first_stands =
      by_tests _ _ _ _ _ _
      (some_two same_table (λ t u. (t.namespace ≡ u.namespace) × (t.name ≡ u.name)) tables_same ts)
      (some_one repeats_column (λ t. SomeTwo t.columns (λ c d. c.name ≡ d.name)) column_twice ts)
      (some_one lacks_primary (λ t. t.primary ≡ []) (λ t. empty_decides t.primary) ts)
      (some_one has_unknown_key (λ t. IsUnknownKey t.columns t.primary ⊎ SomeOne t.uniques (λ key. (key ≡ []) ⊎ IsUnknownKey t.columns key)) table_key_unknown ts)
      (some_one has_bad_default (λ t. SomeOne t.columns (λ c. IsWrongDefault c.kind c.default)) table_default_wrong ts)
      (Decides-or _ _ (Decides-ltb 1024 (length ts)) (some_one is_over_limit (λ t. (1600 < length t.columns) ⊎ (16 < length t.uniques)) over_limit ts))
