-- A catalog has what is described, where nothing is wrong with that.
use Rattle.std.proofs.Common.{◌≡◌, ℕ, inl, inr, true, List, get_or, map, Some, option_map, refl, sym, ap, ◌∙◌}
use Rattle.std.specs.List.{slice_get, position_or_len}
use Rattle.std.specs.Str.{bytes_eq}
use Rattle.std.proofs.lemmas.Bool.{true_from_ne_false, false≢true}
use Rattle.std.proofs.lemmas.List.{length-map}
use Rattle.std.proofs.lemmas.List.Sums.{passes_at_first}
use Rattle.std.proofs.lemmas.Option.{slice_get-map, slice_get-get_or}
use Rattle.std.proofs.lemmas.Slice.Eq.{bytes_eq-Decides}
use Rattle.catalog.specs.declared.draft.DefaultDraft.{DefaultDraft}
use Rattle.catalog.specs.declared.draft.DefaultDraft.TheVariants.{Missing, Given, OtherKind}
use Rattle.catalog.specs.declared.draft.ColumnDraft.{ColumnDraft}
use Rattle.catalog.specs.declared.fault.CatalogFault.{CatalogFault}
use Rattle.catalog.specs.declared.fault.CatalogFault.TheVariants.{KeyColumnUnknown, BadDefault}
use Rattle.catalog.specs.declared.draft.TableDraft.{TableDraft}
use Rattle.catalog.specs.Faults.{has_column}
use Rattle.catalog.specs.Definitions.{column_from, value_given, default_from, column_number, key_from, definition_from}
use Rattle.catalog.specs.Statements.{IsUnknownKey, IsTablesFault, IsEach, NamesKey, HasDefault, Defines, DefinesAll}
use Rattle.catalog.proofs.Distinct.{position_or_len-within}
use Rattle.catalog.proofs.Places.{list_any_finds}
use Rattle.catalog.proofs.Wrong.{column_named}

-- each element beside what a function makes of it
each_made : {A B : Type 0} (R : A → B → Type 0) (f : A → B) (xs : List A) → ((place : ℕ) (x : A) → slice_get xs place ≡ Some x → R x (f x)) → IsEach R xs (map f xs)
each_made R f xs holds = record {
  count = length-map xs f;
  each = λ place x at. (f x, slice_get-map f xs place ∙ ap (option_map f) at, holds place x at);
}

-- ---- keys

module _ (columns : List ColumnDraft) where
  number_named : (name : List ℕ) → has_column columns name ≡ true → (c : ColumnDraft) × (slice_get columns (column_number columns name) ≡ Some c) × (c.name ≡ name)
  number_named name has =
      let found = list_any_finds (λ (c : ColumnDraft). bytes_eq name c.name) columns has in
      let within = position_or_len-within (λ (c : ColumnDraft). bytes_eq name c.name) columns has in
      let number = position_or_len (λ (c : ColumnDraft). bytes_eq name c.name) columns in (
        get_or columns number found.1,
        slice_get-get_or columns number found.1 within,
        sym ((bytes_eq-Decides name (get_or columns number found.1).name).0 (passes_at_first (λ (c : ColumnDraft). bytes_eq name c.name) columns found.1 within)),
      )

  pub names_key : (names : List (List ℕ)) → ¬ (IsUnknownKey columns names) → NamesKey (map column_from columns) names (key_from columns names)
  names_key names known = each_made _ (column_number columns) names (λ k name at.
      let has = true_from_ne_false (has_column columns name) (λ lacks. known (inl (k, name, at, λ some. false≢true (sym lacks ∙ (column_named columns name).1 some)))) in
      let column = number_named name has in
      (column_from column.0, slice_get-map column_from columns (column_number columns name) ∙ ap (option_map column_from) column.1, column.2))

-- ---- defaults

has_default : (default : DefaultDraft) → ¬ (default ≡ OtherKind) → HasDefault default (value_given default)
has_default Missing own = refl
has_default (Given value) own = refl
has_default OtherKind own = absurd (own refl)

-- ---- tables

module _ (ts : List TableDraft) (faultless : (fault : CatalogFault) → ¬ (IsTablesFault ts fault)) where
  defines : (place : ℕ) (t : TableDraft) → slice_get ts place ≡ Some t → Defines t (definition_from t)
  defines place t at = record {
    namespace = refl;
    name = refl;
    columns = each_made _ column_from t.columns (λ number c here. refl);
    defaults = each_made _ default_from t.columns (λ number c here. has_default c.default (λ other. faultless BadDefault (place, t, at, (number, c, here, inl other))));
    primary = names_key t.columns t.primary (λ unknown. faultless KeyColumnUnknown (place, t, at, inl unknown));
    uniques = each_made _ (key_from t.columns) t.uniques (λ k names here. names_key t.columns names (λ unknown. faultless KeyColumnUnknown (place, t, at, inr (k, names, here, inr unknown))));
  }

  pub defines_all : DefinesAll ts (map definition_from ts)
  defines_all = each_made Defines definition_from ts defines
