-- The types of columns, a file each. Of each it says which text of the publisher spells a value, how the report
-- prints one, and by what values are ordered; and that what is printed is read as the value again.
--     value_of      the value of a type that a text spells
--     value_text    a value as the report prints it
--     Spells        the same as `value_of`, as a sentence
pub mod Int
pub mod Text
pub mod Boolean
use Rattle.std.specs.Prelude.{◌≡◌, ◌≢◌, ◌↔◌, ℕ, ℤ, Bool, codes, List, Option, Some, None, option_map, FitsSigned, refl}
use Rattle.std.proofs.Common.{sym, ap, ◌∙◌}
use Rattle.std.specs.Int.{w64}
use Rattle.std.proofs.lemmas.Option.{same_Some}
use Rattle.model.specs.MappedLemmas.{mapped}
use Rattle.model.specs.declared.table_def.ColumnType.{ColumnType}
use Rattle.model.specs.declared.table_def.ColumnType.TheVariants as types
use Rattle.model.specs.declared.value.Value.{Value}
use Rattle.model.specs.declared.value.Value.TheVariants as values
use Rattle.model.specs.Types.Int.{int_of, int_text, SpellsInt, int_spelled, int_printed}
use Rattle.model.specs.Types.Text.{escaped_text, unescape, text_printed, never_null}
use Rattle.model.specs.Types.Boolean.{bool_of, bool_text, SpellsBool, bool_spelled, bool_printed}

-- the value of a column's type, if the text spells one
abbrev pub value_of : ColumnType → List ℕ → Option Value
value_of types.Int text = option_map values.Int (int_of text)
value_of types.Text text = Some (values.Text text)
value_of types.Bool text = option_map values.Bool (bool_of text)

-- a value as the report prints it, and `\N` for null
abbrev pub value_text : Option Value → List ℕ
value_text None = codes "\\N"
value_text (Some (values.Int n)) = int_text n
value_text (Some (values.Text text)) = escaped_text text
value_text (Some (values.Bool truth)) = bool_text truth

-- the text spells this value of the type
abbrev pub Spells : ColumnType → List ℕ → Value → Type 0
Spells types.Int text value = (n : ℤ) × SpellsInt text n × (value ≡ values.Int n)
Spells types.Text text value = value ≡ values.Text text
Spells types.Bool text value = (truth : Bool) × SpellsBool text truth × (value ≡ values.Bool truth)

-- a text is read as the value of the type that it spells, and as none if it spells none
abbrev pub TextsAreReadAsSpelled : Type 0
TextsAreReadAsSpelled = (kind : ColumnType) (text : List ℕ) (value : Value) → (value_of kind text ≡ Some value) ↔ Spells kind text value

-- what is printed of a value is read as that value, a text once its escapes are undone, and null is printed as no text is
pub record PrintedIsRead : Type 0 where
  pub int : (n : ℤ) → FitsSigned w64 n → value_of types.Int (value_text (Some (values.Int n))) ≡ Some (values.Int n)
  pub text : (text : List ℕ) → value_of types.Text (unescape (value_text (Some (values.Text text)))) ≡ Some (values.Text text)
  pub bool : (truth : Bool) → value_of types.Bool (value_text (Some (values.Bool truth))) ≡ Some (values.Bool truth)
  pub null : (text : List ℕ) → value_text (Some (values.Text text)) ≢ value_text None

-- ---- the laws

-- a value that is there is what a type makes of what is read
made : {A : Type 0} {o : Option A} {Spelled : A → Type 0} (make : A → Value) (value : Value) → ((x : A) → (o ≡ Some x) ↔ Spelled x)
    → (option_map make o ≡ Some value) ↔ ((x : A) × Spelled x × (value ≡ make x))
made {A} {o} {Spelled} make value read = (
  λ e. let is = mapped make o value e in (is.0, (read is.0).0 is.1, sym is.2),
  λ s. ap (option_map make) ((read s.0).1 s.1) ∙ ap Some (sym s.2),
)

-- a text is read as the value that it spells
pub value_spelled : TextsAreReadAsSpelled
value_spelled types.Int text value = made values.Int value (int_spelled text)
value_spelled types.Text text value = (λ e. sym (same_Some _ _ e), λ s. ap Some (sym s))
value_spelled types.Bool text value = made values.Bool value (bool_spelled text)

-- what is printed of a value is read as that value
pub value_printed : PrintedIsRead
value_printed = record {
  int = λ n fits. ap (option_map values.Int) (int_printed n fits);
  text = λ text. ap (λ t. Some (values.Text t)) (text_printed text);
  bool = λ truth. ap (option_map values.Bool) (bool_printed truth);
  null = never_null;
}
