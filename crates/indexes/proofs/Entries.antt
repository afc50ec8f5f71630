-- Entries after one of them came or changed.
use Rattle.std.specs.Prelude.{◌≡◌, ℕ, true, false, List, [], ◌∷◌, Option, Some, None, refl, IsSome, is_some}
use Rattle.std.proofs.Common.{sym, ◌∙◌, ap, subst, inl, inr}
use Rattle.std.specs.Option.{unwrap_or}
use Rattle.model.specs.declared.value.Value.{Value}
use Rattle.model.specs.declared.key.Key.{Key}
use Rattle.model.specs.declared.row.Row.{Row}
use Rattle.model.specs.Rows.{value_at, values_in, with_first}
use Rattle.indexes.specs.Columns.{present, before_key}
use Rattle.indexes.proofs.Elements.{one_or_other}
use Rattle.indexes.proofs.Indexing.{has_or_not}
use Rattle.indexes.specs.Unique.{Entries, entry_at, held, held_by, number_in, with_number, SameApart, KeepsEntries, SetsEntry, PutsEntry, DropsEntry, SettlesEntry}

-- a row that has all its values in some columns has those values there
with_first_some : (o : Option Value) (rest : Option Key) (values : Key) → with_first o rest ≡ Some values → (v : Value) × (vs : Key) × (o ≡ Some v) × (rest ≡ Some vs) × (values ≡ v ∷ vs)
with_first_some None rest values e = absurd cc
with_first_some (Some v) None values e = absurd cc
with_first_some (Some v) (Some vs) values e = (v, vs, refl, refl, cc)

pub present_is : (columns : List ℕ) (row : Row) (values : Key) → values_in columns row ≡ Some values → present columns row ≡ values
present_is [] row values e = cc
present_is (column ∷ columns) row values e =
    let parts = with_first_some (value_at row column) (values_in columns row) values e in
    ap (λ o. before_key o (present columns row)) parts.2 ∙ ap (λ vs. parts.0 ∷ vs) (present_is columns row parts.1 parts.3) ∙ sym parts.4

pub none_of_false : {X : Type 0} (o : Option X) → is_some o ≡ false → o ≡ None
none_of_false None e = refl
none_of_false (Some x) e = absurd cc

-- the number at a row's values, where it has them all
pub held_by_present : (columns : List ℕ) (row : Row) (entries : Entries) (has : Key) → values_in columns row ≡ Some has → held_by entries (values_in columns row) ≡ held entries (present columns row)
held_by_present columns row entries has is = ap (held_by entries) is ∙ ap (held entries) (sym (present_is columns row has is))

-- none, where it hasn't
pub held_by_none : (columns : List ℕ) (row : Row) (entries : Entries) → is_some (values_in columns row) ≡ false → held_by entries (values_in columns row) ≡ None
held_by_none columns row entries none = ap (held_by entries) (none_of_false (values_in columns row) none)

pub some_or : {X : Type 0} (o : Option X) (x : X) → is_some o ≡ true → o ≡ Some (unwrap_or o x)
some_or None x e = absurd cc
some_or (Some y) x e = refl

-- an entry came or was written anew, with the number that it had, or with none where it came
pub entry_kept : (old new : Entries) (values : Key) (number : Option ℕ) → entry_at new values ≡ Some number
    → SameApart values old new → number_in (entry_at old values) ≡ number → KeepsEntries old new
entry_kept old new values number here beside had = record {
  numbers = λ other. elim (one_or_other values other) [
    | inl same ↦ subst (λ (v : Key). held new v ≡ held old v) same (ap number_in here ∙ sym had)
    | inr apart ↦ ap number_in (beside other apart)
  ];
  entries = λ other some. elim (one_or_other values other) [
    | inl same ↦ subst (λ (v : Key). IsSome (entry_at new v)) same (ap is_some here)
    | inr apart ↦ ap is_some (beside other apart) ∙ some
  ];
}

-- a number came to the row's values
pub number_put : (columns : List ℕ) (row : Row) (number : ℕ) (old new : Entries) (has : Key) → values_in columns row ≡ Some has
    → entry_at new has ≡ Some (Some number) → SameApart has old new → PutsEntry columns row number old new
number_put columns row number old new has is here beside = record {
  here = λ values e. let same : has ≡ values = cc in ap number_in (subst (λ (v : Key). entry_at new v ≡ Some (Some number)) same here);
  beside = λ values differs. elim (one_or_other has values) [
    | inl same ↦ absurd (differs (is ∙ ap Some same))
    | inr apart ↦ ap number_in (beside values apart)
  ];
  entries = λ values some. elim (one_or_other has values) [
    | inl same ↦ subst (λ (v : Key). IsSome (entry_at new v)) same (ap is_some here)
    | inr apart ↦ ap is_some (beside values apart) ∙ some
  ];
}

-- no entry goes where a number is set
pub sets_keep : (columns : List ℕ) (row : Row) (number : Option ℕ) (old new : Entries) → SetsEntry columns row number old new → (values : Key) → IsSome (entry_at old values) → IsSome (entry_at new values)
sets_keep columns row number old new sets values some = elim (has_or_not (values_in columns row) values) [
  | inl has ↦ ap is_some (sets.here values has) ∙ written (entry_at old values) some
  | inr has_not ↦ ap is_some (sets.beside values has_not) ∙ some
]
  where
    written : (o : Option (Option ℕ)) → IsSome o → IsSome (with_number number o)
    written None e = absurd cc
    written (Some b) e = refl

-- what changes at the present values alone changes at the row's values alone
pub set_at_present : (columns : List ℕ) (row : Row) (number : Option ℕ) (old new : Entries) (has : Key) → values_in columns row ≡ Some has
    → entry_at new (present columns row) ≡ with_number number (entry_at old (present columns row))
    → SameApart (present columns row) old new
    → SetsEntry columns row number old new
set_at_present columns row number old new has is here beside = record {
  here = λ values e. subst (λ (v : Key). entry_at new v ≡ with_number number (entry_at old v)) (present_is columns row values e) here;
  beside = λ values differs. elim (one_or_other (present columns row) values) [
    | inl same ↦ absurd (differs (is ∙ ap Some (sym (present_is columns row has is) ∙ same)))
    | inr apart ↦ beside values apart
  ];
}

pub settled_at_present : (columns : List ℕ) (row : Row) (old new : Entries) (has : Key) → values_in columns row ≡ Some has
    → DropsEntry (present columns row) old new → SettlesEntry columns row old new
settled_at_present columns row old new has is drops = record {
  gone = λ values e. subst (λ (v : Key). held old v ≡ None → entry_at new v ≡ None) (present_is columns row values e) drops.gone;
  numbers = drops.numbers;
  fewer = drops.fewer;
  beside = λ values differs. elim (one_or_other (present columns row) values) [
    | inl same ↦ absurd (differs (is ∙ ap Some (sym (present_is columns row has is) ∙ same)))
    | inr apart ↦ drops.beside values apart
  ];
}

-- without all the values nothing changes
pub nothing_settled : (columns : List ℕ) (row : Row) (entries : Entries) → is_some (values_in columns row) ≡ false → SettlesEntry columns row entries entries
nothing_settled columns row entries none = record {
  gone = λ values has. absurd (let no = none_of_false (values_in columns row) none in cc);
  numbers = λ values. refl;
  fewer = λ values some. some;
  beside = λ values differs. refl;
}

-- an entry that had no number went
pub entry_dropped : (old new : Entries) (values : Key) → held old values ≡ None → entry_at new values ≡ None → SameApart values old new → DropsEntry values old new
entry_dropped old new values none gone beside = record {
  gone = λ absent. gone;
  numbers = λ other. elim (one_or_other values other) [
    | inl same ↦ subst (λ (v : Key). held new v ≡ held old v) same (ap number_in gone ∙ sym none)
    | inr apart ↦ ap number_in (beside other apart)
  ];
  fewer = λ other some. elim (one_or_other values other) [
    | inl same ↦ absurd (let absent : entry_at new other ≡ None = subst (λ (v : Key). entry_at new v ≡ None) same gone in let no = ap is_some absent in cc)
    | inr apart ↦ ap is_some (sym (beside other apart)) ∙ some
  ];
  beside = beside;
}

pub value_of_some : (o : Option Key) → is_some o ≡ true → (values : Key) × (o ≡ Some values)
value_of_some None e = absurd cc
value_of_some (Some values) e = (values, refl)
