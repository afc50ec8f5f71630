-- All rows of all tables, as one finite map from places to rows, and when they are valid.
--     Place, is_place      a table and a primary key; two of them are one.        Rows      what stands at each place
--     TableKeys, Schema      the columns of a table's keys, and those of each table
--     values_in, key_of      a row's values in some columns, none where one of them is null
--     are_taken      some row of the table has these values in these columns
--     IsValid      each row stands at its own key, and no two rows of a table agree in a unique key
use Rattle.std.specs.Prelude.{◌≡◌, ℕ, ◌==◌, ◌&&◌, Bool, false, List, [], ◌∷◌, Option, Some, None, unwrap_or, slice_get}
use Rattle.std.specs.List.{list_any}
use Rattle.std.specs.Ordering.{nat_cmp, on, then_cmp, eq_by_cmp}
use Rattle.std.specs.Cmp.{IsTotalOrder, on_total, nat_cmp_total}
use Rattle.std.proofs.lemmas.Cmp.{then_total}
use Rattle.std.specs.FinMap.{FinMap, entries, get}
use Rattle.std.specs.declared.cmp.Ordering.{Ordering}
use Rattle.model.specs.declared.value.Value.{Value}
use Rattle.model.specs.declared.key.Key.{Key}
use Rattle.model.specs.declared.row.Row.{Row}
use Rattle.model.specs.Definition.{Definition}
use Rattle.model.specs.Key.{key_cmp, key_cmp_total}

-- where a row stands: its table, and its primary key
abbrev pub Place : Type 0
Place = ℕ × Key

-- by table, and then by key
abbrev pub place_cmp : Place → Place → Ordering
place_cmp = then_cmp (on (λ (p : Place). p.0) nat_cmp) (on (λ (p : Place). p.1) key_cmp)

pub place_cmp_total : IsTotalOrder place_cmp
place_cmp_total = then_total (on_total (λ (p : Place). p.0) nat_cmp_total) (on_total (λ (p : Place). p.1) key_cmp_total)

-- the places are equal
abbrev pub is_place : Place → Place → Bool
is_place = eq_by_cmp place_cmp

-- all rows of all tables, by their places
abbrev pub Rows : Type 0
Rows = FinMap place_cmp Row

-- the columns of a table's primary key, and of each of its unique keys
pub record TableKeys : Type 0 where
  pub primary : List ℕ
  pub uniques : List (List ℕ)

-- those of each table, in the catalog's order
abbrev pub Schema : Type 0
Schema = List TableKeys

-- of a table's definition
abbrev pub keys_of : Definition → TableKeys
keys_of d = record { primary = d.primary; uniques = d.uniques }

-- of a table; one that isn't there has none
abbrev pub keys_at : Schema → ℕ → TableKeys
keys_at schema table = unwrap_or (slice_get schema table) (record { primary = []; uniques = [] })

-- a row's value in a column; none if it is null
abbrev pub value_at : Row → ℕ → Option Value
value_at row column = unwrap_or (slice_get row column) None

-- the values with this one first; none if it or one of them is null
abbrev pub with_first : Option Value → Option Key → Option Key
with_first None rest = None
with_first (Some v) None = None
with_first (Some v) (Some vs) = Some (v ∷ vs)

-- a row's values in these columns; none if one of them is null
abbrev pub values_in : List ℕ → Row → Option Key
values_in [] row = Some []
values_in (column ∷ columns) row = with_first (value_at row column) (values_in columns row)

-- a row's primary key; none if a value of it is null
abbrev pub key_of : Schema → ℕ → Row → Option Key
key_of schema table row = values_in (keys_at schema table).primary row

-- the values that were found are these; a null agrees with nothing
abbrev pub is_key : Option Key → Key → Bool
is_key None values = false
is_key (Some found) values = eq_by_cmp key_cmp found values

-- some row of the table has these values in these columns
abbrev pub are_taken : Rows → ℕ → List ℕ → Key → Bool
are_taken rows table columns values =
    list_any (λ (e : Place × Row). (e.0.0 == table) && is_key (values_in columns e.1) values) (entries rows)

-- Two rows of one table with the same values in a unique key are one row. A null agrees with nothing.
abbrev pub IsUnique : Schema → Rows → Type 0
IsUnique schema rows =
    (table i : ℕ) (columns : List ℕ) (key other : Key) (row duplicate : Row) (values : Key)
    → slice_get (keys_at schema table).uniques i ≡ Some columns
    → get rows (table, key) ≡ Some row → get rows (table, other) ≡ Some duplicate
    → values_in columns row ≡ Some values → values_in columns duplicate ≡ Some values
    → key ≡ other

-- The rows are valid: each stands at its own key, and no two of a table agree in a unique key.
pub record IsValid (schema : Schema) (rows : Rows) : Type 0 where
  pub own_key : (table : ℕ) (key : Key) (row : Row) → get rows (table, key) ≡ Some row → key_of schema table row ≡ Some key
  pub unique : IsUnique schema rows
