-- The names in what a document describes are names.
use Rattle.std.proofs.Common.{◌≡◌, ℕ, Bool, true, false, codes, List, [], ◌∷◌, Option, Some, None, refl, ap, subst, All}
use Rattle.std.specs.Option.{option_and_then}
use Rattle.std.proofs.lemmas.Option.{option_and_then_some, same_Some}
use Rattle.std.proofs.lemmas.List.Elements.{All-cons, All-nil}
use Rattle.toml.specs.Data.{Data, Items, no_items, item, Members, as_str, as_array, get_member}
use Rattle.model.specs.declared.table_def.ColumnType.{ColumnType}
use Rattle.catalog.specs.declared.draft.DefaultDraft.{DefaultDraft}
use Rattle.catalog.specs.declared.draft.ColumnDraft.{ColumnDraft}
use Rattle.catalog.specs.declared.draft.TableDraft.{TableDraft}
use Rattle.catalog.specs.Document.{each, array_of, required, optional, provided, has_only, is_name, name_of, type_of, column_of, column_in, column_keys, key_of, default_of, table_in, table_keys, fields_of, table_of, tables_of}

-- what holds of each that f reads holds of all that are read
each_keeps : {A : Type 0} (f : Data → Option A) (P : A → Type 0) → ((d : Data) (x : A) → f d ≡ Some x → P x) → (ds : Items) (xs : List A) → each f ds ≡ Some xs → All P xs
each_keeps f P keeps no_items xs h = let e : [] ≡ xs = cc in rw (← e) (All-nil P)
each_keeps {A} f P keeps (item d ds) xs h =
    option_and_then_some (λ x. option_and_then (λ ys. Some (x ∷ ys)) (each f ds)) (f d) xs h (λ x here rest.
    option_and_then_some (λ ys. Some (x ∷ ys)) (each f ds) xs rest (λ ys more is.
    let e : x ∷ ys ≡ xs = same_Some _ _ is in
    rw (← e) (All-cons P x ys (keeps d x here) (each_keeps f P keeps ds ys more))))

array_keeps : {A : Type 0} (f : Data → Option A) (P : A → Type 0) → ((d : Data) (x : A) → f d ≡ Some x → P x) → (d : Data) (xs : List A) → array_of f d ≡ Some xs → All P xs
array_keeps f P keeps d xs h = option_and_then_some (each f) (as_array d) xs h (λ ds _ is. each_keeps f P keeps ds xs is)

pub provided_some : {A : Type 0} (b : Bool) (o : Option A) (x : A) → provided b o ≡ Some x → (b ≡ true) × (o ≡ Some x)
provided_some true o x h = (refl, h)
provided_some false o x h = cc

name_of_is_name : (d : Data) (text : List ℕ) → name_of d ≡ Some text → is_name text ≡ true
name_of_is_name d text h =
    option_and_then_some (λ t. provided (is_name t) (Some t)) (as_str d) text h (λ t _ is.
    let p = provided_some (is_name t) (Some t) text is in
    let e : t ≡ text = same_Some _ _ p.1 in
    rw (← e) p.0)

required_name : (o : Option Data) (text : List ℕ) → required name_of o ≡ Some text → is_name text ≡ true
required_name None text h = cc
required_name (Some d) text h = name_of_is_name d text h

column_is_named : (name : Option (List ℕ)) (kind : Option ColumnType) (default : DefaultDraft) (c : ColumnDraft)
    → option_and_then (λ n. option_and_then (λ k. Some (record { name = n; kind = k; default = default })) kind) name ≡ Some c
    → ((text : List ℕ) → name ≡ Some text → is_name text ≡ true) → is_name c.name ≡ true
column_is_named None kind default c h named = cc
column_is_named (Some n) None default c h named = cc
column_is_named (Some n) (Some k) default c h named =
    let e : n ≡ c.name = ap (λ (x : ColumnDraft). x.name) (same_Some _ _ h) in
    rw (← e) (named n refl)

pub column_of_is_named : (d : Data) (c : ColumnDraft) → column_of d ≡ Some c → is_name c.name ≡ true
unfolding column_of column_in
column_of_is_named d c h =
    option_and_then_some column_in (fields_of column_keys d) c h (λ ms _ is.
    column_is_named (required name_of (get_member (codes "name") ms)) (required type_of (get_member (codes "type") ms)) (default_of (get_member (codes "default") ms)) c is (required_name (get_member (codes "name") ms)))

-- the names of a table and of its columns are names
pub record IsNamed (t : TableDraft) : Type 0 where
  pub namespace_named : is_name t.namespace ≡ true
  pub named : is_name t.name ≡ true
  pub columns_named : All (λ c. is_name c.name ≡ true) t.columns

table_is_named : (namespace name : Option (List ℕ)) (columns : Option (List ColumnDraft)) (primary : Option (List (List ℕ))) (uniques : Option (List (List (List ℕ)))) (t : TableDraft)
    → option_and_then (λ ns. option_and_then (λ n. option_and_then (λ cs. option_and_then (λ p. option_and_then (λ us.
    Some (record { namespace = ns; name = n; columns = cs; primary = p; uniques = us })) uniques) primary) columns) name) namespace ≡ Some t
    → ((text : List ℕ) → namespace ≡ Some text → is_name text ≡ true)
    → ((text : List ℕ) → name ≡ Some text → is_name text ≡ true)
    → ((cs : List ColumnDraft) → columns ≡ Some cs → All (λ c. is_name c.name ≡ true) cs)
    → IsNamed t
table_is_named None name columns primary uniques t h f g k = cc
table_is_named (Some ns) None columns primary uniques t h f g k = cc
table_is_named (Some ns) (Some n) None primary uniques t h f g k = cc
table_is_named (Some ns) (Some n) (Some cs) None uniques t h f g k = cc
table_is_named (Some ns) (Some n) (Some cs) (Some p) None t h f g k = cc
table_is_named (Some ns) (Some n) (Some cs) (Some p) (Some us) t h f g k =
    let e : record { namespace = ns; name = n; columns = cs; primary = p; uniques = us } ≡ t = same_Some _ _ h in
    subst IsNamed e (record { namespace_named = f ns refl; named = g n refl; columns_named = k cs refl })

columns_are_named : (o : Option Data) (cs : List ColumnDraft) → required (array_of column_of) o ≡ Some cs → All (λ c. is_name c.name ≡ true) cs
columns_are_named None cs h = cc
columns_are_named (Some d) cs h = array_keeps column_of (λ c. is_name c.name ≡ true) column_of_is_named d cs h

pub table_of_is_named : (d : Data) (t : TableDraft) → table_of d ≡ Some t → IsNamed t
unfolding table_of table_in
table_of_is_named d t h =
    option_and_then_some table_in (fields_of table_keys d) t h (λ ms _ is.
    table_is_named (required name_of (get_member (codes "namespace") ms)) (required name_of (get_member (codes "name") ms)) (required (array_of column_of) (get_member (codes "column") ms))
    (optional [] key_of (get_member (codes "primary") ms)) (optional [] (array_of key_of) (get_member (codes "unique") ms)) t is
    (required_name (get_member (codes "namespace") ms)) (required_name (get_member (codes "name") ms)) (columns_are_named (get_member (codes "column") ms)))

optional_keeps : (o : Option Data) (ts : List TableDraft) → optional [] (array_of table_of) o ≡ Some ts → All IsNamed ts
optional_keeps None ts h = let e : [] ≡ ts = same_Some _ _ h in rw (← e) (All-nil IsNamed)
optional_keeps (Some d) ts h = array_keeps table_of IsNamed table_of_is_named d ts h

pub tables_of_are_named : (doc : Members) (ts : List TableDraft) → tables_of doc ≡ Some ts → All IsNamed ts
unfolding tables_of
tables_of_are_named doc ts h =
    optional_keeps _ ts (provided_some (has_only (codes "table" ∷ []) doc) (optional [] (array_of table_of) (get_member (codes "table") doc)) ts h).1
