-- What is read of a field, an array and a string is what stands there.
use Rattle.std.proofs.Common.{◌≡◌, ℕ, zero, suc, ◌==◌, Bool, true, false, not, codes, List, [], ◌∷◌, length, get_or, Option, Some, None, refl, sym, ap, ◌∙◌, subst, arith}
use Rattle.std.specs.List.{Contains, slice_get, list_any}
use Rattle.std.specs.Option.{option_and_then}
use Rattle.std.specs.Str.{bytes_eq}
use Rattle.std.specs.Cmp.Lexicographic.{slice_cmp}
use Rattle.std.specs.Prelude.{if◌then◌else◌}
use Rattle.std.specs.Ordering.{nat_cmp, is_eq, match_ordering}
use Rattle.std.specs.declared.cmp.Ordering.{Ordering}
use Rattle.std.specs.declared.cmp.Ordering.TheVariants.{Less, Equal, Greater}
use Rattle.std.proofs.lemmas.Bool.{and_parts, and_from, false≢true, false_from_ne_true, not_from_false, not-true, eq-eqb, eqb-true, ne_eqb}
use Rattle.std.proofs.lemmas.List.Folds.{list_any_at}
use Rattle.std.proofs.lemmas.Map.Text.{is_eq-slice_cmp}
use Rattle.std.proofs.lemmas.Option.{option_and_then_some, same_Some, slice_get_within, get_or_from_slice_get}
use Rattle.std.proofs.lemmas.Slice.Eq.{bytes_eq-Decides}
use Rattle.toml.specs.Data.{Data, string, integer, array, table, Items, no_items, item, get_item, Members, no_members, member, get_member, as_str, as_array, as_table}
use Rattle.model.specs.declared.table_def.ColumnType.{ColumnType}
use Rattle.model.specs.declared.table_def.ColumnType.TheVariants.{Int, Text, Bool as Truth}
use Rattle.catalog.specs.declared.draft.DefaultDraft.{DefaultDraft}
use Rattle.catalog.specs.Document.{◌>>=◌, provided, each, array_of, required, optional, has_only, fields_of, is_name, name_of, type_named, type_of, given}
use Rattle.catalog.specs.Statements.{HasOnly, HasFields, IsArrayOf, IsName, IsString, word_of, Defaults}
use Rattle.catalog.proofs.Places.{list_any_finds}

-- ---- names of fields

equal_from : (o : Ordering) → is_eq o ≡ true → o ≡ Equal
equal_from Less e = cc
equal_from Equal e = refl
equal_from Greater e = cc

same_key : (k l : List ℕ) → slice_cmp nat_cmp k l ≡ Equal → k ≡ l
same_key k l e = (bytes_eq-Decides k l).0 (sym (is_eq-slice_cmp k l) ∙ ap is_eq e)

key_same : (k : List ℕ) → slice_cmp nat_cmp k k ≡ Equal
key_same k = equal_from (slice_cmp nat_cmp k k) (is_eq-slice_cmp k k ∙ (bytes_eq-Decides k k).1 refl)

contains_tested : (name : List ℕ) (names : List (List ℕ)) → list_any (bytes_eq name) names ≡ true → Contains names name
contains_tested name names e =
    let found = list_any_finds (bytes_eq name) names e in
    let same : found.1 ≡ name = sym ((bytes_eq-Decides name found.1).0 found.3) in
    (found.0, slice_get_within names found.0 found.1 found.2, get_or_from_slice_get names found.0 found.1 name found.2 ∙ same)

tested_contains : (name : List ℕ) (names : List (List ℕ)) → Contains names name → list_any (bytes_eq name) names ≡ true
tested_contains name names (k, within, is) =
    list_any_at (bytes_eq name) names k name within ((bytes_eq-Decides name (get_or names k name)).1 (sym is))

pub only_from_test : (names : List (List ℕ)) (fields : Members) → has_only names fields ≡ true → HasOnly names fields
only_from_test names no_members e name value at = cc
only_from_test names (member l d ms) e name value at =
    let tests = and_parts (list_any (bytes_eq l) names) (has_only names ms) e in
    by_order (slice_cmp nat_cmp name l) refl at (contains_tested l names tests.0) (only_from_test names ms tests.1 name value)
  where
    by_order : (o : Ordering) → slice_cmp nat_cmp name l ≡ o → match_ordering o (get_member name ms) (Some d) (get_member name ms) ≡ Some value → Contains names l → (get_member name ms ≡ Some value → Contains names name) → Contains names name
    by_order Less is here first later = later here
    by_order Equal is here first later = subst (Contains names) (sym (same_key name l is)) first
    by_order Greater is here first later = later here

pub test_from_only : (names : List (List ℕ)) (fields : Members) → HasOnly names fields → has_only names fields ≡ true
test_from_only names no_members only = refl
test_from_only names (member l d ms) only =
    and_from _ _
    (tested_contains l names (only l d (ap (λ o. match_ordering o (get_member l ms) (Some d) (get_member l ms)) (key_same l))))
    (test_from_only names ms (λ name value at. by_order name value (slice_cmp nat_cmp name l) refl at))
  where
    by_order : (name : List ℕ) (value : Data) (o : Ordering) → slice_cmp nat_cmp name l ≡ o → get_member name ms ≡ Some value → Contains names name
    by_order name value Less is at = only name value (ap (λ o. match_ordering o (get_member name ms) (Some d) (get_member name ms)) is ∙ at)
    by_order name value Equal is at = only name d (ap (λ o. match_ordering o (get_member name ms) (Some d) (get_member name ms)) is)
    by_order name value Greater is at = only name value (ap (λ o. match_ordering o (get_member name ms) (Some d) (get_member name ms)) is ∙ at)

-- ---- a test before a value

provided_gives : {A : Type 0} (b : Bool) (x y : A) → provided b (Some x) ≡ Some y → (b ≡ true) × (x ≡ y)
provided_gives true x y e = (refl, same_Some _ _ e)
provided_gives false x y e = cc

provided_from : {A : Type 0} (b : Bool) (x : A) → b ≡ true → provided b (Some x) ≡ Some x
provided_from true x e = refl
provided_from false x e = cc

-- ---- kinds

is_string : (d : Data) (text : List ℕ) → as_str d ≡ Some text → d ≡ string text
is_string (string s) text e = ap string (same_Some _ _ e)
is_string d text e = cc

is_array : (d : Data) (ds : Items) → as_array d ≡ Some ds → d ≡ array ds
is_array (array s) ds e = ap array (same_Some _ _ e)
is_array d ds e = cc

is_table : (d : Data) (ms : Members) → as_table d ≡ Some ms → d ≡ table ms
is_table (table s) ms e = ap table (same_Some _ _ e)
is_table d ms e = cc

pub string_read : (d : Data) (text : List ℕ) → as_str d ≡ Some text → IsString d text
string_read d text e = is_string d text e

pub string_from : (d : Data) (text : List ℕ) → IsString d text → as_str d ≡ Some text
string_from d text is = ap as_str is

-- the fields of a table with no others
pub fields_read : (names : List (List ℕ)) (d : Data) (ms : Members) → fields_of names d ≡ Some ms → HasFields names d ms
fields_read names d ms e =
    option_and_then_some (λ fields. provided (has_only names fields) (Some fields)) (as_table d) ms e (λ fields is given.
    let parts = provided_gives (has_only names fields) fields ms given in
    record {
      is_table = is_table d ms (is ∙ ap Some parts.1);
      only = only_from_test names ms (ap (has_only names) (sym parts.1) ∙ parts.0);
    })

pub fields_from : (names : List (List ℕ)) (d : Data) (ms : Members) → HasFields names d ms → fields_of names d ≡ Some ms
fields_from names d ms own = ap (fields_of names) own.is_table ∙ provided_from (has_only names ms) ms (test_from_only names ms own.only)

-- ---- names and types

is_name_from : (text : List ℕ) → is_name text ≡ true → IsName text
is_name_from [] e = cc
is_name_from (c ∷ cs) e =
    let none = not-true _ (and_parts (not (length (c ∷ cs) == 0)) (not (list_any (λ byte. byte == 0) (c ∷ cs))) e).1 in
    record {
      some = λ empty. cc;
      no_zero = λ (k, within, is). false≢true (sym none ∙ list_any_at (λ byte. byte == 0) (c ∷ cs) k 0 within (eq-eqb _ 0 is));
    }

from_is_name : (text : List ℕ) → IsName text → is_name text ≡ true
from_is_name [] named = absurd (named.some refl)
from_is_name (c ∷ cs) named =
    and_from _ _ (not_from_false _ (ne_eqb (length (c ∷ cs)) 0 (λ empty. omega (arith, empty))))
    (not_from_false _ (false_from_ne_true _ (λ some.
    let found = list_any_finds (λ (byte : ℕ). byte == 0) (c ∷ cs) some in
    named.no_zero (found.0, slice_get_within (c ∷ cs) found.0 found.1 found.2, get_or_from_slice_get (c ∷ cs) found.0 found.1 0 found.2 ∙ eqb-true found.1 0 found.3))))

pub name_read : (d : Data) (text : List ℕ) → name_of d ≡ Some text → IsString d text × IsName text
name_read d text e =
    option_and_then_some (λ t. provided (is_name t) (Some t)) (as_str d) text e (λ t is given.
    let parts = provided_gives (is_name t) t text given in
    (is_string d text (is ∙ ap Some parts.1), is_name_from text (ap is_name (sym parts.1) ∙ parts.0)))

pub name_from : (d : Data) (text : List ℕ) → IsString d text → IsName text → name_of d ≡ Some text
name_from d text is named = ap name_of is ∙ provided_from (is_name text) text (from_is_name text named)

word_tested : (text : List ℕ) (kind : ColumnType) (int str bool : Bool) → bytes_eq text (codes "int") ≡ int → bytes_eq text (codes "text") ≡ str → bytes_eq text (codes "bool") ≡ bool
    → (if int then Some Int else (if str then Some Text else (if bool then Some Truth else None))) ≡ Some kind → text ≡ word_of kind
word_tested text kind true str bool is_int is_str is_bool e = (bytes_eq-Decides text (codes "int")).0 is_int ∙ ap word_of (same_Some Int kind e)
word_tested text kind false true bool is_int is_str is_bool e = (bytes_eq-Decides text (codes "text")).0 is_str ∙ ap word_of (same_Some Text kind e)
word_tested text kind false false true is_int is_str is_bool e = (bytes_eq-Decides text (codes "bool")).0 is_bool ∙ ap word_of (same_Some Truth kind e)
word_tested text kind false false false is_int is_str is_bool e = cc

type_of_word : (kind : ColumnType) → type_named (word_of kind) ≡ Some kind
type_of_word Int = refl
type_of_word Text = refl
type_of_word Truth = refl

pub type_read : (d : Data) (kind : ColumnType) → type_of d ≡ Some kind → IsString d (word_of kind)
type_read d kind e =
    option_and_then_some type_named (as_str d) kind e (λ text is named.
    is_string d (word_of kind) (is ∙ ap Some (word_tested text kind _ _ _ refl refl refl named)))

pub type_from : (d : Data) (kind : ColumnType) → IsString d (word_of kind) → type_of d ≡ Some kind
type_from d kind is = ap type_of is ∙ type_of_word kind

-- ---- defaults

pub given_defaults : (d : Data) → Defaults d (given d)
given_defaults (integer n) = refl
given_defaults _ = refl

pub defaults_given : (d : Data) (default : DefaultDraft) → Defaults d default → default ≡ given d
defaults_given (integer n) default e = e
defaults_given _ default e = e

-- ---- arrays

module _ {A : Type 0} (f : Data → Option A) where
  item_parts : (o : Option A) (rest : Option (List A)) (xs : List A) → (o >>= (λ x. rest >>= (λ ys. Some (x ∷ ys)))) ≡ Some xs → (y : A) × (ys : List A) × (o ≡ Some y) × (rest ≡ Some ys) × (y ∷ ys ≡ xs)
  item_parts None rest xs e = cc
  item_parts (Some y) None xs e = cc
  item_parts (Some y) (Some ys) xs e = (y, ys, refl, refl, same_Some _ _ e)

  each_reads : (items : Items) (xs : List A) (place : ℕ) (d : Data) → each f items ≡ Some xs → get_item place items ≡ Some d → (x : A) × (slice_get xs place ≡ Some x) × (f d ≡ Some x)
  each_reads no_items xs place d e at = cc
  each_reads (item i is) xs zero d e at =
      let parts = item_parts (f i) (each f is) xs e in
      (parts.0, ap (λ (l : List A). slice_get l 0) (sym parts.4), ap f (sym (same_Some i d at)) ∙ parts.2)
  each_reads (item i is) xs (suc place) d e at =
      let parts = item_parts (f i) (each f is) xs e in
      let later = each_reads is parts.1 place d parts.3 at in
      (later.0, ap (λ (l : List A). slice_get l (suc place)) (sym parts.4) ∙ later.1, later.2)

  each_ends : (items : Items) (xs : List A) (place : ℕ) → each f items ≡ Some xs → get_item place items ≡ None → slice_get xs place ≡ None
  each_ends no_items xs place e past = ap (λ (l : List A). slice_get l place) (sym (same_Some [] xs e))
  each_ends (item i is) xs zero e past = cc
  each_ends (item i is) xs (suc place) e past =
      let parts = item_parts (f i) (each f is) xs e in
      ap (λ (l : List A). slice_get l (suc place)) (sym parts.4) ∙ each_ends is parts.1 place parts.3 past

  each_from : (items : Items) (xs : List A) → ((place : ℕ) (d : Data) → get_item place items ≡ Some d → (x : A) × (slice_get xs place ≡ Some x) × (f d ≡ Some x))
      → ((place : ℕ) → get_item place items ≡ None → slice_get xs place ≡ None) → each f items ≡ Some xs
  each_from no_items [] reads ends = refl
  each_from no_items (x ∷ xs) reads ends =
      let none : Some x ≡ None = ends 0 refl in
      cc
  each_from (item i is) [] reads ends =
      let first = reads 0 i refl in
      let none : None ≡ Some first.0 = first.1 in
      cc
  each_from (item i is) (x ∷ xs) reads ends =
      let first = reads 0 i refl in
      let here : f i ≡ Some x = first.2 ∙ sym first.1 in
      let later : each f is ≡ Some xs = each_from is xs (λ place d at. reads (suc place) d at) (λ place past. ends (suc place) past) in
      ap (λ o. o >>= (λ y. each f is >>= (λ ys. Some (y ∷ ys)))) here ∙ ap (λ o. o >>= (λ ys. Some (x ∷ ys))) later

  pub array_read : (R : Data → A → Type 0) → ((d : Data) (x : A) → f d ≡ Some x → R d x) → (d : Data) (xs : List A) → array_of f d ≡ Some xs → IsArrayOf R d xs
  array_read R holds d xs e =
      option_and_then_some (each f) (as_array d) xs e (λ items is read. record {
        items = items;
        is_array = is_array d items is;
        each = λ place i at.
            let here = each_reads items xs place i read at in
            (here.0, here.1, holds i here.0 here.2);
        no_more = λ place past. each_ends items xs place read past;
      })

  pub array_from : (R : Data → A → Type 0) → ((d : Data) (x : A) → R d x → f d ≡ Some x) → (d : Data) (xs : List A) → IsArrayOf R d xs → array_of f d ≡ Some xs
  array_from R reads d xs is =
      ap (array_of f) is.is_array
      ∙ each_from is.items xs (λ place i at.
      let here = is.each place i at in
      (here.0, here.1, reads i here.0 here.2)) is.no_more

-- ---- fields that have to be there, and fields that may be missing

module _ {A : Type 0} (f : Data → Option A) (fields : Members) (name : List ℕ) where
  pub field_read : (x : A) → required f (get_member name fields) ≡ Some x → (d : Data) × (get_member name fields ≡ Some d) × (f d ≡ Some x)
  field_read x e = option_and_then_some f (get_member name fields) x e (λ d at read. (d, at, read))

  pub field_from : (d : Data) (x : A) → get_member name fields ≡ Some d → f d ≡ Some x → required f (get_member name fields) ≡ Some x
  field_from d x at read = ap (option_and_then f) at ∙ read

  pub missing_read : (missing x : A) → optional missing f (get_member name fields) ≡ Some x → get_member name fields ≡ None → x ≡ missing
  missing_read missing x e none = same_Some _ _ (sym e ∙ ap (optional missing f) none)

  pub present_read : (missing x : A) (d : Data) → optional missing f (get_member name fields) ≡ Some x → get_member name fields ≡ Some d → f d ≡ Some x
  present_read missing x d e at = sym (ap (optional missing f) at) ∙ e

  optional_at : (missing x : A) (o : Option Data) → get_member name fields ≡ o → (get_member name fields ≡ None → x ≡ missing) → ((d : Data) → get_member name fields ≡ Some d → f d ≡ Some x) → optional missing f o ≡ Some x
  optional_at missing x None is none given = ap Some (sym (none is))
  optional_at missing x (Some d) is none given = given d is

  pub optional_from : (missing x : A) → (get_member name fields ≡ None → x ≡ missing) → ((d : Data) → get_member name fields ≡ Some d → f d ≡ Some x) → optional missing f (get_member name fields) ≡ Some x
  optional_from missing x none given = optional_at missing x (get_member name fields) refl none given
