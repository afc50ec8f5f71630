-- A document is read as the tables that it describes.
use Rattle.std.proofs.Common.{◌≡◌, ℕ, codes, List, [], ◌∷◌, Option, Some, None, refl, sym, ap, ◌∙◌, subst}
use Rattle.std.proofs.lemmas.Option.{option_and_then_some, same_Some}
use Rattle.toml.specs.Data.{Data, Members, get_member, as_str}
use Rattle.model.specs.declared.table_def.ColumnType.{ColumnType}
use Rattle.catalog.specs.declared.draft.DefaultDraft.{DefaultDraft}
use Rattle.catalog.specs.declared.draft.DefaultDraft.TheVariants.{Missing}
use Rattle.catalog.specs.declared.draft.ColumnDraft.{ColumnDraft}
use Rattle.catalog.specs.declared.draft.TableDraft.{TableDraft}
use Rattle.catalog.specs.Document.{◌>>=◌, provided, array_of, required, optional, has_only, name_of, type_of, default_of, given, column_in, column_keys, column_of, fields_of, key_of, table_in, table_keys, table_of, tables_of}
use Rattle.catalog.specs.Statements.{HasField, IsName, IsString, Defaults, IsColumn, IsKey, IsTable, Describes}
use Rattle.catalog.proofs.Named.{provided_some}
use Rattle.catalog.proofs.Fields.{only_from_test, test_from_only, string_read, string_from, fields_read, fields_from, name_read, name_from, type_read, type_from, given_defaults, defaults_given, array_read, array_from, field_read, field_from, missing_read, present_read, optional_from}

-- ---- names

-- a field that is a name
name_in : (fields : Members) (field text : List ℕ) → required name_of (get_member field fields) ≡ Some text → HasField fields field (λ d. IsString d text) × IsName text
name_in fields field text e =
    let found = field_read name_of fields field text e in
    let named = name_read found.0 text found.2 in
    ((found.0, found.1, named.0), named.1)

in_name : (fields : Members) (field text : List ℕ) → HasField fields field (λ d. IsString d text) → IsName text → required name_of (get_member field fields) ≡ Some text
in_name fields field text (d, at, is) named = field_from name_of fields field d text at (name_from d text is named)

-- ---- columns

default_at : (o : Option Data) (default : DefaultDraft) → (o ≡ None → default ≡ Missing) → ((d : Data) → o ≡ Some d → default ≡ given d) → default_of o ≡ default
default_at None default none some = sym (none refl)
default_at (Some d) default none some = sym (some d refl)

-- the parts that make a column
column_parts : (name : Option (List ℕ)) (kind : Option ColumnType) (default : DefaultDraft) (c : ColumnDraft) → (name >>= (λ n. kind >>= (λ k. Some (record { name = n; kind = k; default = default })))) ≡ Some c
    → (name ≡ Some c.name) × (kind ≡ Some c.kind) × (default ≡ c.default)
column_parts None kind default c e = cc
column_parts (Some n) None default c e = cc
column_parts (Some n) (Some k) default c e =
    let is : record { name = n; kind = k; default = default } ≡ c = same_Some _ _ e in
    (ap (λ (x : ColumnDraft). Some x.name) is, ap (λ (x : ColumnDraft). Some x.kind) is, ap (λ (x : ColumnDraft). x.default) is)

parts_column : (name : Option (List ℕ)) (kind : Option ColumnType) (default : DefaultDraft) (c : ColumnDraft) → name ≡ Some c.name → kind ≡ Some c.kind → default ≡ c.default
    → (name >>= (λ n. kind >>= (λ k. Some (record { name = n; kind = k; default = default })))) ≡ Some c
parts_column name kind default c named typed is =
    ap (λ o. o >>= (λ n. kind >>= (λ k. Some (record { name = n; kind = k; default = default })))) named
    ∙ ap (λ o. o >>= (λ k. Some (record { name = c.name; kind = k; default = default }))) typed
    ∙ ap (λ (d : DefaultDraft). Some (record { name = c.name; kind = c.kind; default = d })) is

column_read : (d : Data) (c : ColumnDraft) → column_of d ≡ Some c → IsColumn d c
unfolding column_of column_in
column_read d c e =
    option_and_then_some column_in (fields_of column_keys d) c e (λ fields is made.
    let parts = column_parts (required name_of (get_member (codes "name") fields)) (required type_of (get_member (codes "type") fields)) (default_of (get_member (codes "default") fields)) c made in
    let name = name_in fields (codes "name") c.name parts.0 in
    let kind = field_read type_of fields (codes "type") c.kind parts.1 in
    record {
      fields = fields;
      has_fields = fields_read column_keys d fields is;
      name = name.0;
      is_name = name.1;
      kind = (kind.0, kind.1, type_read kind.0 c.kind kind.2);
      no_default = λ none. sym parts.2 ∙ ap default_of none;
      default = λ value at. subst (Defaults value) (sym (ap default_of at) ∙ parts.2) (given_defaults value);
    })

column_from : (d : Data) (c : ColumnDraft) → IsColumn d c → column_of d ≡ Some c
unfolding column_of column_in
column_from d c is =
    ap (λ o. o >>= column_in) (fields_from column_keys d is.fields is.has_fields)
    ∙ parts_column (required name_of (get_member (codes "name") is.fields)) (required type_of (get_member (codes "type") is.fields)) (default_of (get_member (codes "default") is.fields)) c
    (in_name is.fields (codes "name") c.name is.name is.is_name)
    (field_from type_of is.fields (codes "type") is.kind.0 c.kind is.kind.1 (type_from is.kind.0 c.kind is.kind.2))
    (default_at (get_member (codes "default") is.fields) c.default is.no_default (λ d at. defaults_given d c.default (is.default d at)))

-- ---- keys

key_read : (d : Data) (names : List (List ℕ)) → key_of d ≡ Some names → IsKey d names
key_read d names e = array_read as_str IsString string_read d names e

key_from : (d : Data) (names : List (List ℕ)) → IsKey d names → key_of d ≡ Some names
key_from d names is = array_from as_str IsString string_from d names is

-- ---- tables

-- the parts that make a table
table_parts : (namespace name : Option (List ℕ)) (columns : Option (List ColumnDraft)) (primary : Option (List (List ℕ))) (uniques : Option (List (List (List ℕ)))) (t : TableDraft)
    → (namespace >>= (λ ns. name >>= (λ n. columns >>= (λ cs. primary >>= (λ p. uniques >>= (λ us. Some (record { namespace = ns; name = n; columns = cs; primary = p; uniques = us }))))))) ≡ Some t
    → (namespace ≡ Some t.namespace) × (name ≡ Some t.name) × (columns ≡ Some t.columns) × (primary ≡ Some t.primary) × (uniques ≡ Some t.uniques)
table_parts None name columns primary uniques t e = cc
table_parts (Some ns) None columns primary uniques t e = cc
table_parts (Some ns) (Some n) None primary uniques t e = cc
table_parts (Some ns) (Some n) (Some cs) None uniques t e = cc
table_parts (Some ns) (Some n) (Some cs) (Some p) None t e = cc
table_parts (Some ns) (Some n) (Some cs) (Some p) (Some us) t e =
    let is : record { namespace = ns; name = n; columns = cs; primary = p; uniques = us } ≡ t = same_Some _ _ e in
    (ap (λ (x : TableDraft). Some x.namespace) is, ap (λ (x : TableDraft). Some x.name) is, ap (λ (x : TableDraft). Some x.columns) is, ap (λ (x : TableDraft). Some x.primary) is, ap (λ (x : TableDraft). Some x.uniques) is)

parts_table : (namespace name : Option (List ℕ)) (columns : Option (List ColumnDraft)) (primary : Option (List (List ℕ))) (uniques : Option (List (List (List ℕ)))) (t : TableDraft)
    → namespace ≡ Some t.namespace → name ≡ Some t.name → columns ≡ Some t.columns → primary ≡ Some t.primary → uniques ≡ Some t.uniques
    → (namespace >>= (λ ns. name >>= (λ n. columns >>= (λ cs. primary >>= (λ p. uniques >>= (λ us. Some (record { namespace = ns; name = n; columns = cs; primary = p; uniques = us }))))))) ≡ Some t
parts_table namespace name columns primary uniques t in_namespace named has_columns has_primary has_uniques =
    ap (λ o. o >>= (λ ns. name >>= (λ n. columns >>= (λ cs. primary >>= (λ p. uniques >>= (λ us. Some (record { namespace = ns; name = n; columns = cs; primary = p; uniques = us }))))))) in_namespace
    ∙ ap (λ o. o >>= (λ n. columns >>= (λ cs. primary >>= (λ p. uniques >>= (λ us. Some (record { namespace = t.namespace; name = n; columns = cs; primary = p; uniques = us })))))) named
    ∙ ap (λ o. o >>= (λ cs. primary >>= (λ p. uniques >>= (λ us. Some (record { namespace = t.namespace; name = t.name; columns = cs; primary = p; uniques = us }))))) has_columns
    ∙ ap (λ o. o >>= (λ p. uniques >>= (λ us. Some (record { namespace = t.namespace; name = t.name; columns = t.columns; primary = p; uniques = us })))) has_primary
    ∙ ap (λ o. o >>= (λ us. Some (record { namespace = t.namespace; name = t.name; columns = t.columns; primary = t.primary; uniques = us }))) has_uniques

table_read : (d : Data) (t : TableDraft) → table_of d ≡ Some t → IsTable d t
unfolding table_of table_in
table_read d t e =
    option_and_then_some table_in (fields_of table_keys d) t e (λ fields is made.
    let parts = table_parts (required name_of (get_member (codes "namespace") fields)) (required name_of (get_member (codes "name") fields)) (required (array_of column_of) (get_member (codes "column") fields))
    (optional [] key_of (get_member (codes "primary") fields)) (optional [] (array_of key_of) (get_member (codes "unique") fields)) t made in
    let namespace = name_in fields (codes "namespace") t.namespace parts.0 in
    let name = name_in fields (codes "name") t.name parts.1 in
    let columns = field_read (array_of column_of) fields (codes "column") t.columns parts.2 in
    record {
      fields = fields;
      has_fields = fields_read table_keys d fields is;
      namespace = namespace.0;
      is_namespace = namespace.1;
      name = name.0;
      is_name = name.1;
      columns = (columns.0, columns.1, array_read column_of IsColumn column_read columns.0 t.columns columns.2);
      no_primary = λ none. missing_read key_of fields (codes "primary") [] t.primary parts.3 none;
      primary = λ d at. key_read d t.primary (present_read key_of fields (codes "primary") [] t.primary d parts.3 at);
      no_unique = λ none. missing_read (array_of key_of) fields (codes "unique") [] t.uniques parts.4 none;
      unique = λ d at. array_read key_of IsKey key_read d t.uniques (present_read (array_of key_of) fields (codes "unique") [] t.uniques d parts.4 at);
    })

table_from : (d : Data) (t : TableDraft) → IsTable d t → table_of d ≡ Some t
unfolding table_of table_in
table_from d t is =
    ap (λ o. o >>= table_in) (fields_from table_keys d is.fields is.has_fields)
    ∙ parts_table (required name_of (get_member (codes "namespace") is.fields)) (required name_of (get_member (codes "name") is.fields)) (required (array_of column_of) (get_member (codes "column") is.fields))
    (optional [] key_of (get_member (codes "primary") is.fields)) (optional [] (array_of key_of) (get_member (codes "unique") is.fields)) t
    (in_name is.fields (codes "namespace") t.namespace is.namespace is.is_namespace)
    (in_name is.fields (codes "name") t.name is.name is.is_name)
    (field_from (array_of column_of) is.fields (codes "column") is.columns.0 t.columns is.columns.1 (array_from column_of IsColumn column_from is.columns.0 t.columns is.columns.2))
    (optional_from key_of is.fields (codes "primary") [] t.primary is.no_primary (λ d at. key_from d t.primary (is.primary d at)))
    (optional_from (array_of key_of) is.fields (codes "unique") [] t.uniques is.no_unique (λ d at. array_from key_of IsKey key_from d t.uniques (is.unique d at)))

-- ---- documents

pub document_read : (doc : Members) (ts : List TableDraft) → tables_of doc ≡ Some ts → Describes doc ts
unfolding tables_of
document_read doc ts e =
    let parts = provided_some (has_only (codes "table" ∷ []) doc) (optional [] (array_of table_of) (get_member (codes "table") doc)) ts e in
    record {
      only = only_from_test (codes "table" ∷ []) doc parts.0;
      no_tables = λ none. missing_read (array_of table_of) doc (codes "table") [] ts parts.1 none;
      tables = λ d at. array_read table_of IsTable table_read d ts (present_read (array_of table_of) doc (codes "table") [] ts d parts.1 at);
    }

pub document_from : (doc : Members) (ts : List TableDraft) → Describes doc ts → tables_of doc ≡ Some ts
unfolding tables_of
document_from doc ts is =
    ap (λ b. provided b (optional [] (array_of table_of) (get_member (codes "table") doc))) (test_from_only (codes "table" ∷ []) doc is.only)
    ∙ optional_from (array_of table_of) doc (codes "table") [] ts is.no_tables (λ d at. array_from table_of IsTable table_from d ts (is.tables d at))
