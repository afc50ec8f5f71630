-- What is resolved fits the catalog, and what is planned fits its mapping.
use Rattle.std.proofs.Common.{◌≡◌, ℕ, suc, not, List, [], ◌∷◌, length, Option, Some, None, option_map, Result, Ok, Err, refl, sym, ap, ◌∙◌, subst}
use Rattle.std.specs.List.{slice_get, position, list_all}
use Rattle.std.specs.Option.{option_and_then, ok_or}
use Rattle.messages.specs.declared.tuple.Column.{Column}
use Rattle.messages.specs.declared.row.RowMessage.{RowMessage}
use Rattle.messages.specs.declared.row.RowMessage.TheVariants.{Insert, Update, Delete}
use Rattle.model.specs.Definition.{Definition}
use Rattle.model.specs.declared.table_def.Column.{Column as TableColumn}
use Rattle.model.specs.declared.value.Value.{Value}
use Rattle.model.specs.declared.change.Change.{Change}
use Rattle.model.specs.declared.change.Change.TheVariants.{Put, Set, Remove}
use Rattle.model.specs.declared.patch.ColumnPatch.{ColumnPatch}
use Rattle.relcache.specs.declared.fault.RelFault.{RelFault}
use Rattle.relcache.specs.declared.fault.RelFault.TheVariants.{UnknownRelation, TableMissing, ColumnMissing, ColumnCount, KeyNotSent, BadValue}
use Rattle.relcache.specs.declared.mapping.Field.{Field}
use Rattle.relcache.specs.declared.published.PublishedColumn.{PublishedColumn}
use Rattle.relcache.specs.Published.{Published, Relations, relation_of}
use Rattle.relcache.specs.Steps.{◌>>=◌, require}
use Rattle.relcache.specs.Mapping.{Mapped, mapped, sources_of, map_relation, resolved, table_of, is_table_of, has_column, has_twice}
use Rattle.relcache.specs.Planning.{planned, counted, row_of, patch_of, lookup_key, planned_insert, planned_update, planned_delete, lookup_tuple, old_columns, column_value, column_patch}
use Rattle.relcache.specs.Fits.{FitsCatalog, FitsMapping}
use Rattle.std.proofs.lemmas.Option.{slice_get_within}
use Rattle.relcache.proofs.Each.{length-each}

-- ---- resolved

pub length-sources_of : (sent : List PublishedColumn) (columns : List TableColumn) (defaults : List (Option Value)) → length (sources_of sent columns defaults) ≡ length columns
length-sources_of sent [] defaults = refl
length-sources_of sent (c ∷ cs) [] = ap suc (length-sources_of sent cs [])
length-sources_of sent (c ∷ cs) (d ∷ ds) = ap suc (length-sources_of sent cs ds)

pub found_at : (place : ℕ) (found : Option Definition) (t : ℕ × Definition) → option_map (λ table. (place, table)) found ≡ Some t → (place ≡ t.0) × (found ≡ Some t.1)
found_at place None t e = cc
found_at place (Some table) t e = (cc, cc)

place_in : (definitions : List Definition) (o : Option ℕ) (t : ℕ × Definition) → option_and_then (λ place. option_map (λ table. (place, table)) (slice_get definitions place)) o ≡ Some t → slice_get definitions t.0 ≡ Some t.1
place_in definitions None t e = cc
place_in definitions (Some place) t e =
    let at = found_at place (slice_get definitions place) t e in
    ap (λ p. slice_get definitions p) (sym at.0) ∙ at.1

-- the steps of a mapping that was resolved
steps_resolved : (r : Published) (m : Mapped) (table : Option (ℕ × Definition)) (found once : ℕ × Definition → Result (Unit {0}) RelFault) → (ok_or table TableMissing >>= (λ t. found t >>= (λ _. once t >>= (λ _. Ok (mapped r t))))) ≡ Ok m → (t : ℕ × Definition) × (table ≡ Some t) × (mapped r t ≡ m)
steps_resolved r m None found once e = cc
steps_resolved r m (Some t) found once e = with_table (found t) (once t) e
  where
    with_table : (found once : Result (Unit {0}) RelFault) → (found >>= (λ _. once >>= (λ _. Ok (mapped r t)))) ≡ Ok m → (u : ℕ × Definition) × (Some t ≡ Some u) × (mapped r u ≡ m)
    with_table (Err fault) once e = cc
    with_table (Ok u) (Err fault) e = cc
    with_table (Ok u) (Ok v) e = (t, refl, cc)

pub map_relation-fits : (definitions : List Definition) (r : Published) (m : Mapped) → map_relation definitions r ≡ Ok m → FitsCatalog definitions m
map_relation-fits definitions r m e =
    let steps = steps_resolved r m (table_of r definitions) (λ t. require (list_all (has_column t.1.columns) r.columns) ColumnMissing) (λ t. require (not (has_twice r.columns)) ColumnCount) e in
    let in_catalog = place_in definitions (position (is_table_of r) definitions) steps.0 steps.1 in
    let fits : FitsCatalog definitions (mapped r steps.0) = record {
      known = slice_get_within definitions steps.0.0 steps.0.1 in_catalog;
      definition = steps.0.1;
      in_catalog = in_catalog;
      width = length-sources_of r.columns steps.0.1.columns steps.0.1.defaults;
    } in
    subst (FitsCatalog definitions) steps.2 fits

pub resolved-fits : (definitions : List Definition) (relations : Relations) (oid : ℕ) (m : Mapped) → resolved definitions relations oid ≡ Ok m → FitsCatalog definitions m
resolved-fits definitions relations oid m e = of_relation (relation_of relations oid) e
  where
    of_relation : (r : Option Published) → (ok_or r UnknownRelation >>= map_relation definitions) ≡ Ok m → FitsCatalog definitions m
    of_relation None e = cc
    of_relation (Some r) e = map_relation-fits definitions r m e

-- ---- planned

-- the steps of an insert that was planned
steps_inserted : (table : ℕ) (c : Change) (count : Result (Unit {0}) RelFault) (row : Option (List (Option Value))) → (count >>= (λ _. ok_or row BadValue >>= (λ values. Ok (Put table values)))) ≡ Ok c → (values : List (Option Value)) × (row ≡ Some values) × (Put table values ≡ c)
steps_inserted table c (Err fault) row e = cc
steps_inserted table c (Ok u) None e = cc
steps_inserted table c (Ok u) (Some values) e = (values, refl, cc)

insert-fits : (m : Mapped) (new : List Column) (c : Change) → planned_insert m new ≡ Ok c → FitsMapping m c
insert-fits m new c e =
    let steps = steps_inserted m.table c (counted m new) (row_of m new) e in
    subst (FitsMapping m) steps.2 (refl, length-each (column_value new) m.columns steps.0 steps.1)

-- the steps of an update that was planned
steps_updated : (table : ℕ) (c : Change) (sent : Option (List Field)) (count new_count : Result (Unit {0}) RelFault) (patch : Option (List ColumnPatch)) (key : List Field → Result (List Value) RelFault) → (ok_or sent KeyNotSent >>= (λ fields. count >>= (λ _. new_count >>= (λ _. ok_or patch BadValue >>= (λ columns. key fields >>= (λ values. Ok (Set table values columns))))))) ≡ Ok c → (columns : List ColumnPatch) × (values : List Value) × (patch ≡ Some columns) × (Set table values columns ≡ c)
steps_updated table c None count new_count patch key e = cc
steps_updated table c (Some fields) (Err fault) new_count patch key e = cc
steps_updated table c (Some fields) (Ok u) (Err fault) patch key e = cc
steps_updated table c (Some fields) (Ok u) (Ok v) None key e = cc
steps_updated table c (Some fields) (Ok u) (Ok v) (Some columns) key e = with_key (key fields) e
  where
    with_key : (key : Result (List Value) RelFault) → (key >>= (λ values. Ok (Set table values columns))) ≡ Ok c → (patch : List ColumnPatch) × (values : List Value) × (Some columns ≡ Some patch) × (Set table values patch ≡ c)
    with_key (Err fault) e = cc
    with_key (Ok values) e = (columns, values, refl, cc)

update-fits : (m : Mapped) (lookup new : List Column) (c : Change) → planned_update m lookup new ≡ Ok c → FitsMapping m c
update-fits m lookup new c e =
    let steps = steps_updated m.table c m.key (counted m lookup) (counted m new) (patch_of m new) (λ fields. lookup_key fields lookup) e in
    subst (FitsMapping m) steps.3 (refl, length-each (column_patch new) m.columns steps.0 steps.2)

-- the steps of a delete that was planned
steps_deleted : (table : ℕ) (c : Change) (sent : Option (List Field)) (count : Result (Unit {0}) RelFault) (key : List Field → Result (List Value) RelFault) → (ok_or sent KeyNotSent >>= (λ fields. count >>= (λ _. key fields >>= (λ values. Ok (Remove table values))))) ≡ Ok c → (values : List Value) × (Remove table values ≡ c)
steps_deleted table c None count key e = cc
steps_deleted table c (Some fields) (Err fault) key e = cc
steps_deleted table c (Some fields) (Ok u) key e = with_key (key fields) e
  where
    with_key : (key : Result (List Value) RelFault) → (key >>= (λ values. Ok (Remove table values))) ≡ Ok c → (values : List Value) × (Remove table values ≡ c)
    with_key (Err fault) e = cc
    with_key (Ok values) e = (values, cc)

delete-fits : (m : Mapped) (old : List Column) (c : Change) → planned_delete m old ≡ Ok c → FitsMapping m c
delete-fits m old c e =
    let steps = steps_deleted m.table c m.key (counted m old) (λ fields. lookup_key fields old) e in
    let own : FitsMapping m (Remove m.table steps.0) = refl in
    subst (FitsMapping m) steps.1 own

pub planned-fits : (m : Mapped) (row : RowMessage) (c : Change) → planned m row ≡ Ok c → FitsMapping m c
planned-fits m (Insert new) c e = insert-fits m new c e
planned-fits m (Update old new) c e = update-fits m (lookup_tuple old new) new c e
planned-fits m (Delete old) c e = delete-fits m (old_columns old) c e
