-- A planned change, or its fault, from the steps that it goes by.
use Rattle.std.proofs.Common.{◌≡◌, List, Option, Result, Ok, Err, ap, ◌∙◌}
use Rattle.std.specs.Option.{ok_or}
use Rattle.messages.specs.declared.tuple.Column.{Column}
use Rattle.model.specs.declared.value.Value.{Value}
use Rattle.model.specs.declared.change.Change.TheVariants.{Put, Set}
use Rattle.model.specs.declared.patch.ColumnPatch.{ColumnPatch}
use Rattle.relcache.specs.declared.fault.RelFault.{RelFault}
use Rattle.relcache.specs.declared.fault.RelFault.TheVariants.{BadValue, KeyNotSent}
use Rattle.relcache.specs.declared.mapping.Field.{Field}
use Rattle.relcache.specs.Answer.{IsFaultOf}
use Rattle.relcache.specs.Mapping.{Mapped}
use Rattle.relcache.specs.Steps.{◌>>=◌, each}
use Rattle.relcache.specs.Planning.{column_value, column_patch, counted, lookup_key, planned_insert, planned_update}

-- a step that gave x, and what follows
after : {A B : Type 0} (step : Result A RelFault) (x : A) (next : A → Result B RelFault) → step ≡ Ok x → (step >>= next) ≡ next x
after step x next e = ap (λ r. r >>= next) e

-- a step's fault is that of all
refused : {A B : Type 0} (step : Result A RelFault) (e : RelFault) (next : A → Result B RelFault) → step ≡ Err e → (step >>= next) ≡ Err e
refused step e next h = ap (λ r. r >>= next) h

module _ (m : Mapped) (new : List Column) (count : counted m new ≡ Ok tt) where
  pub planned_insert-row : (row : List (Option Value)) → ok_or (each (column_value new) m.columns) BadValue ≡ Ok row → planned_insert m new ≡ Ok (Put m.table row)
  planned_insert-row row read = after _ tt _ count ∙ after _ row _ read

  pub planned_insert-fault : (e : RelFault) → IsFaultOf (ok_or (each (column_value new) m.columns) BadValue) e → IsFaultOf (planned_insert m new) e
  planned_insert-fault e read = λ other. after _ tt _ count ∙ refused _ e _ (read other)

module _ (m : Mapped) (lookup new : List Column) (fields : List Field) (key_sent : ok_or m.key KeyNotSent ≡ Ok fields) (lookup_count : counted m lookup ≡ Ok tt) (count : counted m new ≡ Ok tt) where
  pub planned_update-patch_fault : (e : RelFault) → IsFaultOf (ok_or (each (column_patch new) m.columns) BadValue) e → IsFaultOf (planned_update m lookup new) e
  planned_update-patch_fault e read = λ other.
      after _ fields _ key_sent ∙ after _ tt _ lookup_count ∙ after _ tt _ count ∙ refused _ e _ (read other)

  pub planned_update-key_fault : (patch : List ColumnPatch) (e : RelFault) → ok_or (each (column_patch new) m.columns) BadValue ≡ Ok patch → IsFaultOf (lookup_key fields lookup) e → IsFaultOf (planned_update m lookup new) e
  planned_update-key_fault patch e read looked_up = λ other.
      after _ fields _ key_sent ∙ after _ tt _ lookup_count ∙ after _ tt _ count ∙ after _ patch _ read ∙ refused _ e _ (looked_up other)

  pub planned_update-set : (patch : List ColumnPatch) (key : List Value) → ok_or (each (column_patch new) m.columns) BadValue ≡ Ok patch → lookup_key fields lookup ≡ Ok key → planned_update m lookup new ≡ Ok (Set m.table key patch)
  planned_update-set patch key read looked_up =
      after _ fields _ key_sent ∙ after _ tt _ lookup_count ∙ after _ tt _ count ∙ after _ patch _ read ∙ after _ key _ looked_up
