-- How a relation is resolved: the table and the mapping, or the first fault that applies.
use Rattle.std.proofs.Common.{◌≡◌, ℕ, Bool, true, false, not, List, Option, Some, None, Result, Ok, Err, refl, sym, ◌∙◌, subst}
use Rattle.std.specs.List.{list_all}
use Rattle.std.specs.Option.{ok_or}
use Rattle.std.proofs.lemmas.Option.{same_Some}
use Rattle.model.specs.Definition.{Definition}
use Rattle.catalog.specs.First.{IsFirst, IsRefusedFirst}
use Rattle.relcache.specs.declared.fault.RelFault.{RelFault}
use Rattle.relcache.specs.declared.fault.RelFault.TheVariants.{UnknownRelation, TableMissing, ColumnMissing, ColumnCount}
use Rattle.relcache.specs.Published.{Published, Relations, relation_of}
use Rattle.relcache.specs.Steps.{◌>>=◌, require}
use Rattle.relcache.specs.Mapping.{Mapped, table_of, has_column, has_twice, mapped, map_relation, resolved}
use Rattle.relcache.specs.Statements.{order, HasNoTable, IsTableOf, PublishesOther, PublishesTwice, IsRelationFault, IsUseFault, Maps}
use Rattle.catalog.proofs.Firsts.{first_at, first_by, refused_first}
use Rattle.relcache.proofs.Naming.{table_found, table_missing, one_table, columns_had, column_lacks, twice, once, maps}

-- ---- a relation that was learnt

module _ (tables : List Definition) (r : Published) where
  -- the table, which has the published columns, and none twice
  pub record IsUsable (place : ℕ) (t : Definition) : Type 0 where
    pub table : IsTableOf tables r place t
    pub had : ¬ (PublishesOther r.columns t.columns)
    pub once : ¬ (PublishesTwice r.columns)

  -- what a mapping, or a fault, tells
  abbrev pub Comes : Result Mapped RelFault → Type 0
  Comes (Ok m) = (t : Definition) × IsUsable m.table t × Maps r.columns t m
  Comes (Err fault) = IsFirst order (IsRelationFault tables r) fault

  no_table_missing : (place : ℕ) (t : Definition) → IsTableOf tables r place t → ¬ (HasNoTable tables r)
  no_table_missing place t is none = none place t is.stands is.named

  no_column_missing : (place : ℕ) (t : Definition) → IsTableOf tables r place t → ¬ (PublishesOther r.columns t.columns) → ¬ (IsRelationFault tables r ColumnMissing)
  no_column_missing place t is had applies =
      let same = one_table tables r applies.0 place applies.1 t applies.2 is in
      had (subst (λ (u : Definition). PublishesOther r.columns u.columns) same.1 applies.3)

  steps : (t : ℕ × Definition) → IsTableOf tables r t.0 t.1 → (all doubled : Bool) → list_all (has_column t.1.columns) r.columns ≡ all → has_twice r.columns ≡ doubled
      → Comes (require all ColumnMissing >>= (λ _. require (not doubled) ColumnCount >>= (λ _. Ok (mapped r t))))
  steps t is false doubled lacks has =
      first_at order (IsRelationFault tables r) 2 ColumnMissing refl (t.0, t.1, is, column_lacks t.1.columns r.columns lacks) (λ x. x, (no_table_missing t.0 t.1 is, tt))
  steps t is true true all has =
      first_at order (IsRelationFault tables r) 4 ColumnCount refl (twice r.columns has)
      (λ x. x, (no_table_missing t.0 t.1 is, (no_column_missing t.0 t.1 is (columns_had t.1.columns r.columns all), (λ x. x, tt))))
  steps t is true false all has =
      (t.1, record { table = is; had = columns_had t.1.columns r.columns all; once = once r.columns has }, maps r.columns (once r.columns has) t.1 r t.0 refl)

  by_table : (o : Option (ℕ × Definition)) → table_of r tables ≡ o
      → Comes (ok_or o TableMissing >>= (λ t. require (list_all (has_column t.1.columns) r.columns) ColumnMissing >>= (λ _. require (not (has_twice r.columns)) ColumnCount >>= (λ _. Ok (mapped r t)))))
  by_table None is = first_at order (IsRelationFault tables r) 1 TableMissing refl (table_missing r tables is) (λ x. x, tt)
  by_table (Some t) is = steps t (table_found r tables t is) _ _ refl refl

  pub comes : Comes (map_relation tables r)
  comes = by_table (table_of r tables) refl

  pub none_applies : (place : ℕ) (t : Definition) → IsUsable place t → (fault : RelFault) → ¬ (IsRelationFault tables r fault)
  none_applies place t usable TableMissing applies = no_table_missing place t usable.table applies
  none_applies place t usable ColumnMissing applies = no_column_missing place t usable.table usable.had applies
  none_applies place t usable ColumnCount applies = usable.once applies
  none_applies place t usable _ applies = applies

-- ---- an OID

module _ (tables : List Definition) (relations : Relations) (oid : ℕ) where
  module _ (r : Published) (learnt : relation_of relations oid ≡ Some r) where
    raised : (fault : RelFault) → IsRelationFault tables r fault → IsUseFault tables relations oid fault
    raised UnknownRelation applies = absurd applies
    raised fault applies = (r, learnt, applies)

    lowered : (fault : RelFault) → IsUseFault tables relations oid fault → IsRelationFault tables r fault
    lowered UnknownRelation none =
        let there : None ≡ Some r = sym none ∙ learnt in
        cc
    lowered fault (s, is, applies) = subst (λ (u : Published). IsRelationFault tables u fault) (same_Some s r (sym is ∙ learnt)) applies

  refusals : (o : Option Published) → relation_of relations oid ≡ o → (fault : RelFault) → (ok_or o UnknownRelation >>= map_relation tables) ≡ Err fault → IsFirst order (IsUseFault tables relations oid) fault
  refusals None is fault e =
      let same : UnknownRelation ≡ fault = cc in
      subst (IsFirst order (IsUseFault tables relations oid)) same (first_at order (IsUseFault tables relations oid) 0 UnknownRelation refl is tt)
  refusals (Some r) is fault e =
      let first : Comes tables r (Err fault) = subst (Comes tables r) e (comes tables r) in
      first_by order (IsRelationFault tables r) (IsUseFault tables relations oid) fault first (raised r is) (lowered r is)

  pub answered : (o : Option Published) → relation_of relations oid ≡ o → (m : Mapped) → (ok_or o UnknownRelation >>= map_relation tables) ≡ Ok m
      → (r : Published) × (t : Definition) × (relation_of relations oid ≡ Some r) × IsUsable tables r m.table t × Maps r.columns t m
  answered None is m e = cc
  answered (Some r) is m e =
      let come : Comes tables r (Ok m) = subst (Comes tables r) e (comes tables r) in
      (r, come.0, is, come.1, come.2)

  pub resolved_first : IsRefusedFirst order (resolved tables relations oid) (IsUseFault tables relations oid)
  resolved_first =
      refused_first order (resolved tables relations oid) (IsUseFault tables relations oid)
      (λ fault e. refusals (relation_of relations oid) refl fault e)
      (λ m e fault applies.
      let given = answered (relation_of relations oid) refl m e in
      none_applies tables given.0 m.table given.1 given.3 fault (lowered given.0 given.2 fault applies))

  pub resolved_maps : (m : Mapped) → resolved tables relations oid ≡ Ok m → (r : Published) × (t : Definition) × (relation_of relations oid ≡ Some r) × IsTableOf tables r m.table t × Maps r.columns t m
  resolved_maps m e =
      let given = answered (relation_of relations oid) refl m e in
      (given.0, given.1, given.2, given.3.table, given.4)
