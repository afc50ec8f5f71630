-- What a session knows of relations, and what its calls on them answer.
use Rattle.std.specs.Prelude.{◌≡◌, ℕ, length, Result, Ok, MatchResult, IfSome}
use Rattle.std.specs.Ordering.{nat_cmp}
use Rattle.std.specs.BTreeMap.{get}
use Rattle.std.specs.Arc.{arc_value}
use Rattle.model.specs.declared.change.Change as change_type
use Rattle.relcache.specs.declared.fault.RelFault.{RelFault}
use Rattle.relcache.specs.declared.fault.RelFault.TheVariants.{OutOfMemory as NoMemory}
use Rattle.relcache.specs.Answer.{IsFaultOf}
use Rattle.relcache.specs.Fits.{FitsCatalog}
use Rattle.relcache.specs.Mapping.{Mapped, resolved}
use Rattle.relcache.specs.Published.{Relations}
use Rattle.session.specs.declared.relations.KnownRelations.{KnownRelations}
use Rattle.session.specs.State.{Setting}
use Rattle.model.specs.Named.{NamesTables}

-- The mapping is that of the OID's relation.
pub record IsMappingOf (g : Setting) (relations : Relations) (oid : ℕ) (m : Mapped) : Type 0 where
  pub resolves : resolved g.catalog relations oid ≡ Ok m
  pub fits : FitsCatalog g.catalog m

-- The relations that were learnt, and the mappings of some of them.
pub record Represents (g : Setting) (v : KnownRelations) (relations : Relations) : Type 0 where
  pub learnt : v.learnt ≡ relations
  pub mappings : (oid : ℕ) → IfSome (get nat_cmp v.mappings oid) (λ m. IsMappingOf g relations oid (arc_value m))

-- The relations are these now; or memory was refused, and they are as they were.
abbrev pub IsLearnt : Setting → KnownRelations → Relations → Relations → Result (Unit {0}) RelFault → Type 0
IsLearnt g v old new result = MatchResult result (λ _. Represents g v new) (λ fault. (fault ≡ NoMemory) × Represents g v old)

-- The table is that of the relation, or the fault is that of the definition; the relations stay.
abbrev pub IsTableFound : Setting → KnownRelations → Relations → ℕ → Result ℕ RelFault → Type 0
IsTableFound g v relations oid result =
    MatchResult result
    (λ table. (m : Mapped) × (table ≡ m.table) × IsMappingOf g relations oid m × Represents g v relations)
    (λ fault. IsFaultOf (resolved g.catalog relations oid) fault × Represents g v relations)

-- The change is this one, and names tables of the catalog; or the fault is this one, or of memory. The relations stay.
abbrev pub IsPlanned : Setting → KnownRelations → Relations → Result change_type.Change RelFault → Result change_type.Change RelFault → Type 0
IsPlanned g v relations planned result =
    MatchResult result
    (λ c. (planned ≡ Ok c) × NamesTables (length g.catalog) c × Represents g v relations)
    (λ fault. IsFaultOf planned fault × Represents g v relations)
