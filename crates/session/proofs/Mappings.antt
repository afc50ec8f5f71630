-- What is known of the relations and their mappings, as relations are learnt and used.
use Rattle.std.proofs.Common.{◌≡◌, ℕ, ◌+◌, ◌<◌, ◌≤◌, List, [], ◌∷◌, ◌++◌, length, drop, get_or, Option, Some, None, refl, sym, ap, ◌∙◌, append_assoc, append-nil, rules, ⊎_elim}
use Rattle.std.specs.Prelude.{All, IfSome, IsErrAnd, Result, Ok, Err, ok_or}
use Rattle.std.specs.Ordering.{nat_cmp}
use Rattle.std.specs.BTreeMap.{get, Updates}
use Rattle.std.specs.Arc.{arc_value}
use Rattle.std.proofs.lemmas.Bool.{cases_eq}
use Rattle.std.proofs.lemmas.List.{at_drop_more, at_drop_all}
use Rattle.std.proofs.lemmas.List.Elements.{All-push}
use Rattle.messages.specs.declared.relation.Relation.{Relation}
use Rattle.model.specs.Definition.{Definition}
use Rattle.relcache.specs.declared.fault.RelFault.{RelFault}
use Rattle.relcache.specs.Mapping.{Mapped, resolved, map_relation}
use Rattle.relcache.specs.Published.{Published, Relations, learnt}
use Rattle.relcache.specs.Steps.{◌>>=◌}
use Rattle.relcache.specs.declared.fault.RelFault.TheVariants.{UnknownRelation}
use Rattle.session.specs.declared.relations.KnownRelations.{KnownRelations}
use Rattle.session.specs.State.{Setting, State}
use Rattle.session.specs.Table.{tables_of, truncate_change}
use Rattle.session.specs.KnownRelations.{IsMappingOf, Represents, IsPlanned}
use Rattle.relcache.specs.Answer.{IsFaultOf}
use Rattle.model.specs.declared.change.Change as change_type
use Rattle.relcache.proofs.Learnt.{relation_of-learnt_other}
use Rattle.session.proofs.Kept.{apart_at}

-- ---- a relation more

-- the relation of another OID stays
resolved_elsewhere : (definitions : List Definition) (relations : Relations) (r : Relation) (oid : ℕ) → (r.oid ≡ oid → ⊥) → resolved definitions (learnt relations r) oid ≡ resolved definitions relations oid
resolved_elsewhere definitions relations r oid apart =
    ap (λ (o : Option Published). ok_or o UnknownRelation >>= map_relation definitions) (relation_of-learnt_other relations r oid (λ is. apart (sym is)))

mapping_elsewhere : (g : Setting) (relations : Relations) (r : Relation) (oid : ℕ) (m : Mapped) → (r.oid ≡ oid → ⊥) → IsMappingOf g relations oid m → IsMappingOf g (learnt relations r) oid m
mapping_elsewhere g relations r oid m apart is = record { resolves = resolved_elsewhere g.catalog relations r oid apart ∙ is.resolves; fits = is.fits }

on_some : {A : Type 0} (P Q : A → Type 0) (o : Option A) → ((x : A) → P x → Q x) → IfSome o P → IfSome o Q
on_some P Q None step is = is
on_some P Q (Some x) step is = step x is

-- what is known once a relation is learnt, and its OID's mapping is dropped
pub Represents-learnt : (g : Setting) (v w : KnownRelations) (relations : Relations) (r : Relation) → Represents g v relations → w.learnt ≡ learnt v.learnt r → Updates nat_cmp v.mappings w.mappings r.oid None → Represents g w (learnt relations r)
Represents-learnt g v w relations r known is step = record {
  learnt = is ∙ ap (λ rs. learnt rs r) known.learnt;
  mappings = λ oid.
      ⊎_elim
      (λ (same : r.oid ≡ oid).
      let none : get nat_cmp w.mappings oid ≡ None = sym (ap (get nat_cmp w.mappings) same) ∙ step.1 in
      rw none tt)
      (λ apart.
      let there : get nat_cmp w.mappings oid ≡ get nat_cmp v.mappings oid = step.2 oid (apart_at r.oid oid apart) in
      rw there (on_some (λ m. IsMappingOf g relations oid (arc_value m)) (λ m. IsMappingOf g (learnt relations r) oid (arc_value m)) (get nat_cmp v.mappings oid) (λ m is. mapping_elsewhere g relations r oid (arc_value m) apart is) (known.mappings oid)))
      (cases_eq r.oid oid);
}

-- ---- refusals

-- a fault of planning, through `?`
pub IsPlanned-refused : (g : Setting) (v : KnownRelations) (relations : Relations) (planned : Result change_type.Change RelFault) (result : Result change_type.Change RelFault) (fault : RelFault) → IsFaultOf planned fault → Represents g v relations
    → IsErrAnd result (λ e. e ≡ fault) → IsPlanned g v relations planned result
IsPlanned-refused g v relations planned (Ok c) fault of known is = absurd is
IsPlanned-refused g v relations planned (Err e) fault of known is = (rw is of, known)

-- ---- the tables of a truncate

-- these tables, and then those of the rest
abbrev pub tables_from : List ℕ → Result (List ℕ) RelFault → Result (List ℕ) RelFault
tables_from before rest = rest >>= (λ tables. Ok (before ++ tables))

-- The tables of the first i relations, where all of them have one; the relations stay.
pub record HasTables (g : Setting) (h : State) (v : KnownRelations) (oids : List ℕ) (i : ℕ) (tables : List ℕ) : Type 0 where
  pub known : Represents g v h.relations
  pub so_far : tables_of g.catalog h.relations oids ≡ tables_from tables (tables_of g.catalog h.relations (drop i oids))
  pub named : All (λ table. table < length g.catalog) tables

-- the same, whatever the state
abbrev pub TablesSoFar : List Definition → KnownRelations → KnownRelations → List ℕ → ℕ → List ℕ → Type 0
TablesSoFar definitions old new oids i tables = (g : Setting) (h : State) → g.catalog ≡ definitions → Represents g old h.relations → HasTables g h new oids i tables

from_none : (rest : Result (List ℕ) RelFault) → rest ≡ tables_from [] rest
from_none (Ok tables) = refl
from_none (Err fault) = refl

pub HasTables-start : (g : Setting) (h : State) (v : KnownRelations) (oids : List ℕ) → Represents g v h.relations → HasTables g h v oids 0 []
HasTables-start g h v oids known = record { known = known; so_far = from_none (tables_of g.catalog h.relations oids); named = search rules }

from_next : (before : List ℕ) (table : ℕ) (rest : Result (List ℕ) RelFault) → tables_from before (rest >>= (λ tables. Ok (table ∷ tables))) ≡ tables_from (before ++ table ∷ []) rest
from_next before table (Ok tables) = ap Ok (sym (append_assoc before (table ∷ []) tables))
from_next before table (Err fault) = refl

abbrev tables_after : Result Mapped RelFault → Result (List ℕ) RelFault → Result (List ℕ) RelFault
tables_after first rest = first >>= (λ m. rest >>= (λ tables. Ok (m.table ∷ tables)))

pub HasTables-next : (g : Setting) (h : State) (v w : KnownRelations) (oids : List ℕ) (i : ℕ) (tables : List ℕ) (m : Mapped) → HasTables g h v oids i tables → i < length oids
    → IsMappingOf g h.relations (get_or oids i 0) m → Represents g w h.relations → HasTables g h w oids (i + 1) (tables ++ m.table ∷ [])
HasTables-next g h v w oids i tables m has within is known = record {
  known = known;
  so_far =
      has.so_far
      ∙ ap (tables_from tables) (at_drop_more (tables_of g.catalog h.relations) oids i 0 within)
      ∙ ap (λ first. tables_from tables (tables_after first (tables_of g.catalog h.relations (drop (i + 1) oids)))) is.resolves
      ∙ from_next tables m.table (tables_of g.catalog h.relations (drop (i + 1) oids));
  named = All-push (λ table. table < length g.catalog) tables m.table has.named is.fits.known;
}

-- a relation that has no table
pub no_table : (g : Setting) (h : State) (v : KnownRelations) (oids : List ℕ) (i : ℕ) (tables : List ℕ) (fault : RelFault) → HasTables g h v oids i tables → i < length oids
    → resolved g.catalog h.relations (get_or oids i 0) ≡ Err fault → truncate_change g h oids ≡ Err fault
no_table g h v oids i tables fault has within refused =
    let all : tables_of g.catalog h.relations oids ≡ Err fault =
    has.so_far
    ∙ ap (tables_from tables) (at_drop_more (tables_of g.catalog h.relations) oids i 0 within)
    ∙ ap (λ first. tables_from tables (tables_after first (tables_of g.catalog h.relations (drop (i + 1) oids)))) refused in
    rw all

-- all of them have one
pub all_tables : (g : Setting) (h : State) (v : KnownRelations) (oids : List ℕ) (i : ℕ) (tables : List ℕ) → HasTables g h v oids i tables → length oids ≤ i → tables_of g.catalog h.relations oids ≡ Ok tables
all_tables g h v oids i tables has over =
    has.so_far ∙ ap (tables_from tables) (at_drop_all (tables_of g.catalog h.relations) oids i over) ∙ ap Ok (append-nil tables)
