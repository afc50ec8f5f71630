-- What is known of an OID once a relation is learnt; and which table of a valid catalog a relation names.
use Rattle.std.proofs.Common.{◌≡◌, ◌≢◌, ℕ, ◌<◌, true, false, codes, cond, List, [], ◌∷◌, get_or, Some, option_map, refl, sym, ap, ◌∙◌, ⊎_elim}
use Rattle.std.specs.Prelude.{nat_eq}
use Rattle.std.specs.List.{slice_get}
use Rattle.std.proofs.lemmas.Bool.{cases_Bool, cases_order, eq-eqb, ne_eqb, eqb-true}
use Rattle.std.proofs.lemmas.List.{length-map}
use Rattle.std.proofs.lemmas.Option.{slice_get-map, slice_get_within, get_or_from_slice_get}
use Rattle.messages.specs.declared.relation.Relation.{Relation}
use Rattle.model.specs.Definition.{Definition}
use Rattle.catalog.specs.Valid.{IsValid}
use Rattle.relcache.specs.Published.{Published, Relations, published_column, published, learnt, relation_of}
use Rattle.relcache.specs.Statements.{Says, IsNamedBy}

pub relation_of-learnt_own : (relations : Relations) (r : Relation) → relation_of (learnt relations r) r.oid ≡ Some (published r)
relation_of-learnt_own [] r = rw (eq-eqb r.oid r.oid refl)
relation_of-learnt_own (e ∷ es) r =
    ⊎_elim
    (λ (here : nat_eq r.oid e.0 ≡ true). rw (here, here))
    (λ (later : nat_eq r.oid e.0 ≡ false). rw (later, later) (relation_of-learnt_own es r))
    (cases_Bool (nat_eq r.oid e.0))

pub relation_of-learnt_other : (relations : Relations) (r : Relation) (oid : ℕ) → oid ≢ r.oid → relation_of (learnt relations r) oid ≡ relation_of relations oid
relation_of-learnt_other [] r oid apart = rw (ne_eqb oid r.oid apart)
relation_of-learnt_other (e ∷ es) r oid apart =
    ⊎_elim
    (λ (here : nat_eq r.oid e.0 ≡ true).
    let same : r.oid ≡ e.0 = eqb-true r.oid e.0 here in
    let other : nat_eq oid e.0 ≡ false = ne_eqb oid e.0 (λ is. apart (is ∙ sym same)) in
    rw (here, other))
    (λ (later : nat_eq r.oid e.0 ≡ false). rw later (ap (cond (nat_eq oid e.0) (Some e.1)) (relation_of-learnt_other es r oid apart)))
    (cases_Bool (nat_eq r.oid e.0))

pub says : (r : Relation) → Says r (published r)
says r = record {
  namespace = refl;
  name = refl;
  count = length-map r.columns published_column;
  columns = λ place c at. slice_get-map published_column r.columns place ∙ ap (option_map published_column) at;
}

-- ---- a valid catalog

same_namespace : (named a b : List ℕ) → (named ≢ [] → a ≡ named) → (named ≡ [] → a ≡ codes "pg_catalog") → (named ≢ [] → b ≡ named) → (named ≡ [] → b ≡ codes "pg_catalog") → a ≡ b
same_namespace [] a b own own_system other other_system = own_system refl ∙ sym (other_system refl)
same_namespace (c ∷ cs) a b own own_system other other_system = own (λ e. cc) ∙ sym (other (λ e. cc))

module _ (tables : List Definition) (valid : IsValid tables) (r : Published) where
  not_below : (i j : ℕ) (t u : Definition) → slice_get tables i ≡ Some t → slice_get tables j ≡ Some u → IsNamedBy t r → IsNamedBy u r → ¬ (i < j)
  not_below i j t u at later named other below =
      let own : get_or tables i t ≡ t = get_or_from_slice_get tables i t t at in
      let last : get_or tables j t ≡ u = get_or_from_slice_get tables j u t later in
      valid.tables_distinct i j t below (slice_get_within tables j u later)
      (ap (λ (d : Definition). d.namespace) own ∙ same_namespace r.namespace t.namespace u.namespace named.namespace named.system other.namespace other.system ∙ sym (ap (λ (d : Definition). d.namespace) last))
      (ap (λ (d : Definition). d.name) own ∙ named.name ∙ sym other.name ∙ sym (ap (λ (d : Definition). d.name) last))

  pub one_named : (i j : ℕ) (t u : Definition) → slice_get tables i ≡ Some t → slice_get tables j ≡ Some u → IsNamedBy t r → IsNamedBy u r → i ≡ j
  one_named i j t u at later named other =
      ⊎_elim
      (λ (same : i ≡ j). same)
      (λ apart.
      ⊎_elim
      (λ (below : i < j). absurd (not_below i j t u at later named other below))
      (λ (above : j < i). absurd (not_below j i u t later at other named above))
      apart)
      (cases_order i j)
