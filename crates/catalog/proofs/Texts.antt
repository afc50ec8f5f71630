-- What a text gives: the catalog that its document describes, or the first fault that applies.
use Rattle.std.proofs.Common.{◌≡◌, ℕ, List, map, Option, Some, None, Result, Ok, Err, refl, sym, ap, ◌∙◌, subst}
use Rattle.std.proofs.lemmas.Option.{same_Some}
use Rattle.toml.specs.Data.{Members}
use Rattle.toml.specs.Parse.{parse_document}
use Rattle.model.specs.Definition.{Definition}
use Rattle.catalog.specs.declared.fault.CatalogFault.{CatalogFault}
use Rattle.catalog.specs.declared.fault.CatalogFault.TheVariants.{NotToml, UnknownField}
use Rattle.catalog.specs.declared.draft.TableDraft.{TableDraft}
use Rattle.catalog.specs.Document.{tables_of}
use Rattle.catalog.specs.Definitions.{definition_from}
use Rattle.catalog.specs.Faults.{first_fault}
use Rattle.catalog.specs.Catalog.{catalog_from, catalog_of_tables, catalog_of_document, catalog_of}
use Rattle.catalog.specs.First.{IsFirst, IsRefusedFirst}
use Rattle.catalog.specs.Statements.{Describes, DefinesAll, IsTablesFault, IsTextFault, order}
use Rattle.catalog.proofs.Defined.{defines_all}
use Rattle.catalog.proofs.Described.{document_read, document_from}
use Rattle.catalog.proofs.Firsts.{first_at, first_by, refused_first}
use Rattle.catalog.proofs.Wrong.{Stands, first_stands}

module _ (text : List ℕ) where
  -- what a catalog, or a fault, tells
  abbrev pub Comes : Result (List Definition) CatalogFault → Type 0
  Comes (Ok catalog) =
      (doc : Members) × (ts : List TableDraft) × (parse_document text ≡ Some doc) × Describes doc ts × ((fault : CatalogFault) → ¬ (IsTablesFault ts fault)) × (map definition_from ts ≡ catalog)
  Comes (Err fault) = IsFirst order (IsTextFault text) fault

  module _ (doc : Members) (is : parse_document text ≡ Some doc) where
    not_toml : ¬ (IsTextFault text NotToml)
    not_toml none =
        let both : None ≡ Some doc = sym none ∙ is in
        cc

    undescribed : tables_of doc ≡ None → (ts : List TableDraft) → ¬ (Describes doc ts)
    undescribed none ts describes =
        let both : None ≡ Some ts = sym none ∙ document_from doc ts describes in
        cc

    module _ (ts : List TableDraft) (describes : Describes doc ts) where
      raised : (fault : CatalogFault) → IsTablesFault ts fault → IsTextFault text fault
      raised NotToml applies = absurd applies
      raised UnknownField applies = absurd applies
      raised fault applies = (doc, ts, is, describes, applies)

      one_tables : (other : Members) (us : List TableDraft) → parse_document text ≡ Some other → Describes other us → us ≡ ts
      one_tables other us at described =
          let same : other ≡ doc = same_Some _ _ (sym at ∙ is) in
          same_Some us ts (sym (document_from other us described) ∙ ap tables_of same ∙ document_from doc ts describes)

      lowered : (fault : CatalogFault) → IsTextFault text fault → IsTablesFault ts fault
      lowered NotToml none = absurd (not_toml none)
      lowered UnknownField unread = absurd (unread.2 ts (subst (λ (d : Members). Describes d ts) (same_Some _ _ (sym is ∙ unread.1)) describes))
      lowered fault said = subst (λ (vs : List TableDraft). IsTablesFault vs fault) (one_tables said.0 said.1 said.2 said.3) said.4

      by_fault : (fault : Option CatalogFault) → Stands ts fault → Comes (catalog_from ts fault)
      by_fault None none = (doc, ts, is, describes, none, refl)
      by_fault (Some fault) first = first_by order (IsTablesFault ts) (IsTextFault text) fault first raised lowered

    by_tables : (ts : Option (List TableDraft)) → tables_of doc ≡ ts → Comes (catalog_of_tables ts)
    by_tables None none = first_at order (IsTextFault text) 1 UnknownField refl (doc, is, undescribed none) (not_toml, tt)
    by_tables (Some ts) read = by_fault ts (document_read doc ts read) (first_fault ts) (first_stands ts)

  by_document : (doc : Option Members) → parse_document text ≡ doc → Comes (catalog_of_document doc)
  by_document None none = first_at order (IsTextFault text) 0 NotToml refl none tt
  by_document (Some doc) is = by_tables doc is (tables_of doc) refl

  comes : Comes (catalog_of text)
  comes = by_document (parse_document text) refl

  pub catalog_of_first : IsRefusedFirst order (catalog_of text) (IsTextFault text)
  catalog_of_first =
      refused_first order (catalog_of text) (IsTextFault text)
      (λ fault e. let come : Comes (Err fault) = subst Comes e comes in come)
      (λ catalog e fault applies.
      let come : Comes (Ok catalog) = subst Comes e comes in
      come.4 fault (lowered come.0 come.2 come.1 come.3 fault applies))

  pub catalog_of_defines : (catalog : List Definition) → catalog_of text ≡ Ok catalog → (doc : Members) × (ts : List TableDraft) × (parse_document text ≡ Some doc) × Describes doc ts × DefinesAll ts catalog
  catalog_of_defines catalog e =
      let come : Comes (Ok catalog) = subst Comes e comes in
      (come.0, come.1, come.2, come.3, subst (DefinesAll come.1) come.5 (defines_all come.1 come.4))
