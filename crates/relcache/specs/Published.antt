-- What a relation says, as far as it counts; and the relations that were learnt.
use Rattle.std.specs.Prelude.{ℕ, List, map, Option, nat_eq}
use Rattle.std.specs.Map.{lookup}
use Rattle.indexmap.specs.IndexMap.{insert_entry}
use Rattle.messages.specs.declared.relation.Relation.{Relation}
use Rattle.messages.specs.declared.relation.RelationColumn.{RelationColumn}
use Rattle.relcache.specs.declared.published.PublishedColumn.{PublishedColumn}

-- The names of a relation, and its columns in the publisher's order, each with its name and whether
-- it is flagged as key. Type OIDs, type modifiers and the replica identity have no effect.
pub record Published : Type 0 where
  pub namespace : List ℕ
  pub name : List ℕ
  pub columns : List PublishedColumn

-- what counts of a column: its name, and whether it is flagged as key
abbrev pub published_column : RelationColumn → PublishedColumn
published_column c = record { name = c.name; is_key = c.is_key }

-- what counts of a relation
abbrev pub published : Relation → Published
published r = record { namespace = r.namespace; name = r.name; columns = map published_column r.columns }

-- what was last said of each OID, in the order in which the OIDs first came
abbrev pub Relations : Type 0
Relations = List (ℕ × Published)

-- the relations once this one is learnt: it replaces that of its OID in its place, or comes last
abbrev pub learnt : Relations → Relation → Relations
learnt relations r = insert_entry nat_eq relations r.oid (published r)

-- what the relation of an OID says, if one was learnt
abbrev pub relation_of : Relations → ℕ → Option Published
relation_of relations oid = lookup (nat_eq oid) relations
