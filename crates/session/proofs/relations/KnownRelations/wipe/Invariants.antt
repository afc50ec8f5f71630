use Rattle.session.proofs.Mappings.{TablesSoFar}
use Rattle.session.proofs.relations.KnownRelations.wipe.Given as goal

abbrev pub invariant-loop-oid : goal.invariant-loop-oid
invariant-loop-oid l = TablesSoFar l.catalog l.fn.self l.self l.oids l.oid-index l.tables.items
