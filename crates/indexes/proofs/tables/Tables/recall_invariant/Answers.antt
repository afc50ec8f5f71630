use Rattle.indexes.proofs.Seen as seen
use Rattle.indexes.proofs.tables.Tables.recall_invariant.Goals as goal

pub returns-clause-valid : goal.returns-clause-valid
returns-clause-valid c = seen.seen_valid c.self.inside.tables.items c.args.self.now c.self.view_is c.self.invariant

pub returns-clause-known : goal.returns-clause-known
returns-clause-known c = seen.seen_known c.self.inside.tables.items c.args.self.now c.self.view_is c.self.invariant

pub returns-clause-room : goal.returns-clause-room
returns-clause-room c = seen.seen_room c.self.inside.tables.items c.args.self.now c.self.view_is c.self.invariant
