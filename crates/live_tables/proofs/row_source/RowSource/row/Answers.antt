use Rattle.std.proofs.Common.{subst}
use Rattle.live_tables.specs.declared.row_source.RowSource.{RowSource}
use Rattle.live_tables.specs.RowSource.{CanRead}
use Rattle.live_tables.proofs.row_source.RowSource.row.Goals as goal

pub get-requires : goal.get-requires
get-requires c = subst (λ (s : RowSource). CanRead s c.args.table) c.in-Live.is c.requires

pub returns-in-Live : goal.returns-in-Live
returns-in-Live c = rw c.in-Live.is c.get.ensures
