use Rattle.world_parts.specs.TruncateLemmas.{wipe_lifts, wait_lifts}
use Rattle.world_parts.proofs.laws.truncated_by_parts.Goals as goal

pub returns : goal.returns
returns c = λ schema w xid o runs sub tables.
    (wipe_lifts schema w xid o runs sub tables, wait_lifts schema w xid o runs sub tables)
