use Rattle.std.specs.BTreeMap.{btree_map_len}
use Rattle.live_tables.proofs.MergeSteps.{GoesOn}
use Rattle.live_tables.proofs.merging.put_up_to.Given as goal

-- what stands at the keys so far is behind the rows
abbrev pub invariant-loop-first : goal.invariant-loop-first
invariant-loop-first l = GoesOn l.key l.initial.rows.items l.initial.stands.entries l.rows.items l.stands.entries

abbrev pub decreases-loop-first : goal.decreases-loop-first
decreases-loop-first l = btree_map_len l.stands
