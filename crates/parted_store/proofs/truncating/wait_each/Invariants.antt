use Rattle.std.proofs.Common.{◌≡◌, ◌≤◌, List, false, length, map, take, vec_len}
use Rattle.table_parts.specs.Part.{Part}
use Rattle.parted_store.specs.EachPart.{AreApart}
use Rattle.parted_store.specs.Shares.{Shares}
use Rattle.parted_store.specs.Truncating.{EachIs, Zones, Stands, Waits, CanWaitEach, cut_of}
use Rattle.parted_store.proofs.truncating.wait_each.Given as goal

-- the parts behind those whose cuts are left wait
abbrev pub invariant-loop-cut : goal.invariant-loop-cut
invariant-loop-cut l =
    ((start : List Part) (all : Shares) → AreApart start → l.fn.cuts.items ≡ map cut_of start → CanWaitEach start all
    → EachIs (Stands false) start all l.fn.parts l.fn.shares.items
    → EachIs (Zones (length l.cuts.items) (Stands false) Waits) start all l.parts l.shares.items)
    × (l.cuts.items ≡ take (length l.cuts.items) l.fn.cuts.items)
    × (length l.cuts.items ≤ length l.fn.cuts.items)

abbrev pub decreases-loop-cut : goal.decreases-loop-cut
decreases-loop-cut l = vec_len l.cuts
