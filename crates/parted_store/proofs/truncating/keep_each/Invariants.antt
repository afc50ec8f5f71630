use Rattle.std.proofs.Common.{◌≡◌, ◌≤◌, List, length, take, vec_len}
use Rattle.table_parts.specs.Part.{Part}
use Rattle.parted_store.specs.EachPart.{AreApart}
use Rattle.parted_store.specs.Shares.{Shares}
use Rattle.parted_store.specs.Truncating.{EachIs, Zones, Attempts, Keeps}
use Rattle.parted_store.proofs.truncating.keep_each.Given as goal

-- the parts behind those whose attempts are left have kept theirs
abbrev pub invariant-loop-attempt : goal.invariant-loop-attempt
invariant-loop-attempt l =
    ((start : List Part) (all : Shares) → AreApart start
    → EachIs (Zones (length l.fn.tried.items) (Attempts l.mark l.fn.tried.items) (Keeps l.mark)) start all l.fn.parts l.fn.shares.items
    → EachIs (Zones (length l.tried.items) (Attempts l.mark l.fn.tried.items) (Keeps l.mark)) start all l.parts l.shares.items)
    × (l.tried.items ≡ take (length l.tried.items) l.fn.tried.items)
    × (length l.tried.items ≤ length l.fn.tried.items)

abbrev pub decreases-loop-attempt : goal.decreases-loop-attempt
decreases-loop-attempt l = vec_len l.tried
