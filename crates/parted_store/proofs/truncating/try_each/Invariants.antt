use Rattle.std.proofs.Common.{◌≡◌, ◌≤◌, length, vec_len, vec_capacity}
use Rattle.parted_store.specs.Truncating.{EachIs, Zones, Attempts, Untouched}
use Rattle.parted_store.proofs.truncating.try_each.Given as goal

-- the first parts have attempted it, the others are as they were
abbrev pub invariant-loop-i : goal.invariant-loop-i
invariant-loop-i l =
    EachIs (Zones l.i (Attempts l.mark l.tried.items) Untouched) l.fn.parts l.fn.shares.items l.parts l.shares.items
    × (length l.tried.items ≡ l.i) × (vec_len l.tried ≡ l.i) × (length l.fn.parts ≤ vec_capacity l.tried)
