use Rattle.std.proofs.Common.{◌≡◌, ℕ, ◌+◌, ◌-◌, vec_len}
use Rattle.parted_store.specs.Shares.{share_of}
use Rattle.parted_store.proofs.shares.make_room.Given as goal

abbrev pub invariant-loop-shares : goal.invariant-loop-shares
invariant-loop-shares l = (other : ℕ) → share_of l.shares.items other ≡ share_of l.fn.shares.items other

abbrev pub decreases-loop-shares : goal.decreases-loop-shares
decreases-loop-shares l = l.table + 1 - vec_len l.shares
