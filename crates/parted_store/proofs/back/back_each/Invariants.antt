use Rattle.std.proofs.Common.{◌∷◌}
use Rattle.savepoint.specs.Savepoints.{subs_of}
use Rattle.parted_store.specs.Back.{BacksShare, KeepsShares}
use Rattle.parted_store.specs.EachPart.{Progress}
use Rattle.parted_store.proofs.back.back_each.Given as goal

-- the first parts have done so, and each share is still one of its part
abbrev pub invariant-loop-i : goal.invariant-loop-i
invariant-loop-i l =
    Progress (BacksShare (l.sub ∷ subs_of l.dropped)) l.fn.parts l.fn.shares.items l.parts l.shares.items l.i
    × KeepsShares l.fn.shares.items l.shares.items
