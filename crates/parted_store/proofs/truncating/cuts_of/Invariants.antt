use Rattle.std.proofs.Common.{◌≡◌, map, take}
use Rattle.parted_store.specs.Truncating.{cut_of}
use Rattle.parted_store.proofs.truncating.cuts_of.Given as goal

-- those of the parts so far
abbrev pub invariant-loop-part : goal.invariant-loop-part
invariant-loop-part l = l.cuts.items ≡ map cut_of (take l.part-index l.parts)
