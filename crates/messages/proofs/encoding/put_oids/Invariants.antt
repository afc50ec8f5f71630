use Rattle.std.proofs.Common.{◌≡◌, ◌++◌, take}
use Rattle.std.specs.List.{flat_map}
use Rattle.messages.specs.Field.{four, number_bytes}
use Rattle.messages.proofs.encoding.put_oids.Given as goal

abbrev pub invariant-loop-oid : goal.invariant-loop-oid
invariant-loop-oid l = l.out.items ≡ l.fn.out.items ++ flat_map (number_bytes four) (take l.oid-index l.oids)
