use Rattle.std.proofs.Common.{sym, ◌∙◌}
use Rattle.std.specs.Prelude.{refl}
use Rattle.std.specs.Map.{keys_of}
use Rattle.keyholds.specs.Addresses.{with_cells}
use Rattle.keyholds.proofs.Longer.{addresses_alike, with_cells_same, front_stays}
use Rattle.keyholds.proofs.holds.release_from.Goals as goal

pub loop-init : goal.loop-init
loop-init g c = record {
  front = refl;
  placed = λ held is kept.
      addresses_alike held (with_cells held c.args.xid (keys_of c.args.list.now.items)) c.args.addresses.now
      (λ x. sym (with_cells_same held c.args.xid (keys_of c.args.list.now.items) is x)) kept;
}

pub loop-preserved : goal.loop-preserved
loop-preserved g c = record {
  front = front_stays c.args.mark c.loop.list.items c.pop_past.new.list.items c.pop_past.result c.pop_past.ensures.items ∙ c.loop.invariant.front;
  placed = λ held is kept. c.pop_past.ensures.addresses held (c.loop.invariant.placed held is kept);
}

pub returns-clause-addresses : goal.returns-clause-addresses
returns-clause-addresses g c = λ held is kept. c.pop_past.ensures.addresses held (c.loop.invariant.placed held is kept)
