use Rattle.std.proofs.Common.{◌∷◌, [], length, ap, arith, length-append}
use Rattle.dispatch.specs.Parts.{IsFresh, HasSlots}
use Rattle.dispatch.proofs.Making.{one_more}
use Rattle.dispatch.proofs.parts.make_parts.Goals as goal

pub loop-preserved : goal.loop-preserved
loop-preserved g c =
    let made = c.loop.made.items in
    let more = c.push.new.self.items in
    let part = c.in_ok-new_parts.field-0 in
    let pushed = c.in_ok-push.ensures.items in
    let new = c.in_ok-new_parts.ensures in
    let longer = ap length pushed in
    let one = length-append made (part ∷ []) in (
      one_more IsFresh made more part pushed c.loop.invariant.0 new.fresh,
      one_more (HasSlots c.clamp-slots.result) made more part pushed c.loop.invariant.1 new.slots,
      omega (arith, longer, one, c.loop.invariant.2),
    )
