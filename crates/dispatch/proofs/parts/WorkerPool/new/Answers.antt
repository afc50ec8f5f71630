use Rattle.std.proofs.Common.{◌≡◌, ◌+◌, [], ◌∷◌, ◌++◌, length, reverse, sym, subst, ◌∙◌, arith, rules}
use Rattle.std.specs.Prelude.{option_to_list}
use Rattle.std.proofs.lemmas.Grind.{common_steps}
use Rattle.tokens.specs.Half.{no_name}
use Rattle.dispatch.specs.Parts.{AreNumbered, ring_of, outbox_of}
use Rattle.dispatch.proofs.Making.{front_fresh, front_value, longer, one_longer, numbered_more}
use Rattle.dispatch.proofs.parts.WorkerPool.new.Goals as goal

pub loop-part-preserved : goal.loop-part-preserved
loop-part-preserved g c =
    let whole = c.loop-part.parts.items in
    let front = c.pop.new.self.items in
    let rest = option_to_list c.pop.result in
    let e = c.pop.ensures.items in
    let was = c.loop-part.invariant in
    let added = c.in_ok-add.ensures in
    let one : length whole ≡ length front + 1 = one_longer front whole c.in-Some.part c.in-Some.ensures.items in
    let gate : length c.loop-part.gates.items ≡ length c.pop-in-Some.new.self.items + 1 =
    one_longer c.pop-in-Some.new.self.items c.loop-part.gates.items c.in-Some-pop.gate c.in-Some-pop.ensures.items in
    let number : c.len.result ≡ length front = search rules in
    let more = one_longer c.loop-part.pool.ends.items c.add.new.self.ends.items _ added.ends in
    let sharing = one_longer c.loop-part.pool.shared.items c.add.new.self.shared.items _ added.shared in
    let lower = subst (λ n. c.add.new.self.ends.items ≡ c.loop-part.pool.ends.items ++ n ∷ []) number added.ends in
    let below = subst (λ n. c.add.new.self.shared.items ≡ c.loop-part.pool.shared.items ++ n ∷ []) number added.shared in
    record {
      fresh = front_fresh whole front rest e was.fresh;
      numbered = (
        numbered_more (length whole) (length front) c.loop-part.pool.ends.items c.add.new.self.ends.items one lower was.numbered.0,
        numbered_more (length whole) (length front) c.loop-part.pool.shared.items c.add.new.self.shared.items one below was.numbered.1,
      );
      left = omega (arith, was.left, one, gate);
      ends = omega (arith, was.ends, gate, more);
      shared = omega (arith, was.shared, gate, sharing);
      given = omega (arith, was.given, gate, added.given);
      rings = λ i lt. front_value ring_of whole front rest no_name i e lt ∙ was.rings i (longer whole front rest i e lt);
      outboxes = λ i lt. front_value outbox_of whole front rest no_name i e lt ∙ was.outboxes i (longer whole front rest i e lt);
    }

pub returns-clause-numbered : goal.returns-clause-numbered
returns-clause-numbered g c =
    let none : length c.loop-part.parts.items ≡ 0 = grind (arith, common_steps, c.in_default.ensures.cases) in
    let was = c.loop-part.invariant.numbered in (
      subst (AreNumbered 0) (sym c.reverse-2.ensures.items) (subst (λ n. AreNumbered n (reverse c.loop-part.pool.ends.items)) none was.0),
      subst (AreNumbered 0) (sym c.reverse.ensures.items) (subst (λ n. AreNumbered n (reverse c.loop-part.pool.shared.items)) none was.1),
    )
