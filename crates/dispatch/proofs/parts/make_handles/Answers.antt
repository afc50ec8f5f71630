use Rattle.std.proofs.Common.{◌≡◌, ◌+◌, ℕ, List, length, get_or, refl, subst, sym, ap, ◌∙◌, arith, rules}
use Rattle.std.proofs.lemmas.List.Sorted.{All-permutation}
use Rattle.dispatch.specs.Handle.{IsIdle}
use Rattle.dispatch.specs.Parts.{AreNumbered}
use Rattle.dispatch.proofs.Making.{one_more, one_longer, numbered_front, numbered_at, numbered_last}
use Rattle.dispatch.proofs.parts.make_handles.Goals as goal

pub loop-own-preserved : goal.loop-own-preserved
loop-own-preserved g c =
    let was = c.loop-own.invariant in
    let fewer : length c.loop-own.ends.items ≡ length c.pop.new.self.items + 1 = one_longer c.pop.new.self.items c.loop-own.ends.items c.in-Some.own c.in-Some.ensures.items in
    let more = one_longer c.loop-own.workers.items c.push.new.self.items _ c.in_ok-push.ensures.items in
    record {
      free = one_more IsIdle c.loop-own.workers.items c.push.new.self.items _ c.in_ok-push.ensures.items was.free (subst IsIdle (sym c.new.ensures) (refl, refl));
      numbered = numbered_front 0 c.pop.new.self.items _ (subst (AreNumbered 0) c.in-Some.ensures.items was.numbered);
      count = omega (arith, was.count, fewer, more);
    }

-- what a worker shares has its number
pub new-requires : goal.new-requires
new-requires g c =
    let was = c.loop-own.invariant in
    let front = c.pop.new.self.items in
    let shared : List ℕ = c.args.shared.now in
    let e = c.in-Some.ensures.items in
    let fewer : length c.loop-own.ends.items ≡ length front + 1 = one_longer front c.loop-own.ends.items c.in-Some.own e in
    let number : c.len.result ≡ length front = search rules in
    c.index-shared-len.is ∙ ap (λ n. get_or shared n c.index-shared-len.result) number
    ∙ numbered_at 0 shared (length front) c.index-shared-len.result c.requires.numbered.1 (omega (arith, was.count, fewer, c.requires.shared))
    ∙ omega arith ∙ sym (numbered_last c.loop-own.ends.items front c.in-Some.own e was.numbered)

pub returns-clause-free : goal.returns-clause-free
returns-clause-free g c = All-permutation IsIdle c.loop-own.workers.items c.reverse.new.self.items c.reverse.ensures.permutation c.loop-own.invariant.free
