use Rattle.std.proofs.Common.{◌≡◌, Bool, true, false, refl, subst, arith}
use Rattle.std.specs.Prelude.{◌&&◌, All}
use Rattle.std.proofs.lemmas.Grind.{common_steps}
use Rattle.leader.specs.Onlookers.{HasThread}
use Rattle.leader.proofs.Iterated.{given_count}
use Rattle.leader.proofs.chief.fn.beside.scope.Goals as goal

-- both are true, so the first is
first_true : (a b : Bool) → (a && b) ≡ true → a ≡ true
first_true true b is = refl
first_true false b is = is

pub returns : goal.returns
returns g c =
    let given = given_count c.into_iter-onlooker-iterator.result c.loop-onlooker.yielded c.loop-onlooker.onlooker-iterator c.loop-onlooker.yielded_by in record {
      led = (
        _,
        c.beside_workers-left.ensures.1,
        λ has_all. subst (All HasThread) c.deref.ensures.value (c.have_threads-are_watching.ensures (first_true _ _ has_all)),
      );
      count = grind (arith, common_steps, given, c.in-None.ensures.steps.0, c.into_iter-onlooker-iterator.ensures.into_iter_gives.1, c.loop-onlooker.invariant.count, c.into_parts-all.ensures.all);
    }
