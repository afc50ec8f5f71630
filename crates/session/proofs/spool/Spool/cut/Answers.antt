use Rattle.std.proofs.Common.{◌≡◌, length, take, drop, sym, ap, ◌∙◌, arith}
use Rattle.std.specs.Prelude.{sum}
use Rattle.std.specs.List.{zip}
use Rattle.savepoint.specs.Savepoints.{before_first, before_mark}
use Rattle.session.specs.Sized.{bytes_of, IsSpool}
use Rattle.session.proofs.Spools.{index_within, IsSpool-cut, IsSpool-uncut, zip-cut, zip-uncut, bytes_of-zip, sum-split}
use Rattle.session.proofs.spool.Spool.cut.Goals as goal

pub total_from-freed-requires : goal.total_from-freed-requires
total_from-freed-requires c =
    let within = index_within c.self.inside.items.items c.self.inside.sizes.items c.self.inside.savepoints c.args.sub c.in-Some.index c.self.invariant (sym c.in-Some.ensures.mark) in
    omega (arith, within, c.self.invariant.paired, ap length c.deref.ensures.value)

-- the spool after the cut
after : (c : goal.After-truncate-in-Some) → IsSpool (take c.in-Some.index c.self.inside.items.items) (take c.in-Some.index c.self.inside.sizes.items) (before_mark c.args.sub c.self.inside.savepoints)
after c = IsSpool-cut c.self.inside.items.items c.self.inside.sizes.items c.self.inside.savepoints c.args.sub c.in-Some.index c.self.invariant (sym c.in-Some.ensures.mark)

pub invariant_of-self : goal.invariant_of-self
invariant_of-self c = rw (c.truncate.ensures.items, c.truncate-in-Some.ensures.items, c.in-Some.ensures.rest) (after c)

pub returns-in-Some-clause-rest : goal.returns-in-Some-clause-rest
returns-in-Some-clause-rest c =
    let kept : zip c.truncate.new.self.items c.truncate-in-Some.new.self.items ≡ before_first c.args.sub (zip c.self.inside.items.items c.self.inside.sizes.items) = rw (c.truncate.ensures.items, c.truncate-in-Some.ensures.items) (zip-cut c.self.inside.items.items c.self.inside.sizes.items c.self.inside.savepoints c.args.sub c.in-Some.index c.self.invariant (sym c.in-Some.ensures.mark)) in
    kept ∙ ap (before_first c.args.sub) c.self.view_is

pub returns-in-Some-clause-freed : goal.returns-in-Some-clause-freed
returns-in-Some-clause-freed c =
    let seen : zip c.self.inside.items.items c.self.inside.sizes.items ≡ c.args.self.now = c.self.view_is in
    let old : bytes_of c.args.self.now ≡ sum c.self.inside.sizes.items = ap bytes_of (sym seen) ∙ bytes_of-zip c.self.inside.items.items c.self.inside.sizes.items c.self.invariant.paired in
    let lists : zip c.truncate.new.self.items c.truncate-in-Some.new.self.items ≡ zip (take c.in-Some.index c.self.inside.items.items) (take c.in-Some.index c.self.inside.sizes.items) = rw (c.truncate.ensures.items, c.truncate-in-Some.ensures.items) in
    let new : bytes_of (zip c.truncate.new.self.items c.truncate-in-Some.new.self.items) ≡ sum (take c.in-Some.index c.self.inside.sizes.items) = ap bytes_of lists ∙ bytes_of-zip _ _ (after c).paired in
    let split = sum-split c.in-Some.index c.self.inside.sizes.items in
    let same : sum (drop c.in-Some.index c.deref.result.now) ≡ sum (drop c.in-Some.index c.self.inside.sizes.items) = ap (λ ns. sum (drop c.in-Some.index ns)) c.deref.ensures.value in
    λ fits.
    let freed = c.total_from-freed.ensures (omega (arith, same, split, old)) in
    omega (arith, freed, same, split, old, new)

pub invariant_of-self-in-None : goal.invariant_of-self-in-None
invariant_of-self-in-None c =
    rw c.in-None.ensures.rest (IsSpool-uncut c.self.inside.items.items c.self.inside.sizes.items c.self.inside.savepoints c.args.sub c.self.invariant (sym c.in-None.ensures.mark))

pub returns-in-None-clause-rest : goal.returns-in-None-clause-rest
returns-in-None-clause-rest c =
    sym (zip-uncut c.self.inside.items.items c.self.inside.sizes.items c.self.inside.savepoints c.args.sub c.self.invariant (sym c.in-None.ensures.mark)) ∙ ap (before_first c.args.sub) c.self.view_is
