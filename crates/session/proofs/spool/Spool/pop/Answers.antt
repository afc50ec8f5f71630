use Rattle.std.proofs.Common.{◌≡◌, ◌++◌, ◌∷◌, ◌+◌, [], length, take, sym, ap, ◌∙◌, arith}
use Rattle.std.specs.Prelude.{◌-◌, sum}
use Rattle.std.specs.List.{zip}
use Rattle.session.specs.Sized.{IsSpool, unnoted_by, bytes_of, SizedItems}
use Rattle.session.proofs.Spools.{zip-push, IsSpool-pop, take-front, bytes_of-zip, sum-push}
use Rattle.session.proofs.spool.Spool.pop.Goals as goal

-- the spool before, with the last item in sight
before : (c : goal.Joined-item) → IsSpool (c.pop.new.self.items ++ c.in-Some.item ∷ []) (c.pop-2.new.self.items ++ c.in-Some-pop.size ∷ []) c.self.inside.savepoints
before c = rw (c.in-Some.ensures.items, c.in-Some-pop.ensures.items) at c.self.invariant

after : (c : goal.Joined-item) → IsSpool c.pop.new.self.items c.pop-2.new.self.items (unnoted_by c.in-Some.item (length c.pop.new.self.items) c.self.inside.savepoints)
after c = IsSpool-pop c.pop.new.self.items c.pop-2.new.self.items c.self.inside.savepoints c.in-Some.item c.in-Some-pop.size (before c)

was : (c : goal.Joined-item) → c.args.self.now ≡ zip c.pop.new.self.items c.pop-2.new.self.items ++ (c.in-Some.item, c.in-Some-pop.size) ∷ []
was c =
    let seen : zip c.self.inside.items.items c.self.inside.sizes.items ≡ c.args.self.now = c.self.view_is in
    sym (rw (c.in-Some.ensures.items, c.in-Some-pop.ensures.items) at seen) ∙ zip-push c.pop.new.self.items c.pop-2.new.self.items c.in-Some.item c.in-Some-pop.size (after c).paired

pub invariant_of-self-2 : goal.invariant_of-self-2
invariant_of-self-2 c =
    let index : c.len.result ≡ length c.pop.new.self.items = omega (arith, c.len.ensures, c.pop.new.self.ok.0) in
    let marks = c.unnote.ensures ∙ ap (λ n. unnoted_by c.in-Some.item n c.self.inside.savepoints) index in
    rw marks (after c)

pub returns-clause-rest : goal.returns-clause-rest
returns-clause-rest c =
    sym (ap (λ (is : SizedItems). take (length is - 1) is) (was c) ∙ take-front (zip c.pop.new.self.items c.pop-2.new.self.items) (c.in-Some.item, c.in-Some-pop.size))

pub returns-clause-freed : goal.returns-clause-freed
returns-clause-freed c =
    let now = bytes_of-zip c.pop.new.self.items c.pop-2.new.self.items (after c).paired in
    let seen : zip c.self.inside.items.items c.self.inside.sizes.items ≡ c.args.self.now = c.self.view_is in
    let old : bytes_of c.args.self.now ≡ sum c.self.inside.sizes.items = ap bytes_of (sym seen) ∙ bytes_of-zip c.self.inside.items.items c.self.inside.sizes.items c.self.invariant.paired in
    let more = ap sum c.in-Some-pop.ensures.items ∙ sum-push c.pop-2.new.self.items c.in-Some-pop.size in
    ap (λ n. c.in-Some-pop.size + n) now ∙ sym (old ∙ more)
