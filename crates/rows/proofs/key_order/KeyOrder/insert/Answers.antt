use Rattle.std.specs.Prelude.{◌≡◌, ℕ, ◌+◌, ◌≤◌, Bool, true, false, if◌then◌else◌, is_some, Option, refl, [], ◌∷◌, ◌++◌, List, cond, Some}
use Rattle.std.proofs.Common.{◌∙◌, ap, subst, arith}
use Rattle.std.specs.Map.{keys_of}
use Rattle.std.specs.Ordering.{eq_by_cmp}
use Rattle.model.specs.declared.key.Key.{Key}
use Rattle.model.specs.Key.{key_cmp}
use Rattle.rows.specs.Hashed.{number_for}
use Rattle.rows.proofs.KeyOrders.{in_order_pushed, renumbers_pushed, in_order_inserted, renumbers_inserted}
use Rattle.rows.proofs.Runs.{Ascends}
use Rattle.rows.proofs.key_order.KeyOrder.insert.Goals as goal

one_more : (b : Bool) (n m : ℕ) → m ≡ n + (if b then 0 else 1) → m ≤ n + 1
one_more true n m is = omega arith
one_more false n m is = omega arith

pub invariant_of-self : goal.invariant_of-self
invariant_of-self c =
    let run = c.self.inside.run.items in
    let absent = ap (λ (es : List (Key × ℕ)). number_for es c.args.key) c.self.view_is ∙ c.requires in
    let above = subst (λ (es : List (Key × Option ℕ)). Ascends (keys_of es ++ c.args.key ∷ [])) c.as_slice.ensures.value
    (c.if-is_above.ensures refl) in
    in_order_pushed run c.self.inside.beside.entries c.self.invariant c.args.key c.args.number absent c.push.new.self.items c.in_ok-push.ensures.items above
    (omega arith)

pub returns-in_ok-push-clause-ok : goal.returns-in_ok-push-clause-ok
returns-in_ok-push-clause-ok c = λ q.
    let absent = ap (λ (es : List (Key × ℕ)). number_for es c.args.key) c.self.view_is ∙ c.requires in
    renumbers_pushed c.self.inside.run.items c.self.inside.beside.entries c.self.invariant c.args.key c.args.number absent c.push.new.self.items c.in_ok-push.ensures.items q
    ∙ ap (λ (es : List (Key × ℕ)). cond (eq_by_cmp key_cmp c.args.key q) (Some c.args.number) (number_for es q)) c.self.view_is

pub invariant_of-self-in_ok-insert : goal.invariant_of-self-in_ok-insert
invariant_of-self-in_ok-insert c =
    let absent = ap (λ (es : List (Key × ℕ)). number_for es c.args.key) c.self.view_is ∙ c.requires in
    in_order_inserted c.self.inside.run.items c.self.inside.beside.entries c.self.invariant c.args.key c.args.number absent c.insert.new.self.entries
    c.in_ok-insert.ensures.updates.0 (one_more (is_some c.in_ok-insert.field-0) _ _ c.in_ok-insert.ensures.len) (omega arith)

pub returns-in_ok-insert-clause-ok : goal.returns-in_ok-insert-clause-ok
returns-in_ok-insert-clause-ok c = λ q.
    let absent = ap (λ (es : List (Key × ℕ)). number_for es c.args.key) c.self.view_is ∙ c.requires in
    renumbers_inserted c.self.inside.run.items c.self.inside.beside.entries c.self.invariant c.args.key c.args.number absent c.insert.new.self.entries
    c.in_ok-insert.ensures.updates.0 q
    ∙ ap (λ (es : List (Key × ℕ)). cond (eq_by_cmp key_cmp c.args.key q) (Some c.args.number) (number_for es q)) c.self.view_is
