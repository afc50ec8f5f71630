use Rattle.std.specs.Prelude.{ℕ, List, None, cond}
use Rattle.std.proofs.Common.{◌∙◌, ap, sym, arith}
use Rattle.std.specs.Ordering.{eq_by_cmp}
use Rattle.model.specs.declared.key.Key.{Key}
use Rattle.model.specs.Key.{key_cmp}
use Rattle.rows.specs.Hashed.{number_for}
use Rattle.rows.proofs.KeyOrders.{beside_without, in_order_struck, renumbers_struck}
use Rattle.rows.proofs.key_order.KeyOrder.remove.Goals as goal

pub invariant_of-self : goal.invariant_of-self
invariant_of-self c =
    let run = c.self.inside.run.items in
    let beside = c.self.inside.beside.entries in
    let without = beside_without run beside c.self.invariant c.args.key.now (sym c.if-strike.ensures.had) in
    in_order_struck run beside c.self.invariant c.args.key.now c.strike.new.run.items c.if-strike.ensures.struck beside without (omega arith)

pub returns-then-strike : goal.returns-then-strike
returns-then-strike c = λ q.
    let run = c.self.inside.run.items in
    let beside = c.self.inside.beside.entries in
    let without = beside_without run beside c.self.invariant c.args.key.now (sym c.if-strike.ensures.had) in
    ap (λ (es : List (Key × ℕ)). number_for es q) c.note_struck.ensures
    ∙ renumbers_struck run beside c.self.invariant c.args.key.now c.strike.new.run.items c.if-strike.ensures.struck beside without q
    ∙ ap (λ (es : List (Key × ℕ)). cond (eq_by_cmp key_cmp c.args.key.now q) None (number_for es q)) c.self.view_is

pub invariant_of-self-else-strike : goal.invariant_of-self-else-strike
invariant_of-self-else-strike c =
    in_order_struck c.self.inside.run.items c.self.inside.beside.entries c.self.invariant c.args.key.now c.strike.new.run.items c.if-strike.ensures.struck
    c.remove.new.self.entries c.remove.ensures.updates.0 (omega (arith, c.remove.ensures.len))

pub returns-else-strike : goal.returns-else-strike
returns-else-strike c = λ q.
    renumbers_struck c.self.inside.run.items c.self.inside.beside.entries c.self.invariant c.args.key.now c.strike.new.run.items c.if-strike.ensures.struck
    c.remove.new.self.entries c.remove.ensures.updates.0 q
    ∙ ap (λ (es : List (Key × ℕ)). cond (eq_by_cmp key_cmp c.args.key.now q) None (number_for es q)) c.self.view_is
