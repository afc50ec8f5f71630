use Rattle.std.proofs.Common.{rules, arith, ℕ, ◌≡◌, ◌+◌, ◌%◌, ◌<◌, ◌≤◌, ◌^◌, ◌∷◌, sym, ap, ap₂, ◌∙◌, length, Some}
use Rattle.atomic_table.specs.Table.{rest}
use Rattle.ring.proofs.Seated.{all_slots}
use Rattle.ring.proofs.SenderSteps.{seeks, puts}
use Rattle.ring.proofs.sender.Sender.try_send.Goals as goal

pub load-head-requires : goal.load-head-requires
load-head-requires g c = (search rules, search rules, seeks _ _ _ c.self.invariant.sends c.self.invariant.idle)

pub store-requires : goal.store-requires
store-requires g c = let told = c.load-head.ensures.2 in let a : ℕ = told.0 in let sees = told.1 in
    let inv = c.self.invariant in let v = c.self.inside.seat.me.0 in
    let k : ℕ = c.self.inside.tail % c.self.inside.slots in
    let long : ℕ = length v.sent in let n : ℕ = c.deref.result.now.shared.table_id.slots in
    let n' : ℕ = c.deref-3.result.now.shared.table_id.slots in
    let wide : c.self.inside.slots ≡ n = all_slots inv.seated ∙ ap (λ t. t.shared.table_id.slots) (sym c.deref.ensures) in
    let wide' : c.self.inside.slots ≡ n' = all_slots inv.seated ∙ ap (λ t. t.shared.table_id.slots) (sym c.deref-3.ensures) in
    let tail : c.self.inside.tail ≡ c.self.inside.base + long = inv.tail in
    let base : c.self.inside.base ≡ v.sent_before = inv.base in
    let head : c.load-head.result ≡ v.sent_before + a = sees.shows in
    let behind : a ≤ long = sees.behind in let near : long ≤ a + n = sees.near in
    let far : c.self.inside.tail ≤ 2 ^ 63 = inv.far in
    let room : long < a + n = omega arith in let life : v.sent_before + long < 2 ^ 63 = omega arith in
    let seeking = told.2 room life in let wrote = c.exchange.ensures.3 in
    let now = ap (λ m. m.0) wrote ∙ ap (λ m. m.0) seeking in let base' = ap (λ w. w.sent_before) now in
    let sent' = ap (λ w. length w.sent) now in (
      search rules,
      search rules,
      puts _ _ _ k _ c.args.item (ap (λ w. w.sends) now ∙ inv.sends) (ap (λ w. w.writing) now) (ap (λ m. m.1) wrote ∙ ap (λ l. (k, Some c.args.item) ∷ l) (ap (λ m. rest m.1) seeking ∙ inv.empty))
          (ap₂ (λ (x y : ℕ). x % y) (tail ∙ ap₂ (λ (x y : ℕ). x + y) (base ∙ sym base') (sym sent')) wide')
          (ap (λ z. z + 1) (tail ∙ ap₂ (λ (x y : ℕ). x + y) (base ∙ sym base') (sym sent'))) (omega arith),
    )
