use Rattle.std.proofs.Common.{rules, arith, ℕ, ◌≡◌, ◌≢◌, ◌+◌, ◌%◌, ◌<◌, ◌≤◌, ◌∷◌, length, sym, ap, ap₂, ◌∙◌, Some}
use Rattle.atomic_table.specs.Table.{rest}
use Rattle.ring.proofs.Seated.{all_slots}
use Rattle.ring.proofs.TakerSteps.{finds}
use Rattle.ring.proofs.taker.Taker.look.Goals as goal

pub load-tail-requires : goal.load-tail-requires
load-tail-requires g c = (search rules, search rules, finds _ _ _ c.self.invariant.takes (ap (λ v. v.taken) c.self.view_is ∙ c.requires))

pub exchange-item-requires : goal.exchange-item-requires
exchange-item-requires g c = let told = c.load-tail.ensures.2 in let sees = told.1 in
    let inv = c.self.invariant in let a = c.self.inside in let v = a.seat.me.0 in
    let tail : c.load-tail.result ≡ v.acked_before + told.0 = sees.shows in
    let head : a.head ≡ v.acked_before + length v.acked = inv.head in
    let ahead : length v.acked ≤ told.0 = sees.ahead in
    let more : c.load-tail.result ≢ a.head = c.if-tail-self.false in
    let got = told.2 (let lt : length v.acked < told.0 = omega arith in lt) in let has = ap (λ m. m.1) got.3 in
    let wide = all_slots inv.seated ∙ ap (λ t. t.shared.table_id.slots) (sym c.deref.ensures) in
    let slot = ap₂ (λ (x y : ℕ). x % y) inv.head wide in (search rules, (Some got.0, has ∙ (λ i. (sym slot i, Some got.0) ∷ sym (ap rest has) i)))
