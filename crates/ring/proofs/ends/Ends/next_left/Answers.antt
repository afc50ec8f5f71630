use Rattle.std.proofs.Common.{rules, ℕ, ◌≡◌, ◌+◌, ◌%◌, ◌∷◌, length, sym, ap, ap₂, ◌∙◌, Some}
use Rattle.atomic_table.specs.Table.{rest}
use Rattle.ring.specs.TakerKeeps.{out_of}
use Rattle.ring.proofs.Seated.{all_slots}
use Rattle.ring.proofs.TakerSteps.{finds, acks}
use Rattle.ring.proofs.Handing.{handing, Finds, handed, hands_out, hands_taken, finds_next, hands_found, swapped, taken_out}
use Rattle.ring.proofs.ends.Ends.next_left.Given.{Over}
use Rattle.ring.proofs.ends.Ends.next_left.Goals as goal
use Rattle.ring.proofs.ends.Ends.next_left.Goals.{Else-tail-self, After-store-in-None}

pub store-requires : goal.store-requires
store-requires g c = let inv = c.self.invariant in let a = c.self.inside in let v = a.seat.me.0 in
    let is = sym c.in-Some.ensures.value in let n : ℕ = c.deref.result.now.shared.table_id.slots in
    let wide : a.slots ≡ n = all_slots inv.seated ∙ ap (λ t. t.shared.table_id.slots) (sym c.deref.ensures) in
    let head : a.head ≡ v.acked_before + length v.acked = inv.head ∙ ap (λ b. b + length v.acked) (inv.base ∙ sym inv.begun) in
    (search rules, search rules, acks _ _ _ _ _ c.in-Some.item inv.takes (sym inv.item ∙ is) (inv.out ∙ ap (out_of (a.head % a.slots)) is) (ap₂ (λ (x y : ℕ). x % y) head wide) (ap (λ z. z + 1) head))

pub invariant_of-self : goal.invariant_of-self
invariant_of-self g c = let a = c.self.inside in let x = c.in-Some.item in
    let got = hands_taken a c.self.invariant c.store.new.seat.me x (sym c.in-Some.ensures.value) c.store.ensures.2 in
    handed a c.self.invariant c.store.new.seat _ a.seat.me.0.known x got.1.0 c.store.ensures.0 got.0 c.take.ensures.after got.1.1

pub returns-in-Some : goal.returns-in-Some
returns-in-Some g c = let a = c.self.inside in let x = c.in-Some.item in
    let got = hands_taken a c.self.invariant c.store.new.seat.me x (sym c.in-Some.ensures.value) c.store.ensures.2 in
    rw (← c.self.view_is) (hands_out a c.self.invariant c.store.new.seat c.take.new.self a.seat.me.0.known x got.1.0 c.store.ensures.0 got.0 got.1.1)

pub load-tail-requires : goal.load-tail-requires
load-tail-requires g c = (search rules, search rules, finds _ _ _ c.self.invariant.takes (sym c.self.invariant.item ∙ sym c.in-None.ensures.value))

-- the first item that is left is found, and its slot is out
found : (g : Over) (c : Else-tail-self g) → Finds c.self.inside c.load-tail.new.seat.me
found g c = let inv = c.self.invariant in
    finds_next c.self.inside inv _ _ _ c.load-tail.ensures.2 (all_slots inv.seated ∙ ap (λ t. t.shared.table_id.slots) (sym c.deref-in-None.ensures)) (sym c.in-None.ensures.value) c.if-tail-self.false

pub exchange-item-requires : goal.exchange-item-requires
exchange-item-requires g c = let a = c.self.inside in
    let got = found g (goal.at.exchange-item-requires g c).Else-tail-self in let has = ap (λ m. m.1) got.3 in
    (search rules, (Some got.1, has ∙ ap (λ l. (a.head % a.slots, Some got.1) ∷ l) (sym (ap rest has))))

pub store-requires-in-None : goal.store-requires-in-None
store-requires-in-None g c = let a = c.self.inside in let inv = c.self.invariant in let v = a.seat.me.0 in
    let wide = all_slots inv.seated ∙ ap (λ t. t.shared.table_id.slots) (sym c.deref-in-None-3.ensures) in
    let got = found g (goal.at.store-requires-in-None g c).Else-tail-self in
    let now = swapped a.seat.me.0 c.exchange-item.ensures.3 got.3 in
    let head : a.head ≡ v.acked_before + length v.acked = inv.head ∙ ap (λ b. b + length v.acked) (inv.base ∙ sym inv.begun) in
    let same = ap (λ m. m.0.acked_before + length m.0.acked) now in
    (search rules, search rules, acks _ _ _ _ _ got.1 (ap (λ m. m.0.takes) now ∙ inv.takes) (ap (λ m. m.0.taken) now) (ap (λ m. m.1) now) (ap₂ (λ (x y : ℕ). x % y) (head ∙ sym same) wide) (ap (λ z. z + 1) (head ∙ sym same)))

-- and it is handed out, so that no slot is out any more
given : (g : Over) (c : After-store-in-None g) (got : Finds c.self.inside c.load-tail.new.seat.me)
    → c.store-in-None.new.seat.me ≡ handing c.self.inside.seat.me.0 got.0 got.1
given g c got = let v = c.self.inside.seat.me.0 in
    hands_found v got.0 _ got.1 _ _ (swapped v c.exchange-item.ensures.3 got.3) c.store-in-None.ensures.2

pub invariant_of-self-in-None : goal.invariant_of-self-in-None
invariant_of-self-in-None g c = let got = found g (goal.at.invariant_of-self-in-None g c).Else-tail-self in
    handed c.self.inside c.self.invariant c.store-in-None.new.seat _ got.0 got.1 got.2 (c.store-in-None.ensures.0 ∙ c.exchange-item.ensures.0 ∙ c.load-tail.ensures.0)
    (given g (goal.at.invariant_of-self-in-None g c).After-store-in-None got) c.take.ensures.after got.4

pub returns-else-tail-self : goal.returns-else-tail-self
returns-else-tail-self g c = let a = c.self.inside in
    let got = found g (goal.at.returns-else-tail-self g c).Else-tail-self in
    let item = taken_out a.seat.me.0 c.exchange-item.ensures.2 got.3 in
    rw (← c.self.view_is, ← item) (hands_out a c.self.invariant c.store-in-None.new.seat c.take.new.self got.0 got.1 got.2 (c.store-in-None.ensures.0 ∙ c.exchange-item.ensures.0 ∙ c.load-tail.ensures.0)
    (given g (goal.at.returns-else-tail-self g c).After-store-in-None got) got.4)
