use Rattle.std.proofs.Common.{rules, ℕ, ◌≡◌, ◌+◌, ◌%◌, ◌∷◌, [], List, sym, ap, ap₂, ◌∙◌, Option, None, Some, IsSome, refl}
use Rattle.ring.specs.TakerKeeps.{out_of}
use Rattle.ring.proofs.Seated.{all_slots}
use Rattle.ring.proofs.TakerSteps.{acks}
use Rattle.ring.proofs.taker.Taker.ack.Goals as goal

-- the slot that is out is that of the item taken
held : {T : Type 0} (k : ℕ) (taken : Option T) (out : List (ℕ × Option T)) → IsSome taken
    → out ≡ out_of k taken → (x : T) × (taken ≡ Some x) × (out ≡ (k, None) ∷ [])
held k None out h is = absurd (cc)
held k (Some x) out h is = (x, refl, is)

pub store-requires : goal.store-requires
store-requires g c = let inv = c.self.invariant in let a = c.self.inside in
    let got = held (a.head % a.slots) a.seat.me.0.taken a.seat.me.1 (rw (ap (λ t. t.taken) c.self.view_is) c.requires) (inv.out ∙ ap (out_of (a.head % a.slots)) inv.item) in
    let wide = all_slots inv.seated ∙ ap (λ t. t.shared.table_id.slots) (sym c.deref.ensures) in
    (search rules, search rules, acks _ _ _ _ _ got.0 inv.takes got.1 got.2 (ap₂ (λ (x y : ℕ). x % y) inv.head wide) (ap (λ z. z + 1) inv.head))
