-- An item that was left is handed out: the fields of an `Ends` afterwards, and what its caller knows.
use Rattle.std.proofs.Common.{◌≡◌, ℕ, ◌+◌, ◌%◌, ◌^◌, ◌<◌, ◌≤◌, List, [], ◌∷◌, ◌++◌, length, take, sym, refl, ap, ap₂, ◌∙◌, ◌≢◌, subst, arith, length-append, Option, None, Some, MatchOption}
use Rattle.std.proofs.lemmas.List.{take-append-le}
use Rattle.atomic_table.specs.declared.shared.Seat.{Seat}
use mathlib.Core.Option.{none}
use Rattle.atomic_table.specs.Table.{Me, step, rest}
use Rattle.ring.specs.declared.protocol.View.{View}
use Rattle.ring.specs.declared.ends.Ends.TheInside.{Inside}
use Rattle.ring.specs.declared.protocol.TheConstants.{TAIL}
use Rattle.ring.specs.Steps.{took_next}
use Rattle.ring.specs.Ends.{HandsOut}
use Rattle.ring.specs.EndsKeep.{meeting, IsEnds}
use Rattle.ring.specs.TakerKeeps.{out_of}
use Rattle.ring.proofs.Seated.{seated_again}
use Rattle.ring.proofs.Left.{rest_of, behind_acked, next_rest}

module _ {T : Type 0} where
  -- the seat's view once x is acknowledged too
  abbrev pub handing : View T → ℕ → T → Me (Option T) (View T)
  handing v b x = (record v { known = b; acked = v.acked ++ x ∷ []; taken = None }, [])

  pub handed : (a : Inside T) → IsEnds a
      → (seat : Seat (Option T) (View T)) (item : Option T) (b : ℕ) (x : T) (others : List T)
      → seat.table_id ≡ a.seat.table_id → seat.me ≡ handing a.seat.me.0 b x → item ≡ None
      → a.seat.me.0.sent ≡ a.seat.me.0.acked ++ x ∷ others
      → IsEnds (record a { seat = seat; head = a.head + 1; item = item })
  handed a inv seat item b x others id now nothing is = let v : View T = a.seat.me.0 in
      let u : View T = seat.me.0 in let acked : u.acked ≡ v.acked ++ x ∷ [] = ap (λ m. m.0.acked) now in
      let long : length u.acked ≡ length v.acked + 1 = ap length acked ∙ length-append v.acked (x ∷ []) in
      let head : a.head ≡ a.base + length v.acked = inv.head in
      let counted : a.acked ≤ length v.acked = inv.counted in
      let sent : u.sent ≡ u.acked ++ others = ap (λ m. m.0.sent) now ∙ next_rest v.sent v.acked others x is ∙ ap (λ l. l ++ others) (sym acked) in let all : length u.sent ≡ length v.sent = ap (λ m. length m.0.sent) now in
      let far : a.base + length v.sent ≤ 2 ^ 63 = inv.far in record {
        seated = seated_again id inv.seated;
        spare = id ∙ inv.spare;
        sends = ap (λ m. m.0.sends) now ∙ inv.sends;
        takes = ap (λ m. m.0.takes) now ∙ inv.takes;
        idle = ap (λ m. m.0.writing) now ∙ inv.idle;
        item = nothing ∙ sym (ap (λ m. m.0.taken) now);
        base = inv.base ∙ sym (ap (λ m. m.0.sent_before) now);
        begun = ap (λ m. m.0.acked_before) now ∙ inv.begun ∙ sym (ap (λ m. m.0.sent_before) now);
        head = omega arith;
        far = omega arith;
        counted = omega arith;
        parts = behind_acked u.sent u.acked others sent;
        next = subst (λ i. MatchOption i (Unit {0}) (λ y. (more : List T) × (u.sent ≡ u.acked ++ y ∷ more))) (sym nothing) tt;
        out = ap (λ m. m.1) now ∙ ap (out_of ((a.head + 1) % a.slots)) (sym nothing);
      }

  pub hands_out : (a : Inside T) → IsEnds a
      → (seat : Seat (Option T) (View T)) (item : Option T) (b : ℕ) (x : T) (others : List T)
      → seat.table_id ≡ a.seat.table_id → seat.me ≡ handing a.seat.me.0 b x
      → a.seat.me.0.sent ≡ a.seat.me.0.acked ++ x ∷ others
      → HandsOut (meeting a) (meeting (record a { seat = seat; head = a.head + 1; item = item })) (Some x)
  hands_out a inv seat item b x others id now is = let v : View T = a.seat.me.0 in
      let u : View T = seat.me.0 in let acked : u.acked ≡ v.acked ++ x ∷ [] = ap (λ m. m.0.acked) now in
      let counted : a.acked ≤ length v.acked = inv.counted in
      let sent : u.sent ≡ u.acked ++ others = ap (λ m. m.0.sent) now ∙ next_rest v.sent v.acked others x is ∙ ap (λ l. l ++ others) (sym acked) in
      let kept : take a.acked (v.acked ++ x ∷ []) ≡ take a.acked v.acked = rw take-append-le refl in record {
        ring = id;
        before = ap (λ m. m.0.sent_before) now;
        sent = ap (λ m. m.0.sent) now;
        acked = ap (take a.acked) acked ∙ kept;
        left = rest_of v.sent v.acked (x ∷ others) is ∙ ap (λ l. x ∷ l) (sym (rest_of u.sent u.acked others sent));
      }

  -- the item that was taken is acknowledged, and no slot is out any more
  acknowledged : (me me' : Me (Option T) (View T)) (x : T) → me.0.taken ≡ Some x → rest me.1 ≡ []
      → (y : T) × (me.0.taken ≡ Some y) × (me' ≡ (record me.0 { acked = me.0.acked ++ y ∷ []; taken = None }, rest me.1)) → me' ≡ handing me.0 me.0.known x
  acknowledged me me' x is empty told = let same : told.0 ≡ x = let both : Some told.0 ≡ Some x = sym told.1 ∙ is in cc in
      told.2 ∙ (λ i. (record me.0 { known = me.0.known; acked = me.0.acked ++ same i ∷ []; taken = None }, empty i))

  abbrev pub Acknowledges : Me (Option T) (View T) → Me (Option T) (View T) → Type 0
  Acknowledges me me' = (y : T) × (me.0.taken ≡ Some y) × (me' ≡ (record me.0 { acked = me.0.acked ++ y ∷ []; taken = None }, rest me.1))

  -- where an item was taken before
  pub hands_taken : (a : Inside T) → IsEnds a → (me' : Me (Option T) (View T)) (x : T) → a.item ≡ Some x
      → Acknowledges a.seat.me me'
      → (me' ≡ handing a.seat.me.0 a.seat.me.0.known x) × ((others : List T) × (a.seat.me.0.sent ≡ a.seat.me.0.acked ++ x ∷ others))
  hands_taken a inv me' x is told = let v : View T = a.seat.me.0 in
      (acknowledged a.seat.me me' x (sym inv.item ∙ is) (ap rest (inv.out ∙ ap (out_of (a.head % a.slots)) is)) told, subst (λ i. MatchOption i (Unit {0}) (λ y. (others : List T) × (v.sent ≡ v.acked ++ y ∷ others))) is inv.next)

  -- the seat once it has taken the first item that is left
  abbrev pub holding : View T → ℕ → T → ℕ → Option T → Me (Option T) (View T)
  holding v b x k item = (record v { known = b; taken = Some x }, (k, item) ∷ [])

  -- the seat takes the first item that is left, out of the slot of the head
  abbrev pub Finds : Inside T → Me (Option T) (View T) → Type 0
  Finds a me' = (b : ℕ) × (x : T) × (others : List T) × (me' ≡ holding a.seat.me.0 b x (a.head % a.slots) (Some x)) × (a.seat.me.0.sent ≡ a.seat.me.0.acked ++ x ∷ others)

  pub finds_next : (a : Inside T) → IsEnds a → (n m : ℕ) (me' : Me (Option T) (View T))
      → took_next (step n TAIL 0 0 none) a.seat.me m me' → a.slots ≡ n → a.item ≡ None → m ≢ a.head
      → Finds a me'
  finds_next a inv n m me' told wide nothing more = let v : View T = a.seat.me.0 in let b : ℕ = told.0 in
      let sees = told.1 in let tail : m ≡ v.acked_before + b = sees.shows in
      let ahead : length v.acked ≤ b = sees.ahead in
      let head : a.head ≡ v.acked_before + length v.acked = inv.head ∙ ap (λ z. z + length v.acked) (inv.base ∙ sym inv.begun) in let got = told.2 (let lt : length v.acked < b = omega arith in lt) in
      let slot : (v.acked_before + length v.acked) % n ≡ a.head % a.slots = ap₂ (λ (y z : ℕ). y % z) (sym head) (sym wide) in
      (b, got.0, got.1, got.3 ∙ (λ i. (record v { known = b; taken = Some got.0 }, (slot i, Some got.0) ∷ (inv.out ∙ ap (out_of (a.head % a.slots)) nothing) i)), got.2 inv.sends)

  pub hands_found : (v : View T) (b k : ℕ) (x : T) (me me' : Me (Option T) (View T))
      → me ≡ holding v b x k None → Acknowledges me me' → me' ≡ handing v b x
  hands_found v b k x me me' is told = acknowledged me me' x (ap (λ m. m.0.taken) is) (ap (λ m. rest m.1) is) told ∙ ap (λ m. handing m.0 m.0.known x) is

  -- the item is read out of the slot, which is then empty
  pub swapped : {me me' : Me (Option T) (View T)} (v : View T) {b k : ℕ} {x : T}
      → me' ≡ (me.0, (k, None) ∷ rest me.1) → me ≡ holding v b x k (Some x) → me' ≡ holding v b x k None
  swapped v {k = k} e is = e ∙ ap (λ m. (m.0, (k, None) ∷ rest m.1)) is

  pub taken_out : {me : Me (Option T) (View T)} (v : View T) {b k : ℕ} {x : T} {found : Option T}
      → me.1 ≡ (k, found) ∷ rest me.1 → me ≡ holding v b x k (Some x) → Some x ≡ found
  taken_out {me = me} v {k = k} {x = x} {found = found} e is = let out : ℕ × Option T = (k, found) in
      let took : ℕ × Option T = (k, Some x) in
      let both : took ∷ [] ≡ out ∷ rest me.1 = sym (ap (λ m. m.1) is) ∙ e in
      let same : took ≡ out = cc in ap (λ (p : ℕ × Option T). p.1) same
