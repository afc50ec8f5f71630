-- The steps of a taker keep the ring's rule, and tell what they say.
use Rattle.std.proofs.Common.{◌≡◌, ℕ, suc, ◌+◌, ◌%◌, ◌^◌, ◌<◌, ◌≤◌, Bool, true, false, List, [], ◌∷◌, ◌++◌, length, get_or, set, sym, refl, ap, ◌∙◌, subst, arith, le_refl, length-append, append_assoc, append-nil, Option, Some, None}
use mathlib.Core.Option.{none, some}
use mathlib.Core.Option as maybe
use lib.ListN.{get_elem?}
use Rattle.atomic_table.specs.Table.{State, Me, step, put_back, keeps, takes, gives, Allows}
use Rattle.ring.specs.declared.protocol.View.{View}
use Rattle.ring.specs.declared.protocol.TheConstants.{HEAD, TAIL, DOOM}
use Rattle.ring.specs.Flow.{Course, Slots, SenderKnows, TakerKnows, Holds, Flow, head_of, tail_of}
use Rattle.ring.specs.Steps.{SeesTail, took_next, acked_next, heard}
use Rattle.ring.proofs.Slots.{lends, frees}
use Rattle.ring.proofs.Words.{loaded, head_stored}
use Rattle.ring.proofs.Seats.{taker_steps, slots_of, Loads, looked}

module _ {T : Type 0} where
  -- what the taker learns of the tail
  sees_tail : (s : State (Option T) (View T)) (law : Flow s) (n id : ℕ) (v : View T) → length s.homes ≡ n
      → get_elem? s.views id ≡ some v → v.takes ≡ true
      → SeesTail (step n TAIL 0 0 none) v (get_or s.words TAIL 0) (length (law.course.acked ++ law.course.left))
  sees_tail s law n id v wide at on = let c = law.course in let k = (law.seats.of_taker id v at on).1 in
      let sl = slots_of s law n wide in
      let long : length v.acked ≡ length c.acked = ap length k.acked_is in
      let parts : length (c.acked ++ c.left) ≡ length c.acked + length c.left = length-append c.acked c.left in
      let fits : length c.left ≤ n = sl.fits in let far : tail_of c ≤ 2 ^ 63 = law.counts.far in
      let tail : get_or s.words TAIL 0 ≡ tail_of c = law.counts.tail_is in record {
        shows = law.counts.tail_is ∙ ap (λ b. b + length (c.acked ++ c.left)) (sym k.before_is);
        grows = k.known_is;
        ahead = omega arith;
        near = omega arith;
        far = omega arith;
      }

  -- where this seat sends too, it knows what was sent
  sent_by : (s : State (Option T) (View T)) (law : Flow s) (id : ℕ) (v : View T)
      → get_elem? s.views id ≡ some v → v.takes ≡ true → (left : List T) → law.course.left ≡ left
      → v.sends ≡ true → v.sent ≡ v.acked ++ left
  sent_by s law id v at on left is sends = (law.seats.of_sender id v at sends).1.sent_is ∙ ap (λ l. l ++ law.course.left) (sym (law.seats.of_taker id v at on).1.acked_is) ∙ ap (λ l. v.acked ++ l) is

  -- what a sender knows does not speak of what the taker does with its slot
  sender_kept : (c : Course T) (b : Bool) (u : View T) → SenderKnows c u → SenderKnows (record c { reading = b }) u
  sender_kept c b u k = record { before_is = k.before_is; sent_is = k.sent_is; counted_is = k.counted_is; dooms_is = k.dooms_is; writing_is = k.writing_is }

  pub not_reading : (reading : Bool) (left : List T) (taken : Option T) → Holds reading left taken
      → taken ≡ None → reading ≡ false
  not_reading reading left None h e = h
  not_reading reading left (Some x) h e = absurd (cc)

  -- what is left, by cases
  finds_in : (n id : ℕ) (me : Me (Option T) (View T)) → me.0.takes ≡ true → me.0.taken ≡ None
      → (s : State (Option T) (View T)) (law : Flow s) → length s.homes ≡ n → get_elem? s.views id ≡ some me.0
      → (left : List T) → law.course.left ≡ left → Loads s TAIL id me (took_next (step n TAIL 0 0 none) me)
  finds_in n id me on idle s law wide at [] is = let c = law.course in let v : View T = me.0 in
      let b : ℕ = length (c.acked ++ c.left) in let w : View T = record v { known = b } in
      let k = (law.seats.of_taker id v at on).1 in
      let all : b ≡ length c.acked = ap length (ap (λ l. c.acked ++ l) is ∙ append-nil c.acked) in
      let long : length v.acked ≡ length c.acked = ap length k.acked_is in
      let knows : TakerKnows c w = record { before_is = k.before_is; acked_is = k.acked_is; known_is = le_refl b; doomed_is = k.doomed_is; taken_is = k.taken_is } in (
        w,
        keeps,
        tt,
        looked s law TAIL id me w (taker_steps s.views c c id v w law.seats at on knows refl (λ z. z) (λ _ z. z)),
        (b, sees_tail s law n id v wide at on, (λ more. absurd (let m : length v.acked < b = more in omega arith)), λ _. (refl, λ sends. sent_by s law id v at on [] is sends ∙ append-nil v.acked)),
      )
  finds_in n id me on idle s law wide at (x ∷ others) is = let c = law.course in let v : View T = me.0 in
      let b : ℕ = length (c.acked ++ c.left) in let w : View T = record v { known = b; taken = Some x } in
      let c' : Course T = record c { reading = true } in let k = (law.seats.of_taker id v at on).1 in
      let h : ℕ = head_of c in let parts : b ≡ length c.acked + length c.left = length-append c.acked c.left in
      let some' : length c.left ≡ suc (length others) = ap length is in
      let long : length v.acked ≡ length c.acked = ap length k.acked_is in
      let idle' : c.reading ≡ false = not_reading c.reading c.left v.taken k.taken_is idle in
      let sl : Slots n s.homes h (x ∷ others) c.writing false = subst (λ l. Slots n s.homes h l c.writing false) is (subst (λ r. Slots n s.homes h c.left c.writing r) idle' (slots_of s law n wide)) in
      let got = lends n s.homes h x others c.writing sl in
      let same : h % n ≡ (v.acked_before + length v.acked) % n = ap (λ m. m % n) (λ i. sym k.before_is i + length (sym k.acked_is i)) in (
        w,
        takes (h % n) (Some x),
        got.0,
        record {
          course = c';
          count = n;
          counts = loaded s.words c c' TAIL law.counts refl refl refl;
          slots = subst (λ l. Slots n (set s.homes (h % n) none) h l c.writing true) (sym is) got.1;
          seats = taker_steps s.views c c' id v w law.seats at on record { before_is = k.before_is; acked_is = k.acked_is; known_is = le_refl b; doomed_is = k.doomed_is; taken_is = (refl, (others, is)) } refl (sender_kept c true v) (sender_kept c true);
        },
        (
          b,
          sees_tail s law n id v wide at on,
          (λ _. (x, others, sent_by s law id v at on (x ∷ others) is, ap (λ m. (w, (m, Some x) ∷ me.1)) same)),
          λ none'. absurd (let m : b ≤ length v.acked = none' in omega arith),
        ),
      )

  pub finds : (n id : ℕ) (me : Me (Option T) (View T)) → me.0.takes ≡ true → me.0.taken ≡ None
      → Allows Flow n id me TAIL (λ m. m) (took_next (step n TAIL 0 0 none) me)
  finds n id me on idle s law wide at _ = finds_in n id me on idle s law wide at law.course.left refl

  first_left : (reading : Bool) (left : List T) (taken : Option T) (x : T) → Holds reading left taken
      → taken ≡ Some x → (reading ≡ true) × ((others : List T) × (left ≡ x ∷ others))
  first_left reading left None x h e = absurd (cc)
  first_left reading left (Some y) x h e = let same : y ≡ x = cc in (h.0, (h.1.0, h.1.1 ∙ ap (λ z. z ∷ h.1.0) same))

  pub acks : (n id : ℕ) (me : Me (Option T) (View T)) (k new : ℕ) (x : T) → me.0.takes ≡ true
      → me.0.taken ≡ Some x → me.1 ≡ (k, None) ∷ [] → k ≡ (me.0.acked_before + length me.0.acked) % n
      → new ≡ me.0.acked_before + length me.0.acked + 1
      → Allows Flow n id me HEAD (λ _. new) (λ _ m. acked_next (step n HEAD new 0 none) me new m)
  acks n id me k new x on busy out is more s law wide at _ = let c = law.course in let v : View T = me.0 in
      let kn = (law.seats.of_taker id v at on).1 in
      let first = first_left c.reading c.left v.taken x kn.taken_is busy in
      let others : List T = first.1.0 in
      let w : View T = record v { acked = v.acked ++ x ∷ []; taken = None } in
      let c' : Course T = record c { acked = c.acked ++ x ∷ []; left = others; reading = false } in
      let h : ℕ = head_of c in let same : h % n ≡ k = ap (λ m. m % n) (λ i. sym kn.before_is i + length (sym kn.acked_is i)) ∙ sym is in let home : maybe.Option (Option T) = some None in
      let sl : Slots n s.homes h (x ∷ others) c.writing true = subst (λ l. Slots n s.homes h l c.writing true) first.1.1 (subst (λ r. Slots n s.homes h c.left c.writing r) first.0 (slots_of s law n wide)) in
      let all : (c.acked ++ x ∷ []) ++ others ≡ c.acked ++ c.left = append_assoc c.acked (x ∷ []) others ∙ ap (λ l. c.acked ++ l) (sym first.1.1) in
      let longer : length (c.acked ++ x ∷ []) ≡ length c.acked + 1 = length-append c.acked (x ∷ []) in
      let base : v.acked_before ≡ c.before = kn.before_is in
      let long : length v.acked ≡ length c.acked = ap length kn.acked_is in
      let told = λ (u : View T) (t : SenderKnows c u). let seen : u.counted ≤ length c.acked = t.counted_is in
      let m : SenderKnows c' u = record { before_is = t.before_is; sent_is = t.sent_is ∙ sym all; counted_is = omega arith; dooms_is = t.dooms_is; writing_is = t.writing_is } in m in (
        w,
        gives,
        tt,
        record {
          course = c';
          count = n;
          counts = head_stored s.words c c' new law.counts (omega arith) (ap (λ l. c.before + length l) all) refl;
          slots = subst (λ l. Slots n (put_back s.homes l) (head_of c') others c.writing false) (sym out)
              (subst (λ q. Slots n (set s.homes q home) (head_of c') others c.writing false) same (subst (λ m. Slots n (set s.homes (h % n) home) m others c.writing false) (omega arith) (frees n s.homes h x others c.writing sl)));
          seats = taker_steps s.views c c' id v w law.seats at on
              record { before_is = kn.before_is; acked_is = ap (λ l. l ++ x ∷ []) kn.acked_is; known_is = subst (λ l. v.known ≤ length l) (sym all) kn.known_is; doomed_is = kn.doomed_is; taken_is = refl } refl (told v) told;
        },
        (x, busy, refl),
      )

  pub hears : (n id : ℕ) (me : Me (Option T) (View T)) → me.0.takes ≡ true
      → Allows Flow n id me DOOM (λ m. m) (heard (step n DOOM 0 0 none) me)
  hears n id me on s law wide at _ = let c = law.course in let v : View T = me.0 in
      let w : View T = record v { doomed = c.dooms } in let k = (law.seats.of_taker id v at on).1 in
      let knows : TakerKnows c w = record { before_is = k.before_is; acked_is = k.acked_is; known_is = k.known_is; doomed_is = λ e. e; taken_is = k.taken_is } in
      (w, keeps, tt, looked s law DOOM id me w (taker_steps s.views c c id v w law.seats at on knows refl (λ z. z) (λ _ z. z)), (c.dooms, law.counts.doom_is, k.doomed_is, refl))
