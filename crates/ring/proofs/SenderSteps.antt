-- The steps of a sender keep the ring's rule, and tell what they say.
use Rattle.std.proofs.Common.{◌≡◌, ℕ, ◌+◌, ◌%◌, ◌^◌, ◌<◌, ◌≤◌, Bool, true, false, List, [], ◌∷◌, ◌++◌, length, get_or, set, sym, refl, ap, ◌∙◌, subst, ⊎_elim, arith, le_refl, length-append, append_assoc, Option, Some, None}
use mathlib.Core.Option.{none, some}
use mathlib.Core.Option as maybe
use mathlib.Core.Logic.{dite}
use native.Mathlib.Decide.{dec_le}
use lib.ListN.{get_elem?}
use Rattle.atomic_table.specs.Table.{State, Me, step, rest, put_back, keeps, takes, gives, Allows}
use Rattle.ring.specs.declared.protocol.View.{View}
use Rattle.ring.specs.declared.protocol.TheConstants.{HEAD, TAIL, DOOM}
use Rattle.ring.specs.Flow.{Course, Slots, Seats, SenderKnows, TakerKnows, Holds, Flow, head_of}
use Rattle.ring.specs.Steps.{SeesHead, counted, sought, sent_next, dooms_now}
use Rattle.ring.proofs.Slots.{claims, fills}
use Rattle.ring.proofs.Words.{loaded, tail_stored}
use Rattle.ring.proofs.Seats.{sender_steps, slots_of, Loads, looked, doomed_as}

module _ {T : Type 0} where
  -- what a taker knows does not speak of what the sender does with its slot
  taker_kept : (c : Course T) (b : Bool) (u : View T) → TakerKnows c u → TakerKnows (record c { writing = b }) u
  taker_kept c b u t = record { before_is = t.before_is; acked_is = t.acked_is; known_is = t.known_is; doomed_is = t.doomed_is; taken_is = t.taken_is }

  -- what the sender learns of the head
  sees_head : (s : State (Option T) (View T)) (law : Flow s) (n id : ℕ) (v : View T) → length s.homes ≡ n
      → get_elem? s.views id ≡ some v → v.sends ≡ true
      → SeesHead (step n HEAD 0 0 none) v (get_or s.words HEAD 0) (length law.course.acked)
  sees_head s law n id v wide at on = let c = law.course in let k = (law.seats.of_sender id v at on).1 in
      let sl = slots_of s law n wide in
      let long : length v.sent ≡ length (c.acked ++ c.left) = ap length k.sent_is in
      let parts : length (c.acked ++ c.left) ≡ length c.acked + length c.left = length-append c.acked c.left in
      let fits : length c.left ≤ n = sl.fits in record {
        shows = law.counts.head_is ∙ ap (λ b. b + length c.acked) (sym k.before_is);
        grows = k.counted_is;
        behind = omega arith;
        near = omega arith;
      }

  -- the sender has counted all that were acknowledged
  counts_all : (s : State (Option T) (View T)) (law : Flow s) (id : ℕ) (v : View T)
      → get_elem? s.views id ≡ some v → v.sends ≡ true
      → Seats (set s.views id (record v { counted = length law.course.acked; looks = v.looks + 1 })) law.course
  counts_all s law id v at on = let c = law.course in let a : ℕ = length c.acked in
      let k = (law.seats.of_sender id v at on).1 in
      sender_steps s.views c c id v (record v { counted = a; looks = v.looks + 1 }) law.seats at on record { before_is = k.before_is; sent_is = k.sent_is; counted_is = le_refl a; dooms_is = k.dooms_is; writing_is = k.writing_is } refl (λ t. t) (λ _ t. t)

  pub counts : (n id : ℕ) (me : Me (Option T) (View T)) → me.0.sends ≡ true
      → Allows Flow n id me HEAD (λ m. m) (counted (step n HEAD 0 0 none) me)
  counts n id me on s law wide at _ = let a : ℕ = length law.course.acked in
      let w : View T = record me.0 { counted = a; looks = me.0.looks + 1 } in
      (w, keeps, tt, looked s law HEAD id me w (counts_all s law id me.0 at on), (a, sees_head s law n id me.0 wide at on, refl))

  -- the slot that is taken where there is room
  slot_of : (s : State (Option T) (View T)) (law : Flow s) (n id : ℕ) (v : View T)
      → get_elem? s.views id ≡ some v → v.sends ≡ true
      → (head_of law.course + length law.course.left) % n ≡ (v.sent_before + length v.sent) % n
  slot_of s law n id v at on = let c = law.course in let k = (law.seats.of_sender id v at on).1 in
      let base : v.sent_before ≡ c.before = k.before_is in
      let long : length v.sent ≡ length (c.acked ++ c.left) = ap length k.sent_is in
      let parts : length (c.acked ++ c.left) ≡ length c.acked + length c.left = length-append c.acked c.left in
      ap (λ m. m % n) (let g : c.before + length c.acked + length c.left ≡ v.sent_before + length v.sent = omega arith in g)

  -- there is no room
  stays : (n id : ℕ) (me : Me (Option T) (View T)) → me.0.sends ≡ true
      → (s : State (Option T) (View T)) (law : Flow s) → length s.homes ≡ n → get_elem? s.views id ≡ some me.0
      → ((length me.0.sent < length law.course.acked + n) × (me.0.sent_before + length me.0.sent < 2 ^ 63) → ⊥)
      → Loads s HEAD id me (sought (step n HEAD 0 0 none) me)
  stays n id me on s law wide at full = let a : ℕ = length law.course.acked in
      let w : View T = record me.0 { counted = a; looks = me.0.looks + 1 } in (
        w,
        keeps,
        tt,
        looked s law HEAD id me w (counts_all s law id me.0 at on),
        (a, sees_head s law n id me.0 wide at on, (λ room far. absurd (full (room, far))), λ _. refl),
      )

  pub seeks : (n id : ℕ) (me : Me (Option T) (View T)) → me.0.sends ≡ true → me.0.writing ≡ false
      → Allows Flow n id me HEAD (λ m. m) (sought (step n HEAD 0 0 none) me)
  seeks n id me on idle s law wide at _ = let c = law.course in let a : ℕ = length c.acked in
      let v : View T = me.0 in let k = (law.seats.of_sender id v at on).1 in let l : ℕ = length v.sent in
      let sees = sees_head s law n id v wide at on in
      let sl : Slots n s.homes (head_of c) c.left false c.reading = subst (λ b. Slots n s.homes (head_of c) c.left b c.reading) (sym k.writing_is ∙ idle) (slots_of s law n wide) in
      let long : l ≡ length (c.acked ++ c.left) = ap length k.sent_is in
      let parts : length (c.acked ++ c.left) ≡ a + length c.left = length-append c.acked c.left in
      dite (dec_le (a + n) l) (λ full. stays n id me on s law wide at (λ z. let y = z.0 in omega arith))
      (λ room. dite (dec_le (2 ^ 63) (v.sent_before + l)) (λ far. stays n id me on s law wide at (λ z. let y = z.1 in omega arith))
      (λ near. let w : View T = record v { counted = a; looks = v.looks + 1; writing = true } in
      let c' : Course T = record c { writing = true } in let p : ℕ = (head_of c + length c.left) % n in
      let q : ℕ = (v.sent_before + l) % n in let same : p ≡ q = slot_of s law n id v at on in
      let there : length c.left < n = omega arith in (
        w,
        takes p None,
        sl.free (length c.left) (omega arith) there (λ (e : false ≡ true). cc),
        record {
          course = c';
          count = n;
          counts = loaded s.words c c' HEAD law.counts refl refl refl;
          slots = claims n s.homes (head_of c) c.left c.reading sl there;
          seats = sender_steps s.views c c' id v w law.seats at on record { before_is = k.before_is; sent_is = k.sent_is; counted_is = le_refl a; dooms_is = k.dooms_is; writing_is = refl } refl (taker_kept c true v) (taker_kept c true);
        },
        (a, sees, (λ _ _. ap (λ m. (w, (m, None) ∷ me.1)) same), λ no. ⊎_elim (λ e. absurd (let e' : l ≡ a + n = e in omega arith)) (λ e. absurd (let e' : 2 ^ 63 ≤ v.sent_before + l = e in omega arith)) no),
      )))

  -- a further item is left
  holds_more : (reading : Bool) (left more : List T) (taken : Option T) → Holds reading left taken
      → Holds reading (left ++ more) taken
  holds_more reading left more None h = h
  holds_more reading left more (Some y) h = (h.0, (h.1.0 ++ more, ap (λ l. l ++ more) h.1.1))

  pub puts : (n id : ℕ) (me : Me (Option T) (View T)) (k new : ℕ) (x : T) → me.0.sends ≡ true
      → me.0.writing ≡ true → me.1 ≡ (k, Some x) ∷ [] → k ≡ (me.0.sent_before + length me.0.sent) % n
      → new ≡ me.0.sent_before + length me.0.sent + 1 → new ≤ 2 ^ 63
      → Allows Flow n id me TAIL (λ _. new) (λ _ m. sent_next (step n TAIL new 0 none) me new m)
  puts n id me k new x on busy out is more far s law wide at _ = let c = law.course in let v : View T = me.0 in
      let kn = (law.seats.of_sender id v at on).1 in
      let w : View T = record v { sent = v.sent ++ x ∷ []; writing = false } in
      let c' : Course T = record c { left = c.left ++ x ∷ []; writing = false } in
      let sl : Slots n s.homes (head_of c) c.left true c.reading = subst (λ b. Slots n s.homes (head_of c) c.left b c.reading) (sym kn.writing_is ∙ busy) (slots_of s law n wide) in
      let p : ℕ = (head_of c + length c.left) % n in let same : p ≡ k = slot_of s law n id v at on ∙ sym is in
      let home : maybe.Option (Option T) = some (Some x) in
      let longer : length (c.acked ++ (c.left ++ x ∷ [])) ≡ length (c.acked ++ c.left) + 1 = ap length (sym (append_assoc c.acked c.left (x ∷ []))) ∙ length-append (c.acked ++ c.left) (x ∷ []) in
      let base : v.sent_before ≡ c.before = kn.before_is in
      let long : length v.sent ≡ length (c.acked ++ c.left) = ap length kn.sent_is in
      let told = λ (u : View T) (t : TakerKnows c u). let sees : u.known ≤ length (c.acked ++ c.left) = t.known_is in let m : TakerKnows c' u = record { before_is = t.before_is; acked_is = t.acked_is; known_is = omega arith; doomed_is = t.doomed_is; taken_is = holds_more c.reading c.left (x ∷ []) u.taken t.taken_is } in m in (
        w,
        gives,
        tt,
        record {
          course = c';
          count = n;
          counts = tail_stored s.words c c' new law.counts (omega arith) far refl refl;
          slots = subst (λ l. Slots n (put_back s.homes l) (head_of c) (c.left ++ x ∷ []) false c.reading) (sym out)
              (subst (λ q. Slots n (set s.homes q home) (head_of c) (c.left ++ x ∷ []) false c.reading) same (fills n s.homes (head_of c) c.left c.reading x sl));
          seats = sender_steps s.views c c' id v w law.seats at on record { before_is = kn.before_is; sent_is = ap (λ l. l ++ x ∷ []) kn.sent_is ∙ append_assoc c.acked c.left (x ∷ []); counted_is = kn.counted_is; dooms_is = kn.dooms_is; writing_is = refl } refl (told v) told;
        },
        (x, k, out ∙ ap (λ l. (k, Some x) ∷ l) (sym (ap rest out)), refl),
      )

  pub dooms : (n id : ℕ) (me : Me (Option T) (View T)) → me.0.sends ≡ true
      → Allows Flow n id me DOOM (λ _. 1) (λ _ m. dooms_now (step n DOOM 1 0 none) me 1 m)
  dooms n id me on s law wide at _ = let c = law.course in let v : View T = me.0 in
      let k = (law.seats.of_sender id v at on).1 in let w : View T = record v { dooms = true } in
      let c' : Course T = record c { dooms = true } in
      let told = λ (u : View T) (t : TakerKnows c u). let m : TakerKnows c' u = record { before_is = t.before_is; acked_is = t.acked_is; known_is = t.known_is; doomed_is = λ _. refl; taken_is = t.taken_is } in m in
      let knows : SenderKnows c' w = record { before_is = k.before_is; sent_is = k.sent_is; counted_is = k.counted_is; dooms_is = refl; writing_is = k.writing_is } in
      (w, keeps, tt, doomed_as s law id me w true (sender_steps s.views c c' id v w law.seats at on knows refl (told v) told), refl)
