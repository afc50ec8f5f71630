-- Both ends in one seat: they join, compare, and part to begin anew; and a new ring's table.
use Rattle.std.proofs.Common.{◌≡◌, ℕ, zero, suc, ◌+◌, ◌%◌, ◌^◌, ◌<◌, ◌≤◌, ◌≢◌, ◌⊎◌, Bool, true, false, List, [], ◌∷◌, ◌++◌, map, length, get_or, set, sym, refl, ap, ◌∙◌, subst, inl, inr, ⊎_elim, arith, le_refl, mod-lt, length-append, replicate, Option, Some, None, MatchOption}
use Rattle.std.proofs.lemmas.List.{nil_from_length, length-replicate, length-map}
use mathlib.Core.Option.{none, some}
use lib.ListN.{get_elem?}
use Rattle.atomic_table.specs.Table.{Me, step, keeps, opening, Allows, Splits, Joins}
use Rattle.atomic_table.proofs.Lists.{at_set}
use Rattle.ring.specs.declared.protocol.View.{View}
use Rattle.ring.specs.declared.protocol.TheConstants.{HEAD, TAIL, DOOM, WORDS}
use Rattle.ring.specs.Flow.{Course, Slots, SenderKnows, TakerKnows, Holds, Flow, head_of, tail_of, worth}
use Rattle.ring.specs.Steps.{Agrees, compared, undoomed, opened, sender_of, taker_of, met, spent}
use Rattle.ring.proofs.Lists.{within, at_end}
use Rattle.ring.proofs.TakerSteps.{not_reading}
use Rattle.ring.proofs.Seats.{reseats, sends_alone, takes_alone, sender_steps, slots_of, looked, doomed_as}

module _ {T : Type 0} where
  next_of : (reading : Bool) (left : List T) (taken : Option T) → Holds reading left taken
      → MatchOption taken (Unit {0}) (λ x. (others : List T) × (left ≡ x ∷ others))
  next_of reading left None h = tt
  next_of reading left (Some x) h = h.1

  pub compares : (n id : ℕ) (me : Me (Option T) (View T)) → me.0.sends ≡ true → me.0.takes ≡ true
      → Allows Flow n id me TAIL (λ m. m) (compared (step n TAIL 0 0 none) me)
  compares n id me on takes s law wide at _ = let c = law.course in let v : View T = me.0 in
      let a = (law.seats.of_sender id v at on).1 in let b = (law.seats.of_taker id v at takes).1 in
      let sl = slots_of s law n wide in
      let long : length v.acked ≡ length c.acked = ap length b.acked_is in
      let all : length v.sent ≡ length (c.acked ++ c.left) = ap length a.sent_is in
      let base : v.sent_before ≡ c.before = a.before_is in
      let far : tail_of c ≤ 2 ^ 63 = law.counts.far in let seen : v.counted ≤ length c.acked = a.counted_is in
      let known : v.known ≤ length (c.acked ++ c.left) = b.known_is in
      let agrees : Agrees (step n TAIL 0 0 none) v = record {
        left = c.left;
        parts = a.sent_is ∙ ap (λ l. l ++ c.left) (sym b.acked_is);
        near = sl.fits;
        next = next_of c.reading c.left v.taken b.taken_is;
        doomed = λ e. a.dooms_is ∙ b.doomed_is e;
        counted = omega arith;
        known = omega arith;
        begun = b.before_is ∙ sym a.before_is;
        far = omega arith;
      } in
      (v, keeps, tt, looked s law TAIL id me v (sender_steps s.views c c id v v law.seats at on a refl (λ z. z) (λ _ z. z)), (agrees, refl))

  pub undooms : (n id : ℕ) (me : Me (Option T) (View T)) → me.0.sends ≡ true → me.0.takes ≡ true
      → Allows Flow n id me DOOM (λ _. 0) (λ _ m. undoomed (step n DOOM 0 0 none) me 0 m)
  undooms n id me on takes s law wide at _ = let c = law.course in let v : View T = me.0 in
      let a = (law.seats.of_sender id v at on).1 in let b = (law.seats.of_taker id v at takes).1 in
      let w : View T = record v { dooms = false; doomed = false } in
      let c' : Course T = record c { dooms = false } in
      let seats = reseats s.views c c' id v w law.seats at
      (λ _. (on, record { before_is = a.before_is; sent_is = a.sent_is; counted_is = a.counted_is; dooms_is = refl; writing_is = a.writing_is }))
      (λ _. (takes, record { before_is = b.before_is; acked_is = b.acked_is; known_is = b.known_is; doomed_is = λ (e : false ≡ true). cc; taken_is = b.taken_is }))
      (λ i u other there sends. absurd (other (sends_alone s.views c id v law.seats at on i u there sends)))
      (λ i u other there takes'. absurd (other (takes_alone s.views c id v law.seats at takes i u there takes'))) in
      (w, keeps, tt, doomed_as s law id me w false seats, refl)

  -- the seat id takes in what the seat other knows
  pub joins : (id other : ℕ) (v w : View T) → v.takes ≡ true → w.sends ≡ true
      → Joins Flow id v other w (met v w) spent
  joins id other v w takes sends s law at apart there = let c = law.course in let views = s.views in
      let m : View T = met v w in
      let was : get_elem? views other ≡ some w = ⊎_elim (λ e. absurd (apart e.0)) (λ e. e.1) (at_set views id other m w there) in
      let b = (law.seats.of_taker id v at takes) in let a = (law.seats.of_sender other w was sends) in
      let old : (i : ℕ) (u : View T) → get_elem? (set (set views id m) other spent) i ≡ some u → ((i ≡ id) × (m ≡ u)) ⊎ (((i ≡ other) × (spent ≡ u)) ⊎ ((i ≢ other) × (get_elem? views i ≡ some u))) =
      λ i u z. ⊎_elim (λ e. inr (inl e)) (λ e. ⊎_elim (λ f. inl f) (λ f. inr (inr (e.0, f.1))) (at_set views id i m u e.1)) (at_set (set views id m) other i spent u z) in record {
        course = c;
        count = law.count;
        counts = law.counts;
        slots = law.slots;
        seats = record {
          sender = id;
          taker = law.seats.taker;
          of_sender = λ i u z on. ⊎_elim (λ e. (e.0, subst (λ (y : View T). SenderKnows c y) e.1 a.1))
              (λ e. ⊎_elim (λ f. absurd (let g : false ≡ true = ap (λ (y : View T). y.sends) f.1 ∙ on in cc))
              (λ f. absurd (f.0 ((law.seats.of_sender i u f.1 on).0 ∙ sym a.0))) e) (old i u z);
          of_taker = λ i u z on. ⊎_elim (λ e. (e.0 ∙ b.0, subst (λ (y : View T). TakerKnows c y) e.1 record { before_is = b.1.before_is; acked_is = b.1.acked_is; known_is = b.1.known_is; doomed_is = b.1.doomed_is; taken_is = b.1.taken_is }))
              (λ e. ⊎_elim (λ f. absurd (let g : false ≡ true = ap (λ (y : View T). y.takes) f.1 ∙ on in cc)) (λ f. law.seats.of_taker i u f.1 on) e) (old i u z);
        };
      }

  -- the seat id keeps the taker's part and a new seat has the sender's; both begin behind all that was sent
  pub parts : (id : ℕ) (v : View T) → v.sends ≡ true → v.takes ≡ true → v.sent ≡ v.acked → v.taken ≡ None
      → v.writing ≡ false → v.dooms ≡ false → Splits Flow id v (taker_of v) (sender_of v)
  parts id v on takes done idle quiet spared s law at = let c = law.course in
      let a = (law.seats.of_sender id v at on).1 in let b = (law.seats.of_taker id v at takes).1 in
      let h = law.counts in
      let same : length (c.acked ++ c.left) ≡ length c.acked = ap length (sym a.sent_is ∙ done ∙ b.acked_is) in
      let split : length (c.acked ++ c.left) ≡ length c.acked + length c.left = length-append c.acked c.left in
      let none' : c.left ≡ [] = nil_from_length c.left (omega arith) in
      let free : c.reading ≡ false = not_reading c.reading c.left v.taken b.taken_is idle in
      let shut : c.writing ≡ false = sym a.writing_is ∙ quiet in
      let begin : Course T = record { before = tail_of c; acked = []; left = []; dooms = false; writing = false; reading = false } in let head : get_or s.words HEAD 0 ≡ head_of c = h.head_is in let tail : get_or s.words TAIL 0 ≡ tail_of c = h.tail_is in
      let base : v.sent_before ≡ c.before = a.before_is in
      let long : length v.sent ≡ length (c.acked ++ c.left) = ap length a.sent_is in
      let far : tail_of c ≤ 2 ^ 63 = h.far in
      let there : v.sent_before + length v.sent ≡ tail_of c = omega arith in let l : View T = taker_of v in
      let r : View T = sender_of v in record {
        course = begin;
        count = law.count;
        counts = record { wide = h.wide; head_is = omega arith; tail_is = omega arith; doom_is = h.doom_is ∙ ap worth (sym a.dooms_is ∙ spared); far = omega arith };
        slots = subst (λ m. Slots law.count s.homes m [] false false) (let g : head_of c ≡ head_of begin = omega arith in g)
            (subst (λ z. Slots law.count s.homes (head_of c) z false false) none'
            (subst (λ z. Slots law.count s.homes (head_of c) c.left false z) free (subst (λ z. Slots law.count s.homes (head_of c) c.left z c.reading) shut law.slots)));
        seats = record {
          sender = length (set s.views id l);
          taker = id;
          of_sender = λ i u z sends. ⊎_elim (λ e. absurd (⊎_elim (λ f. let g : false ≡ true = ap (λ (y : View T). y.sends) f.1 ∙ sends in cc)
              (λ f. f.0 (sends_alone s.views c id v law.seats at on i u f.1 sends)) (at_set s.views id i l u e)))
              (λ e. (e.0, subst (λ (y : View T). SenderKnows begin y) e.1 record { before_is = there; sent_is = refl; counted_is = le_refl 0; dooms_is = refl; writing_is = refl })) (at_end (set s.views id l) r i u z);
          of_taker = λ i u z takes'. ⊎_elim (λ e. ⊎_elim (λ f. (f.0, subst (λ (y : View T). TakerKnows begin y) f.1 record { before_is = there; acked_is = refl; known_is = le_refl 0; doomed_is = λ (g : false ≡ true). cc; taken_is = refl }))
              (λ f. absurd (f.0 (takes_alone s.views c id v law.seats at takes i u f.1 takes'))) (at_set s.views id i l u e))
              (λ e. absurd (let g : false ≡ true = ap (λ (y : View T). y.takes) e.1 ∙ takes' in cc)) (at_end (set s.views id l) r i u z);
        };
      }

  free_at : (n p : ℕ) → p < n → (let empty : List (Option T) = replicate n None in get_elem? (map some empty) p ≡ some (some None))
  free_at zero p h = absurd (omega arith)
  free_at (suc n) zero h = refl
  free_at (suc n) (suc p) h = free_at n p (omega arith)

  -- a new ring: every slot is free, and one seat has both ends
  pub opens : (n : ℕ) → 0 < n → Flow (opening (replicate WORDS 0) (replicate n None) (opened {T = T}))
  opens n some' = let begin : Course T = record { before = 0; acked = []; left = []; dooms = false; writing = false; reading = false } in record {
    course = begin;
    count = n;
    counts = record { wide = refl; head_is = refl; tail_is = refl; doom_is = refl; far = omega arith };
    slots = record {
      wide = length-map (replicate n None) some ∙ length-replicate n None;
      some_slot = some';
      fits = omega arith;
      room = λ (e : false ≡ true). cc;
      full = λ p x at _. let h : p < length {A = T} [] = within [] p x at in absurd (omega arith);
      free = λ p _ lt _. free_at n ((0 + 0 + p) % n) (mod-lt (0 + 0 + p) some');
    };
    seats = record {
      sender = 0;
      taker = 0;
      of_sender = λ i u z _. ⊎_elim (λ e. absurd (let h : i < length {A = View T} [] = within [] i u e in omega arith))
          (λ e. (e.0, subst (λ (y : View T). SenderKnows begin y) e.1 record { before_is = refl; sent_is = refl; counted_is = le_refl 0; dooms_is = refl; writing_is = refl })) (at_end [] opened i u z);
      of_taker = λ i u z _. ⊎_elim (λ e. absurd (let h : i < length {A = View T} [] = within [] i u e in omega arith))
          (λ e. (e.0, subst (λ (y : View T). TakerKnows begin y) e.1 record { before_is = refl; acked_is = refl; known_is = le_refl 0; doomed_is = λ (g : false ≡ true). cc; taken_is = refl })) (at_end [] opened i u z);
    };
  }
