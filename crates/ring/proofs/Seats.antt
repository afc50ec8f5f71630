-- The view of one seat changes, and what has gone through the ring with it.
use Rattle.std.proofs.Common.{◌≡◌, ℕ, ◌≢◌, Bool, true, List, length, get_or, set, sym, refl, ◌∙◌, subst, ⊎_elim, Option}
use mathlib.Core.Option.{some}
use lib.ListN.{get_elem?}
use Rattle.atomic_table.specs.Table.{State, Me, Act, Valid, keeps, stepped, carried_after}
use Rattle.atomic_table.proofs.Lists.{at_set}
use Rattle.ring.specs.declared.protocol.View.{View}
use Rattle.ring.specs.declared.protocol.TheConstants.{DOOM}
use Rattle.ring.specs.Flow.{Course, Slots, Seats, SenderKnows, TakerKnows, Flow, head_of, worth}
use Rattle.ring.proofs.Words.{loaded, doom_stored}

module _ {T : Type 0} where
  pub slots_of : (s : State (Option T) (View T)) (law : Flow s) (n : ℕ) → length s.homes ≡ n
      → Slots n s.homes (head_of law.course) law.course.left law.course.writing law.course.reading
  slots_of s law n wide = subst (λ m. Slots m s.homes (head_of law.course) law.course.left law.course.writing law.course.reading) (sym law.slots.wide ∙ wide) law.slots

  -- a word is loaded, and the seat sees this
  abbrev pub Loads : (s : State (Option T) (View T)) → ℕ → ℕ → Me (Option T) (View T)
      → (ℕ → Me (Option T) (View T) → Type 0) → Type 0
  Loads s i id me then = (w : View T) × (a : Act (Option T)) × Valid s.homes me.1 a × Flow (stepped s i (get_or s.words i 0) id me.1 w a) × then (get_or s.words i 0) (w, carried_after me.1 a)

  -- where a word is loaded and no slot taken, only a seat's view changes
  pub looked : (s : State (Option T) (View T)) (law : Flow s) (i id : ℕ) (me : Me (Option T) (View T))
      (w : View T) → Seats (set s.views id w) law.course
      → Flow (stepped s i (get_or s.words i 0) id me.1 w keeps)
  looked s law i id me w seats = let c = law.course in record {
    course = c;
    count = law.count;
    counts = loaded s.words c c i law.counts refl refl refl;
    slots = law.slots;
    seats = seats;
  }

  -- where the doom is given or taken back, its word and a seat's view change
  pub doomed_as : (s : State (Option T) (View T)) (law : Flow s) (id : ℕ) (me : Me (Option T) (View T))
      (w : View T) (b : Bool) → Seats (set s.views id w) (record law.course { dooms = b })
      → Flow (stepped s DOOM (worth b) id me.1 w keeps)
  doomed_as s law id me w b seats = let c : Course T = record law.course { dooms = b } in record {
    course = c;
    count = law.count;
    counts = doom_stored s.words law.course c (worth b) law.counts refl refl refl;
    slots = law.slots;
    seats = seats;
  }

  -- what each seat is owed
  pub reseats : (views : List (View T)) (c c' : Course T) (id : ℕ) (v w : View T) (s : Seats views c)
      → get_elem? views id ≡ some v
      → (w.sends ≡ true → (v.sends ≡ true) × SenderKnows c' w) → (w.takes ≡ true → (v.takes ≡ true) × TakerKnows c' w)
      → ((i : ℕ) (u : View T) → i ≢ id → get_elem? views i ≡ some u → u.sends ≡ true → SenderKnows c' u)
      → ((i : ℕ) (u : View T) → i ≢ id → get_elem? views i ≡ some u → u.takes ≡ true → TakerKnows c' u)
      → Seats (set views id w) c'
  reseats views c c' id v w s at sends takes senders takers = record {
    sender = s.sender;
    taker = s.taker;
    of_sender = λ i u there on. ⊎_elim
        (λ here. let told = sends (subst (λ (z : View T). z.sends ≡ true) (sym here.1) on) in
        (here.0 ∙ (s.of_sender id v at told.0).0, subst (λ (z : View T). SenderKnows c' z) here.1 told.1))
        (λ other. ((s.of_sender i u other.1 on).0, senders i u other.0 other.1 on)) (at_set views id i w u there);
    of_taker = λ i u there on. ⊎_elim
        (λ here. let told = takes (subst (λ (z : View T). z.takes ≡ true) (sym here.1) on) in
        (here.0 ∙ (s.of_taker id v at told.0).0, subst (λ (z : View T). TakerKnows c' z) here.1 told.1))
        (λ other. ((s.of_taker i u other.1 on).0, takers i u other.0 other.1 on)) (at_set views id i w u there);
  }

  -- no other seat sends, and no other takes
  pub sends_alone : (views : List (View T)) (c : Course T) (id : ℕ) (v : View T) (s : Seats views c)
      → get_elem? views id ≡ some v → v.sends ≡ true
      → (i : ℕ) (u : View T) → get_elem? views i ≡ some u → u.sends ≡ true → i ≡ id
  sends_alone views c id v s at on i u there sends = (s.of_sender i u there sends).0 ∙ sym (s.of_sender id v at on).0

  pub takes_alone : (views : List (View T)) (c : Course T) (id : ℕ) (v : View T) (s : Seats views c)
      → get_elem? views id ≡ some v → v.takes ≡ true
      → (i : ℕ) (u : View T) → get_elem? views i ≡ some u → u.takes ≡ true → i ≡ id
  takes_alone views c id v s at on i u there takes = (s.of_taker i u there takes).0 ∙ sym (s.of_taker id v at on).0

  -- a step of the sender
  pub sender_steps : (views : List (View T)) (c c' : Course T) (id : ℕ) (v w : View T) (s : Seats views c)
      → get_elem? views id ≡ some v → v.sends ≡ true
      → SenderKnows c' w → w.takes ≡ v.takes → (TakerKnows c v → TakerKnows c' w)
      → ((u : View T) → TakerKnows c u → TakerKnows c' u) → Seats (set views id w) c'
  sender_steps views c c' id v w s at on knows same mine others = reseats views c c' id v w s at (λ _. (on, knows)) (λ e. let takes = sym same ∙ e in (takes, mine (s.of_taker id v at takes).1))
      (λ i u other there sends. absurd (other (sends_alone views c id v s at on i u there sends))) (λ i u _ there takes. others u (s.of_taker i u there takes).1)

  -- a step of the taker
  pub taker_steps : (views : List (View T)) (c c' : Course T) (id : ℕ) (v w : View T) (s : Seats views c)
      → get_elem? views id ≡ some v → v.takes ≡ true
      → TakerKnows c' w → w.sends ≡ v.sends → (SenderKnows c v → SenderKnows c' w)
      → ((u : View T) → SenderKnows c u → SenderKnows c' u) → Seats (set views id w) c'
  taker_steps views c c' id v w s at on knows same mine others = reseats views c c' id v w s at (λ e. let sends = sym same ∙ e in (sends, mine (s.of_sender id v at sends).1)) (λ _. (on, knows))
      (λ i u _ there sends. others u (s.of_sender i u there sends).1) (λ i u other there takes. absurd (other (takes_alone views c id v s at on i u there takes)))
