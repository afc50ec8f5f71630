-- The holds that are made from changes and their inverses, one change after another.
--     made_none, made_more      none is taken; one change more
--     so_far_none, so_far_more, so_far_all      the same by a count of the inverses that came before; once all are taken
--     so_far_has      a change that has the next inverse has one in the log
--     tied_made      a store represents its world with such holds, where the transaction is alone
use Rattle.std.proofs.Common.{◌≡◌, ◌≢◌, ℕ, zero, suc, ◌≤◌, Bool, true, false, List, [], ◌∷◌, ◌++◌, length, take, drop, Option, Some, None, refl, sym, ap, subst, ◌∙◌, inl, inr, arith, append-nil, true≢false}
use Rattle.std.specs.Prelude.{◌↔◌, if◌then◌else◌}
use Rattle.std.proofs.lemmas.List.{length-take, take-append-drop}
use Rattle.std.specs.List.{Contains}
use Rattle.std.specs.Map.{keys_of}
use Rattle.std.specs.FinMap.{get}
use Rattle.std.proofs.lemmas.List.Elements.{Contains-append_left, Contains-append_right, Contains-append_cases}
use Rattle.model.specs.declared.key.Key.{Key}
use Rattle.model.specs.declared.row.Row.{Row as RecordRow}
use Rattle.model.specs.declared.change.Change.{Change}
use Rattle.model.specs.declared.change.Change.TheVariants.{Put, Set, Remove, Wipe}
use Rattle.model.specs.declared.cell.Cell.{Cell}
use Rattle.model.specs.declared.cell.Cell.TheVariants.{Row, Uniq, Whole}
use Rattle.model.specs.Rows.{Place, Rows, Schema}
use Rattle.model.specs.Effect.{inverse, serial}
use Rattle.model.specs.EffectLemmas.{serial_append}
use Rattle.model.specs.Footprint.{footprint, held_cells}
use Rattle.model.specs.SerialLemmas.{leaves_free_cell, held_append}
use Rattle.model.specs.Survivors.{changes_of}
use Rattle.change.specs.declared.inverse.Inverse.{Inverse}
use Rattle.change.specs.Inverse.{edits_of}
use Rattle.undo.specs.LogOf.{IsLogOf, no_change, with_done, with_skipped}
use Rattle.savepoint.specs.declared.mark.Mark.{Mark}
use Rattle.savepoint.specs.Savepoints.{mark_at}
use Rattle.savepoint.specs.Record.{Record}
use Rattle.keyholds.specs.Holds.{holds_of, cells_held, with_holds}
use Rattle.keyholds.proofs.HoldsLemmas.{taking_adds}
use Rattle.world.specs.World.{Opened, World, work, holds}
use Rattle.world.specs.ListingLemmas.{xid_cases}
use Rattle.live_tables.specs.declared.live_tables.Live.{Live}
use Rattle.live_tables.specs.declared.before_image.BeforeImage.{BeforeImage}
use Rattle.live_tables.specs.declared.before_image.BeforeImage.TheVariants.{Row as BeforeImageRow, Wiped, Other}
use Rattle.live_tables.specs.Held.{HasSameCells, AreHolds, HasHeldMarks}
use Rattle.live_tables.specs.BeforeImages.{LiveHolds, AreBeforeImages, HasBeforeImages, IsToStand, AreToStand}
use Rattle.live_tables.specs.BeforeImageLemmas.{before_image_more}
use Rattle.live_tables.specs.BeforeImageCallLemmas.{wipe_is_done, stands_beside, contains_key, no_before_image}
use Rattle.live_tables.specs.UnheldLemmas.{free_by_cells}
use Rattle.live_tables.specs.MadeHolds.{IsMadeOf, inverse_at, TakesNext, IsSoFar}
use Rattle.live_tables.specs.Represents.{records_in}
use Rattle.live_tables.specs.ByHolds.{RepresentsByHolds}
use Rattle.undo.specs.Next.{next_row, has_next, first_of, rest_of}
use Rattle.undo.specs.NextLemmas.{next_row_stood, next_footprint, has_not_if_skipped, next_looked_row, next_log}
use Rattle.change.specs.Footprint.{looked_row, footprint_at}

pub made_none : (schema : Schema) (committed : Rows) → IsMadeOf schema committed [] [] []
made_none schema committed = record {
  same = λ cell. (λ is. is, λ is. is);
  before_image = no_before_image committed [] [] [] refl;
}

module _ (schema : Schema) (committed : Rows) (cs : List Change) (is : List Inverse) (held : List (Cell × BeforeImage)) (made : IsMadeOf schema committed cs is held)
    (c : Change) (rest : List Change) (js : List Inverse) (log : IsLogOf schema (serial schema committed cs) (c ∷ rest) js) where
  abbrev pub rows : Rows
  rows = serial schema committed cs

  -- the row at a place that isn't held yet is the committed one
  row_unheld : (table : ℕ) (key : Key) → ¬ Contains (keys_of held) (Row table key) → ¬ Contains (keys_of held) (Whole table)
      → get rows (table, key) ≡ get committed (table, key)
  row_unheld table key no_row no_table =
      sym (leaves_free_cell schema committed cs (Row table key) (free_by_cells table key (keys_of held) (held_cells schema committed cs) made.same no_row no_table))

  abbrev pub own : List Inverse
  own = first_of (has_next c (looked_row c (next_row js))) js

  -- a wipe has its inverse
  wipe_has : (tables : List ℕ) → c ≡ Wipe tables → (i : Inverse) × (own ≡ i ∷ []) × (edits_of i ≡ inverse schema rows c)
  wipe_has tables wipe = by_log rows c rest js log wipe
    where
      by_log : (rows : Rows) (c : Change) (rest : List Change) (js : List Inverse) → IsLogOf schema rows (c ∷ rest) js → c ≡ Wipe tables
          → (i : Inverse) × (first_of (has_next c (looked_row c (next_row js))) js ≡ i ∷ []) × (edits_of i ≡ inverse schema rows c)
      by_log _ _ _ _ (with_done rows c rest i js done same alters log) wipe =
          (i, ap (λ (d : Change). first_of (has_next d (looked_row d (next_row (i ∷ js)))) (i ∷ js)) wipe, same)
      by_log _ _ _ _ (with_skipped rows c rest js skips log) wipe = absurd (wipe_is_done schema rows c tables wipe skips)

  no_mark : (sub : ℕ) (m : Mark) → ¬ (mark_at sub [] ≡ Some m)
  no_mark sub m e = cc

  held_more : held_cells schema committed (cs ++ c ∷ []) ≡ held_cells schema committed cs ++ footprint schema rows c
  held_more = held_append schema committed cs (c ∷ []) ∙ ap (λ cells. held_cells schema committed cs ++ cells) (append-nil (footprint schema rows c))

  -- one more change is taken: the cells that its inverse tells, with what that has beside them
  pub made_more : (more : List (Cell × BeforeImage)) → keys_of more ≡ footprint schema rows c → AreToStand (next_row js) (length is) (keys_of held) more
      → IsMadeOf schema committed (cs ++ c ∷ []) (is ++ own) (with_holds held more)
  made_more more cells stand = record {
    same = λ cell.
        subst (λ (l : List Cell). Contains (keys_of (with_holds held more)) cell ↔ Contains l cell) (sym held_more)
        (subst (λ (l : List Cell). Contains (keys_of (with_holds held more)) cell ↔ Contains (held_cells schema committed cs ++ l) cell) cells (both cell));
    before_image =
        before_image_more committed is [] held made.before_image (λ sub m at. absurd (no_mark sub m at)) own more
        (λ before over cell before_image its new.
        stands_beside schema committed rows c (keys_of held) (λ table key met. row_unheld table key) (next_row js) (next_row_stood schema rows c rest js log) is own wipe_has before over
        cell before_image (subst (λ (l : List Cell). Contains l cell) cells (contains_key more cell before_image its)) new
        (stand cell before_image its (λ there. new (over cell there)))) [] (λ sub m at. absurd (no_mark sub m at));
  }
    where
      both : (cell : Cell) → Contains (keys_of (with_holds held more)) cell ↔ Contains (held_cells schema committed cs ++ keys_of more) cell
      both cell =
          let adds = taking_adds held more cell in (
            λ there.
                elim (adds.0 there) [
                  | inl was ↦ Contains-append_left (held_cells schema committed cs) (keys_of more) cell ((made.same cell).0 was)
                  | inr new ↦ Contains-append_right (held_cells schema committed cs) (keys_of more) cell new
                ],
            λ there. adds.1 (
                elim (Contains-append_cases (held_cells schema committed cs) (keys_of more) cell there) [
                  | inl was ↦ inl ((made.same cell).1 was)
                  | inr new ↦ inr new
                ]),
          )

  -- and those behind are the log of the changes behind
  pub log_more : IsLogOf schema (serial schema committed (cs ++ c ∷ [])) rest (rest_of (has_next c (looked_row c (next_row js))) js)
  log_more =
      subst (λ (r : Rows). IsLogOf schema r rest (rest_of (has_next c (looked_row c (next_row js))) js)) (sym (serial_append schema committed cs (c ∷ [])))
      (next_log schema rows c rest js log)

-- ---- by a count of the inverses that came before

next_drop : (is : List Inverse) (count : ℕ) (p : Place) → next_row (inverse_at is count) p ≡ next_row (drop count is) p
next_drop [] zero p = refl
next_drop [] (suc n) p = refl
next_drop (i ∷ is) zero p = refl
next_drop (i ∷ is) (suc n) p = next_drop is n p

looked_alike : (c : Change) (at others : Place → Option RecordRow) → ((p : Place) → at p ≡ others p) → looked_row c at ≡ looked_row c others
looked_alike (Put table row) at others same = refl
looked_alike (Set table key patch) at others same = same (table, key)
looked_alike (Remove table key) at others same = same (table, key)
looked_alike (Wipe tables) at others same = refl

stands_alike : (is js : List Inverse) (count number : ℕ) → ((p : Place) → next_row is p ≡ next_row js p) → count ≡ number → (cells : List Cell) (cell : Cell) (before_image : BeforeImage)
    → IsToStand (next_row is) count cells cell before_image → IsToStand (next_row js) number cells cell before_image
stands_alike is js count number same counts cells (Row table key) (BeforeImageRow row) stands = (stands.0 ∙ same (table, key), stands.1)
stands_alike is js count number same counts cells (Row table key) (Wiped n) stands = stands
stands_alike is js count number same counts cells (Row table key) Other stands = stands
stands_alike is js count number same counts cells (Uniq table n values) before_image stands = tt
stands_alike is js count number same counts cells (Whole table) (BeforeImageRow row) stands = stands
stands_alike is js count number same counts cells (Whole table) (Wiped n) stands = stands ∙ counts
stands_alike is js count number same counts cells (Whole table) Other stands = stands

length_front : (is : List Inverse) (count : ℕ) → count ≤ length is → length (take count is) ≡ count
length_front is count within = omega (arith, length-take count is, within)

-- a front with what comes next is a longer front
front_next : (is : List Inverse) (count : ℕ) → 1 ≤ length (drop count is) → take count is ++ take 1 (drop count is) ≡ take (suc count) is
front_next [] zero some = absurd (omega (arith, some))
front_next [] (suc n) some = absurd (omega (arith, some))
front_next (i ∷ is) zero some = refl
front_next (i ∷ is) (suc n) some = ap (λ (l : List Inverse). i ∷ l) (front_next is n some)

behind_next : (is : List Inverse) (count : ℕ) → drop 1 (drop count is) ≡ drop (suc count) is
behind_next [] zero = refl
behind_next [] (suc n) = refl
behind_next (i ∷ is) zero = refl
behind_next (i ∷ is) (suc n) = behind_next is n

shorter : (is : List Inverse) (count : ℕ) → 1 ≤ length (drop count is) → suc count ≤ length is
shorter [] zero some = absurd (omega (arith, some))
shorter [] (suc n) some = absurd (omega (arith, some))
shorter (i ∷ is) zero some = omega arith
shorter (i ∷ is) (suc n) some = let rest = shorter is n some in omega (arith, rest)

-- a change that has the next inverse has one
has_some : (schema : Schema) (rows : Rows) (c : Change) (rest : List Change) (js : List Inverse) → IsLogOf schema rows (c ∷ rest) js
    → has_next c (looked_row c (next_row js)) ≡ true → 1 ≤ length js
has_some schema _ _ _ _ (with_done rows c rest i js done same alters log) has = omega arith
has_some schema _ _ _ _ (with_skipped rows c rest js skips log) has =
    absurd (true≢false (sym has ∙ ap (has_next c) (next_looked_row schema rows c rest js (with_skipped rows c rest js skips log)) ∙ has_not_if_skipped schema rows c skips))

so_far_next : (schema : Schema) (committed : Rows) (cs : List Change) (c : Change) (rest : List Change) (is : List Inverse) (count : ℕ) (held new : List (Cell × BeforeImage)) (b : Bool)
    → (b ≡ true → 1 ≤ length (drop count is)) → count ≤ length is
    → IsMadeOf schema committed (cs ++ c ∷ []) (take count is ++ first_of b (drop count is)) new
    → IsLogOf schema (serial schema committed (cs ++ c ∷ [])) rest (rest_of b (drop count is))
    → IsSoFar schema committed (cs ++ c ∷ []) rest is (if b then suc count else count) new
so_far_next schema committed cs c rest is count held new true some within made log = record {
  made = subst (λ (l : List Inverse). IsMadeOf schema committed (cs ++ c ∷ []) l new) (front_next is count (some refl)) made;
  log = subst (IsLogOf schema (serial schema committed (cs ++ c ∷ [])) rest) (behind_next is count) log;
  within = shorter is count (some refl);
}
so_far_next schema committed cs c rest is count held new false some within made log = record {
  made = subst (λ (l : List Inverse). IsMadeOf schema committed (cs ++ c ∷ []) l new) (append-nil (take count is)) made;
  log = log;
  within = within;
}

-- one more change
pub so_far_more : (schema : Schema) (committed : Rows) (cs : List Change) (c : Change) (rest : List Change) (is : List Inverse) (xid count n : ℕ)
    (old new : ℕ → List (Cell × BeforeImage)) → IsSoFar schema committed cs (c ∷ rest) is count (old xid) → TakesNext schema is xid count c old new n
    → IsSoFar schema committed (cs ++ c ∷ []) rest is n (new xid)
so_far_more schema committed cs c rest is xid count n old new far takes =
    let js : List Inverse = drop count is in
    let one : List Inverse = inverse_at is count in
    let alike = looked_alike c (next_row one) (next_row js) (next_drop is count) in
    let its = takes.its ∙ ap (footprint_at schema c) alike ∙ sym (next_footprint schema (serial schema committed cs) c rest js far.log) in
    let stand : AreToStand (next_row js) (length (take count is)) (keys_of (old xid)) takes.more =
    λ cell before_image has fresh. stands_alike one js count (length (take count is)) (next_drop is count) (sym (length_front is count far.within)) (keys_of (old xid)) cell before_image (takes.stand cell before_image has fresh) in
    let made = made_more schema committed cs (take count is) (old xid) far.made c rest js far.log takes.more its stand in
    subst (λ (m : ℕ). IsSoFar schema committed (cs ++ c ∷ []) rest is m (new xid)) (sym (takes.counted ∙ ap (λ old_row. if has_next c old_row then suc count else count) alike))
    (so_far_next schema committed cs c rest is count (old xid) (new xid) (has_next c (looked_row c (next_row js)))
    (has_some schema (serial schema committed cs) c rest js far.log) far.within
    (subst (IsMadeOf schema committed (cs ++ c ∷ []) (take count is ++ first_of (has_next c (looked_row c (next_row js))) js)) (sym takes.own) made)
    (log_more schema committed cs (take count is) (old xid) far.made c rest js far.log))

-- a change that has the next inverse has one in the log
pub so_far_has : (schema : Schema) (committed : Rows) (cs : List Change) (c : Change) (rest : List Change) (is : List Inverse) (count : ℕ) (held : List (Cell × BeforeImage))
    → IsSoFar schema committed cs (c ∷ rest) is count held → has_next c (looked_row c (next_row (inverse_at is count))) ≡ true → suc count ≤ length is
so_far_has schema committed cs c rest is count held far has =
    shorter is count
    (has_some schema (serial schema committed cs) c rest (drop count is) far.log
    (ap (has_next c) (sym (looked_alike c (next_row (inverse_at is count)) (next_row (drop count is)) (next_drop is count))) ∙ has))

-- once all changes are taken, no inverse is left
pub so_far_all : (schema : Schema) (committed : Rows) (cs : List Change) (is : List Inverse) (count : ℕ) (held : List (Cell × BeforeImage))
    → IsSoFar schema committed cs [] is count held → IsMadeOf schema committed cs is held
so_far_all schema committed cs is count held far =
    subst (λ (l : List Inverse). IsMadeOf schema committed cs l held)
    (sym (append-nil (take count is)) ∙ ap (λ (l : List Inverse). take count is ++ l) (sym (none (drop count is) far.log)) ∙ take-append-drop count is) far.made
  where
    none : (js : List Inverse) → IsLogOf schema (serial schema committed cs) [] js → js ≡ []
    none _ (no_change _) = refl

-- ---- the store

module _ (w : World) (l : Live) (tied : RepresentsByHolds w l) (xid : ℕ) (o : Opened) (is : get w.opened xid ≡ Some o)
    (alone : (other : ℕ) → other ≢ xid → get w.opened other ≡ None) (r : Record) (found : records_in l.transactions xid ≡ Some r) (unmarked : r.marks ≡ [])
    (h : LiveHolds) (made : IsMadeOf l.tables.schema w.committed (changes_of r.survivors) r.log.inverses (holds_of h xid))
    (beside : (other : ℕ) → other ≢ xid → holds_of h other ≡ []) where
  its_record : (q : Record) → records_in l.transactions xid ≡ Some q → r ≡ q
  its_record q at = same_some r q (sym found ∙ at)
    where
      same_some : (x y : Record) → Some x ≡ Some y → x ≡ y
      same_some x y e = cc

  -- its changes are its work
  work_is : changes_of r.survivors ≡ work xid o
  work_is =
      let ready = tied.kept.ready xid o is in
      ap (λ (q : Record). changes_of q.survivors) (its_record ready.its ready.found) ∙ ap changes_of ready.tells.survives

  -- nobody else has a record
  no_record : (other : ℕ) (q : Record) → other ≢ xid → records_in l.transactions other ≡ Some q → ⊥
  no_record other q differs at = never (sym (tied.kept.closed other (alone other differs)) ∙ at)
    where
      never : None ≡ Some q → ⊥
      never e = cc

  no_mark_of : (q : Record) → q.marks ≡ [] → (sub : ℕ) (m : Mark) → mark_at sub q.marks ≡ Some m → ⊥
  no_mark_of q none sub m at = never (sym (ap (mark_at sub) none) ∙ at)
    where
      never : mark_at sub [] ≡ Some m → ⊥
      never e = cc

  nobody_else : (other : ℕ) (p : Opened) → other ≢ xid → get w.opened other ≡ Some p → ⊥
  nobody_else other p differs at = never (sym (alone other differs) ∙ at)
    where
      never : None ≡ Some p → ⊥
      never e = cc

  made_holds : AreHolds l.tables.schema w (cells_held h)
  made_holds = record {
    its = λ other p at.
        elim (xid_cases other xid) [
          | inl same ↦
              let same_open : o ≡ p = same_opened o p (sym is ∙ ap (get w.opened) (sym same) ∙ at) in
              subst (λ (n : ℕ). HasSameCells (cells_held h n) (holds l.tables.schema w n p)) (sym same)
              (subst (λ (q : Opened). HasSameCells (cells_held h xid) (holds l.tables.schema w xid q)) same_open
              (subst (λ (cs : List Change). HasSameCells (cells_held h xid) (held_cells l.tables.schema w.committed cs)) work_is made.same))
          | inr differs ↦ absurd (nobody_else other p differs at)
        ];
    none = λ other closed.
        elim (xid_cases other xid) [
          | inl same ↦ absurd (open_is other same closed)
          | inr differs ↦ ap keys_of (beside other differs)
        ];
  }
    where
      same_opened : (x y : Opened) → Some x ≡ Some y → x ≡ y
      same_opened x y e = cc

      never : None ≡ Some o → ⊥
      never e = cc

      open_is : (other : ℕ) → other ≡ xid → get w.opened other ≡ None → ⊥
      open_is other same closed = never (sym closed ∙ ap (get w.opened) same ∙ is)

  made_marks : (other : ℕ) (q : Record) → records_in l.transactions other ≡ Some q → HasHeldMarks l.tables.schema w.committed q (cells_held h other)
  made_marks other q at =
      elim (xid_cases other xid) [
        | inr differs ↦ absurd (no_record other q differs at)
        | inl same ↦
            let none : q.marks ≡ [] = ap (λ (s : Record). s.marks) (sym (its_record q (ap (records_in l.transactions) (sym same) ∙ at))) ∙ unmarked in
            record {
              within = λ sub m marked. absurd (no_mark_of q none sub m marked);
              before = λ sub m marked. absurd (no_mark_of q none sub m marked);
              rising = λ sub later p m marked too. absurd (no_mark_of q none sub p marked);
            }
      ]

  made_stood : HasBeforeImages w (records_in l.transactions) (holds_of h)
  made_stood other p q at kept =
      elim (xid_cases other xid) [
        | inr differs ↦ absurd (no_record other q differs kept)
        | inl same ↦
            let q_is : r ≡ q = its_record q (ap (records_in l.transactions) (sym same) ∙ kept) in
            subst (λ (n : ℕ). AreBeforeImages w.committed q.log.inverses q.marks (holds_of h n)) (sym same)
            (subst (λ (s : Record). AreBeforeImages w.committed s.log.inverses s.marks (holds_of h xid)) q_is
            (subst (λ (ms : List (ℕ × Mark)). AreBeforeImages w.committed r.log.inverses ms (holds_of h xid)) (sym unmarked) made.before_image))
      ]

  -- the store with these holds in place of its own is tied to the same world
  pub tied_made : RepresentsByHolds w (record l { holds = h })
  tied_made = record {
    kept = tied.kept;
    holds = made_holds;
    marks = made_marks;
    beside = tied.beside;
    count = tied.count;
    stopped = tied.stopped;
    caused = tied.caused;
    before_image = made_stood;
  }
