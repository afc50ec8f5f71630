-- What follows of a store in which nothing has happened.
--     here, taken_front, taken_count      what is behind the first so many; what the iterator of a vector has given
--     none_are_of      of no rows none are a table's
--     own_starting      the rows of a table, before anything happened, are a part of themselves
--     fits_begun      a table's part may be laid under its lock
--     none_begun, begun_more, over_none, over_more      before the first table, and behind one table more
--     left_more, left_same      one more table's rows were taken out; none were
--     are_unused, unused_rows      parts in which nothing has happened, and the rows of one
--     back_first, one_more, last_there, back_more      before the first of them is given up; one more, which is there; behind it
--     given_back      behind all of them the rows are as they were
--     none_beyond      a table that isn't there has no rows
--     over_empty, over_none_of, can_name      where all tables began with no rows; names can be chosen
use Rattle.std.specs.Prelude.{◌≡◌, ℕ, ◌+◌, ◌==◌, ◌<◌, ◌≤◌, Bool, true, false, cond, List, [], ◌∷◌, ◌++◌, Option, Some, None, length, map, slice_get, slice_index_or, refl}
use Rattle.std.proofs.Common.{zero, suc, sym, ◌∙◌, ap, subst, arith, inl, inr, length-append}
use Rattle.std.proofs.lemmas.Bool.{cases_eq, cases_lt}
use Rattle.std.proofs.lemmas.Option.{none-some, slice_get_within, same_Some}
use Rattle.std.specs.FinMap as finite
use Rattle.std.specs.FinMap.{get}
use Rattle.std.specs.Iterator.{Yields}
use Rattle.std.specs.Ordering.{nat_cmp}
use Rattle.std.specs.Vec.Iter.{into_iter_items, into_iter_len, into_iter_steps}
use Rattle.std.specs.declared.vec.IntoIter.{IntoIter}
use Rattle.model.specs.declared.key.Key.{Key}
use Rattle.model.specs.declared.row.Row.{Row}
use Rattle.model.specs.EditLemmas.{same_rows}
use Rattle.model.specs.Effect.{serial}
use Rattle.model.specs.Rows.{Rows, Schema, IsValid, place_cmp}
use Rattle.tokens.specs.Half.{Name}
use Rattle.tokens.specs.Lists.{OpenLists, OpenList, with_list}
use Rattle.world.specs.ListingLemmas.{xid_cases, got_same, got_other}
use Rattle.world.specs.World.{Opened, World, starting, changes_in}
use Rattle.world_parts.specs.ByTable.{rows_at, changes_at}
use Rattle.world_parts.specs.ByTableLemmas.{get_rows_at, same_tables, all_tables}
use Rattle.world_parts.specs.Lines.{TableCommit, line_at}
use Rattle.world_parts.specs.Marks.{items_at, survivors_if, HasPart}
use Rattle.world_parts.specs.Parts.{work_if, wanted_if}
use Rattle.world_parts.specs.Reached.{PartReaches, at_start}
use Rattle.world_parts.specs.Sound.{IsSound}
use Rattle.world_parts.specs.SoundLemmas.{sound_start}
use Rattle.world_parts.specs.TwiceLemmas.{rows_twice}
use Rattle.table_parts.specs.Part.{Part}
use Rattle.table_locks.specs.LendingLemmas.{more_before, more_here, more_cases, found_there}
use Rattle.table_locks.specs.Moving.{SameBeside}
use Rattle.table_locks.specs.TableStates.{IsKept, IsListed, Fits}
use Rattle.table_locks.specs.Starts.{MadeTable, MadeStore, IsBegun, AreOver, AreUnused, AreKnown, AreLeft, AreBack, AreBegun, AreNames, tickets_of, tickets_in, state_with}

pub here : {A : Type 0} (xs : List A) (x : A) (rest : List A) → slice_get (xs ++ x ∷ rest) (length xs) ≡ Some x
here [] x rest = refl
here (y ∷ xs) x rest = here xs x rest

-- what the iterator of a vector has given is a front of its items
pub taken_front : {X A : Type 0} (s : IntoIter X A) (xs : List X) (t : IntoIter X A) → Yields into_iter_steps s xs t → into_iter_items s ≡ xs ++ into_iter_items t
taken_front s [] t y = ap into_iter_items y
taken_front s (x ∷ xs) t y = y.1.0 ∙ ap (λ ys. x ∷ ys) (taken_front y.0 xs t y.2)

pub taken_count : {X A : Type 0} (s : IntoIter X A) (xs : List X) (t : IntoIter X A) → Yields into_iter_steps s xs t
    → into_iter_len s ≡ length xs + into_iter_len t
taken_count s [] t y = let same : into_iter_len s ≡ into_iter_len t = ap into_iter_len y in omega (arith, same)
taken_count s (x ∷ xs) t y =
    let rest = taken_count y.0 xs t y.2 in
    let one = y.1.1 in
    omega (arith, rest, one)

no_choice : (b : Bool) (row : Option Row) → row ≡ None → cond b row None ≡ row
no_choice true row none = refl
no_choice false row none = sym none

-- none of no rows is a table's
pub none_are_of : (table : ℕ) → rows_at table finite.empty ≡ finite.empty
none_are_of table =
    same_rows (rows_at table finite.empty) finite.empty (λ p.
    get_rows_at table finite.empty p ∙ no_choice (p.0 == table) (get finite.empty p) (finite.get-empty place_cmp p))

-- ---- a table

pub own_starting : (number : ℕ) (start : Rows) → HasPart number (starting (rows_at number start)) (starting (rows_at number start))
own_starting number start = (
  record {
    committed = sym (rows_twice number start);
    work = λ xid. ap (work_if xid) (none xid) ∙ sym (ap (λ (o : Option Opened). changes_at number (work_if xid o)) (none xid));
    wanted = λ xid. ap wanted_if (none xid) ∙ sym (ap (λ (o : Option Opened). changes_at number (wanted_if o)) (none xid));
  },
  λ xid. ap (survivors_if xid) (none xid) ∙ sym (ap (λ (o : Option Opened). items_at number xid (survivors_if xid o)) (none xid)),
)
  where
    none : (xid : ℕ) → get (starting (rows_at number start)).opened xid ≡ None
    none xid = finite.get-empty nat_cmp xid

module _ (shares : ℕ → Name) (tables : Name) (schema : Schema) (start : Rows) (number : ℕ) (t : MadeTable) (begun : IsBegun tables number t)
    (tickets : t.0.store.tickets ≡ shares number)
    (over : (t.0.store.schema ≡ schema) × (t.0.store.world.start ≡ rows_at number start)) where
  world_is : t.0.store.world ≡ starting (rows_at number start)
  world_is = begun.world ∙ ap starting over.1

  world_so : t.0.store.world ≡ starting (rows_at t.0.number start)
  world_so = world_is ∙ ap (λ (n : ℕ). starting (rows_at n start)) (sym begun.number_is)

  kept_begun : IsKept shares schema start t.0
  kept_begun = record {
    tickets = tickets ∙ ap shares (sym begun.number_is);
    schema_is = over.0;
    start_is = ap (λ (w : World). w.start) world_so;
    own = subst (λ (w : World). HasPart t.0.number w w) (sym world_so) (own_starting t.0.number start);
    reached =
        ∣ subst (λ (w : World). PartReaches schema t.0.number (starting (rows_at t.0.number start)) w) (sym world_so) at_start ∣₁;
  }

  listed_begun : IsListed tables t.0 t.1
  listed_begun = record {
    name = ap (λ (l : OpenList TableCommit). l.name) begun.commits;
    number = ap (λ (l : OpenList TableCommit). l.number) begun.commits ∙ sym begun.number_is;
    list =
        ap (λ (l : OpenList TableCommit). l.list) begun.commits ∙ sym (ap (λ (w : World). line_at t.0.number w.line) world_is);
  }

  valid_start : IsValid schema (rows_at number start)
  valid_start =
      subst (λ (k : Schema). IsValid k (rows_at number start)) over.0
      (subst (λ (rows : Rows). IsValid t.0.store.schema rows) over.1 begun.valid)

  pub fits_begun : Fits shares tables schema start (state_with t) t.0
  fits_begun = record {
    number = begun.number_is ∙ sym (ap (λ (l : OpenList TableCommit). l.number) begun.commits);
    kept = kept_begun;
    listed = listed_begun;
    sound =
        subst (λ (w : World). IsSound schema (record w { stopped = None })) (sym world_is)
        (sound_start schema (rows_at number start) valid_start);
    last = subst (λ (n : ℕ). n ≤ 0) (sym begun.end) (omega arith);
  }

-- ---- one table after another

pub none_begun : (book : OpenLists TableCommit) → book.lists ≡ finite.empty → AreBegun book []
none_begun book empty =
    let no : (number : ℕ) → get book.lists number ≡ None = λ number. ap (λ lists. get lists number) empty ∙ finite.get-empty nat_cmp number in
    record {
      each = λ number t at. absurd (none-some t at);
      none = λ number list at. absurd (none-some list (sym (no number) ∙ at));
      closed = λ number below. no number;
    }

pub over_none : (schema : Schema) (starts : ℕ → Rows) → AreOver schema starts []
over_none schema starts number t at = absurd (none-some t at)

pub over_more : (schema : Schema) (starts : ℕ → Rows) (tables : List MadeTable) (t : MadeTable) → AreOver schema starts tables
    → (t.0.store.schema ≡ schema) × (t.0.store.world.start ≡ starts (length tables)) → AreOver schema starts (tables ++ t ∷ [])
over_more schema starts tables t before is number u at =
    elim (more_cases tables t number u at) [
      | inl was ↦ before number u was.0
      | inr last ↦
          subst (λ (v : MadeTable). (v.0.store.schema ≡ schema) × (v.0.store.world.start ≡ starts number)) last.1
          (is.0, is.1 ∙ ap starts (sym last.0))
    ]

module _ (book : OpenLists TableCommit) (tables : List MadeTable) (before : AreBegun book tables) (t : MadeTable)
    (is : IsBegun book.name (length tables) t) where
  each_more : (number : ℕ) (u : MadeTable) → slice_get (tables ++ t ∷ []) number ≡ Some u → IsBegun book.name number u
  each_more number u at =
      elim (more_cases tables t number u at) [
        | inl was ↦ before.each number u was.0
        | inr last ↦ subst (λ (n : ℕ). IsBegun book.name n u) (sym last.0) (subst (λ (v : MadeTable). IsBegun book.name (length tables) v) last.1 is)
      ]

  none_more : (number : ℕ) (list : List TableCommit) → get (with_list book (length tables) []).lists number ≡ Some list → list ≡ []
  none_more number list at =
      elim (xid_cases number (length tables)) [
        | inl same ↦
            sym (same_Some [] list (sym (got_same book.lists (length tables) []) ∙ ap (get (with_list book (length tables) []).lists) (sym same) ∙ at))
        | inr apart ↦ before.none number list (sym (got_other book.lists (length tables) [] number apart) ∙ at)
      ]

  closed_more : (number : ℕ) → length (tables ++ t ∷ []) ≤ number → get (with_list book (length tables) []).lists number ≡ None
  closed_more number past =
      let long = length-append tables (t ∷ []) in
      got_other book.lists (length tables) [] number (λ same. omega (arith, long, past, same))
      ∙ before.closed number (omega (arith, long, past))

  pub begun_more : AreBegun (with_list book (length tables) []) (tables ++ t ∷ [])
  begun_more = record { each = each_more; none = none_more; closed = closed_more }

-- ---- rows that are taken out of tables

module _ (whole : Rows) (count : ℕ) (rows : Rows) (left : AreLeft whole count rows) where
  pub left_more : (new : Rows) → SameBeside count rows new → AreLeft whole (count + 1) new
  left_more new beside number past = beside number (λ same. omega (arith, past, same)) ∙ left number (omega (arith, past))

  -- where a refusal took none
  pub left_same : (new : Rows) → rows_at count new ≡ rows_at count rows → SameBeside count rows new → AreLeft whole count new
  left_same new same beside number past =
      elim (cases_eq number count) [
        | inl is ↦ subst (λ (n : ℕ). rows_at n new ≡ rows_at n whole) (sym is) (same ∙ left count (omega arith))
        | inr apart ↦ beside number apart ∙ left number past
      ]

pub are_unused : (book : OpenLists TableCommit) (schema : Schema) (starts : ℕ → Rows) (tables : List MadeTable) → AreBegun book tables
    → AreOver schema starts tables → AreUnused schema tables
are_unused book schema starts tables begun over number t at = ((over number t at).0, (begun.each number t at).world)

-- the rows of a part in which nothing has happened are those with which it began
pub unused_rows : (p : Part) → p.store.world ≡ starting p.store.world.start
    → serial p.store.schema p.store.world.start (changes_in p.store.world.line) ≡ p.store.world.start
unused_rows p is = ap (λ (w : World). serial p.store.schema p.store.world.start (changes_in w.line)) is

module _ (was : Rows) (parts : List MadeTable) where
  pub back_first : AreBack was parts parts was
  back_first = record {
    few = omega arith;
    same = λ number t at. at;
    back = λ number t at past. absurd (let within = slice_get_within parts number t at in omega (arith, within, past));
    beyond = λ number past. refl;
  }

  module _ (left : List MadeTable) (rows : Rows) (before : AreBack was parts left rows) (rest : List MadeTable) (t : MadeTable)
      (split : left ≡ rest ++ t ∷ []) where
    pub one_more : length rest < length parts
    one_more =
        let long : length left ≡ length rest + 1 = ap length split ∙ length-append rest (t ∷ []) in
        let few = before.few in
        omega (arith, long, few)

    pub last_there : slice_get parts (length rest) ≡ Some t
    last_there = before.same (length rest) t (ap (λ (ts : List MadeTable). slice_get ts (length rest)) split ∙ more_here rest t)

    pub back_more : (new : Rows) → rows_at (length rest) new ≡ rows_at (length rest) t.0.store.world.start → SameBeside (length rest) rows new
        → AreBack was parts rest new
    back_more new here beside = record {
      few = let below = one_more in omega (arith, below);
      same = λ number u at.
          before.same number u
          (ap (λ (ts : List MadeTable). slice_get ts number) split ∙ more_before rest t number (slice_get_within rest number u at) ∙ at);
      back = λ number u at past.
          elim (cases_eq number (length rest)) [
            | inl is ↦
                let one : t ≡ u = same_Some t u (sym last_there ∙ ap (slice_get parts) (sym is) ∙ at) in
                subst (λ (n : ℕ). rows_at n new ≡ rows_at n u.0.store.world.start) (sym is)
                (here ∙ ap (λ (v : MadeTable). rows_at (length rest) v.0.store.world.start) one)
            | inr apart ↦
                let long : length left ≡ length rest + 1 = ap length split ∙ length-append rest (t ∷ []) in
                beside number apart ∙ before.back number u at (omega (arith, long, past, apart))
          ];
      beyond = λ number past.
          let below = one_more in
          beside number (λ is. omega (arith, below, past, is)) ∙ before.beyond number past;
    }

pub given_back : (schema : Schema) (whole was now : Rows) (tables : List MadeTable) → AreOver schema (λ number. rows_at number whole) tables
    → AreLeft whole (length tables) was
    → ((number : ℕ) (t : MadeTable) → slice_get tables number ≡ Some t → rows_at number now ≡ rows_at number t.0.store.world.start)
    → ((number : ℕ) → length tables ≤ number → rows_at number now ≡ rows_at number was) → now ≡ whole
given_back schema whole was now tables over left back beyond =
    all_tables now whole (λ number.
    elim (cases_lt number (length tables)) [
      | inl below ↦
          let (t, at) = found_there tables number below in
          back number t at ∙ ap (rows_at number) (over number t at).1 ∙ rows_twice number whole
      | inr past ↦ beyond number past ∙ left number past
    ])

-- a table that isn't there has no rows
pub none_beyond : (schema : Schema) (rows : Rows) → AreKnown schema rows → (number : ℕ) → length schema ≤ number → rows_at number rows ≡ finite.empty
none_beyond schema rows known number past =
    same_tables number rows finite.empty (λ key. by key (get rows (number, key)) refl ∙ sym (finite.get-empty place_cmp (number, key)))
    ∙ none_are_of number
  where
    by : (key : Key) (found : Option Row) → get rows (number, key) ≡ found → get rows (number, key) ≡ None
    by key None is = is
    by key (Some row) is = absurd (let below = known number key row is in omega (arith, below, past))

-- ---- names

mapped : (tables : List MadeTable) (number : ℕ) (t : MadeTable) (other : Name) → slice_get tables number ≡ Some t
    → tickets_of t ≡ slice_index_or (map tickets_of tables) number other
mapped [] number t other at = absurd (none-some t at)
mapped (u ∷ tables) zero t other at = ap tickets_of (sym (same_Some u t at))
mapped (u ∷ tables) (suc number) t other at = mapped tables number t other at

-- where all tables began with no rows
pub over_empty : (schema : Schema) (tables : List MadeTable) → AreOver schema (λ _. finite.empty) tables
    → AreOver schema (λ number. rows_at number finite.empty) tables
over_empty schema tables over number t at = let is = over number t at in (is.0, is.1 ∙ sym (none_are_of number))

pub over_none_of : (schema : Schema) (rows : Rows) (tables : List MadeTable) → rows ≡ finite.empty → AreOver schema (λ number. rows_at number rows) tables
    → AreOver schema (λ _. finite.empty) tables
over_none_of schema rows tables none over number t at =
    let is = over number t at in (is.0, is.1 ∙ ap (rows_at number) none ∙ none_are_of number)

pub can_name : (schema : Schema) (start : Rows) (m : MadeStore) → AreOver schema (λ number. rows_at number start) m.tables
    → length m.tables ≡ length schema → m.blank.schema ≡ schema
    → AreKnown schema start → AreNames (tickets_in m) m.journal.part.line.name m.journal.tables.name schema start m
can_name schema start m over long keys known = record {
  tickets = λ number t at. mapped m.tables number t _ at;
  line = refl;
  book = refl;
  over = over;
  long = long;
  keys = keys;
  known = known;
}
