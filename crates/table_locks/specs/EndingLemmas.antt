-- What follows of a commit in several tables, and in the journal.
--     none_before, one_before      of the parts so far none has a commit at a position or behind it
--     ends_before      nor has any of those that are lent
--     none_told, one_told      no table was told yet; one more was
--     line_with      the line of a table with one commit more
--     fits_told      the part behind a commit may lie where its table was told of it
--     fit_told      so may each
--     lists_told      each table's list is the table's part of the line with the commit
--     beyond_told      which has nothing beyond the tables
use Rattle.std.specs.Prelude.{◌≡◌, ℕ, ◌+◌, ◌<◌, ◌≤◌, List, [], ◌∷◌, ◌++◌, true, false, Option, Some, None, IfSome, IsSome, IsSomeAnd, is_some, length, slice_get, slice_set, refl}
use Rattle.std.proofs.Common.{sym, ◌∙◌, ap, subst, arith, append-nil}
use Rattle.std.proofs.lemmas.Grind.{flat_map-append}
use Rattle.std.proofs.lemmas.List.{length-set}
use Rattle.std.proofs.lemmas.Option.{slice_get_within, same_Some}
use Rattle.std.specs.FinMap.{get}
use Rattle.std.specs.declared.sync.MutexGuard.{MutexGuard}
use mathlib.Core.Logic.{dite}
use native.Mathlib.Decide.{ℕ_discrete}
use Rattle.model.specs.declared.change.Change.{Change}
use Rattle.model.specs.declared.item.CommitInfo.{CommitInfo}
use Rattle.model.specs.Rows.{Rows, Schema}
use Rattle.tokens.specs.Half.{Name}
use Rattle.tokens.specs.Lists.{OpenLists, with_list}
use Rattle.world.specs.ListingLemmas.{got_same, got_other}
use Rattle.world.specs.Steps.{Step, commits, committed_with}
use Rattle.world.specs.World.{Past, World}
use Rattle.world_parts.specs.Lines.{TableCommit, commit_of, commit_at, line_at}
use Rattle.world_parts.specs.Sound.{IsSound}
use Rattle.engine.specs.Events.{opened_by}
use Rattle.table_parts.specs.Part.{Part, last_commit_end}
use Rattle.parted_store.specs.Ends.{IsCommitted}
use Rattle.parted_store.specs.KeepsSound.{with_stop, KeepsSound}
use Rattle.parted_store.specs.Lent.{OpenTicket, HasTable, HasTicket, IsSamePart, IsShare, HasShares, Stands}
use Rattle.parted_store.specs.Shares.{Share, share_of}
use Rattle.table_locks.specs.CallLemmas.{the_world, at_world, has_witness}
use Rattle.table_locks.specs.Ending.{past_by, AreBefore, told_state, TellsState, AreTold}
use Rattle.table_locks.specs.Lending.{Guards, state_of, state_at, NumberedApart, AreMet, FitEach}
use Rattle.table_locks.specs.LendingLemmas.{found_there, is_there, state_here, state_beside}
use Rattle.table_locks.specs.StateLemmas.{leads_on}
use Rattle.table_locks.specs.TableStates.{TableState, IsKept, Fits}
use Rattle.table_locks.specs.Tickets.{IsTicket}
use Rattle.table_locks.specs.declared.ticket.Waits.{Waits}

-- ---- the parts before a commit

pub none_before : (guards : Guards) (end : ℕ) → AreBefore guards 0 end
none_before guards end i below = absurd (omega (arith, below))

pub one_before : (guards : Guards) (count end : ℕ) → AreBefore guards count end → IfSome (state_at guards count) (λ s. s.last < end)
    → AreBefore guards (count + 1) end
one_before guards count end before here i below = dite (ℕ_discrete i count)
    (λ same. subst (λ n. IfSome (state_at guards n) (λ s. s.last < end)) (sym same) here)
    (λ apart. before i (omega (arith, below, apart)))

if_some : {A : Type 0} (found : Option A) (P : A → Type 0) → IfSome found P → (x : A) → found ≡ Some x → P x
if_some None P is x at = let no : None ≡ Some x = at in cc
if_some (Some y) P is x at = subst P (same_Some y x at) is

-- ---- tables are told, one after another

pub none_told : (p : Past) (start : Guards) (old : OpenLists TableCommit) → AreTold p 0 start old start old
none_told p start old = record {
  told = λ i s below. absurd (omega (arith, below));
  left = λ i above. refl;
  was = λ i s below. absurd (omega (arith, below));
  lists = λ i s below. absurd (omega (arith, below));
  beside = λ table none. refl;
  name = refl;
  long = refl;
}

module _ (p : Past) (count : ℕ) (start : Guards) (old : OpenLists TableCommit) (guards : Guards) (tables : OpenLists TableCommit)
    (so_far : AreTold p count start old guards tables) (total : ℕ) (below : count < total) (apart : NumberedApart start total) (room : count < length guards)
    (s : TableState) (at : state_at start count ≡ Some s) (guard : Option (MutexGuard TableState)) (new : OpenLists TableCommit)
    (tells : TellsState p (Some s) tables (state_of guard) new) where
  abbrev longer : List TableCommit
  longer = s.commits.list ++ commit_at s.number p

  here : state_at (slice_set guards count guard) count ≡ Some (told_state p s)
  here = state_here guards count guard room ∙ tells.2

  beside_it : (i : ℕ) → (i ≡ count → ⊥) → state_at (slice_set guards count guard) i ≡ state_at guards i
  beside_it i other = state_beside guards count guard i other

  -- a table before it is another
  others : (i : ℕ) (t : TableState) → i < count → state_at start i ≡ Some t → (t.number ≡ s.number → ⊥)
  others i t before there = apart i count t s before below there at

  it_is : (i : ℕ) (t : TableState) → i ≡ count → state_at start i ≡ Some t → s ≡ t
  it_is i t same there = same_Some s t (sym at ∙ ap (state_at start) (sym same) ∙ there)

  lists_now : (table : ℕ) → get new.lists table ≡ get (with_list tables s.number longer).lists table
  lists_now table = ap (λ (book : OpenLists TableCommit). get book.lists table) tells.1

  its_list : get new.lists s.number ≡ Some longer
  its_list = lists_now s.number ∙ got_same tables.lists s.number longer

  other_list : (table : ℕ) → (table ≡ s.number → ⊥) → get new.lists table ≡ get tables.lists table
  other_list table other = lists_now table ∙ got_other tables.lists s.number longer table other

  pub one_told : AreTold p (count + 1) start old (slice_set guards count guard) new
  one_told = record {
    told = λ i t within there. dite (ℕ_discrete i count)
        (λ same. ap (state_at (slice_set guards count guard)) same ∙ here ∙ ap (λ (u : TableState). Some (told_state p u)) (it_is i t same there))
        (λ other. beside_it i other ∙ so_far.told i t (omega (arith, within, other)) there);
    left = λ i above. beside_it i (λ same. omega (arith, same, above)) ∙ so_far.left i (omega (arith, above));
    was = λ i t within there. dite (ℕ_discrete i count)
        (λ same.
        subst (λ (u : TableState). get old.lists u.number ≡ Some u.commits.list) (it_is i t same there)
        (sym (so_far.beside s.number (λ j u before found. others j u before found)) ∙ tells.0))
        (λ other. so_far.was i t (omega (arith, within, other)) there);
    lists = λ i t within there. dite (ℕ_discrete i count)
        (λ same. subst (λ (u : TableState). get new.lists u.number ≡ Some (u.commits.list ++ commit_at u.number p)) (it_is i t same there) its_list)
        (λ other.
        let before : i < count = omega (arith, within, other) in
        other_list t.number (others i t before there) ∙ so_far.lists i t before there);
    beside = λ table none.
        other_list table (λ same. none count s (omega arith) at (sym same))
        ∙ so_far.beside table (λ j u before found. none j u (omega (arith, before)) found);
    name = ap (λ (book : OpenLists TableCommit). book.name) tells.1 ∙ so_far.name;
    long = length-set guards count guard ∙ so_far.long;
  }

-- ---- a line with one commit more

pub line_with : (table : ℕ) (line : List Past) (p : Past) → line_at table (line ++ p ∷ []) ≡ line_at table line ++ commit_at table p
line_with table line p =
    flat_map-append (commit_at table) line (p ∷ []) ∙ ap (λ cs. line_at table line ++ cs) (append-nil (commit_at table p))

-- ---- the parts behind a commit

module _ (shares : ℕ → Name) (tables : Name) (schema : Schema) (start : Rows) (waits : Waits) (t : OpenTicket) (is : IsTicket shares schema waits t) (info : CommitInfo) where
  abbrev its_past : Past
  its_past = past_by t info

  module _ (s : TableState) (p : Part) (fits : Fits shares tables schema start s p) (came : IsSome (share_of t.shares p.number)) (stands : Stands p t.shares)
      (q : Part) (did : IsCommitted t info p q) (same : IsSamePart p q) (sound : KeepsSound p q) (end : last_commit_end q ≤ info.end) where
    kept : IsKept shares schema start p
    kept = fits.kept

    abbrev w : World
    w = the_world shares schema start waits t is p fits.kept

    abbrev next : World
    next = committed_with p.store.schema w t.number (opened_by t.events) info

    has : HasTable w p
    has = has_witness shares schema start waits t is p fits.kept came stands

    its_ticket : HasTicket w t
    its_ticket = at_world shares schema start waits t is p fits.kept

    then : HasTable next q
    then = did w has its_ticket

    step : Step schema w next
    step =
        commits t.number (opened_by t.events) info next its_ticket
        (ap (λ (keys : Schema). committed_with keys w t.number (opened_by t.events) info) fits.kept.schema_is)

    -- the table's list is the part's line
    list_is : s.commits.list ++ commit_at s.number its_past ≡ line_at q.number q.store.world.line
    list_is =
        ap (λ cs. cs ++ commit_at s.number its_past) (fits.listed.list ∙ has.line.line)
        ∙ ap (λ (n : ℕ). line_at p.number w.line ++ commit_at n its_past) (sym fits.number)
        ∙ sym (line_with p.number w.line its_past)
        ∙ ap (λ (n : ℕ). line_at n next.line) (sym same.number)
        ∙ sym then.line.line

    pub fits_told : Fits shares tables schema start (told_state its_past s) q
    fits_told = record {
      number = same.number ∙ fits.number;
      kept = leads_on shares tables schema start p fits.kept q same w next has step then;
      listed = record { name = fits.listed.name; number = fits.listed.number ∙ sym same.number; list = list_is };
      sound =
          subst (λ (keys : Schema). IsSound keys (with_stop s.stopped q)) fits.kept.schema_is
          (sound s.stopped (subst (λ (keys : Schema). IsSound keys (with_stop s.stopped p)) (sym fits.kept.schema_is) fits.sound));
      last = end;
    }

  module _ (parts : List Part) (met : AreMet shares schema start t.shares parts) (guards told : Guards) (old new : OpenLists TableCommit)
      (fit : FitEach shares tables schema start guards parts) (are : AreTold its_past (length parts) guards old told new) where
    pub fit_told : (news : List Part) → length news ≡ length parts
        → ((i : ℕ) (p : Part) → slice_get parts i ≡ Some p → IsSomeAnd (slice_get news i) (IsCommitted t info p))
        → ((i : ℕ) (p : Part) → slice_get parts i ≡ Some p → IsSomeAnd (slice_get news i) (IsSamePart p))
        → ((i : ℕ) (p : Part) → slice_get parts i ≡ Some p → IsSomeAnd (slice_get news i) (KeepsSound p))
        → ((i : ℕ) (p : Part) → slice_get parts i ≡ Some p → IsSomeAnd (slice_get news i) (λ q. last_commit_end q ≤ info.end))
        → FitEach shares tables schema start told news
    fit_told news long did same sound ends = record {
      each = λ i q at.
          let within : i < length parts = subst (λ n. i < n) long (slice_get_within news i q at) in
          let (p, there) = found_there parts i within in
          let (s, place, fits) = fit.each i p there in (
            told_state its_past s,
            are.told i s within place,
            fits_told s p fits (met.alone i p there) (met.stand i p there) q (is_there (slice_get news i) (IsCommitted t info p) (did i p there) q at)
                (is_there (slice_get news i) (IsSamePart p) (same i p there) q at) (is_there (slice_get news i) (KeepsSound p) (sound i p there) q at)
                (is_there (slice_get news i) (λ r. last_commit_end r ≤ info.end) (ends i p there) q at),
          );
      room = let more = long in let same_long = are.long in let room = fit.room in omega (arith, more, same_long, room);
    }

    module _ (its : HasShares t) (line : List Past)
        (lists : (table : ℕ) (list : List TableCommit) → get old.lists table ≡ Some list → list ≡ line_at table line) where
      abbrev IsNow : ℕ → List TableCommit → Type 0
      IsNow table list = list ≡ line_at table (line ++ its_past ∷ [])

      -- of a table that is told
      list_told : (table : ℕ) (list : List TableCommit) (share : Share) → share_of t.shares table ≡ Some share → get new.lists table ≡ Some list → IsNow table list
      list_told table list share had at =
          let (i, p, there, of_table) = met.covers table share had in
          let (s, place, fits) = fit.each i p there in
          let within = slice_get_within parts i p there in
          let number : s.number ≡ table = sym fits.number ∙ of_table in
          let now : s.commits.list ++ commit_at s.number its_past ≡ list =
          same_Some (s.commits.list ++ commit_at s.number its_past) list (sym (are.lists i s within place) ∙ ap (get new.lists) number ∙ at) in
          sym now ∙ ap (λ cs. cs ++ commit_at s.number its_past) (lists s.number s.commits.list (are.was i s within place))
          ∙ sym (line_with s.number line its_past) ∙ ap (λ (n : ℕ). line_at n (line ++ its_past ∷ [])) number

      -- of one in which the transaction has done nothing
      list_left : (table : ℕ) (list : List TableCommit) → share_of t.shares table ≡ None → get new.lists table ≡ Some list → IsNow table list
      list_left table list had at =
          let none : IsShare t.number (opened_by t.events) table None = subst (IsShare t.number (opened_by t.events) table) had (its table) in
          let unlike : (i : ℕ) (s : TableState) → i < length parts → state_at guards i ≡ Some s → s.number ≡ table → ⊥ = λ i s within place same.
          (let (p, there) = found_there parts i within in
          let (other, found, fits) = fit.each i p there in
          let it : other ≡ s = same_Some other s (sym found ∙ place) in
          let number : p.number ≡ table = fits.number ∙ ap (λ (u : TableState). u.number) it ∙ same in
          let some : IsSome (share_of t.shares table) = subst (λ (n : ℕ). IsSome (share_of t.shares n)) number (met.alone i p there) in
          let no : true ≡ false = sym some ∙ ap is_some had in
          cc) in
          lists table list (sym (are.beside table unlike) ∙ at)
          ∙ sym (append-nil (line_at table line))
          ∙ ap (λ (cs : List Change). line_at table line ++ commit_of info.end cs) (sym none.0)
          ∙ sym (line_with table line its_past)

      pub lists_told : (table : ℕ) (list : List TableCommit) → get new.lists table ≡ Some list → IsNow table list
      lists_told table list = by (share_of t.shares table) refl
        where
          by : (share : Option Share) → share_of t.shares table ≡ share → get new.lists table ≡ Some list → IsNow table list
          by None had = list_left table list had
          by (Some share) had = list_told table list share had

  -- beyond the tables its transaction has done nothing
  pub beyond_told : HasShares t → (line : List Past) → ((table : ℕ) → length schema ≤ table → line_at table line ≡ [])
      → (table : ℕ) → length schema ≤ table → line_at table (line ++ its_past ∷ []) ≡ []
  beyond_told its line beyond table past = by (share_of t.shares table) refl
    where
      by : (share : Option Share) → share_of t.shares table ≡ share → line_at table (line ++ its_past ∷ []) ≡ []
      by None had =
          let none : IsShare t.number (opened_by t.events) table None = subst (IsShare t.number (opened_by t.events) table) had (its table) in
          line_with table line its_past
          ∙ ap (λ cs. cs ++ commit_at table its_past) (beyond table past)
          ∙ ap (λ (cs : List Change). commit_of info.end cs) none.0
      by (Some share) had = let known : table < length schema = is.known table share had in absurd (omega (arith, past, known))

-- no commit of the parts that are lent ends there or behind
pub ends_before : (shares : ℕ → Name) (tables : Name) (schema : Schema) (start : Rows) (guards : Guards) (parts : List Part) (end : ℕ)
    → FitEach shares tables schema start guards parts → AreBefore guards (length parts) end
    → (i : ℕ) (p : Part) → slice_get parts i ≡ Some p → last_commit_end p < end
ends_before shares tables schema start guards parts end fit before i p at =
    let (s, place, fits) = fit.each i p at in
    let last = fits.last in
    let ahead : s.last < end = if_some (state_at guards i) (λ (u : TableState). u.last < end) (before i (slice_get_within parts i p at)) s place in
    omega (arith, last, ahead)
