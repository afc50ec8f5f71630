-- A truncate of several tables, which was tried in the part of each. Under its table's lock each part is known by itself alone: so
-- each is led on by a step of a world that is chosen for it.
--     free_beside      nobody else holds anything of another table, where a part is all that is known of a world
--     done_steps, held_steps      it is done in the world of a part, or held there
--     held_leads      it leads on in a part, where another is in the way in another table
--     stays_led      a part that it leads on so may lie where it lay
--     one_fits      so each part may, whatever it answers
--     same_each, acted_each      parts that are of their tables still; what became of them in all worlds that have them
--     ActedIn      parts that were lent to it, and what became of them
--     one_each      of a table there is one part among those
--     truncated_fits, beside_fits      the parts behind it may lie where they lay: those of its tables, and those of others
--     truncated_is      each share tells what its transaction did; the ticket behind it
use Rattle.std.specs.Prelude.{◌≡◌, ◌≢◌, ℕ, ◌==◌, Bool, true, false, List, [], ◌∷◌, ◌++◌, Option, Some, None, IsSomeAnd, Result, Ok, Err, slice_get, refl}
use Rattle.std.proofs.Common.{sym, ◌∙◌, ap, subst, inl, inr, ne_eqb}
use Rattle.std.proofs.lemmas.Option.{same_Some}
use Rattle.std.specs.FinMap.{get}
use mathlib.Core.Logic.{∥∥₁_map, dite}
use native.Mathlib.Decide.{ℕ_discrete}
use Rattle.model.specs.declared.change.Change as change_type
use Rattle.model.specs.declared.change.Change.TheVariants.{Wipe}
use Rattle.model.specs.declared.cell.Cell.TheVariants.{Whole}
use Rattle.model.specs.declared.item.Item.TheVariants.{Change}
use Rattle.model.specs.Footprint.{held_cells, shares_cell}
use Rattle.model.specs.Rows.{Rows, Schema}
use Rattle.model.specs.TakenLemmas.{number_is}
use Rattle.tokens.specs.Half.{Name}
use Rattle.world.specs.ListingLemmas.{got_other}
use Rattle.world.specs.Steps.{Fault, Acted, IsDone, Held, Step, acts, tells_stop, done_with, wanting}
use Rattle.world.specs.World.{Opened, World, starting, IsFree, IsHeldBy}
use Rattle.world_parts.specs.ByTable.{names_table, rows_at, changes_at}
use Rattle.world_parts.specs.HeldLemmas.{holds_nothing}
use Rattle.world_parts.specs.Lines.{HasLine, KeepsLine, line_at}
use Rattle.world_parts.specs.Marks.{items_at, survivors_if, HasPart}
use Rattle.world_parts.specs.PartOf.{part_of}
use Rattle.world_parts.specs.PartOfLemmas.{part_is}
use Rattle.world_parts.specs.Parts.{work_if, wanted_by, wanted_if}
use Rattle.world_parts.specs.Reached.{PartStep, PartReaches, by_step}
use Rattle.world_parts.specs.Statements.{IsFreeByPart, HasOpen}
use Rattle.world_parts.specs.StepLemmas.{apart_twice, waiting_leads}
use Rattle.world_parts.specs.TruncateLemmas.{wipe_lifts, wait_lifts}
use Rattle.world_parts.specs.TwiceLemmas.{own_part}
use Rattle.live_tables.specs.declared.answers.Acted.TheVariants.{Done as WasDone, Skipped as WasSkipped, Held as WasHeld}
use Rattle.live_tables.specs.declared.answers.EngineFault.{EngineFault}
use Rattle.live_tables.specs.declared.answers.Verdict.{Verdict}
use Rattle.live_tables.specs.declared.answers.Verdict.TheVariants.{Acted as ActedVerdict, Clashes}
use Rattle.live_tables.specs.Answers.{after_act}
use Rattle.engine.specs.Events.{opened_by, events_of}
use Rattle.table_parts.specs.Part.{Part, last_commit_end}
use Rattle.table_parts.specs.Several.{IsSameAs}
use Rattle.parted_store.specs.Acting.{as_told, IsActed}
use Rattle.parted_store.specs.ActLemmas.{act_line}
use Rattle.parted_store.specs.Back.{KeepsShares}
use Rattle.parted_store.specs.CutLemmas.{each_free, cut_beside}
use Rattle.parted_store.specs.EachPart.{AreApart, IsBeside}
use Rattle.parted_store.specs.HasCutLemmas.{table_among}
use Rattle.parted_store.specs.Lent.{OpenTicket, HasTable, HasTicket, IsSamePart, Stands}
use Rattle.parted_store.specs.Shares.{Share, share_of}
use Rattle.parted_store.specs.Truncating.{CutsHere, TellsTruncate}
use Rattle.parted_store.specs.TruncatingLemmas.{apart_cases}
use Rattle.table_locks.specs.CallLemmas.{has_witness}
use Rattle.table_locks.specs.Lending.{KeptEach, CoversAlone}
use Rattle.table_locks.specs.LendingLemmas.{holds_there, is_there, both_there}
use Rattle.table_locks.specs.StateLemmas.{own_table, witness, witness_ticket, stays_fit, tied_beside}
use Rattle.table_locks.specs.TableStates.{IsKept, StaysFit}
use Rattle.table_locks.specs.TicketLemmas.{known_still, tied_in}
use Rattle.table_locks.specs.Tickets.{IsTied, WaitsSo, IsTicket}
use Rattle.table_locks.specs.declared.ticket.Waits.{Waits}

-- ---- what it is in the world of a part

module _ (shares : ℕ → Name) (schema : Schema) (start : Rows) (p : Part) (kept : IsKept shares schema start p) (t : OpenTicket) where
  abbrev o : Opened
  o = opened_by t.events

  -- its own world, with the ticket's transaction
  abbrev w : World
  w = witness p t.number o

  at : HasTicket w t
  at = witness_ticket shares schema start p kept t

  -- of another table nobody else has done anything there
  idle_beside : (table : ℕ) → (p.number == table) ≡ false → (other : ℕ) → other ≢ t.number
      → work_if other (get (part_of table w).opened other) ≡ []
  idle_beside table apart other differs =
      (part_is table w).work other
      ∙ ap (λ (open_one : Option Opened). changes_at table (work_if other open_one)) (got_other p.store.world.opened t.number o other differs)
      ∙ ap (changes_at table) (kept.own.0.work other) ∙ apart_twice table p.number apart (work_if other (get p.store.world.opened other))

  free_beside : (table : ℕ) → (p.number == table) ≡ false → IsFree schema (part_of table w) t.number (Whole table ∷ [])
  free_beside table apart other its differs is =
      ap (λ (cs : List change_type.Change). shares_cell (Whole table ∷ []) (held_cells schema (part_of table w).committed cs))
      (ap (work_if other) (sym is) ∙ idle_beside table apart other differs)
      ∙ holds_nothing (Whole table ∷ [])

  module _ (has : HasTable w p) (sub : ℕ) (c : change_type.Change) (tables : List ℕ) (is : c ≡ Wipe tables) where
    free_by : (names_table tables p.number ≡ true → IsFree schema p.store.world t.number (Whole p.number ∷ [])) → (table : ℕ)
        → names_table tables table ≡ true → IsFreeByPart schema w t.number table
    free_by here table named = by_table (p.number == table) refl
      where
        by_table : (b : Bool) → (p.number == table) ≡ b → IsFreeByPart schema w t.number table
        by_table true same =
            let of_table : p.number ≡ table = number_is p.number table same in
            subst (IsFreeByPart schema w t.number) of_table (p.store.world, has.is.0, here (ap (names_table tables) of_table ∙ named))
        by_table false apart = (part_of table w, part_is table w, free_beside table apart)

    -- it is done, where nobody else holds anything of the part's table, or it doesn't name that
    done_steps : (names_table tables p.number ≡ true → IsFree schema p.store.world t.number (Whole p.number ∷ []))
        → Step schema w (after_act w t.number o sub c (Ok IsDone))
    done_steps here =
        subst (λ (d : change_type.Change). Step schema w (after_act w t.number o sub d (Ok IsDone))) (sym is)
        (acts t.number o sub (Wipe tables) (Ok IsDone) (done_with w t.number o (Change sub (Wipe tables))) at
        (wipe_lifts schema w t.number o refl sub tables (each_free schema w t.number tables (free_by here))))

    -- it waits, where another holds that
    held_steps : names_table tables p.number ≡ true → (holder : ℕ) → IsHeldBy schema p.store.world t.number (Whole p.number ∷ []) holder
        → Step schema w (after_act w t.number o sub c (Ok (Held holder)))
    held_steps named holder held =
        subst (λ (d : change_type.Change). Step schema w (after_act w t.number o sub d (Ok (Held holder)))) (sym is)
        (acts t.number o sub (Wipe tables) (Ok (Held holder)) (wanting w t.number o sub (Wipe tables)) at
        (wait_lifts schema w t.number o refl sub tables p.number p.store.world has.is.0 named holder held))

    -- the part has of the transaction what was told to its table
    open_here : HasOpen p.number p.store.world t.number o
    open_here = record {
      own = kept.own;
      starts = (own_table shares schema start p kept).line.start;
      told = has.is.1 t.number ∙ ap (λ (open_one : Option Opened). items_at p.number t.number (survivors_if t.number open_one)) at;
      wants = has.is.0.wanted t.number ∙ ap (λ (open_one : Option Opened). changes_at p.number (wanted_if open_one)) at;
    }

    -- it waits, where another is in the way in another table
    held_leads : (q : Part) → q.number ≡ p.number → (holder : ℕ)
        → ((v : World) → HasTable v p → HasTicket v t → HasTable (after_act v t.number o sub c (Ok (Held holder))) q)
        → (table : ℕ) → (table == p.number) ≡ false → names_table tables table ≡ true → PartStep schema p.number p.store.world q.store.world
    held_leads q number holder did table apart named =
        waiting_leads schema p.number p.store.world q.store.world t.number o open_here sub tables table apart named (λ v part line open_so.
        let then = subst (λ (d : change_type.Change). HasTable (wanting v t.number o sub d) q) is (did v (record { is = part; line = line }) open_so) in (
          subst (λ (n : ℕ). HasPart n (wanting v t.number o sub (Wipe tables)) q.store.world) number then.is,
          subst (λ (n : ℕ). HasLine n (wanting v t.number o sub (Wipe tables)) q.store.world) number then.line,
        ))

-- ---- a part that is led on in some world

module _ (shares : ℕ → Name) (tables : Name) (schema : Schema) (start : Rows) (p : Part) (kept : IsKept shares schema start p) (q : Part)
    (same : IsSameAs p q) (w next : World) (has : HasTable w p) (keeps : KeepsLine w next) (then : HasTable next q) where
  is_then : HasPart p.number next q.store.world
  is_then = subst (λ (n : ℕ). HasPart n next q.store.world) same.number then.is

  line_then : HasLine p.number next q.store.world
  line_then = subst (λ (n : ℕ). HasLine n next q.store.world) same.number then.line

  kept_led : PartStep schema p.number p.store.world q.store.world → IsKept shares schema start q
  kept_led step = record {
    tickets = same.store.tickets ∙ kept.tickets ∙ ap shares (sym same.number);
    schema_is = same.store.schema ∙ kept.schema_is;
    start_is =
        line_then.start ∙ ap (rows_at p.number) keeps.start ∙ sym has.line.start ∙ kept.start_is
        ∙ ap (λ (n : ℕ). rows_at n start) (sym same.number);
    own = subst (λ (n : ℕ). HasPart n q.store.world q.store.world) (sym same.number) (own_part p.number next q.store.world is_then);
    reached =
        subst (λ (n : ℕ). ∥ PartReaches schema n (starting (rows_at n start)) q.store.world ∥₁) (sym same.number)
        (∥∥₁_map kept.reached (λ (led : PartReaches schema p.number (starting (rows_at p.number start)) p.store.world).
        by_step p.store.world q.store.world led step));
  }

  stays_led : PartStep schema p.number p.store.world q.store.world → StaysFit shares tables schema start p q
  stays_led step = record {
    number = same.number;
    kept = kept_led step;
    listed = λ commits listed. record {
      name = listed.name;
      number = listed.number ∙ sym same.number;
      list =
          listed.list ∙ has.line.line ∙ ap (line_at p.number) (sym keeps.line) ∙ sym line_then.line
          ∙ ap (λ (n : ℕ). line_at n q.store.world.line) (sym same.number);
    };
    end = same.ends;
  }

-- ---- a part behind it, whatever it answers

same_part : (p q : Part) → IsSameAs p q → IsSamePart p q
same_part p q same = record { number = same.number; store = same.store }

module _ (shares : ℕ → Name) (tables : Name) (schema : Schema) (start : Rows) (t : OpenTicket) (sub : ℕ) (c : change_type.Change) (named : List ℕ)
    (parts : List Part) (here : CutsHere c named parts) (p : Part) (kept : IsKept shares schema start p)
    (has : HasTable (witness p t.number (opened_by t.events)) p) (alike : (i : ℕ) (r : Part) → slice_get parts i ≡ Some r → r.number ≡ p.number → r ≡ p)
    (q : Part) (same : IsSameAs p q) where
  abbrev its_world : World
  its_world = witness p t.number (opened_by t.events)

  abbrev after : Result Acted Fault → World → World
  after answer v = after_act v t.number (opened_by t.events) sub c answer

  -- a step of its own world leads it on
  fits_by : (answer : Result Acted Fault) → ((v : World) → HasTable v p → HasTicket v t → HasTable (after answer v) q)
      → Step schema its_world (after answer its_world) → StaysFit shares tables schema start p q
  fits_by answer did step =
      stays_fit shares tables schema start p kept q (same_part p q same) its_world (after answer its_world) has step
      (did its_world has (witness_ticket shares schema start p kept t)) (act_line its_world t.number (opened_by t.events) sub c answer).line same.ends

  -- it waits: another holds the table of this part, or of another one
  fits_held : (holder : ℕ) → ((v : World) → HasTable v p → HasTicket v t → HasTable (after (Ok (Held holder)) v) q) → (i : ℕ) (r : Part)
      → slice_get parts i ≡ Some r → IsHeldBy r.store.schema r.store.world t.number (Whole r.number ∷ []) holder → StaysFit shares tables schema start p q
  fits_held holder did i r there held = dite (ℕ_discrete r.number p.number)
      (λ its.
      let is_it : r ≡ p = alike i r there its in
      fits_by (Ok (Held holder)) did
      (held_steps shares schema start p kept t has sub c named here.is (subst (λ (n : ℕ). names_table named n ≡ true) its (here.each i r there)) holder
      (subst (λ (s : Schema). IsHeldBy s p.store.world t.number (Whole p.number ∷ []) holder) kept.schema_is
      (subst (λ (x : Part). IsHeldBy x.store.schema x.store.world t.number (Whole x.number ∷ []) holder) is_it held))))
      (λ apart.
      stays_led shares tables schema start p kept q same its_world (after (Ok (Held holder)) its_world) has
      (act_line its_world t.number (opened_by t.events) sub c (Ok (Held holder))) (did its_world has (witness_ticket shares schema start p kept t))
      (held_leads shares schema start p kept t has sub c named here.is q same.number holder did r.number (ne_eqb r.number p.number apart)
      (here.each i r there)))

  one_fits : (answer : Result Verdict EngineFault) → TellsTruncate parts t.number answer
      → (answer ≡ Ok (ActedVerdict WasDone) → names_table named p.number ≡ true → IsFree p.store.schema p.store.world t.number (Whole p.number ∷ []))
      → IsActed t sub c (as_told answer) p q → StaysFit shares tables schema start p q
  one_fits (Ok (ActedVerdict WasDone)) tells free did =
      fits_by (Ok IsDone) did
      (done_steps shares schema start p kept t has sub c named here.is (λ its.
      subst (λ (s : Schema). IsFree s p.store.world t.number (Whole p.number ∷ [])) kept.schema_is (free refl its)))
  one_fits (Ok (ActedVerdict (WasHeld holder))) tells free did = fits_held holder did tells.0 tells.1 tells.2 tells.3
  one_fits (Ok (ActedVerdict WasSkipped)) tells free did = absurd tells
  one_fits (Ok (Clashes clash)) tells free did = absurd tells
  one_fits (Err fault) tells free did = fits_by (as_told (Err fault)) did (tells_stop None refl)

-- ---- all parts behind it

module _ (lent new : List Part) where
  pub same_each : ((i : ℕ) (p : Part) → slice_get lent i ≡ Some p → IsSomeAnd (slice_get new i) (IsSamePart p))
      → ((i : ℕ) (p : Part) → slice_get lent i ≡ Some p → IsSomeAnd (slice_get new i) (λ q. last_commit_end q ≡ last_commit_end p))
      → (i : ℕ) (p : Part) → slice_get lent i ≡ Some p → IsSomeAnd (slice_get new i) (IsSameAs p)
  same_each same ends i p there =
      both_there (slice_get new i) (IsSamePart p) (λ q. last_commit_end q ≡ last_commit_end p) (IsSameAs p) (same i p there) (ends i p there)
      (λ q its end. record { number = its.number; store = its.store; ends = end })

  pub acted_each : (t : OpenTicket) (sub : ℕ) (c : change_type.Change) (answer : Result Acted Fault)
      → ((i : ℕ) (p : Part) → slice_get lent i ≡ Some p → IsSomeAnd (slice_get new i) (IsSameAs p))
      → ((w : World) → HasTicket w t → (i : ℕ) (p : Part) → slice_get lent i ≡ Some p → HasTable w p
      → IsSomeAnd (slice_get new i) (HasTable (after_act w t.number (opened_by t.events) sub c answer)))
      → (i : ℕ) (p : Part) → slice_get lent i ≡ Some p → IsSomeAnd (slice_get new i) (IsActed t sub c answer p)
  acted_each t sub c answer same did i p there =
      let found = holds_there (slice_get new i) (IsSameAs p) (same i p there) in
      subst (λ (q : Option Part). IsSomeAnd q (IsActed t sub c answer p)) (sym found.1) (λ w has its_ticket.
      is_there (slice_get new i) (HasTable (after_act w t.number (opened_by t.events) sub c answer)) (did w its_ticket i p there has) found.0 found.1)

-- Parts that were lent to it, in which its transaction has shares, and what became of them and of the ticket.
pub record ActedIn (shares : ℕ → Name) (schema : Schema) (start : Rows) (t : OpenTicket) (sub : ℕ) (c : change_type.Change)
    (answer : Result Acted Fault) (u : OpenTicket) (lent new : List Part) : Type 0 where
  pub kept : KeptEach shares schema start lent
  pub alone : CoversAlone lent t.shares
  pub stood : (i : ℕ) (p : Part) → slice_get lent i ≡ Some p → Stands p t.shares
  pub same : (i : ℕ) (p : Part) → slice_get lent i ≡ Some p → IsSomeAnd (slice_get new i) (IsSameAs p)
  pub acted : (i : ℕ) (p : Part) → slice_get lent i ≡ Some p → IsSomeAnd (slice_get new i) (IsActed t sub c answer p)
  pub stand : (i : ℕ) (p : Part) → slice_get lent i ≡ Some p → IsSomeAnd (slice_get new i) (λ q. Stands q u.shares)

one_each : (parts : List Part) → AreApart parts → (i j : ℕ) (p r : Part) → slice_get parts i ≡ Some p → slice_get parts j ≡ Some r
    → r.number ≡ p.number → r ≡ p
one_each parts apart i j p r there found number = dite (ℕ_discrete j i)
    (λ is. same_Some r p (sym found ∙ ap (slice_get parts) is ∙ there))
    (λ differs.
    elim (apart_cases j i differs) [
      | inl before ↦ absurd (apart j i r p before found there number)
      | inr behind ↦ absurd (apart i j p r behind there found (sym number))
    ])

module _ (shares : ℕ → Name) (tables : Name) (schema : Schema) (start : Rows) (waits : Waits) (t : OpenTicket) (is : IsTicket shares schema waits t)
    (sub : ℕ) (c : change_type.Change) (named : List ℕ) (parts : List Part) (here : CutsHere c named parts) (answer : Result Verdict EngineFault)
    (u : OpenTicket) where
  abbrev Lent : List Part → List Part → Type 0
  Lent lent new = ActedIn shares schema start t sub c (as_told answer) u lent new

  module _ (tells : TellsTruncate parts t.number answer) where
    each_fits : (lent new : List Part) → Lent lent new → (i : ℕ) (p : Part) → slice_get lent i ≡ Some p
        → ((j : ℕ) (r : Part) → slice_get parts j ≡ Some r → r.number ≡ p.number → r ≡ p)
        → (answer ≡ Ok (ActedVerdict WasDone) → names_table named p.number ≡ true → IsFree p.store.schema p.store.world t.number (Whole p.number ∷ []))
        → IsSomeAnd (slice_get new i) (StaysFit shares tables schema start p)
    each_fits lent new did i p there alike free =
        let k = did.kept i p there in
        both_there (slice_get new i) (IsSameAs p) (IsActed t sub c (as_told answer) p) (StaysFit shares tables schema start p) (did.same i p there)
        (did.acted i p there) (λ q same acted.
        one_fits shares tables schema start t sub c named parts here p k
        (has_witness shares schema start waits t is p k (did.alone i p there) (did.stood i p there)) alike q same answer tells free acted)

    -- a part of one of its tables
    pub truncated_fits : AreApart parts
        → (answer ≡ Ok (ActedVerdict WasDone) → (i : ℕ) (p : Part) → slice_get parts i ≡ Some p
        → IsFree p.store.schema p.store.world t.number (Whole p.number ∷ []))
        → (new : List Part) → Lent parts new → (i : ℕ) (p : Part) → slice_get parts i ≡ Some p
        → IsSomeAnd (slice_get new i) (StaysFit shares tables schema start p)
    truncated_fits apart free new did i p there =
        each_fits parts new did i p there (λ j r found number. one_each parts apart i j p r there found number) (λ done its. free done i p there)

    -- one of another, in which its transaction waited
    pub beside_fits : (others new : List Part) → ((i : ℕ) (p : Part) → slice_get parts i ≡ Some p → IsBeside others p.number) → Lent others new
        → (i : ℕ) (p : Part) → slice_get others i ≡ Some p → IsSomeAnd (slice_get new i) (StaysFit shares tables schema start p)
    beside_fits others new other did i p there =
        each_fits others new did i p there (λ j r found number. absurd (other j r found i p there (sym number)))
        (λ done its. let found = here.all p.number its in absurd (other found.0 found.1 found.2 i p there (sym found.3)))

  -- ---- the ticket

  abbrev behind : World → World
  behind w = after_act w t.number (opened_by t.events) sub c (as_told answer)

  module _ (number : u.number ≡ t.number) (keeps : KeepsShares t.shares u.shares) (events : u.events ≡ t.events ++ events_of sub c (as_told answer))
      (its_ticket : (w : World) → HasTicket w t → HasTicket (behind w) u) where
    tied_lent : (lent new : List Part) → Lent lent new → (i : ℕ) (p : Part) → slice_get lent i ≡ Some p → (table : ℕ) → p.number ≡ table → (share : Share)
        → share_of u.shares table ≡ Some share → IsTied (shares table) u.number (opened_by u.events) table share
    tied_lent lent new did i p there table of_table share at =
        let k = did.kept i p there in
        let w : World = witness p t.number (opened_by t.events) in
        let its : HasTicket w t = witness_ticket shares schema start p k t in
        let has : HasTable w p = has_witness shares schema start waits t is p k (did.alone i p there) (did.stood i p there) in
        let found =
        holds_there (slice_get new i) (λ q. (q.number ≡ p.number) × HasTable (behind w) q × Stands q u.shares)
        (both_there (slice_get new i) (IsSameAs p) (λ q. HasTable (behind w) q × Stands q u.shares)
        (λ q. (q.number ≡ p.number) × HasTable (behind w) q × Stands q u.shares) (did.same i p there)
        (both_there (slice_get new i) (IsActed t sub c (as_told answer) p) (λ q. Stands q u.shares) (λ q. HasTable (behind w) q × Stands q u.shares)
        (did.acted i p there) (did.stand i p there) (λ q acted stands. (acted w has its, stands)))
        (λ q same both. (same.number, both.0, both.1))) in
        tied_in shares schema waits t u is number keeps table share at found.0 (found.2.0 ∙ of_table) found.2.2 (behind w) found.2.1 (its_ticket w its)

    module _ (new others new_others : List Part) (did : Lent parts new) (did_others : Lent others new_others)
        (left : (table : ℕ) → IsBeside parts table → IsBeside others table → share_of u.shares table ≡ share_of t.shares table)
        (elsewhere : (table : ℕ) → IsBeside parts table → IsBeside others table → changes_at table (wanted_by (opened_by t.events).wants) ≡ []) where
      -- it did nothing of a table beside the parts, and waited there for nothing
      tied_elsewhere : (table : ℕ) → IsBeside parts table → IsBeside others table → (share : Share) → share_of u.shares table ≡ Some share
          → IsTied (shares table) u.number (opened_by u.events) table share
      tied_elsewhere table beside apart share at =
          subst (λ (n : ℕ). IsTied (shares table) n (opened_by u.events) table share) (sym number)
          (subst (λ es. IsTied (shares table) t.number (opened_by es) table share) (sym events)
          (tied_beside (shares table) t.number t.events table share (is.tied table share (sym (left table beside apart) ∙ at)) (elsewhere table beside apart) sub c
          (cut_beside c named parts here table beside) (as_told answer)))

      tied_each : (table : ℕ) (share : Share) → share_of u.shares table ≡ Some share → IsTied (shares table) u.number (opened_by u.events) table share
      tied_each table share at =
          elim (table_among parts table) [
            | inl found ↦ tied_lent parts new did found.0 found.1 found.2 table found.3 share at
            | inr beside ↦
                elim (table_among others table) [
                  | inl found ↦ tied_lent others new_others did_others found.0 found.1 found.2 table found.3 share at
                  | inr apart ↦ tied_elsewhere table beside apart share at
                ]
          ]

      pub truncated_is : (now : Waits) → WaitsSo now (opened_by u.events).wants → IsTicket shares schema now u
      truncated_is now so = record { tied = tied_each; known = known_still shares schema waits t u is number keeps; waits_so = so }
