-- What follows of what came of a truncate in all parts.
--     same_again      a share that is still one, twice over
--     shares_left      other shares are what they were
--     table_among      a part of a table is among them, or none is
--     share_cut, shares_kept      each share is still one of its part and number
--     long_truncated      as many parts are there
--     free_truncated      where it is done nobody else has anything in a part
--     tells_truncated      how it may be answered
--     part_cut, acts_cut      each part in the world behind it, and the step of the world
--     share_needed      the ticket has the shares that it needs
use Rattle.std.specs.Prelude.{◌≡◌, ◌≢◌, ◌⊎◌, ℕ, zero, suc, Bool, true, false, List, [], ◌∷◌, ◌++◌, Option, Some, None, IsSomeAnd, is_some, length, slice_get, Result, Ok, Err, refl}
use Rattle.std.proofs.Common.{sym, ◌∙◌, ap, subst, inl, inr}
use Rattle.std.proofs.lemmas.Bool.{false≢true}
use Rattle.std.proofs.lemmas.Option.{same_Some}
use Rattle.world.specs.ListingLemmas.{xid_cases}
use Rattle.model.specs.declared.change.Change as change_type
use Rattle.model.specs.declared.cell.Cell.TheVariants.{Whole}
use Rattle.model.specs.Rows.{Schema}
use Rattle.model.specs.Survivors.{survivors}
use Rattle.world.specs.World.{Opened, World, IsFree, IsHeldBy}
use Rattle.live_tables.specs.declared.answers.Acted.TheVariants.{Done, Skipped, Held}
use Rattle.live_tables.specs.declared.answers.EngineFault.{EngineFault}
use Rattle.live_tables.specs.declared.answers.Verdict.{Verdict}
use Rattle.live_tables.specs.declared.answers.Verdict.TheVariants.{Acted as ActedVerdict, Clashes}
use Rattle.live_tables.specs.Answers.{told, after_act}
use Rattle.live_tables.specs.Tried.{Tries, after_try}
use Rattle.parted_store.specs.Acting.{running, as_told}
use Rattle.engine.specs.declared.events.Event.{Event}
use Rattle.engine.specs.Events.{opened_by, events_of}
use Rattle.world_parts.specs.ByTable.{change_at}
use Rattle.world_parts.specs.Marks.{mark_for}
use Rattle.table_parts.specs.Part.{Part}
use Rattle.parted_store.specs.ActLemmas.{none_acted, table_running}
use Rattle.parted_store.specs.Back.{IsSameShare, KeepsShares}
use Rattle.parted_store.specs.CutLemmas.{kept_part, waiting_part, left_part, free_there, held_there, cut_here, cut_done, cut_held}
use Rattle.parted_store.specs.EachPart.{IsBeside}
use Rattle.parted_store.specs.EachPartLemmas.{some_then}
use Rattle.parted_store.specs.Lent.{OpenTicket, HasTable, HasTicket, IsShare, HasShares}
use Rattle.parted_store.specs.Shares.{Share, Shares, share_of}
use Rattle.parted_store.specs.Truncating.{EachIs, Stands, Keeps, Waits, HasTruncated, TellsTruncate, CutsHere, HasEach}

-- ---- shares

same_share : (share : Option Share) → IsSameShare share share
same_share None = refl
same_share (Some share) = (refl, refl)

pub same_again : (share new later : Option Share) → IsSameShare share new → IsSameShare new later → IsSameShare share later
same_again None new later same again = subst (λ (f : Option Share). IsSameShare f later) same again
same_again (Some share) None later same again = absurd same
same_again (Some share) (Some new) None same again = absurd again
same_again (Some share) (Some new) (Some later) same again = (again.0 ∙ same.0, again.1 ∙ same.1)

-- each share is still one of its part and number
share_kept : (mark : ℕ) (j : ℕ) (p : Part) (share : Option Share) (q : Part) (new : Option Share) → Keeps mark j p share q new → IsSameShare share new
share_kept mark j p None q new none = absurd none
share_kept mark j p (Some share) q None none = absurd none
share_kept mark j p (Some share) q (Some new) did = (did.name, did.number)

share_waits : (j : ℕ) (p : Part) (share : Option Share) (q : Part) (new : Option Share) → Waits j p share q new → IsSameShare share new
share_waits j p None q new none = absurd none
share_waits j p (Some share) q None none = absurd none
share_waits j p (Some share) q (Some new) did = (did.0.name, did.0.number)

share_stands : (waits : Bool) (j : ℕ) (p : Part) (share : Option Share) (q : Part) (new : Option Share) → Stands waits j p share q new → IsSameShare share new
share_stands waits j p share q new (inl untouched) = subst (IsSameShare share) (sym untouched.1) (same_share share)
share_stands waits j p None q new (inr none) = absurd none
share_stands waits j p (Some share) q None (inr none) = absurd none
share_stands waits j p (Some share) q (Some new) (inr still) = (still.name, still.number)

-- what is so of none of what is there isn't so of it
some_is : {A : Type 0} (found : Option A) (R : Type 0) → IsSomeAnd found (λ x. R) → R
some_is None R is = absurd is
some_is (Some x) R is = is

-- a part of the table is among them, or none is
pub table_among : (parts : List Part) (table : ℕ) → ((i : ℕ) × (p : Part) × (slice_get parts i ≡ Some p) × (p.number ≡ table)) ⊎ IsBeside parts table
table_among [] table = inr (λ i p there. absurd (false≢true (ap is_some there)))
table_among (first ∷ parts) table =
    elim (xid_cases first.number table) [
      | inl here ↦ inl (zero, first, refl, here)
      | inr apart ↦
          elim (table_among parts table) [
            | inl found ↦ inl (suc found.0, found.1, found.2, found.3)
            | inr beside ↦ inr (none_of apart beside)
          ]
    ]
  where
    none_of : first.number ≢ table → IsBeside parts table → IsBeside (first ∷ parts) table
    none_of apart beside zero p there = λ e. apart (ap (λ (r : Part). r.number) (same_Some first p there) ∙ e)
    none_of apart beside (suc i) p there = beside i p there

module _ (mark : ℕ) (start : List Part) (all : Shares) (parts : List Part) (shares : Shares) where
  -- other shares are what they were
  pub shares_left : (answer : Result Verdict EngineFault) → HasTruncated mark start all answer parts shares → (table : ℕ) → IsBeside start table
      → share_of shares table ≡ share_of all table
  shares_left (Ok (ActedVerdict Done)) came table beside = came.kept table beside
  shares_left (Ok (ActedVerdict (Held holder))) came table beside = came.1.kept table beside
  shares_left (Ok (ActedVerdict Skipped)) came table beside = absurd came
  shares_left (Ok (Clashes clash)) came table beside = absurd came
  shares_left (Err fault) came table beside = came.1.kept table beside

  share_cut : (answer : Result Verdict EngineFault) → HasTruncated mark start all answer parts shares → (i : ℕ) (p : Part) → slice_get start i ≡ Some p
      → IsSameShare (share_of all p.number) (share_of shares p.number)
  share_cut (Ok (ActedVerdict Done)) came i p there =
      some_is (slice_get parts i) (IsSameShare (share_of all p.number) (share_of shares p.number))
      (some_then (slice_get parts i) (came.each i p there) (λ q is. share_kept mark i p (share_of all p.number) q (share_of shares p.number) is))
  share_cut (Ok (ActedVerdict (Held holder))) came i p there =
      some_is (slice_get parts i) (IsSameShare (share_of all p.number) (share_of shares p.number))
      (some_then (slice_get parts i) (came.1.each i p there) (λ q is. share_waits i p (share_of all p.number) q (share_of shares p.number) is))
  share_cut (Ok (ActedVerdict Skipped)) came i p there = absurd came
  share_cut (Ok (Clashes clash)) came i p there = absurd came
  share_cut (Err fault) came i p there =
      some_is (slice_get parts i) (IsSameShare (share_of all p.number) (share_of shares p.number))
      (some_then (slice_get parts i) (came.1.each i p there) (λ q is. share_stands true i p (share_of all p.number) q (share_of shares p.number) is))

  pub shares_kept : (answer : Result Verdict EngineFault) → HasTruncated mark start all answer parts shares → KeepsShares all shares
  shares_kept answer came table =
      elim (table_among start table) [
        | inl found ↦
            subst (λ (n : ℕ). IsSameShare (share_of all n) (share_of shares n)) found.3 (share_cut answer came found.0 found.1 found.2)
        | inr beside ↦ subst (IsSameShare (share_of all table)) (sym (shares_left answer came table beside)) (same_share (share_of all table))
      ]

  pub long_truncated : (answer : Result Verdict EngineFault) → HasTruncated mark start all answer parts shares → length parts ≡ length start
  long_truncated (Ok (ActedVerdict Done)) came = came.long
  long_truncated (Ok (ActedVerdict (Held holder))) came = came.1.long
  long_truncated (Ok (ActedVerdict Skipped)) came = absurd came
  long_truncated (Ok (Clashes clash)) came = absurd came
  long_truncated (Err fault) came = came.1.long

module _ (t : OpenTicket) (its : HasShares t) where
  -- the share of a part is of its ticket's number
  number_there : (table : ℕ) (share : Share) → share_of t.shares table ≡ Some share → share.number ≡ t.number
  number_there table share found = subst (IsShare t.number (opened_by t.events) table) found (its table)

  -- where it is done nobody else has anything in a part
  module _ (mark : ℕ) (start parts : List Part) (shares : Shares) where
    free_by : (i : ℕ) (p : Part) (share : Option Share) → share_of t.shares p.number ≡ share → (q : Part) (new : Option Share) → Keeps mark i p share q new
        → IsFree p.store.schema p.store.world t.number (Whole p.number ∷ [])
    free_by i p None found q new none = absurd none
    free_by i p (Some share) found q None none = absurd none
    free_by i p (Some share) found q (Some new) did =
        subst (λ (n : ℕ). IsFree p.store.schema p.store.world n (Whole p.number ∷ [])) (number_there p.number share found) (free_there p share mark q new did)

    free_each : EachIs (Keeps mark) start t.shares parts shares → (i : ℕ) (p : Part) → slice_get start i ≡ Some p → IsFree p.store.schema p.store.world t.number (Whole p.number ∷ [])
    free_each came i p there =
        some_is (slice_get parts i) (IsFree p.store.schema p.store.world t.number (Whole p.number ∷ []))
        (some_then (slice_get parts i) (came.each i p there) (λ q did. free_by i p (share_of t.shares p.number) refl q (share_of shares p.number) did))

    pub free_truncated : (answer : Result Verdict EngineFault) → HasTruncated mark start t.shares answer parts shares → answer ≡ Ok (ActedVerdict Done)
        → (i : ℕ) (p : Part) → slice_get start i ≡ Some p → IsFree p.store.schema p.store.world t.number (Whole p.number ∷ [])
    free_truncated answer came done =
        free_each (subst (λ (a : Result Verdict EngineFault). HasTruncated mark start t.shares a parts shares) done came)

    -- and held where another holds the table of one
    pub tells_truncated : (answer : Result Verdict EngineFault) → HasTruncated mark start t.shares answer parts shares → TellsTruncate start t.number answer
    tells_truncated (Ok (ActedVerdict Done)) came = tt
    tells_truncated (Ok (ActedVerdict (Held holder))) came =
        let one = came.0 in (
          one.0,
          one.1,
          one.3,
          subst (λ (n : ℕ). IsHeldBy one.1.store.schema one.1.store.world n (Whole one.1.number ∷ []) holder) (number_there one.1.number one.2 one.4)
              (held_there one.1 one.2 holder one.6),
        )
    tells_truncated (Ok (ActedVerdict Skipped)) came = absurd came
    tells_truncated (Ok (Clashes clash)) came = absurd came
    tells_truncated (Err fault) came = came.0

-- ---- in a world that has the parts

module _ (t : OpenTicket) (its : HasShares t) (sub : ℕ) (c : change_type.Change) (tables : List ℕ) (start : List Part) (here : CutsHere c tables start)
    (w : World) (at : HasTicket w t) (mark : ℕ) (parts : List Part) (shares : Shares) where
  abbrev o : Opened
  o = opened_by t.events

  module _ (i : ℕ) (p : Part) (there : slice_get start i ≡ Some p) (has : HasTable w p) where
    kept_there : mark ≡ mark_for t.number sub (survivors t.number o.items) → (share : Option Share) → share_of t.shares p.number ≡ share → (q : Part) (new : Option Share)
        → Keeps mark i p share q new → HasTable (after_act w t.number o sub c (told (Ok Done))) q
    kept_there is None found q new none = absurd none
    kept_there is (Some share) found q None none = absurd none
    kept_there is (Some share) found q (Some new) did =
        kept_part t sub c p (cut_here c tables start here i p there) w has at share (number_there t its p.number share found) mark is q new did

    waiting_there : (holder : ℕ) (share : Option Share) → share_of t.shares p.number ≡ share → (q : Part) (new : Option Share)
        → Waits i p share q new → HasTable (after_act w t.number o sub c (told (Ok (Held holder)))) q
    waiting_there holder None found q new none = absurd none
    waiting_there holder (Some share) found q None none = absurd none
    waiting_there holder (Some share) found q (Some new) did =
        waiting_part t sub c p (cut_here c tables start here i p there) w has at share (number_there t its p.number share found) q new false did.0 did.1

    left_there : (share : Option Share) → share_of t.shares p.number ≡ share → (q : Part) (new : Option Share) → Stands true i p share q new → HasTable w q
    left_there share found q new (inl untouched) = subst (HasTable w) (sym untouched.0) has
    left_there None found q new (inr none) = absurd none
    left_there (Some share) found q None (inr none) = absurd none
    left_there (Some share) found q (Some new) (inr still) =
        left_part t sub c p (cut_here c tables start here i p there) w has at share (number_there t its p.number share found) q new true still refl

    -- the part in the world behind it
    pub part_cut : mark ≡ mark_for t.number sub (survivors t.number o.items) → (answer : Result Verdict EngineFault) → HasTruncated mark start t.shares answer parts shares
        → IsSomeAnd (slice_get parts i) (HasTable (after_act w t.number o sub c (as_told answer)))
    part_cut is (Ok (ActedVerdict Done)) came = some_then (slice_get parts i) (came.each i p there) (λ q did. kept_there is (share_of t.shares p.number) refl q (share_of shares p.number) did)
    part_cut is (Ok (ActedVerdict (Held holder))) came =
        some_then (slice_get parts i) (came.1.each i p there) (λ q did. waiting_there holder (share_of t.shares p.number) refl q (share_of shares p.number) did)
    part_cut is (Ok (ActedVerdict Skipped)) came = absurd came
    part_cut is (Ok (Clashes clash)) came = absurd came
    part_cut is (Err fault) came = some_then (slice_get parts i) (came.1.each i p there) (λ q did. left_there (share_of t.shares p.number) refl q (share_of shares p.number) did)

  module _ (schema : Schema) (have : HasEach w schema start) where
    -- the world has each of the parts as though nothing had stopped it
    each_running : HasEach (running w) schema start
    each_running i p there = let one = have i p there in (table_running w p one.0, one.1)

    -- it is the step of that world
    pub acts_cut : (answer : Result Verdict EngineFault) → HasTruncated mark start t.shares answer parts shares
        → Tries schema (running w) t.number o sub c answer (after_try (running w) t.number o sub c answer)
    acts_cut (Ok (ActedVerdict Done)) came = cut_done c tables start here t sub (running w) schema each_running refl (free_each t its mark start parts shares came)
    acts_cut (Ok (ActedVerdict (Held holder))) came =
        let one = came.0 in
        cut_held c tables start here t sub (running w) schema each_running refl one.0 one.1 one.3 holder
        (subst (λ (n : ℕ). IsHeldBy one.1.store.schema one.1.store.world n (Whole one.1.number ∷ []) holder) (number_there t its one.1.number one.2 one.4)
        (held_there one.1 one.2 holder one.6))
    acts_cut (Ok (ActedVerdict Skipped)) came = absurd came
    acts_cut (Ok (Clashes clash)) came = absurd came
    acts_cut (Err fault) came =
        subst (λ (f : EngineFault). Tries schema (running w) t.number o sub c (Err f) (running w)) (sym came.0) (refl, refl)

module _ (xid sub : ℕ) (events : List Event) (c : change_type.Change) (answer : Result Verdict EngineFault) where
  -- the ticket has the share that it needs
  pub share_needed : (table : ℕ) (share new : Option Share) → IsShare xid (opened_by events) table share → IsSameShare share new → (share ≡ None → change_at table c ≡ [])
      → IsShare xid (opened_by (events ++ events_of sub c (as_told answer))) table new
  share_needed table None new none same not =
      subst (IsShare xid (opened_by (events ++ events_of sub c (as_told answer))) table) (sym same) (none_acted xid sub events c table (not refl) none (as_told answer))
  share_needed table (Some share) None number same not = absurd same
  share_needed table (Some share) (Some new) number same not = same.1 ∙ number
