-- Calls of a transaction that is alone: each is a step of a world that is not stopped.
use Rattle.std.proofs.Common.{◌≡◌, ℕ, ◌<◌, ◌==◌, Bool, true, false, if◌then◌else◌, List, [], ◌∷◌, ◌++◌, Some, None, refl, sym, ap, subst, ◌∙◌, append_assoc, append-nil, arith, inl, inr}
use Rattle.std.specs.Prelude.{Ok, ◌⊎◌}
use Rattle.run_laws.proofs.WorldAt.{IsStoppedBy}
use Rattle.std.proofs.lemmas.Grind.{flat_map-append}
use Rattle.std.specs.Ordering.{nat_cmp}
use Rattle.std.specs.FinMap as finite
use Rattle.std.specs.FinMap.{get}
use Rattle.model.specs.declared.change.Change as change_type
use Rattle.model.specs.declared.cell.Cell.{Cell}
use Rattle.model.specs.declared.item.Item.{Item}
use Rattle.model.specs.declared.item.Item.TheVariants.{Change, Touch, BackTo, Last}
use Rattle.model.specs.declared.item.CommitInfo.{CommitInfo}
use Rattle.model.specs.Rows.{Rows, Schema}
use Rattle.model.specs.Effect.{ClashCause, Outcome, Done, Skip, Clashes, outcome, effect, serial}
use Rattle.model.specs.EffectLemmas.{serial_append}
use Rattle.model.specs.Footprint.{footprint}
use Rattle.model.specs.Survivors.{survivors, surviving, after_item, before_savepoint, changes_of}
use Rattle.model.specs.SurvivorLemmas.{work_with_change, work_with_touch, cut_before}
use Rattle.model.specs.Accepted.{HasNoClash, AreAccepted}
use Rattle.world.specs.World.{Opened, Past, World, OpenOnes, ByClash, changes_in, IsFree}
use Rattle.world.specs.Steps.{IsDone, IsSkipped, Step, opens, acts, touches, commits, Reaches, by_step, wanting}
use Rattle.model.specs.Limits.{most_open}
use Rattle.world.specs.ListingLemmas.{xid_cases, got_same, got_other, same_by_xid, removed_again, none_removed}

-- ---- what survives

-- the item is a change, or names a subtransaction
abbrev pub IsPlain : Item → Type 0
IsPlain (Change sub c) = Unit {0}
IsPlain (Touch sub) = Unit {0}
IsPlain (BackTo sub) = ⊥
IsPlain Last = ⊥

-- all of them are so
abbrev pub ArePlain : List Item → Type 0
ArePlain [] = Unit {0}
ArePlain (i ∷ items) = IsPlain i × ArePlain items

plain_with : (items : List Item) (i : Item) → ArePlain items → IsPlain i → ArePlain (items ++ i ∷ [])
plain_with [] i are is = (is, tt)
plain_with (j ∷ items) i are is = (are.0, plain_with items i are.1 is)

pub plain_front : (items rest : List Item) → ArePlain (items ++ rest) → ArePlain items
plain_front [] rest are = tt
plain_front (i ∷ items) rest are = (are.0, plain_front items rest are.1)

plain_after : (top : ℕ) (kept : List Item) (i : Item) → ArePlain kept → ArePlain (after_item top kept i)
plain_after top kept (Change sub c) are = plain_with kept (Change sub c) are tt
plain_after top kept (Touch sub) are = plain_with kept (Touch sub) are tt
plain_after top kept (BackTo sub) are = by_top (sub == top)
  where
    by_top : (b : Bool) → ArePlain (if b then kept else before_savepoint sub kept)
    by_top true = are
    by_top false = let cut = cut_before sub kept in plain_front (before_savepoint sub kept) cut.0 (subst ArePlain cut.1.both are)
plain_after top kept Last are = are

plain_surviving : (top : ℕ) (kept items : List Item) → ArePlain kept → ArePlain (surviving top kept items)
plain_surviving top kept [] are = are
plain_surviving top kept (i ∷ items) are = plain_surviving top (after_item top kept i) items (plain_after top kept i are)

-- what survives is so
pub plain_survivors : (top : ℕ) (items : List Item) → ArePlain (survivors top items)
plain_survivors top items = plain_surviving top [] items tt

pub all_survive : (top : ℕ) (kept items : List Item) → ArePlain items → surviving top kept items ≡ kept ++ items
all_survive top kept [] are = sym (append-nil kept)
all_survive top kept (Change sub c ∷ items) are =
    all_survive top (kept ++ Change sub c ∷ []) items are.1 ∙ append_assoc kept (Change sub c ∷ []) items
all_survive top kept (Touch sub ∷ items) are =
    all_survive top (kept ++ Touch sub ∷ []) items are.1 ∙ append_assoc kept (Touch sub ∷ []) items
all_survive top kept (BackTo sub ∷ items) are = absurd are.0
all_survive top kept (Last ∷ items) are = absurd are.0

-- and all of it survives
pub survive_again : (top : ℕ) (items : List Item) → survivors top (survivors top items) ≡ survivors top items
survive_again top items = all_survive top [] (survivors top items) (plain_survivors top items)

-- ---- lists without a clash

pub clear_front : (schema : Schema) (rows : Rows) (cs ds : List change_type.Change)
    → AreAccepted schema rows (cs ++ ds)
    → AreAccepted schema rows cs
clear_front schema rows [] ds clear = tt
clear_front schema rows (c ∷ cs) ds clear = (clear.0, clear_front schema (effect schema rows c) cs ds clear.1)

pub clear_rest : (schema : Schema) (rows : Rows) (cs ds : List change_type.Change)
    → AreAccepted schema rows (cs ++ ds)
    → AreAccepted schema (serial schema rows cs) ds
clear_rest schema rows [] ds clear = clear
clear_rest schema rows (c ∷ cs) ds clear = clear_rest schema (effect schema rows c) cs ds clear.1

-- the first of these that clashes does so for this cause
abbrev pub ClashesFirst : Schema → Rows → List change_type.Change → ClashCause → Type 0
ClashesFirst schema rows [] cause = ⊥
ClashesFirst schema rows (c ∷ cs) cause =
    (outcome schema rows c ≡ Clashes cause) ⊎ (HasNoClash schema rows c × ClashesFirst schema (effect schema rows c) cs cause)

pub first_of_split : (schema : Schema) (rows : Rows) (before : List change_type.Change) (c : change_type.Change)
    (after : List change_type.Change) (cause : ClashCause) → AreAccepted schema rows before
    → outcome schema (serial schema rows before) c ≡ Clashes cause → ClashesFirst schema rows (before ++ c ∷ after) cause
first_of_split schema rows [] c after cause clear e = inl e
first_of_split schema rows (b ∷ before) c after cause clear e =
    inr (clear.0, first_of_split schema (effect schema rows b) before c after cause clear.1 e)

-- behind what is clear
pub first_behind : (schema : Schema) (rows : Rows) (cs ds : List change_type.Change) (cause : ClashCause)
    → AreAccepted schema rows cs → ClashesFirst schema rows (cs ++ ds) cause → ClashesFirst schema (serial schema rows cs) ds cause
first_behind schema rows [] ds cause clear clash = clash
first_behind schema rows (c ∷ cs) ds cause clear clash =
    elim clash [
      | inl here ↦ absurd (clear.0 cause here)
      | inr later ↦ first_behind schema (effect schema rows c) cs ds cause clear.1 later.1
    ]

-- what is clear has none
pub first_in_clear : (schema : Schema) (rows : Rows) (cs : List change_type.Change) (cause : ClashCause)
    → AreAccepted schema rows cs → ClashesFirst schema rows cs cause → ⊥
first_in_clear schema rows [] cause clear clash = clash
first_in_clear schema rows (c ∷ cs) cause clear clash =
    elim clash [
      | inl here ↦ absurd (clear.0 cause here)
      | inr later ↦ first_in_clear schema (effect schema rows c) cs cause clear.1 later.1
    ]

-- ---- one open transaction

-- none is open
abbrev pub none : OpenOnes
none = finite.empty

-- it alone is open
abbrev pub one : ℕ → List Item → OpenOnes
one xid items = finite.insert finite.empty xid (record { items = items; wants = None })

put_again : (m : OpenOnes) (xid : ℕ) (o p : Opened)
    → finite.insert (finite.insert m xid o) xid p ≡ finite.insert m xid p
put_again m xid o p = same_by_xid (finite.insert (finite.insert m xid o) xid p) (finite.insert m xid p) (λ other.
    elim (xid_cases other xid) [
      | inl at ↦ ap (get (finite.insert (finite.insert m xid o) xid p)) at ∙ got_same (finite.insert m xid o) xid p ∙ sym (ap (get (finite.insert m xid p)) at ∙ got_same m xid p)
      | inr apart ↦ got_other (finite.insert m xid o) xid p other apart ∙ got_other m xid o other apart ∙ sym (got_other m xid p other apart)
    ])

none_then : (xid : ℕ) (o : Opened) → none ≡ finite.remove (finite.insert none xid o) xid
none_then xid o = sym (removed_again finite.empty xid o ∙ none_removed finite.empty xid (finite.get-empty nat_cmp xid))

none_is : (p : Opened) → None ≡ Some p → ⊥
none_is p e = cc

module _ (schema : Schema) (rows : Rows) where
  -- a world that is not stopped
  abbrev pub running : Rows → List Past → OpenOnes → World
  running committed line opened = record { start = rows; committed = committed; line = line; opened = opened; stopped = None }

  -- the world after these commits, with these transactions open
  abbrev pub at : List Past → OpenOnes → World
  at line opened = running (serial schema rows (changes_in line)) line opened

  -- the rows as the transaction sees them
  abbrev pub seen : List Past → ℕ → List Item → Rows
  seen line xid items = serial schema (serial schema rows (changes_in line)) (changes_of (survivors xid items))

  pub step_opens : (line : List Past) (xid : ℕ) → Step schema (at line finite.empty) (at line (one xid []))
  step_opens line xid = opens xid (Ok tt) (at line (one xid [])) (refl, finite.get-empty nat_cmp xid, few, refl)
    where
      few : finite.len (finite.empty {X = Opened} {R = nat_cmp}) < most_open
      few = rw (finite.len-empty nat_cmp Opened) (omega arith)

  free_alone : (line : List Past) (xid : ℕ) (o : Opened) (cells : List Cell)
      → IsFree schema (at line (finite.insert finite.empty xid o)) xid cells
  free_alone line xid o cells other p differs there =
      absurd (none_is p (sym (finite.get-empty nat_cmp other) ∙ sym (got_other finite.empty xid o other differs) ∙ there))

  step_touches : (line : List Past) (xid : ℕ) (items : List Item) (sub : ℕ)
      → Step schema (at line (one xid items)) (at line (one xid (items ++ Touch sub ∷ [])))
  step_touches line xid items sub =
      touches xid (record { items = items; wants = None }) sub (Ok tt) (at line (one xid (items ++ Touch sub ∷ [])))
      (got_same finite.empty xid (record { items = items; wants = None }))
      (refl, ap (at line) (sym (put_again finite.empty xid (record { items = items; wants = None }) (record { items = items ++ Touch sub ∷ []; wants = None }))))

  pub step_acts : (line : List Past) (xid : ℕ) (items : List Item) (sub : ℕ) (c : change_type.Change)
      → HasNoClash schema (seen line xid items) c
      → Step schema (at line (one xid items)) (at line (one xid (items ++ Change sub c ∷ [])))
  step_acts line xid items sub c well = by_outcome (outcome schema (seen line xid items) c) refl
    where
      by_outcome : (what : Outcome) → outcome schema (seen line xid items) c ≡ what
          → Step schema (at line (one xid items)) (at line (one xid (items ++ Change sub c ∷ [])))
      by_outcome (Done edits) e =
          acts xid (record { items = items; wants = None }) sub c (Ok IsDone) (at line (one xid (items ++ Change sub c ∷ [])))
          (got_same finite.empty xid (record { items = items; wants = None })) (
            refl,
            free_alone line xid (record { items = items; wants = None }) (footprint schema (seen line xid items) c),
            (edits, e),
            ap (at line) (sym (put_again finite.empty xid (record { items = items; wants = None }) (record { items = items ++ Change sub c ∷ []; wants = None }))),
          )
      by_outcome Skip e =
          acts xid (record { items = items; wants = None }) sub c (Ok IsSkipped) (at line (one xid (items ++ Change sub c ∷ [])))
          (got_same finite.empty xid (record { items = items; wants = None })) (
            refl,
            free_alone line xid (record { items = items; wants = None }) (footprint schema (seen line xid items) c),
            e,
            ap (at line) (sym (put_again finite.empty xid (record { items = items; wants = None }) (record { items = items ++ Change sub c ∷ []; wants = None }))),
          )
      by_outcome (Clashes cause) e = absurd (well cause e)

  -- a change that clashes stops the world
  pub stops : (line : List Past) (xid : ℕ) (items : List Item) (sub : ℕ) (c : change_type.Change) (after work : List Item) (cause : ClashCause)
      → items ++ Change sub c ∷ after ≡ work → outcome schema (seen line xid items) c ≡ Clashes cause
      → IsStoppedBy schema (at line (one xid items)) xid work cause
  stops line xid items sub c after work cause turn e = record {
    transaction = record { items = items; wants = None };
    present = got_same none xid (record { items = items; wants = None });
    subtransaction = sub;
    change = c;
    after = after;
    in_turn = turn;
    so = (
      record (wanting (at line (one xid items)) xid (record { items = items; wants = None }) sub c) { stopped = Some (ByClash xid c cause) },
      (refl, free_alone line xid (record { items = items; wants = None }) (footprint schema (seen line xid items) c), e, refl),
    );
  }

  -- the commits with one more
  abbrev pub with_commit : List Past → ℕ → List Item → CommitInfo → List Past
  with_commit line xid items info = line ++ (record { xid = xid; items = items; info = info }) ∷ []

  pub changes_with : (line : List Past) (xid : ℕ) (items : List Item) (info : CommitInfo)
      → changes_in (with_commit line xid items info) ≡ changes_in line ++ changes_of (survivors xid items)
  changes_with line xid items info =
      flat_map-append (λ (p : Past). changes_of (survivors p.xid p.items)) line ((record { xid = xid; items = items; info = info }) ∷ [])
      ∙ ap (λ cs. changes_in line ++ cs) (append-nil (changes_of (survivors xid items)))

  rows_with : (line : List Past) (xid : ℕ) (items : List Item) (info : CommitInfo)
      → serial schema rows (changes_in (with_commit line xid items info)) ≡ seen line xid items
  rows_with line xid items info =
      ap (serial schema rows) (changes_with line xid items info)
      ∙ serial_append schema rows (changes_in line) (changes_of (survivors xid items))

  pub step_commits : (line : List Past) (xid : ℕ) (items : List Item) (info : CommitInfo)
      → Step schema (at line (one xid items)) (at (with_commit line xid items info) finite.empty)
  step_commits line xid items info =
      commits xid (record { items = items; wants = None }) info (at (with_commit line xid items info) finite.empty)
      (got_same finite.empty xid (record { items = items; wants = None }))
      (ap (λ r. running r (with_commit line xid items info) none) (rows_with line xid items info)
      ∙ ap (running (seen line xid items) (with_commit line xid items info)) (none_then xid (record { items = items; wants = None })))

  -- ---- items in turn

  seen_with : (line : List Past) (xid : ℕ) (items : List Item) (sub : ℕ) (c : change_type.Change)
      → seen line xid (items ++ Change sub c ∷ []) ≡ effect schema (seen line xid items) c
  seen_with line xid items sub c =
      ap (serial schema (serial schema rows (changes_in line))) (work_with_change xid sub items c)
      ∙ serial_append schema (serial schema rows (changes_in line)) (changes_of (survivors xid items)) (c ∷ [])

  module _ (from : World) (line : List Past) (xid : ℕ) where
    -- a transaction that is alone does items of which none clashes
    pub does_all : (done items : List Item) → ArePlain items
        → AreAccepted schema (seen line xid done) (changes_of items)
        → Reaches schema from (at line (one xid done))
        → Reaches schema from (at line (one xid (done ++ items)))
    does_all done [] are clear reached =
        subst (λ is. Reaches schema from (at line (one xid is))) (sym (append-nil done)) reached
    does_all done (Change sub c ∷ items) are clear reached =
        subst (λ is. Reaches schema from (at line (one xid is))) (append_assoc done (Change sub c ∷ []) items)
        (does_all (done ++ Change sub c ∷ []) items are.1
        (subst (λ r. AreAccepted schema r (changes_of items)) (sym (seen_with line xid done sub c)) clear.1)
        (by_step (at line (one xid done)) (at line (one xid (done ++ Change sub c ∷ []))) reached (step_acts line xid done sub c clear.0)))
    does_all done (Touch sub ∷ items) are clear reached =
        subst (λ is. Reaches schema from (at line (one xid is))) (append_assoc done (Touch sub ∷ []) items)
        (does_all (done ++ Touch sub ∷ []) items are.1
        (subst (λ cs. AreAccepted schema (serial schema (serial schema rows (changes_in line)) cs) (changes_of items)) (sym (work_with_touch xid sub done)) clear)
        (by_step (at line (one xid done)) (at line (one xid (done ++ Touch sub ∷ []))) reached (step_touches line xid done sub)))
    does_all done (BackTo sub ∷ items) are clear reached = absurd are.0
    does_all done (Last ∷ items) are clear reached = absurd are.0

    -- one that does items of which one clashes comes to that one
    pub comes_to : (done items work : List Item) (cause : ClashCause) → done ++ items ≡ work → ArePlain items
        → ClashesFirst schema (seen line xid done) (changes_of items) cause
        → Reaches schema from (at line (one xid done))
        → (now : List Item) × Reaches schema from (at line (one xid now))
        × IsStoppedBy schema (at line (one xid now)) xid work cause
    comes_to done [] work cause all are clash reached = absurd clash
    comes_to done (Change sub c ∷ items) work cause all are clash reached =
        elim clash [
          | inl here ↦ (done, reached, stops line xid done sub c items work cause all here)
          | inr later ↦
              comes_to (done ++ Change sub c ∷ []) items work cause (append_assoc done (Change sub c ∷ []) items ∙ all) are.1
              (subst (λ r. ClashesFirst schema r (changes_of items) cause) (sym (seen_with line xid done sub c)) later.1)
              (by_step (at line (one xid done)) (at line (one xid (done ++ Change sub c ∷ []))) reached (step_acts line xid done sub c later.0))
        ]
    comes_to done (Touch sub ∷ items) work cause all are clash reached =
        comes_to (done ++ Touch sub ∷ []) items work cause (append_assoc done (Touch sub ∷ []) items ∙ all) are.1
        (subst (λ cs. ClashesFirst schema (serial schema (serial schema rows (changes_in line)) cs) (changes_of items) cause) (sym (work_with_touch xid sub done)) clash)
        (by_step (at line (one xid done)) (at line (one xid (done ++ Touch sub ∷ []))) reached (step_touches line xid done sub))
    comes_to done (BackTo sub ∷ items) work cause all are clash reached = absurd are.0
    comes_to done (Last ∷ items) work cause all are clash reached = absurd are.0
