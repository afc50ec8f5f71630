-- A world is sound where each of its parts is.
--     sound_by_parts      a world is sound of which each part is
--     wanted_in_table      a clash that is wanted is so in its table
use Rattle.std.specs.Prelude.{◌≡◌, ◌≢◌, ℕ, ◌==◌, Bool, true, false, List, [], ◌∷◌, ◌++◌, Option, Some, None, refl}
use Rattle.std.proofs.Common.{sym, ◌∙◌, ap, ap₂, subst, append-nil}
use Rattle.std.specs.FinMap.{get}
use Rattle.model.specs.declared.change.Change as change_type
use Rattle.model.specs.declared.change.Change.TheVariants.{Put, Set, Remove, Wipe}
use Rattle.model.specs.Accepted.{AreAccepted}
use Rattle.model.specs.Effect.{ClashCause, serial}
use Rattle.model.specs.Rows.{Rows, Schema, IsValid}
use Rattle.world.specs.Fine.{StillClashes}
use Rattle.world.specs.Steps.{IsClashing}
use Rattle.world.specs.World.{Opened, ByClash, World, changes_in, own_rows}
use Rattle.world_parts.specs.ByTable.{names_table, rows_at, only_if, change_at, changes_at, IsIn}
use Rattle.world_parts.specs.ByTableLemmas.{all_tables, valid_by_tables, serial_at}
use Rattle.world_parts.specs.FineLemmas.{wipe_accepted, accepted_at, accepted_by_tables, fine_by_parts}
use Rattle.world_parts.specs.Lines.{HasLine}
use Rattle.world_parts.specs.MadeLemmas.{changes_of_line, changes_by_commits}
use Rattle.world_parts.specs.PartLemmas.{clashing_lifts}
use Rattle.world_parts.specs.Parts.{wanted_by, wanted_if, IsPartOf}
use Rattle.world_parts.specs.Sound.{IsWanted, IsSound, IsSoundPart, HasSoundPart, StopsInTable}
use Rattle.world_parts.specs.TwiceLemmas.{rows_twice}

-- ---- start and commits

module _ (schema : Schema) (table : ℕ) (w part : World) (line : HasLine table w part) where
  same_start : rows_at table part.start ≡ rows_at table w.start
  same_start = ap (rows_at table) line.start ∙ rows_twice table w.start

  same_changes : changes_at table (changes_in part.line) ≡ changes_at table (changes_in w.line)
  same_changes =
      changes_by_commits table part.line ∙ ap changes_of_line line.line ∙ sym (changes_by_commits table w.line)

  -- the rows after the commits are there the part's after its own
  same_serial : rows_at table (serial schema part.start (changes_in part.line))
      ≡ rows_at table (serial schema w.start (changes_in w.line))
  same_serial =
      serial_at schema table part.start (changes_in part.line)
      ∙ ap₂ (serial schema) same_start same_changes
      ∙ sym (serial_at schema table w.start (changes_in w.line))

  -- what the part accepted was accepted there
  accepted_here : AreAccepted schema part.start (changes_in part.line)
      → AreAccepted schema (rows_at table w.start) (changes_at table (changes_in w.line))
  accepted_here accepted =
      subst (AreAccepted schema (rows_at table w.start)) same_changes
      (subst (λ (r : Rows). AreAccepted schema r (changes_at table (changes_in part.line))) same_start
      (accepted_at schema table part.start (changes_in part.line) accepted))

-- ---- what the transaction wants whose change clashed

no_more : (c : change_type.Change) (cs : List change_type.Change) → [] ≡ c ∷ cs → ⊥
no_more c cs e = cc

first_is : (c d : change_type.Change) (cs ds : List change_type.Change) → c ∷ cs ≡ d ∷ ds → c ≡ d
first_is c d cs ds e = cc

-- a part that wants this has the transaction open, which wants it
abbrev Wants : Option Opened → change_type.Change → Type 0
Wants open_one c = (p : Opened) × (sub : ℕ) × (open_one ≡ Some p) × (p.wants ≡ Some (sub, c))

wants_there : (open_one : Option Opened) (c : change_type.Change) (more : List change_type.Change)
    → wanted_if open_one ≡ c ∷ more → Wants open_one c
wants_there None c more e = absurd (no_more c more e)
wants_there (Some p) c more e = by p.wants refl e
  where
    by : (wish : Option (ℕ × change_type.Change)) → p.wants ≡ wish → wanted_by wish ≡ c ∷ more → Wants (Some p) c
    by None is so = absurd (no_more c more so)
    by (Some (sub, d)) is so = (p, sub, refl, is ∙ ap (λ (f : change_type.Change). Some (sub, f)) (first_is d c [] more so))

only_is : (b : Bool) (e c : change_type.Change) → only_if b e ≡ c ∷ [] → e ≡ c
only_is true e c is = first_is e c [] [] is
only_is false e c is = absurd (no_more c [] is)

-- a change is what it is in a table, where that is no truncate
uncut : (table : ℕ) (e c : change_type.Change) → change_at table e ≡ c ∷ [] → ((tables : List ℕ) → c ≢ Wipe tables) → e ≡ c
uncut table (Put at row) c is no_wipe = only_is (at == table) (Put at row) c is
uncut table (Set at key patch) c is no_wipe = only_is (at == table) (Set at key patch) c is
uncut table (Remove at key) c is no_wipe = only_is (at == table) (Remove at key) c is
uncut table (Wipe tables) c is no_wipe =
    absurd (no_wipe (table ∷ []) (sym (only_is (names_table tables table) (Wipe (table ∷ [])) c is)))

-- one that is wanted stands alone
one_alone : (d : change_type.Change) (more : List change_type.Change) → d ∷ [] ≡ d ∷ (more ++ []) → d ∷ more ≡ d ∷ []
one_alone d more e = ap (λ cs. d ∷ cs) (sym (append-nil more) ∙ sym (rest_is (more ++ []) e))
  where
    rest_is : (cs : List change_type.Change) → d ∷ [] ≡ d ∷ cs → [] ≡ cs
    rest_is cs s = cc

-- ---- the world

module _ (schema : Schema) (w : World) (each : (table : ℕ) → HasSoundPart schema w table) where
  valid_start : IsValid schema w.start
  valid_start =
      valid_by_tables schema w.start (λ table.
      subst (IsValid schema) (each table).1.line.start (each table).1.sound.fine.valid_start)

  serial_commits : w.committed ≡ serial schema w.start (changes_in w.line)
  serial_commits =
      all_tables w.committed (serial schema w.start (changes_in w.line)) (λ table.
      sym (rows_twice table w.committed)
      ∙ ap (rows_at table) (sym (each table).1.part_of.committed ∙ (each table).1.sound.fine.serial_commits)
      ∙ same_serial schema table w (each table).0 (each table).1.line)

  accepted : AreAccepted schema w.start (changes_in w.line)
  accepted =
      accepted_by_tables schema w.start (changes_in w.line) (λ table.
      accepted_here schema table w (each table).0 (each table).1.line (each table).1.sound.accepted)

  -- the clash that stopped the world stopped the part of its table
  module _ (xid : ℕ) (c : change_type.Change) (cause : ClashCause) (stopped : w.stopped ≡ Some (ByClash xid c cause))
      (table : ℕ) (inside : IsIn table c) (o : Opened) (sub : ℕ) (e : change_type.Change) (at : get w.opened xid ≡ Some o)
      (wants : o.wants ≡ Some (sub, e)) where
    abbrev part : World
    part = (each table).0

    part_stopped : part.stopped ≡ Some (ByClash xid c cause)
    part_stopped = (each table).1.stopped xid c cause stopped inside ∙ stopped

    wanted_here : wanted_if (get part.opened xid) ≡ change_at table e ++ []
    wanted_here =
        (each table).1.part_of.wanted xid
        ∙ ap (λ open_one. changes_at table (wanted_if open_one)) at
        ∙ ap (λ wish. changes_at table (wanted_by wish)) wants

    -- the part notes the clash still
    clashes_here : (p : Opened) (mark : ℕ) → get part.opened xid ≡ Some p → p.wants ≡ Some (mark, c)
        → IsClashing schema part xid p c cause
    clashes_here p mark here its = (each table).1.sound.fine.noted xid c cause part_stopped p mark here its

    clashing : e ≡ c → IsClashing schema w xid o c cause
    clashing same =
        let its = wants_there (get part.opened xid) c []
        (wanted_here ∙ ap (λ d. change_at table d ++ []) same ∙ ap (λ ds. ds ++ []) inside) in
        clashing_lifts schema table w part (each table).1.part_of xid o its.0 at its.2 c inside cause
        (clashes_here its.0 its.1 its.2 its.3)

    -- it is what the transaction wants, where that is anything of the table
    wanted_is : (cs : List change_type.Change) → change_at table e ≡ cs → cs ≢ [] → e ≡ c
    wanted_is [] is some = absurd (some refl)
    wanted_is (d ∷ more) is some =
        let wanted : wanted_if (get part.opened xid) ≡ d ∷ (more ++ []) = wanted_here ∙ ap (λ ds. ds ++ []) is in
        let its = wants_there (get part.opened xid) d (more ++ []) wanted in
        let same : d ≡ c = (each table).1.sound.wanted xid c cause part_stopped its.0 its.1 d its.2 its.3 in
        let wants_c : its.0.wants ≡ Some (its.1, c) = its.3 ∙ ap (λ (f : change_type.Change). Some (its.1, f)) same in
        let alone : d ∷ more ≡ d ∷ [] =
        one_alone d more (sym (ap (λ wish. wanted_by wish) its.3) ∙ sym (ap wanted_if its.2) ∙ wanted) in
        uncut table e c (is ∙ alone ∙ ap (λ f. f ∷ []) same) (λ tables wipes.
        wipe_accepted schema (own_rows schema part xid its.0) tables cause
        (subst (λ f. IsClashing schema part xid its.0 f cause) wipes (clashes_here its.0 its.1 its.2 wants_c)).1)

  module _ (in_table : StopsInTable w) where
    still_wanted : IsWanted w
    still_wanted xid c cause stopped o sub e at wants =
        let its = in_table xid c cause stopped in
        wanted_is xid c cause stopped its.0 its.1 o sub e at wants (change_at its.0 e) refl (its.2 o sub e at wants)

    still_clashes : StillClashes schema w
    still_clashes xid c cause stopped o sub at wants =
        let its = in_table xid c cause stopped in
        clashing xid c cause stopped its.0 its.1 o sub c at wants refl

    pub sound_by_parts : IsSound schema w
    sound_by_parts = record {
      fine =
          fine_by_parts schema w (λ table. ((each table).0, (each table).1.part_of, (each table).1.sound.fine))
          valid_start serial_commits still_clashes;
      accepted = accepted;
      wanted = still_wanted;
    }

-- a clash of one table, which its transaction wants
pub wanted_in_table : (w : World) → IsWanted w
    → ((xid : ℕ) (c : change_type.Change) (cause : ClashCause) → w.stopped ≡ Some (ByClash xid c cause) → (table : ℕ) × IsIn table c)
    → StopsInTable w
wanted_in_table w wanted in_table xid c cause stopped =
    let its = in_table xid c cause stopped in (
      its.0,
      its.1,
      λ o sub e at wants none.
          no_more c [] (sym none ∙ ap (change_at its.0) (wanted xid c cause stopped o sub e at wants) ∙ its.1),
    )
