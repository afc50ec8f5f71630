-- What a part has and was told of each transaction, behind each call.
--     told_put, told_put_beside      a transaction that is open otherwise, in both; in the world alone
--     told_gone, told_gone_beside      it is gone from both; from the world alone
--     opens_beside, opens_here      it opens in the world; in the part, at any time behind that
--     waits_otherwise, still_here      it has done what it had, and waits otherwise, or as it did
--     moved_here, moved_beside      an open transaction is open otherwise, in both; in the world alone
--     tried_here, tried_elsewhere      it tries a change of the table; of another
--     touched_here, touched_beside      an item comes that changes no row
--     rested_touched, rested_elsewhere      it waited here, and is told by a rollback to the top transaction that it waits no more
--     back_told, back_rested, back_beside      a rollback that the part is told; one that drops nothing of the table
--     back_each_told, back_nothing_told      one that it is told by each mark that is dropped; one to the top transaction
--     ends_here, ends_beside, aborts_here, aborts_beside      it ends
use Rattle.std.specs.Prelude.{◌≡◌, ◌≢◌, ℕ, ◌==◌, true, false, List, [], ◌∷◌, ◌++◌, map, Option, None, Some, if◌then◌else◌, refl}
use Rattle.std.proofs.Common.{sym, ◌∙◌, ap, subst, inl, inr, append-nil}
use Rattle.std.specs.FinMap.{get, insert, remove}
use Rattle.model.specs.declared.change.Change as change_type
use Rattle.model.specs.declared.item.Item.{Item}
use Rattle.model.specs.declared.item.Item.TheVariants.{Change, Touch, BackTo}
use Rattle.model.specs.declared.item.CommitInfo.{CommitInfo}
use Rattle.model.specs.Rows.{Schema}
use Rattle.model.specs.Survivors.{survivors, before_savepoint}
use Rattle.model.specs.SurvivorLemmas.{survivors_with}
use Rattle.model.specs.TakenLemmas.{same_number}
use Rattle.world.specs.World.{Opened, World, OpenOnes}
use Rattle.world.specs.Steps.{Acted, IsDone, IsSkipped, Held, Clashed, opened_with, done_with, committed_with, aborted_with}
use Rattle.world.specs.ListingLemmas.{xid_cases, got_same, got_other, gone_same, gone_other, same_by_xid}
use Rattle.world_parts.specs.ByTable.{change_at, changes_at}
use Rattle.world_parts.specs.Parts.{wanted_by, wanted_if, after_tried, rested}
use Rattle.world_parts.specs.Marks.{under, marked_at, items_at, mark_for, survivors_if, AreMarked, HasPart, AreDropped, CutsTo, CutsNothing}
use Rattle.world_parts.specs.MarkLemmas.{works_told, no_work, told_with, told_beside, told_touch, back_here, back_nowhere, back_by_each}
use Rattle.world_parts.specs.MoveLemmas.{part_as, part_put, put_beside, opened_beside, part_opened, part_tried, tried_beside, part_aborted, aborted_beside, part_committed, committed_beside}
use Rattle.world_parts.specs.PartOfLemmas.{all_stay}

-- what is there is put there again
put_same : (ones : OpenOnes) (xid : ℕ) (o : Opened) → get ones xid ≡ Some o → insert ones xid o ≡ ones
put_same ones xid o is = same_by_xid (insert ones xid o) ones (λ q.
    elim (xid_cases q xid) [
      | inl at ↦ ap (get (insert ones xid o)) at ∙ got_same ones xid o ∙ sym is ∙ sym (ap (get ones) at)
      | inr apart ↦ got_other ones xid o q apart
    ])

-- the items of a transaction that survive are those that were told
abbrev IsTold : ℕ → OpenOnes → OpenOnes → ℕ → Type 0
IsTold table ones here xid = survivors_if xid (get here xid) ≡ items_at table xid (survivors_if xid (get ones xid))

-- where that is so of one transaction, and the others are what they were
still_told : (table : ℕ) (w part : World) → AreMarked table w part → (ones here : OpenOnes) (xid : ℕ)
    → IsTold table ones here xid
    → ((other : ℕ) → other ≢ xid → get ones other ≡ get w.opened other)
    → ((other : ℕ) → other ≢ xid → get here other ≡ get part.opened other)
    → (other : ℕ) → IsTold table ones here other
still_told table w part are ones here xid told as_were as_were_here other =
    elim (xid_cases other xid) [
      | inl is ↦ subst (IsTold table ones here) (sym is) told
      | inr differs ↦
          ap (survivors_if other) (as_were_here other differs) ∙ are other
          ∙ ap (λ open_one. items_at table other (survivors_if other open_one)) (sym (as_were other differs))
    ]

module _ (table : ℕ) (w part : World) (are : AreMarked table w part) (xid : ℕ) where
  -- a transaction that is open otherwise, in both
  told_put : (o p : Opened) → survivors xid p.items ≡ items_at table xid (survivors xid o.items)
      → AreMarked table (record w { opened = insert w.opened xid o }) (record part { opened = insert part.opened xid p })
  told_put o p told =
      still_told table w part are (insert w.opened xid o) (insert part.opened xid p) xid (
      ap (survivors_if xid) (got_same part.opened xid p) ∙ told
      ∙ ap (λ open_one. items_at table xid (survivors_if xid open_one)) (sym (got_same w.opened xid o)))
      (got_other w.opened xid o) (got_other part.opened xid p)

  -- or in the world alone
  told_put_beside : (o : Opened) → survivors_if xid (get part.opened xid) ≡ items_at table xid (survivors xid o.items)
      → AreMarked table (record w { opened = insert w.opened xid o }) part
  told_put_beside o told =
      still_told table w part are (insert w.opened xid o) part.opened xid
      (told ∙ ap (λ open_one. items_at table xid (survivors_if xid open_one)) (sym (got_same w.opened xid o)))
      (got_other w.opened xid o) (λ other differs. refl)

  told_open : get w.opened xid ≡ None → AreMarked table (opened_with w xid) part
  told_open none =
      told_put_beside (record { items = []; wants = None })
      (are xid ∙ ap (λ open_one. items_at table xid (survivors_if xid open_one)) none)

  told_open_here : get part.opened xid ≡ None → AreMarked table w (opened_with part xid)
  told_open_here none =
      still_told table w part are w.opened (insert part.opened xid (record { items = []; wants = None })) xid
      (ap (survivors_if xid) (got_same part.opened xid (record { items = []; wants = None })) ∙ sym (ap (survivors_if xid) none) ∙ are xid)
      (λ other differs. refl) (got_other part.opened xid (record { items = []; wants = None }))

  -- it is gone from both
  told_gone : AreMarked table (aborted_with w xid) (aborted_with part xid)
  told_gone =
      still_told table w part are (remove w.opened xid) (remove part.opened xid) xid (
      ap (survivors_if xid) (gone_same part.opened xid)
      ∙ ap (λ open_one. items_at table xid (survivors_if xid open_one)) (sym (gone_same w.opened xid)))
      (gone_other w.opened xid) (gone_other part.opened xid)

  -- or from the world alone
  told_gone_beside : survivors_if xid (get part.opened xid) ≡ [] → AreMarked table (aborted_with w xid) part
  told_gone_beside none =
      still_told table w part are (remove w.opened xid) part.opened xid
      (none ∙ ap (λ open_one. items_at table xid (survivors_if xid open_one)) (sym (gone_same w.opened xid)))
      (gone_other w.opened xid) (λ other differs. refl)

-- ---- items that survive, and those that are told of them

-- those that are told survive, all of them
whole : (table top : ℕ) (items : List Item) → survivors top (items_at table top items) ≡ items_at table top items
whole table top items = all_stay top [] (marked_at table (under top [] items))

module _ (table top sub : ℕ) (items : List Item) where
  same_told : survivors top (items_at table top (survivors top items)) ≡ items_at table top (survivors top items)
  same_told = whole table top (survivors top items)

  beside_same : (c : change_type.Change) → change_at table c ≡ []
      → items_at table top (survivors top items) ≡ items_at table top (survivors top (items ++ Change sub c ∷ []))
  beside_same c not = sym same_told ∙ told_beside table top sub items (items_at table top (survivors top items)) same_told c not

  touch_same : items_at table top (survivors top items) ≡ items_at table top (survivors top (items ++ Touch sub ∷ []))
  touch_same = sym same_told ∙ told_touch table top sub items (items_at table top (survivors top items)) same_told

  back_same : CutsNothing table top sub (survivors top items)
      → items_at table top (survivors top items) ≡ items_at table top (survivors top (items ++ BackTo sub ∷ []))
  back_same (inl is_top) =
      ap (items_at table top)
      (sym (survivors_with top items (BackTo sub)
      ∙ ap (λ b. if b then survivors top items else before_savepoint sub (survivors top items)) is_top))
  back_same (inr (not_top, all)) =
      sym same_told ∙ back_nowhere table top sub items (items_at table top (survivors top items)) not_top same_told all

-- ---- an open transaction

module _ (table : ℕ) (w part : World) (has : HasPart table w part) (xid : ℕ) where
  -- it is open otherwise, in both
  pub moved_here : (o p : Opened) → survivors xid p.items ≡ items_at table xid (survivors xid o.items)
      → wanted_by p.wants ≡ changes_at table (wanted_by o.wants)
      → HasPart table (record w { opened = insert w.opened xid o }) (record part { opened = insert part.opened xid p })
  moved_here o p told wants =
      (part_put table w part has.0 xid o p (works_told table xid (Some p) (survivors xid o.items) told) wants, told_put table w part has.1 xid o p told)

  -- or in the world alone
  pub moved_beside : (o : Opened) → survivors_if xid (get part.opened xid) ≡ items_at table xid (survivors xid o.items)
      → wanted_if (get part.opened xid) ≡ changes_at table (wanted_by o.wants)
      → HasPart table (record w { opened = insert w.opened xid o }) part
  moved_beside o told wants =
      (put_beside table w part has.0 xid o (works_told table xid (get part.opened xid) (survivors xid o.items) told) wants, told_put_beside table w part has.1 xid o told)

module _ (table : ℕ) (w part : World) (has : HasPart table w part) (xid : ℕ) (o : Opened) (at : get w.opened xid ≡ Some o) where
  told_there : survivors_if xid (get part.opened xid) ≡ items_at table xid (survivors xid o.items)
  told_there = has.1 xid ∙ ap (λ open_one. items_at table xid (survivors_if xid open_one)) at

  -- an item that leaves the table's, where it wants nothing there
  beside : (item : Item) → items_at table xid (survivors xid o.items) ≡ items_at table xid (survivors xid (o.items ++ item ∷ []))
      → wanted_if (get part.opened xid) ≡ [] → HasPart table (done_with w xid o item) part
  beside item same none =
      moved_beside table w part has xid (record { items = o.items ++ item ∷ []; wants = None }) (told_there ∙ same) none

  -- and where it does, it waits no more
  here_rested : (item : Item) → items_at table xid (survivors xid o.items) ≡ items_at table xid (survivors xid (o.items ++ item ∷ []))
      → (p : Opened) → get part.opened xid ≡ Some p → HasPart table (done_with w xid o item) (rested part xid p)
  here_rested item same p here =
      moved_here table w part has xid (record { items = o.items ++ item ∷ []; wants = None }) (record p { wants = None })
      (sym (ap (survivors_if xid) here) ∙ told_there ∙ same) refl

  -- ---- it tries a change of another table

  marked_elsewhere : (sub : ℕ) (c : change_type.Change) → change_at table c ≡ [] → (answer : Acted)
      → AreMarked table (after_tried w xid o sub c answer) part
  marked_elsewhere sub c not IsDone =
      told_put_beside table w part has.1 xid (record { items = o.items ++ Change sub c ∷ []; wants = None }) (told_there ∙ beside_same table xid sub o.items c not)
  marked_elsewhere sub c not IsSkipped =
      told_put_beside table w part has.1 xid (record { items = o.items ++ Change sub c ∷ []; wants = None }) (told_there ∙ beside_same table xid sub o.items c not)
  marked_elsewhere sub c not (Held holder) = told_put_beside table w part has.1 xid (record o { wants = Some (sub, c) }) told_there
  marked_elsewhere sub c not (Clashed cause) = told_put_beside table w part has.1 xid (record o { wants = Some (sub, c) }) told_there

  pub tried_elsewhere : (sub : ℕ) (c : change_type.Change) (answer : Acted) → change_at table c ≡ [] → wanted_if (get part.opened xid) ≡ []
      → HasPart table (after_tried w xid o sub c answer) part
  tried_elsewhere sub c answer not none = (tried_beside table w part has.0 xid o at sub c not none answer, marked_elsewhere sub c not answer)

  -- ---- an item comes that changes no row

  pub touched_here : (sub : ℕ) (p : Opened) → get part.opened xid ≡ Some p → HasPart table (done_with w xid o (Touch sub)) (rested part xid p)
  touched_here sub = here_rested (Touch sub) (touch_same table xid sub o.items)

  pub touched_beside : (sub : ℕ) → wanted_if (get part.opened xid) ≡ [] → HasPart table (done_with w xid o (Touch sub)) part
  touched_beside sub = beside (Touch sub) (touch_same table xid sub o.items)

  -- ---- it rolls back, and nothing of the table

  pub back_rested : (sub : ℕ) → CutsNothing table xid sub (survivors xid o.items) → (p : Opened) → get part.opened xid ≡ Some p
      → HasPart table (done_with w xid o (BackTo sub)) (rested part xid p)
  back_rested sub nothing = here_rested (BackTo sub) (back_same table xid sub o.items nothing)

  pub back_beside : (sub : ℕ) → CutsNothing table xid sub (survivors xid o.items) → wanted_if (get part.opened xid) ≡ []
      → HasPart table (done_with w xid o (BackTo sub)) part
  back_beside sub nothing = beside (BackTo sub) (back_same table xid sub o.items nothing)

  -- ---- it ends, with nothing in the table

  pub ends_beside : (schema : Schema) (info : CommitInfo) → survivors_if xid (get part.opened xid) ≡ [] → wanted_if (get part.opened xid) ≡ []
      → HasPart table (committed_with schema w xid o info) part
  ends_beside schema info nothing none =
      (committed_beside table w part has.0 xid schema o at info (no_work xid (get part.opened xid) nothing) none, told_gone_beside table w part has.1 xid nothing)

module _ (table : ℕ) (w part : World) (has : HasPart table w part) (xid : ℕ) (o p : Opened)
    (at : get w.opened xid ≡ Some o) (here : get part.opened xid ≡ Some p) where
  told_both : survivors xid p.items ≡ items_at table xid (survivors xid o.items)
  told_both = sym (ap (survivors_if xid) here) ∙ told_there table w part has xid o at

  -- it has done what it had, and waits otherwise
  pub waits_otherwise : (wants : Option (ℕ × change_type.Change)) (q : Opened) → survivors xid q.items ≡ survivors xid p.items
      → wanted_by q.wants ≡ changes_at table (wanted_by wants)
      → HasPart table (record w { opened = insert w.opened xid (record o { wants = wants }) }) (record part { opened = insert part.opened xid q })
  waits_otherwise wants q same waits = moved_here table w part has xid (record o { wants = wants }) q (same ∙ told_both) waits

  -- it has done what it had, and waits with what it waited with
  pub still_here : (q : Opened) → survivors xid q.items ≡ survivors xid p.items → q.wants ≡ p.wants
      → HasPart table w (record part { opened = insert part.opened xid q })
  still_here q same waits =
      subst (λ (ones : OpenOnes). HasPart table (record w { opened = ones }) (record part { opened = insert part.opened xid q }))
      (put_same w.opened xid o at)
      (waits_otherwise o.wants q same
      (ap wanted_by waits ∙ ap wanted_if (sym here) ∙ has.0.wanted xid ∙ ap (λ open_one. changes_at table (wanted_if open_one)) at))

  -- it tries a change of the table, under the latest mark
  marked_here : (sub : ℕ) (c cut : change_type.Change) → change_at table c ≡ cut ∷ [] → (answer : Acted)
      → AreMarked table (after_tried w xid o sub c answer) (after_tried part xid p (mark_for xid sub (survivors xid o.items)) cut answer)
  marked_here sub c cut is IsDone =
      told_put table w part has.1 xid (record { items = o.items ++ Change sub c ∷ []; wants = None })
      (record { items = p.items ++ Change (mark_for xid sub (survivors xid o.items)) cut ∷ []; wants = None })
      (told_with table xid sub o.items p.items told_both c cut is)
  marked_here sub c cut is IsSkipped =
      told_put table w part has.1 xid (record { items = o.items ++ Change sub c ∷ []; wants = None })
      (record { items = p.items ++ Change (mark_for xid sub (survivors xid o.items)) cut ∷ []; wants = None })
      (told_with table xid sub o.items p.items told_both c cut is)
  marked_here sub c cut is (Held holder) =
      told_put table w part has.1 xid (record o { wants = Some (sub, c) })
      (record p { wants = Some (mark_for xid sub (survivors xid o.items), cut) }) told_both
  marked_here sub c cut is (Clashed cause) =
      told_put table w part has.1 xid (record o { wants = Some (sub, c) })
      (record p { wants = Some (mark_for xid sub (survivors xid o.items), cut) }) told_both

  pub tried_here : (sub : ℕ) (c cut : change_type.Change) (answer : Acted) → change_at table c ≡ cut ∷ []
      → HasPart table (after_tried w xid o sub c answer) (after_tried part xid p (mark_for xid sub (survivors xid o.items)) cut answer)
  tried_here sub c cut answer is =
      (part_tried table w part has.0 xid o p at here sub (mark_for xid sub (survivors xid o.items)) c cut is answer, marked_here sub c cut is answer)

  -- it rolls back, to the first mark of the table that is dropped
  pub back_told : (sub mark : ℕ) → CutsTo table xid sub (survivors xid o.items) mark
      → HasPart table (done_with w xid o (BackTo sub)) (done_with part xid p (BackTo mark))
  back_told sub mark cuts =
      moved_here table w part has xid (record { items = o.items ++ BackTo sub ∷ []; wants = None })
      (record { items = p.items ++ BackTo mark ∷ []; wants = None })
      (back_here table xid sub o.items p.items cuts.0 told_both mark cuts.1) refl

  -- a rollback to the top transaction leaves its items
  same_rested : survivors xid (p.items ++ BackTo xid ∷ []) ≡ items_at table xid (survivors xid o.items)
  same_rested =
      survivors_with xid p.items (BackTo xid)
      ∙ ap (λ b. if b then survivors xid p.items else before_savepoint xid (survivors xid p.items)) (same_number xid) ∙ told_both

  -- an item comes that changes no row, and it waits here no more
  pub rested_touched : (sub : ℕ) → HasPart table (done_with w xid o (Touch sub)) (done_with part xid p (BackTo xid))
  rested_touched sub =
      moved_here table w part has xid (record { items = o.items ++ Touch sub ∷ []; wants = None })
      (record { items = p.items ++ BackTo xid ∷ []; wants = None }) (same_rested ∙ touch_same table xid sub o.items) refl

  -- it tries a change of another table, and waits here no more
  pub rested_elsewhere : (sub : ℕ) (c : change_type.Change) → change_at table c ≡ [] → (answer : Acted)
      → HasPart table (after_tried w xid o sub c answer) (done_with part xid p (BackTo xid))
  rested_elsewhere sub c not answer = by answer
    where
      rests : Opened
      rests = record { items = p.items ++ BackTo xid ∷ []; wants = None }

      wants_nothing : [] ≡ changes_at table (c ∷ [])
      wants_nothing = sym (append-nil (change_at table c) ∙ not)

      waits : HasPart table (record w { opened = insert w.opened xid (record o { wants = Some (sub, c) }) }) (done_with part xid p (BackTo xid))
      waits = moved_here table w part has xid (record o { wants = Some (sub, c) }) rests same_rested wants_nothing

      does : HasPart table (done_with w xid o (Change sub c)) (done_with part xid p (BackTo xid))
      does =
          moved_here table w part has xid (record { items = o.items ++ Change sub c ∷ []; wants = None }) rests
          (same_rested ∙ beside_same table xid sub o.items c not) refl

      by : (tried : Acted) → HasPart table (after_tried w xid o sub c tried) (done_with part xid p (BackTo xid))
      by IsDone = does
      by IsSkipped = does
      by (Held holder) = waits
      by (Clashed cause) = (
        part_as table (record w { opened = insert w.opened xid (record o { wants = Some (sub, c) }) }) (after_tried w xid o sub c (Clashed cause))
            (done_with part xid p (BackTo xid)) (done_with part xid p (BackTo xid)) refl refl refl refl waits.0,
        waits.1,
      )

  -- or to each mark that is dropped
  pub back_each_told : (sub : ℕ) (marks : List ℕ) → (sub == xid) ≡ false → AreDropped xid sub (survivors xid o.items) marks
      → HasPart table (done_with w xid o (BackTo sub))
      (record part { opened = insert part.opened xid (record { items = p.items ++ map BackTo marks; wants = None }) })
  back_each_told sub marks not_top are =
      moved_here table w part has xid (record { items = o.items ++ BackTo sub ∷ []; wants = None })
      (record { items = p.items ++ map BackTo marks; wants = None })
      (back_by_each table xid sub o.items p.items not_top told_both marks are) refl

  -- to the top transaction
  pub back_nothing_told : (sub : ℕ) → (sub == xid) ≡ true
      → HasPart table (done_with w xid o (BackTo sub)) (done_with part xid p (BackTo sub))
  back_nothing_told sub is_top =
      moved_here table w part has xid (record { items = o.items ++ BackTo sub ∷ []; wants = None })
      (record { items = p.items ++ BackTo sub ∷ []; wants = None })
      (survivors_with xid p.items (BackTo sub)
      ∙ ap (λ b. if b then survivors xid p.items else before_savepoint sub (survivors xid p.items)) is_top
      ∙ told_both ∙ back_same table xid sub o.items (inl is_top)) refl

  pub ends_here : (schema : Schema) (info : CommitInfo)
      → HasPart table (committed_with schema w xid o info) (committed_with schema part xid p info)
  ends_here schema info = (part_committed table w part has.0 xid schema o at info p here info, told_gone table w part has.1 xid)

-- ---- it opens; it aborts

module _ (table : ℕ) (w part : World) (has : HasPart table w part) (xid : ℕ) where
  pub opens_beside : get w.opened xid ≡ None → HasPart table (opened_with w xid) part
  opens_beside none = (opened_beside table w part has.0 xid none, told_open table w part has.1 xid none)

  pub opens_here : get part.opened xid ≡ None → HasPart table w (opened_with part xid)
  opens_here none = (part_opened table w part has.0 xid none, told_open_here table w part has.1 xid none)

  pub aborts_here : HasPart table (aborted_with w xid) (aborted_with part xid)
  aborts_here = (part_aborted table w part has.0 xid, told_gone table w part has.1 xid)

  pub aborts_beside : survivors_if xid (get part.opened xid) ≡ [] → wanted_if (get part.opened xid) ≡ []
      → HasPart table (aborted_with w xid) part
  aborts_beside nothing none =
      (aborted_beside table w part has.0 xid (no_work xid (get part.opened xid) nothing) none, told_gone_beside table w part has.1 xid nothing)
