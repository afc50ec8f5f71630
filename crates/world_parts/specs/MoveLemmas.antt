-- How the parts of a world follow its moves.
--     part_as      a part depends on committed rows and open transactions alone
--     part_put, part_gone      a transaction that is open otherwise, or gone, in both
--     put_beside, gone_beside      or in the world alone, where it has nothing in the table
--     part_opened, opened_beside      a transaction opens in the part; in the world
--     part_tried, tried_beside      a change was tried in the table; in another
--     part_rested, rested_beside      an item that leaves the table's changes
--     part_aborted, aborted_beside, part_committed, committed_beside      a transaction ends that has changes there; one that hasn't
use Rattle.std.specs.Prelude.{◌≡◌, ◌≢◌, ℕ, [], ◌∷◌, ◌++◌, Some, None, refl}
use Rattle.std.proofs.Common.{sym, ◌∙◌, ap, subst, inl, inr, append-nil}
use Rattle.std.specs.FinMap.{get, insert, remove}
use Rattle.model.specs.declared.change.Change as change_type
use Rattle.model.specs.declared.item.Item.{Item}
use Rattle.model.specs.declared.item.Item.TheVariants.{Change}
use Rattle.model.specs.declared.item.CommitInfo.{CommitInfo}
use Rattle.model.specs.Rows.{Rows, Schema}
use Rattle.model.specs.Effect.{serial}
use Rattle.model.specs.SurvivorLemmas.{work_with_change}
use Rattle.world.specs.World.{Opened, World, OpenOnes, work, own_rows}
use Rattle.world.specs.Steps.{Acted, IsDone, IsSkipped, Held, Clashed, opened_with, done_with, committed_with, aborted_with}
use Rattle.world.specs.ListingLemmas.{xid_cases, got_same, got_other, gone_same, gone_other}
use Rattle.world_parts.specs.ByTable.{rows_at, change_at, changes_at}
use Rattle.world_parts.specs.ByTableLemmas.{changes_with}
use Rattle.world_parts.specs.Parts.{work_if, wanted_by, wanted_if, own_if, IsPartOf, after_tried}
use Rattle.world_parts.specs.PartLemmas.{own_at}

-- it depends on committed rows and open transactions alone
pub part_as : (table : ℕ) (w same part same_part : World) → same.committed ≡ w.committed → same.opened ≡ w.opened
    → same_part.committed ≡ part.committed → same_part.opened ≡ part.opened
    → IsPartOf table w part → IsPartOf table same same_part
part_as table w same part same_part rows ones rows_here ones_here is = record {
  committed = rows_here ∙ is.committed ∙ ap (rows_at table) (sym rows);
  work = λ xid.
      ap (λ (m : OpenOnes). work_if xid (get m xid)) ones_here ∙ is.work xid
      ∙ ap (λ (m : OpenOnes). changes_at table (work_if xid (get m xid))) (sym ones);
  wanted = λ xid.
      ap (λ (m : OpenOnes). wanted_if (get m xid)) ones_here ∙ is.wanted xid
      ∙ ap (λ (m : OpenOnes). changes_at table (wanted_if (get m xid))) (sym ones);
}

-- What is so of one transaction, and of each other as before, is so of all.
by_xid : (P : ℕ → Type 0) (xid : ℕ) → P xid → ((other : ℕ) → other ≢ xid → P other) → (other : ℕ) → P other
by_xid P xid here others other =
    elim (xid_cases other xid) [
      | inl is ↦ subst P (sym is) here
      | inr differs ↦ others other differs
    ]

-- the table's changes are those of the part, whichever transaction
abbrev AgreesAt : ℕ → OpenOnes → OpenOnes → ℕ → Type 0
AgreesAt table ones here xid =
    (work_if xid (get here xid) ≡ changes_at table (work_if xid (get ones xid)))
    × (wanted_if (get here xid) ≡ changes_at table (wanted_if (get ones xid)))

-- where one transaction agrees, and the others are what they were
still_agrees : (table : ℕ) (w part : World) → IsPartOf table w part → (ones here : OpenOnes) (xid : ℕ)
    → AgreesAt table ones here xid
    → ((other : ℕ) → other ≢ xid → get ones other ≡ get w.opened other)
    → ((other : ℕ) → other ≢ xid → get here other ≡ get part.opened other)
    → (other : ℕ) → AgreesAt table ones here other
still_agrees table w part is ones here xid agrees as_were as_were_here =
    by_xid (AgreesAt table ones here) xid agrees (λ other differs. (
      ap (work_if other) (as_were_here other differs) ∙ is.work other
          ∙ ap (λ open_one. changes_at table (work_if other open_one)) (sym (as_were other differs)),
      ap wanted_if (as_were_here other differs) ∙ is.wanted other
          ∙ ap (λ open_one. changes_at table (wanted_if open_one)) (sym (as_were other differs)),
    ))

module _ (table : ℕ) (w part : World) (is : IsPartOf table w part) (xid : ℕ) where
  -- a transaction that is open otherwise, in both
  pub part_put : (o p : Opened) → work xid p ≡ changes_at table (work xid o) → wanted_by p.wants ≡ changes_at table (wanted_by o.wants)
      → IsPartOf table (record w { opened = insert w.opened xid o }) (record part { opened = insert part.opened xid p })
  part_put o p works wants =
      let all : (other : ℕ) → AgreesAt table (insert w.opened xid o) (insert part.opened xid p) other =
      still_agrees table w part is (insert w.opened xid o) (insert part.opened xid p) xid (
        ap (work_if xid) (got_same part.opened xid p) ∙ works
            ∙ ap (λ open_one. changes_at table (work_if xid open_one)) (sym (got_same w.opened xid o)),
        ap wanted_if (got_same part.opened xid p) ∙ wants
            ∙ ap (λ open_one. changes_at table (wanted_if open_one)) (sym (got_same w.opened xid o)),
      )
      (got_other w.opened xid o) (got_other part.opened xid p) in
      record { committed = is.committed; work = λ other. (all other).0; wanted = λ other. (all other).1 }

  -- or in the world alone
  pub put_beside : (o : Opened) → work_if xid (get part.opened xid) ≡ changes_at table (work xid o)
      → wanted_if (get part.opened xid) ≡ changes_at table (wanted_by o.wants)
      → IsPartOf table (record w { opened = insert w.opened xid o }) part
  put_beside o works wants =
      let all : (other : ℕ) → AgreesAt table (insert w.opened xid o) part.opened other =
      still_agrees table w part is (insert w.opened xid o) part.opened xid (
        works ∙ ap (λ open_one. changes_at table (work_if xid open_one)) (sym (got_same w.opened xid o)),
        wants ∙ ap (λ open_one. changes_at table (wanted_if open_one)) (sym (got_same w.opened xid o)),
      )
      (got_other w.opened xid o) (λ other differs. refl) in
      record { committed = is.committed; work = λ other. (all other).0; wanted = λ other. (all other).1 }

  -- it is gone from both, and the committed rows are others
  pub part_gone : (rows here : Rows) → here ≡ rows_at table rows
      → IsPartOf table (record w { committed = rows; opened = remove w.opened xid }) (record part { committed = here; opened = remove part.opened xid })
  part_gone rows here at =
      let all : (other : ℕ) → AgreesAt table (remove w.opened xid) (remove part.opened xid) other =
      still_agrees table w part is (remove w.opened xid) (remove part.opened xid) xid (
        ap (work_if xid) (gone_same part.opened xid) ∙ ap (λ open_one. changes_at table (work_if xid open_one)) (sym (gone_same w.opened xid)),
        ap wanted_if (gone_same part.opened xid) ∙ ap (λ open_one. changes_at table (wanted_if open_one)) (sym (gone_same w.opened xid)),
      )
      (gone_other w.opened xid) (gone_other part.opened xid) in
      record { committed = at; work = λ other. (all other).0; wanted = λ other. (all other).1 }

  -- or from the world alone
  pub gone_beside : (rows : Rows) → part.committed ≡ rows_at table rows
      → work_if xid (get part.opened xid) ≡ [] → wanted_if (get part.opened xid) ≡ []
      → IsPartOf table (record w { committed = rows; opened = remove w.opened xid }) part
  gone_beside rows at none wants_none =
      let all : (other : ℕ) → AgreesAt table (remove w.opened xid) part.opened other =
      still_agrees table w part is (remove w.opened xid) part.opened xid (
        none ∙ ap (λ open_one. changes_at table (work_if xid open_one)) (sym (gone_same w.opened xid)),
        wants_none ∙ ap (λ open_one. changes_at table (wanted_if open_one)) (sym (gone_same w.opened xid)),
      )
      (gone_other w.opened xid) (λ other differs. refl) in
      record { committed = at; work = λ other. (all other).0; wanted = λ other. (all other).1 }

  -- ---- a transaction opens

  pub opened_beside : get w.opened xid ≡ None → IsPartOf table (opened_with w xid) part
  opened_beside none =
      put_beside (record { items = []; wants = None })
      (is.work xid ∙ ap (λ open_one. changes_at table (work_if xid open_one)) none)
      (is.wanted xid ∙ ap (λ open_one. changes_at table (wanted_if open_one)) none)

  pub part_opened : get part.opened xid ≡ None → IsPartOf table w (opened_with part xid)
  part_opened none =
      let new : Opened = record { items = []; wants = None } in
      let all : (other : ℕ) → AgreesAt table w.opened (insert part.opened xid new) other =
      still_agrees table w part is w.opened (insert part.opened xid new) xid (
        ap (work_if xid) (got_same part.opened xid new) ∙ sym (ap (work_if xid) none) ∙ is.work xid,
        ap wanted_if (got_same part.opened xid new) ∙ sym (ap wanted_if none) ∙ is.wanted xid,
      )
      (λ other differs. refl) (got_other part.opened xid new) in
      record { committed = is.committed; work = λ other. (all other).0; wanted = λ other. (all other).1 }

-- ---- an open transaction

module _ (table : ℕ) (w part : World) (is : IsPartOf table w part) (xid : ℕ) (o : Opened) (at : get w.opened xid ≡ Some o) where
  its_work : work_if xid (get part.opened xid) ≡ changes_at table (work xid o)
  its_work = is.work xid ∙ ap (λ open_one. changes_at table (work_if xid open_one)) at

  -- an item that leaves the table's changes, where it wants nothing there
  pub rested_beside : (item : Item)
      → changes_at table (work xid (record { items = o.items ++ item ∷ []; wants = None })) ≡ changes_at table (work xid o)
      → wanted_if (get part.opened xid) ≡ []
      → IsPartOf table (done_with w xid o item) part
  rested_beside item leaves none =
      put_beside table w part is xid (record { items = o.items ++ item ∷ []; wants = None }) (its_work ∙ sym leaves) none

  done_elsewhere : (sub : ℕ) (c : change_type.Change) → change_at table c ≡ []
      → changes_at table (work xid (record { items = o.items ++ Change sub c ∷ []; wants = None })) ≡ changes_at table (work xid o)
  done_elsewhere sub c not =
      ap (changes_at table) (work_with_change xid sub o.items c) ∙ changes_with table (work xid o) c
      ∙ ap (λ cs. changes_at table (work xid o) ++ cs) not ∙ append-nil (changes_at table (work xid o))

  wants_elsewhere : (sub : ℕ) (c : change_type.Change) → change_at table c ≡ [] → wanted_if (get part.opened xid) ≡ []
      → IsPartOf table (record w { opened = insert w.opened xid (record o { wants = Some (sub, c) }) }) part
  wants_elsewhere sub c not none =
      put_beside table w part is xid (record o { wants = Some (sub, c) }) its_work
      (none ∙ sym (append-nil (change_at table c) ∙ not))

  -- a change of other tables was tried
  pub tried_beside : (sub : ℕ) (c : change_type.Change) → change_at table c ≡ [] → wanted_if (get part.opened xid) ≡ []
      → (answer : Acted) → IsPartOf table (after_tried w xid o sub c answer) part
  tried_beside sub c not none IsDone = rested_beside (Change sub c) (done_elsewhere sub c not) none
  tried_beside sub c not none IsSkipped = rested_beside (Change sub c) (done_elsewhere sub c not) none
  tried_beside sub c not none (Held holder) = wants_elsewhere sub c not none
  tried_beside sub c not none (Clashed cause) =
      part_as table (record w { opened = insert w.opened xid (record o { wants = Some (sub, c) }) })
      (after_tried w xid o sub c (Clashed cause)) part part refl refl refl refl (wants_elsewhere sub c not none)

module _ (table : ℕ) (w part : World) (is : IsPartOf table w part) (xid : ℕ) (o p : Opened)
    (at : get w.opened xid ≡ Some o) (here : get part.opened xid ≡ Some p) where
  their_work : work xid p ≡ changes_at table (work xid o)
  their_work = ap (work_if xid) (sym here) ∙ is.work xid ∙ ap (λ open_one. changes_at table (work_if xid open_one)) at

  -- an item in both, behind which the part has the table's changes
  pub part_rested : (item mine : Item)
      → work xid (record { items = p.items ++ mine ∷ []; wants = None })
      ≡ changes_at table (work xid (record { items = o.items ++ item ∷ []; wants = None }))
      → IsPartOf table (done_with w xid o item) (done_with part xid p mine)
  part_rested item mine works =
      part_put table w part is xid (record { items = o.items ++ item ∷ []; wants = None }) (record { items = p.items ++ mine ∷ []; wants = None }) works refl

  done_here : (sub mark : ℕ) (c mine : change_type.Change) → change_at table c ≡ mine ∷ []
      → work xid (record { items = p.items ++ Change mark mine ∷ []; wants = None })
      ≡ changes_at table (work xid (record { items = o.items ++ Change sub c ∷ []; wants = None }))
  done_here sub mark c mine cut =
      work_with_change xid mark p.items mine
      ∙ ap (λ cs. cs ++ mine ∷ []) their_work
      ∙ ap (λ cs. changes_at table (work xid o) ++ cs) (sym cut)
      ∙ sym (changes_with table (work xid o) c)
      ∙ ap (changes_at table) (sym (work_with_change xid sub o.items c))

  wants_here : (sub mark : ℕ) (c mine : change_type.Change) → change_at table c ≡ mine ∷ []
      → IsPartOf table (record w { opened = insert w.opened xid (record o { wants = Some (sub, c) }) })
      (record part { opened = insert part.opened xid (record p { wants = Some (mark, mine) }) })
  wants_here sub mark c mine cut =
      part_put table w part is xid (record o { wants = Some (sub, c) }) (record p { wants = Some (mark, mine) }) their_work
      (sym (append-nil (change_at table c) ∙ cut))

  -- a change was tried: in the part it is what it is in the table
  pub part_tried : (sub mark : ℕ) (c mine : change_type.Change) → change_at table c ≡ mine ∷ []
      → (answer : Acted) → IsPartOf table (after_tried w xid o sub c answer) (after_tried part xid p mark mine answer)
  part_tried sub mark c mine cut IsDone = part_rested (Change sub c) (Change mark mine) (done_here sub mark c mine cut)
  part_tried sub mark c mine cut IsSkipped = part_rested (Change sub c) (Change mark mine) (done_here sub mark c mine cut)
  part_tried sub mark c mine cut (Held holder) = wants_here sub mark c mine cut
  part_tried sub mark c mine cut (Clashed cause) =
      part_as table (record w { opened = insert w.opened xid (record o { wants = Some (sub, c) }) })
      (after_tried w xid o sub c (Clashed cause))
      (record part { opened = insert part.opened xid (record p { wants = Some (mark, mine) }) })
      (after_tried part xid p mark mine (Clashed cause)) refl refl refl refl (wants_here sub mark c mine cut)

-- ---- a transaction ends

module _ (table : ℕ) (w part : World) (is : IsPartOf table w part) (xid : ℕ) where
  pub part_aborted : IsPartOf table (aborted_with w xid) (aborted_with part xid)
  part_aborted = part_gone table w part is xid w.committed part.committed is.committed

  pub aborted_beside : work_if xid (get part.opened xid) ≡ [] → wanted_if (get part.opened xid) ≡ []
      → IsPartOf table (aborted_with w xid) part
  aborted_beside = gone_beside table w part is xid w.committed is.committed

  module _ (schema : Schema) (o : Opened) (at : get w.opened xid ≡ Some o) (info : CommitInfo) where
    own_committed : (rows : Rows) → rows ≡ own_if schema part xid → rows ≡ rows_at table (own_rows schema w xid o)
    own_committed rows own =
        own ∙ own_at schema table w part is xid
        ∙ ap (λ open_one. rows_at table (serial schema w.committed (work_if xid open_one))) at

    pub part_committed : (p : Opened) → get part.opened xid ≡ Some p → (here : CommitInfo)
        → IsPartOf table (committed_with schema w xid o info) (committed_with schema part xid p here)
    part_committed p there here =
        part_as table (record w { committed = own_rows schema w xid o; opened = remove w.opened xid }) (committed_with schema w xid o info)
        (record part { committed = own_rows schema part xid p; opened = remove part.opened xid }) (committed_with schema part xid p here)
        refl refl refl refl
        (part_gone table w part is xid (own_rows schema w xid o) (own_rows schema part xid p)
        (own_committed (own_rows schema part xid p) (ap (λ open_one. serial schema part.committed (work_if xid open_one)) (sym there))))

    pub committed_beside : work_if xid (get part.opened xid) ≡ [] → wanted_if (get part.opened xid) ≡ []
        → IsPartOf table (committed_with schema w xid o info) part
    committed_beside none wants_none =
        part_as table (record w { committed = own_rows schema w xid o; opened = remove w.opened xid }) (committed_with schema w xid o info)
        part part refl refl refl refl
        (gone_beside table w part is xid (own_rows schema w xid o)
        (own_committed part.committed (ap (λ cs. serial schema part.committed cs) (sym none))) none wants_none)
