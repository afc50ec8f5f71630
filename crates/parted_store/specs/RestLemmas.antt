-- What a part is in every world in which a transaction did something else, where it was told by a rollback to the top
-- transaction that it waits there no more.
--     touched_by, nothing_touched      an item that changes no row; where it waits with no change of the table
--     ticket_touched, items_touched, shares_touched      its ticket
--     long_rested      as many parts are there
--     RestsPart, each_rests      one of the parts that are lent, and its share; what follows of each of them
--     same_rested, end_rested, left_rested, share_kept      the part itself; where its log goes on; other shares; its own
--     acted_by, stays_by      a change of another table that was tried; where it waits with no change of this one
use Rattle.std.specs.Prelude.{◌≡◌, ℕ, List, [], ◌∷◌, ◌++◌, Option, Some, None, IsSomeAnd, length, slice_get, Result, Ok, Err, refl}
use Rattle.std.proofs.Common.{sym, ◌∙◌, ap, subst}
use Rattle.std.proofs.lemmas.Option.{slice_get_within}
use Rattle.std.specs.FinMap.{get}
use Rattle.model.specs.declared.change.Change as change_type
use Rattle.model.specs.declared.item.Item.TheVariants.{Touch}
use Rattle.model.specs.Survivors.{survivors}
use Rattle.model.specs.SurvivorLemmas.{survivors_with, work_with_touch}
use Rattle.world.specs.World.{Opened, World, work}
use Rattle.world.specs.Steps.{Fault, Acted, IsDone, IsSkipped, Held, Clashed, done_with}
use Rattle.live_tables.specs.Answers.{after_act}
use Rattle.world.specs.ListingLemmas.{got_same}
use Rattle.engine.specs.declared.events.Event.TheVariants.{Done}
use Rattle.engine.specs.Events.{opened_by}
use Rattle.world_parts.specs.ByTable.{change_at, changes_at}
use Rattle.world_parts.specs.Lines.{HasLine}
use Rattle.world_parts.specs.Parts.{wanted_by, after_tried}
use Rattle.world_parts.specs.ToldLemmas.{touched_beside, tried_elsewhere, rested_touched, rested_elsewhere}
use Rattle.table_parts.specs.Part.{Part, last_commit_end}
use Rattle.parted_store.specs.Acting.{Rests}
use Rattle.parted_store.specs.Back.{BacksShare, IsSameShare, KeepsShares}
use Rattle.parted_store.specs.BackLemmas.{opened_with_event, stood_there, has_back, same_rolled, end_rolled}
use Rattle.parted_store.specs.EachPart.{IsBeside}
use Rattle.parted_store.specs.EachPartLemmas.{some_then}
use Rattle.parted_store.specs.EndLemmas.{no_wants_here, same_part}
use Rattle.parted_store.specs.Lent.{OpenTicket, HasTable, HasTicket, IsSamePart, IsShare, HasShares}
use Rattle.parted_store.specs.Shares.{Share, Shares, share_of}

module _ (t : OpenTicket) (sub : ℕ) (p : Part) (w : World) (has : HasTable w p) (at : HasTicket w t) where
  abbrev touched : World
  touched = done_with w t.number (opened_by t.events) (Touch sub)

  -- it leaves start and commits
  line_touched : HasLine p.number touched p.store.world
  line_touched = record { start = has.line.start; line = has.line.line }

  pub nothing_touched : changes_at p.number (wanted_by (opened_by t.events).wants) ≡ [] → HasTable touched p
  nothing_touched none = record {
    is = touched_beside p.number w p.store.world has.is t.number (opened_by t.events) at sub (no_wants_here t p w has at none);
    line = line_touched;
  }

  pub touched_by : (share : Option Share) → IsShare t.number (opened_by t.events) p.number share
      → (q : Part) (new : Option Share) → BacksShare (t.number ∷ []) p share q new → HasTable touched q
  touched_by None none q new did = subst (HasTable touched) (sym did.0) (nothing_touched none.1)
  touched_by (Some share) number q None did = absurd did
  touched_by (Some share) number q (Some new) did =
      has_back p t.number share number t.number [] q new did touched line_touched
      (rested_touched p.number w p.store.world has.is t.number (opened_by t.events) (opened_by share.list) at
      (stood_there p t.number share number t.number [] q new did) sub)

-- as many parts are there
pub long_rested : (xid : ℕ) (answer : Result Acted Fault) (parts new_parts : List Part) (shares new_shares : Shares)
    → Rests xid answer parts shares new_parts new_shares → length new_parts ≡ length parts
long_rested xid (Ok acted) parts new_parts shares new_shares rests = rests.long
long_rested xid (Err fault) parts new_parts shares new_shares rests = ap length rests.0

-- one of the parts, and its share
abbrev pub RestsPart : ℕ → Result Acted Fault → Part → Option Share → Part → Option Share → Type 0
RestsPart xid (Ok acted) p share q new = BacksShare (xid ∷ []) p share q new
RestsPart xid (Err fault) p share q new = q ≡ p

pub each_rests : (xid : ℕ) (answer : Result Acted Fault) (parts new_parts : List Part) (shares new_shares : Shares)
    → Rests xid answer parts shares new_parts new_shares → (P : Part → Type 0) (i : ℕ) (p : Part) → slice_get parts i ≡ Some p
    → ((q : Part) → RestsPart xid answer p (share_of shares p.number) q (share_of new_shares p.number) → P q)
    → IsSomeAnd (slice_get new_parts i) P
each_rests xid (Ok acted) parts new_parts shares new_shares rests P i p at so =
    some_then (slice_get new_parts i) (rests.done i p (slice_get_within parts i p at) at) so
each_rests xid (Err fault) parts new_parts shares new_shares rests P i p at so =
    subst (λ found. IsSomeAnd found P) (sym (ap (λ ps. slice_get ps i) rests.0 ∙ at)) (so p refl)

-- the part itself
pub same_rested : (xid : ℕ) (answer : Result Acted Fault) (p : Part) (share : Option Share) (q : Part) (new : Option Share)
    → RestsPart xid answer p share q new → IsSamePart p q
same_rested xid (Ok acted) p share q new did = same_rolled (xid ∷ []) p q share new did
same_rested xid (Err fault) p share q new did = same_part p q did

pub end_rested : (xid : ℕ) (answer : Result Acted Fault) (p : Part) (share : Option Share) (q : Part) (new : Option Share)
    → RestsPart xid answer p share q new → last_commit_end q ≡ last_commit_end p
end_rested xid (Ok acted) p share q new did = end_rolled (xid ∷ []) p q share new did
end_rested xid (Err fault) p share q new did = ap last_commit_end did

-- the shares of other tables stay
pub left_rested : (xid : ℕ) (answer : Result Acted Fault) (parts new_parts : List Part) (shares new_shares : Shares)
    → Rests xid answer parts shares new_parts new_shares → (table : ℕ) → IsBeside parts table → share_of new_shares table ≡ share_of shares table
left_rested xid (Ok acted) parts new_parts shares new_shares rests table beside = rests.kept table (λ j p below at. beside j p at)
left_rested xid (Err fault) parts new_parts shares new_shares rests table beside = ap (λ (ss : Shares). share_of ss table) rests.1

-- a share is still one that the ticket needs
pub share_kept : (xid : ℕ) (o : Opened) (table : ℕ) (share new : Option Share) → IsSameShare share new → IsShare xid o table share → IsShare xid o table new
share_kept xid o table None new same none = subst (IsShare xid o table) (sym same) none
share_kept xid o table (Some share) None same number = absurd same
share_kept xid o table (Some share) (Some new) same number = same.1 ∙ number

module _ (t : OpenTicket) (sub : ℕ) (c : change_type.Change) (p : Part) (not : change_at p.number c ≡ []) (w : World) (has : HasTable w p) (at : HasTicket w t) where
  abbrev tried : Acted → World
  tried answer = after_tried w t.number (opened_by t.events) sub c answer

  line_tried : (answer : Acted) → HasLine p.number (tried answer) p.store.world
  line_tried IsDone = record { start = has.line.start; line = has.line.line }
  line_tried IsSkipped = record { start = has.line.start; line = has.line.line }
  line_tried (Held holder) = record { start = has.line.start; line = has.line.line }
  line_tried (Clashed cause) = record { start = has.line.start; line = has.line.line }

  same_world : (answer : Acted) → after_act w t.number (opened_by t.events) sub c (Ok answer) ≡ tried answer
  same_world IsDone = refl
  same_world IsSkipped = refl
  same_world (Held holder) = refl
  same_world (Clashed cause) = refl

  nothing_tried : changes_at p.number (wanted_by (opened_by t.events).wants) ≡ [] → (answer : Acted) → HasTable (tried answer) p
  nothing_tried none answer = record {
    is = tried_elsewhere p.number w p.store.world has.is t.number (opened_by t.events) at sub c answer not (no_wants_here t p w has at none);
    line = line_tried answer;
  }

  rests_by : (answer : Acted) (share : Option Share) → IsShare t.number (opened_by t.events) p.number share
      → (q : Part) (new : Option Share) → BacksShare (t.number ∷ []) p share q new → HasTable (tried answer) q
  rests_by answer None none q new did = subst (HasTable (tried answer)) (sym did.0) (nothing_tried none.1 answer)
  rests_by answer (Some share) number q None did = absurd did
  rests_by answer (Some share) number q (Some new) did =
      has_back p t.number share number t.number [] q new did (tried answer) (line_tried answer)
      (rested_elsewhere p.number w p.store.world has.is t.number (opened_by t.events) (opened_by share.list) at
      (stood_there p t.number share number t.number [] q new did) sub c not answer)

  rested_by : (answer : Acted) (share : Option Share) → IsShare t.number (opened_by t.events) p.number share
      → (q : Part) (new : Option Share) → BacksShare (t.number ∷ []) p share q new
      → HasTable (after_act w t.number (opened_by t.events) sub c (Ok answer)) q
  rested_by answer share its q new did = subst (λ (v : World). HasTable v q) (sym (same_world answer)) (rests_by answer share its q new did)

  pub acted_by : (answer : Result Acted Fault) (share : Option Share) → IsShare t.number (opened_by t.events) p.number share
      → (q : Part) (new : Option Share) → RestsPart t.number answer p share q new → HasTable (after_act w t.number (opened_by t.events) sub c answer) q
  acted_by (Ok answer) share its q new did = rested_by answer share its q new did
  acted_by (Err fault) share its q new did = subst (HasTable w) (sym did) has

  -- where it waits with no change of the table the part stays
  pub stays_by : changes_at p.number (wanted_by (opened_by t.events).wants) ≡ [] → (answer : Result Acted Fault)
      → HasTable (after_act w t.number (opened_by t.events) sub c answer) p
  stays_by none (Ok answer) = subst (λ (v : World). HasTable v p) (sym (same_world answer)) (nothing_tried none answer)
  stays_by none (Err fault) = has

-- ---- the ticket of one that has an item more which changes no row

module _ (t : OpenTicket) (sub : ℕ) where
  abbrev behind : Opened
  behind = opened_by (t.events ++ Done (Touch sub) ∷ [])

  pub ticket_touched : (w : World) → HasTicket w t
      → get (done_with w t.number (opened_by t.events) (Touch sub)).opened t.number ≡ Some behind
  ticket_touched w at = got_same w.opened t.number _ ∙ ap Some (sym (opened_with_event t.events (Done (Touch sub))))

  pub items_touched : survivors t.number behind.items ≡ survivors t.number (opened_by t.events).items ++ Touch sub ∷ []
  items_touched =
      ap (λ (o : Opened). survivors t.number o.items) (opened_with_event t.events (Done (Touch sub)))
      ∙ survivors_with t.number (opened_by t.events).items (Touch sub)

  share_touched : (table : ℕ) (share new : Option Share) → IsSameShare share new → IsShare t.number (opened_by t.events) table share
      → IsShare t.number behind table new
  share_touched table None new same none =
      subst (IsShare t.number behind table) (sym same) (
        ap (λ (o : Opened). changes_at table (work t.number o)) (opened_with_event t.events (Done (Touch sub)))
            ∙ ap (changes_at table) (work_with_touch t.number sub (opened_by t.events).items) ∙ none.0,
        ap (λ (o : Opened). changes_at table (wanted_by o.wants)) (opened_with_event t.events (Done (Touch sub))),
      )
  share_touched table (Some share) None same number = absurd same
  share_touched table (Some share) (Some new) same number = same.1 ∙ number

  -- it has the shares that it needs
  pub shares_touched : (new : Shares) → HasShares t → KeepsShares t.shares new → (table : ℕ) → IsShare t.number behind table (share_of new table)
  shares_touched new has kept table = share_touched table (share_of t.shares table) (share_of new table) (kept table) (has table)
