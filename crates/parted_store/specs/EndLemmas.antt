-- What follows of the parts' ends, one after another.
--     committed_by, aborted_by      what the end of a share is in every world
--     same_committed, end_committed, same_aborted, end_aborted      the part is the same one; where its log goes on
--     commits_beside, aborts_beside      a part of a table of which there is no share stays
use Rattle.std.specs.Prelude.{◌≡◌, ℕ, ◌<◌, ◌≤◌, List, [], Option, Some, None, refl}
use Rattle.std.proofs.Common.{sym, ◌∙◌, ap, subst, arith}
use Rattle.std.specs.FinMap.{get}
use Rattle.model.specs.declared.item.CommitInfo.{CommitInfo}
use Rattle.model.specs.Rows.{Schema}
use Rattle.model.specs.Survivors.{survivors}
use Rattle.world.specs.World.{World}
use Rattle.world.specs.Steps.{committed_with, aborted_with}
use Rattle.world_parts.specs.ByTable.{changes_at}
use Rattle.world_parts.specs.Lines.{HasLine}
use Rattle.world_parts.specs.LineLemmas.{line_here, line_beside}
use Rattle.world_parts.specs.Parts.{wanted_by, wanted_if}
use Rattle.world_parts.specs.Marks.{items_at, survivors_if, HasPart}
use Rattle.world_parts.specs.MarkLemmas.{nothing_told}
use Rattle.world_parts.specs.ToldLemmas.{ends_here, ends_beside, aborts_here, aborts_beside}
use Rattle.engine.specs.Events.{opened_by}
use Rattle.table_parts.specs.Part.{Part, last_commit_end}
use Rattle.parted_store.specs.EachPart.{IsBeside, Covers}
use Rattle.parted_store.specs.Ends.{CommitsShare, AbortsShare}
use Rattle.parted_store.specs.Lent.{OpenTicket, HasTable, HasTicket, IsSamePart, IsShare, HasShares}
use Rattle.parted_store.specs.Shares.{Share, share_of}

-- ---- in every world

module _ (t : OpenTicket) (p : Part) (w : World) (has : HasTable w p) (at : HasTicket w t) where
  -- where the ticket has no share its transaction has nothing in the part
  pub no_items_here : IsShare t.number (opened_by t.events) p.number None → survivors_if t.number (get p.store.world.opened t.number) ≡ []
  no_items_here none =
      has.is.1 t.number ∙ ap (λ open_one. items_at p.number t.number (survivors_if t.number open_one)) at
      ∙ nothing_told p.number t.number (survivors t.number (opened_by t.events).items) none.0

  pub no_wants_here : changes_at p.number (wanted_by (opened_by t.events).wants) ≡ [] → wanted_if (get p.store.world.opened t.number) ≡ []
  no_wants_here none = has.is.0.wanted t.number ∙ ap (λ open_one. changes_at p.number (wanted_if open_one)) at ∙ none

  pub commits_nothing : IsShare t.number (opened_by t.events) p.number None → (schema : Schema) (info : CommitInfo)
      → HasTable (committed_with schema w t.number (opened_by t.events) info) p
  commits_nothing none schema info = record {
    is = ends_beside p.number w p.store.world has.is t.number (opened_by t.events) at schema info (no_items_here none) (no_wants_here none.1);
    line =
        line_beside schema p.number w p.store.world has.is has.line t.number (opened_by t.events) at info (no_items_here none);
  }

  pub aborts_nothing : IsShare t.number (opened_by t.events) p.number None → HasTable (aborted_with w t.number) p
  aborts_nothing none = record {
    is = aborts_beside p.number w p.store.world has.is t.number (no_items_here none) (no_wants_here none.1);
    line = record { start = has.line.start; line = has.line.line };
  }

  -- the share's transaction is open in the part
  pub stood_by : (share : Share) → share.number ≡ t.number → get p.store.world.opened share.number ≡ Some (opened_by share.list)
      → get p.store.world.opened t.number ≡ Some (opened_by share.list)
  stood_by share number = subst (λ (n : ℕ). get p.store.world.opened n ≡ Some (opened_by share.list)) number

  pub committed_by : (info : CommitInfo) (share : Option Share) → IsShare t.number (opened_by t.events) p.number share
      → (q : Part) → CommitsShare info p share q → HasTable (committed_with p.store.schema w t.number (opened_by t.events) info) q
  committed_by info None none q did = subst (HasTable _) (sym did) (commits_nothing none p.store.schema info)
  committed_by info (Some share) number q did = record {
    is =
        subst (λ (n : ℕ). HasPart n (committed_with p.store.schema w t.number (opened_by t.events) info) q.store.world) (sym did.2.number)
        (subst (HasPart p.number (committed_with p.store.schema w t.number (opened_by t.events) info))
        (sym (did.1 ∙ ap (λ (n : ℕ). committed_with p.store.schema p.store.world n (opened_by share.list) info) number))
        (ends_here p.number w p.store.world has.is t.number (opened_by t.events) (opened_by share.list) at
        (stood_by share number did.0) p.store.schema info));
    line =
        subst (λ (n : ℕ). HasLine n (committed_with p.store.schema w t.number (opened_by t.events) info) q.store.world) (sym did.2.number)
        (subst (HasLine p.number (committed_with p.store.schema w t.number (opened_by t.events) info))
        (sym (did.1 ∙ ap (λ (n : ℕ). committed_with p.store.schema p.store.world n (opened_by share.list) info) number))
        (line_here p.store.schema p.number w p.store.world has.is has.line t.number (opened_by t.events) at info (opened_by share.list)
        (stood_by share number did.0)));
  }

  pub aborted_by : (share : Option Share) → IsShare t.number (opened_by t.events) p.number share
      → (q : Part) → AbortsShare p share q → HasTable (aborted_with w t.number) q
  aborted_by None none q did = subst (HasTable _) (sym did) (aborts_nothing none)
  aborted_by (Some share) number q did = record {
    is =
        subst (λ (n : ℕ). HasPart n (aborted_with w t.number) q.store.world) (sym did.2.number)
        (subst (HasPart p.number (aborted_with w t.number))
        (sym (did.1 ∙ ap (aborted_with p.store.world) number))
        (aborts_here p.number w p.store.world has.is t.number));
    line =
        subst (λ (n : ℕ). HasLine n (aborted_with w t.number) q.store.world) (sym did.2.number)
        (subst (HasLine p.number (aborted_with w t.number)) (sym did.1) (record { start = has.line.start; line = has.line.line }));
  }

-- ---- the part itself

pub same_part : (p q : Part) → q ≡ p → IsSamePart p q
same_part p q is = subst (IsSamePart p) (sym is) (record { number = refl; store = record { schema = refl; tickets = refl; line = refl } })

module _ (p q : Part) (info : CommitInfo) where
  pub same_committed : (share : Option Share) → CommitsShare info p share q → IsSamePart p q
  same_committed None did = same_part p q did
  same_committed (Some share) did = did.2

  pub end_committed : last_commit_end p < info.end → (share : Option Share) → CommitsShare info p share q → last_commit_end q ≤ info.end
  end_committed later None did = subst (λ (r : Part). last_commit_end r ≤ info.end) (sym did) (omega (arith, later))
  end_committed later (Some share) did = subst (λ n. n ≤ info.end) (sym did.3) (omega arith)

module _ (p q : Part) where
  pub same_aborted : (share : Option Share) → AbortsShare p share q → IsSamePart p q
  same_aborted None did = same_part p q did
  same_aborted (Some share) did = did.2

  pub end_aborted : (share : Option Share) → AbortsShare p share q → last_commit_end q ≡ last_commit_end p
  end_aborted None did = ap last_commit_end did
  end_aborted (Some share) did = did.3

-- a part of a table that is none of those lent
module _ (parts : List Part) (t : OpenTicket) (its : HasShares t) (covers : Covers parts t.shares) where
  pub none_beside : (table : ℕ) → IsBeside parts table → IsShare t.number (opened_by t.events) table None
  none_beside table beside = by (share_of t.shares table) refl (its table)
    where
      by : (share : Option Share) → share_of t.shares table ≡ share → IsShare t.number (opened_by t.events) table share
          → IsShare t.number (opened_by t.events) table None
      by None is none = none
      by (Some share) is number = let c = covers table share is in absurd (beside c.0 c.1 c.2 c.3)
