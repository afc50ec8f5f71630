-- In each of the parts that a call was lent its transaction has done just what the share tells.
--     stands_with      nothing else of the shares is asked
--     stands_rolled, stands_rested, stands_truncated      it stands so behind a rollback; in the parts of other tables; in those
--         of a truncate of several tables
use Rattle.std.specs.Prelude.{◌≡◌, ℕ, true, List, [], ◌∷◌, Option, Some, None, IsSomeAnd, Result, Ok, Err, slice_get}
use Rattle.std.proofs.Common.{sym, ◌∙◌, ap, subst, inl, inr}
use Rattle.std.proofs.lemmas.Option.{same_Some, slice_get_within}
use Rattle.std.specs.FinMap.{get}
use Rattle.world.specs.World.{World}
use Rattle.world.specs.Steps.{Acted, Fault}
use Rattle.world.specs.ListingLemmas.{got_same}
use Rattle.live_tables.specs.declared.answers.Acted.TheVariants.{Done, Skipped, Held}
use Rattle.live_tables.specs.declared.answers.EngineFault.{EngineFault}
use Rattle.live_tables.specs.declared.answers.Verdict.{Verdict}
use Rattle.live_tables.specs.declared.answers.Verdict.TheVariants.{Acted as ActedVerdict, Clashes}
use Rattle.engine.specs.Events.{opened_by}
use Rattle.table_parts.specs.Part.{Part}
use Rattle.parted_store.specs.Acting.{Rests}
use Rattle.parted_store.specs.Back.{BacksShare}
use Rattle.parted_store.specs.BackLemmas.{same_rolled}
use Rattle.parted_store.specs.EachPartLemmas.{some_then}
use Rattle.parted_store.specs.Lent.{Stands}
use Rattle.parted_store.specs.Shares.{Share, Shares, share_of}
use Rattle.parted_store.specs.Truncating.{Both, IsStill, Stands as IsLeft, Keeps, Waits, HasTruncated}

-- what is said of the share that is there
abbrev StandsBy : Part → Option Share → Type 0
StandsBy p found = (share : Share) → found ≡ Some share → get p.store.world.opened share.number ≡ Some (opened_by share.list)

no_share : (share : Share) → None ≡ Some share → ⊥
no_share share e = cc

stands_by : (q : Part) (new : Share) → get q.store.world.opened new.number ≡ Some (opened_by new.list) → StandsBy q (Some new)
stands_by q new at share is =
    subst (λ (s : Share). get q.store.world.opened s.number ≡ Some (opened_by s.list)) (same_Some new share is) at

-- the share of the part's table alone is asked
pub stands_with : (p : Part) (shares new : Shares) → share_of new p.number ≡ share_of shares p.number → Stands p shares → Stands p new
stands_with p shares new same stood share is = stood share (sym same ∙ is)

module _ (p q : Part) where
  -- the later part is of the same table
  stands_at : q.number ≡ p.number → (shares : Shares) → StandsBy q (share_of shares p.number) → Stands q shares
  stands_at number shares stood = subst (λ (n : ℕ). StandsBy q (share_of shares n)) (sym number) stood

  by_back : (marks : List ℕ) (share new : Option Share) → BacksShare marks p share q new → StandsBy q new
  by_back marks None new did = λ share is. absurd (no_share share (sym did.1 ∙ is))
  by_back marks (Some share) None did = absurd did
  by_back marks (Some share) (Some new) did =
      stands_by q new
      (subst (λ (s : Share). get q.store.world.opened s.number ≡ Some (opened_by s.list)) (sym did.share_is)
      (ap (λ (w : World). get w.opened share.number) did.world ∙ got_same p.store.world.opened share.number _))

  pub stands_rolled : (marks : List ℕ) (shares new : Shares) → BacksShare marks p (share_of shares p.number) q (share_of new p.number) → Stands q new
  stands_rolled marks shares new did =
      stands_at (same_rolled marks p q (share_of shares p.number) (share_of new p.number) did).number new
      (by_back marks (share_of shares p.number) (share_of new p.number) did)

  -- ---- a truncate of several tables

  -- in such a part, by what became of the share
  abbrev IsThere : Option Share → Type 0
  IsThere new = (q.number ≡ p.number) × StandsBy q new

  by_kept : (mark i : ℕ) (share new : Option Share) → Keeps mark i p share q new → IsThere new
  by_kept mark i None new is = absurd is
  by_kept mark i (Some share) None is = absurd is
  by_kept mark i (Some share) (Some new) is = (
    is.same.number,
    stands_by q new
        (ap (get q.store.world.opened) is.number ∙ ap (λ (w : World). get w.opened share.number) is.acts.3
        ∙ got_same p.store.world.opened share.number _ ∙ ap Some (sym is.tells)),
  )

  by_still : (share new : Share) → get q.store.world.opened share.number ≡ Some (opened_by new.list) → new.number ≡ share.number → StandsBy q (Some new)
  by_still share new at number = stands_by q new (ap (get q.store.world.opened) number ∙ at)

  by_waits : (i : ℕ) (share new : Option Share) → Waits i p share q new → IsThere new
  by_waits i None new is = absurd is
  by_waits i (Some share) None is = absurd is
  by_waits i (Some share) (Some new) is = (
    is.0.same.number,
    by_still share new (ap (λ (w : World). get w.opened share.number) is.0.world ∙ got_same p.store.world.opened share.number _) is.0.number,
  )

  by_both : (share new : Option Share) → Both (λ s t. IsStill true p s q t) share new → IsThere new
  by_both None new is = absurd is
  by_both (Some share) None is = absurd is
  by_both (Some share) (Some new) is = (
    is.same.number,
    by_still share new (ap (λ (w : World). get w.opened share.number) is.world ∙ got_same p.store.world.opened share.number _) is.number,
  )

  by_left : (i : ℕ) (share new : Option Share) → StandsBy p share → IsLeft true i p share q new → IsThere new
  by_left i share new stood is = elim is [
    | inl same ↦ (
      ap (λ (r : Part). r.number) same.0,
      λ found at.
          subst (λ (r : Part). get r.store.world.opened found.number ≡ Some (opened_by found.list)) (sym same.0)
          (stood found (sym same.1 ∙ at)),
    )
    | inr still ↦ by_both share new still
  ]

  -- nor is it changed afterwards
  then_stands : (shares new : Shares) → share_of new p.number ≡ share_of shares p.number → IsThere (share_of shares p.number) → Stands q new
  then_stands shares new same is = stands_at is.0 new (subst (StandsBy q) (sym same) is.1)

-- ---- each of several parts

pub stands_rested : (xid : ℕ) (answer : Result Acted Fault) (parts new_parts : List Part) (shares new_shares : Shares)
    → Rests xid answer parts shares new_parts new_shares → (i : ℕ) (p : Part) → slice_get parts i ≡ Some p → Stands p shares
    → IsSomeAnd (slice_get new_parts i) (λ q. Stands q new_shares)
stands_rested xid (Ok acted) parts new_parts shares new_shares rests i p at stood =
    some_then (slice_get new_parts i) (rests.done i p (slice_get_within parts i p at) at)
    (λ q did. stands_rolled p q (xid ∷ []) shares new_shares did)
stands_rested xid (Err fault) parts new_parts shares new_shares rests i p at stood =
    subst (λ (found : Option Part). IsSomeAnd found (λ q. Stands q new_shares)) (sym (ap (λ (ps : List Part). slice_get ps i) rests.0 ∙ at))
    (subst (Stands p) (sym rests.1) stood)

module _ (mark : ℕ) (start : List Part) (all : Shares) (parts : List Part) (shares new : Shares) (i : ℕ) (p : Part) (at : slice_get start i ≡ Some p)
    (same : share_of new p.number ≡ share_of shares p.number) (stood : Stands p all) where
  pub stands_truncated : (result : Result Verdict EngineFault) → HasTruncated mark start all result parts shares
      → IsSomeAnd (slice_get parts i) (λ q. Stands q new)
  stands_truncated (Ok (ActedVerdict Done)) came =
      some_then (slice_get parts i) (came.each i p at) (λ q is.
      then_stands p q shares new same (by_kept p q mark i (share_of all p.number) (share_of shares p.number) is))
  stands_truncated (Ok (ActedVerdict Skipped)) came = absurd came
  stands_truncated (Ok (ActedVerdict (Held holder))) came =
      some_then (slice_get parts i) (came.1.each i p at) (λ q is.
      then_stands p q shares new same (by_waits p q i (share_of all p.number) (share_of shares p.number) is))
  stands_truncated (Ok (Clashes clash)) came = absurd came
  stands_truncated (Err fault) came =
      some_then (slice_get parts i) (came.1.each i p at) (λ q is.
      then_stands p q shares new same (by_left p q i (share_of all p.number) (share_of shares p.number) stood is))
