use Rattle.std.proofs.Common.{◌≡◌, ℕ, zero, suc, [], ◌∷◌, ◌++◌, None, refl, ap, ◌∙◌}
use Rattle.parted_store.specs.Shares.{Shares, share_of}
use Rattle.parted_store.proofs.shares.make_room.Goals as goal

-- one place more, with no share
none_more : (shares : Shares) (table : ℕ) → share_of (shares ++ None ∷ []) table ≡ share_of shares table
none_more [] zero = refl
none_more [] (suc table) = refl
none_more (share ∷ shares) zero = refl
none_more (share ∷ shares) (suc table) = none_more shares table

pub loop-shares-preserved : goal.loop-shares-preserved
loop-shares-preserved c = λ other.
    ap (λ (shares : Shares). share_of shares other) c.in_ok-push.ensures.items ∙ none_more c.loop-shares.shares.items other ∙ c.loop-shares.invariant other
