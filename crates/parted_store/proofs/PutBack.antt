-- A share that was taken out and is put back: a ticket has the shares that it had.
--     same_shares      shares that are the same of each table
--     put_back, none_taken      once it is back; where there was none
use Rattle.std.proofs.Common.{◌≡◌, ◌∙◌, ℕ, ◌<◌, None, length, sym, ap, subst}
use Rattle.std.specs.Prelude.{◌≢◌}
use Rattle.std.proofs.lemmas.List.{get_or_default, same_lists}
use mathlib.Core.Logic.{dite}
use native.Mathlib.Decide.{ℕ_discrete}
use Rattle.parted_store.specs.Shares.{Shares, share_of}

pub same_shares : (was now : Shares) → length now ≡ length was → ((table : ℕ) → share_of now table ≡ share_of was table) → now ≡ was
same_shares was now long same =
    same_lists now was long (λ k d below.
    get_or_default now k d None below ∙ same k ∙ get_or_default was k None d (subst (λ n. k < n) long below))

module _ (was taken : Shares) (table : ℕ) (long : length taken ≡ length was)
    (left : (other : ℕ) → other ≢ table → share_of taken other ≡ share_of was other) where
  pub none_taken : share_of taken table ≡ share_of was table → taken ≡ was
  none_taken none = same_shares was taken long (λ other. dite (ℕ_discrete other table) (λ here. ap (share_of taken) here ∙ none ∙ ap (share_of was) (sym here)) (left other))

  pub put_back : (now : Shares) → length now ≡ length taken → ((other : ℕ) → other ≢ table → share_of now other ≡ share_of taken other)
      → share_of now table ≡ share_of was table → now ≡ was
  put_back now still beside back =
      same_shares was now (still ∙ long) (λ other.
      dite (ℕ_discrete other table)
      (λ here. ap (share_of now) here ∙ back ∙ ap (share_of was) (sym here))
      (λ apart. beside other apart ∙ left other apart))
