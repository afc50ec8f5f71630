-- What isn't done of the items that were given.
use Rattle.std.proofs.Common.{◌≡◌, ◌↔◌, List, [], ◌∷◌, ◌++◌, Option, Some, None, ap, sym, ◌∙◌}
use Rattle.std.specs.Prelude.{MatchOption}
use Rattle.std.proofs.lemmas.List.{append_assoc, append_cancel_left}
use Rattle.model.specs.Beginning.{Begins}

module _ {X : Type 0} where
  -- all of them are those acknowledged, those left and those queued
  pub all_given : (given sent acked left queued : List X) → given ≡ sent ++ queued → sent ≡ acked ++ left
      → given ≡ acked ++ (left ++ queued)
  all_given given sent acked left queued whole parts =
      whole ∙ ap (λ s. s ++ queued) parts ∙ append_assoc acked left queued

  -- so these are left or queued just where those are all, behind the acknowledged ones
  pub just_these : (given sent acked left queued rest : List X) → given ≡ sent ++ queued → sent ≡ acked ++ left
      → (left ++ queued ≡ rest) ↔ (given ≡ acked ++ rest)
  just_these given sent acked left queued rest whole parts =
      let all = all_given given sent acked left queued whole parts in
      ((λ is. all ∙ ap (λ r. acked ++ r) is), (λ is. append_cancel_left acked (left ++ queued) rest (sym all ∙ is)))

  -- the one that is taken comes first of those that aren't acknowledged
  pub next_given : (given sent acked left queued : List X) (taken : Option X) → given ≡ sent ++ queued → sent ≡ acked ++ left
      → MatchOption taken (Unit {0}) (λ x. (others : List X) × (left ≡ x ∷ others))
      → MatchOption taken (Unit {0}) (λ x. Begins (acked ++ x ∷ []) given)
  next_given given sent acked left queued None whole parts next = tt
  next_given given sent acked left queued (Some x) whole parts next = (
    next.0 ++ queued,
    all_given given sent acked left queued whole parts ∙ ap (λ l. acked ++ (l ++ queued)) next.1
        ∙ sym (append_assoc acked (x ∷ []) (next.0 ++ queued)),
  )
