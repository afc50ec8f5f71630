-- What is left of the items that were sent.
use Rattle.std.proofs.Common.{◌≡◌, List, [], ◌∷◌, ◌++◌, length, drop, sym, ap, ◌∙◌, refl, Option, None, Some, MatchOption, append-nil, append_assoc}

module _ {T : Type 0} where
  pub drop_all : (xs ys : List T) → drop (length xs) (xs ++ ys) ≡ ys
  drop_all [] ys = refl
  drop_all (x ∷ xs) ys = drop_all xs ys

  -- what is left is what stands behind the acknowledged ones
  pub rest_of : (sent acked left : List T) → sent ≡ acked ++ left → drop (length acked) sent ≡ left
  rest_of sent acked left e = ap (drop (length acked)) e ∙ drop_all acked left

  pub all_acked : (sent acked : List T) → sent ≡ acked ++ drop (length acked) sent
      → drop (length acked) sent ≡ [] → sent ≡ acked
  all_acked sent acked e none = e ∙ ap (λ l. acked ++ l) none ∙ append-nil acked

  -- an item that is taken is left
  pub none_taken : (sent acked : List T) (item : Option T)
      → MatchOption item (Unit {0}) (λ x. (others : List T) × (sent ≡ acked ++ x ∷ others))
      → drop (length acked) sent ≡ [] → item ≡ None
  none_taken sent acked None h e = refl
  none_taken sent acked (Some x) h e = absurd (let z : [] ≡ x ∷ h.0 = sym e ∙ rest_of sent acked (x ∷ h.0) h.1 in cc)

  pub behind_acked : (sent acked left : List T) → sent ≡ acked ++ left → sent ≡ acked ++ drop (length acked) sent
  behind_acked sent acked left e = e ∙ ap (λ l. acked ++ l) (sym (rest_of sent acked left e))

  pub first_sent : (sent acked left : List T) (taken : Option T) → sent ≡ acked ++ left
      → MatchOption taken (Unit {0}) (λ x. (others : List T) × (left ≡ x ∷ others))
      → MatchOption taken (Unit {0}) (λ x. (others : List T) × (sent ≡ acked ++ x ∷ others))
  first_sent sent acked left None e h = tt
  first_sent sent acked left (Some x) e h = (h.0, e ∙ ap (λ l. acked ++ l) h.1)

  -- one more is handed out
  pub next_rest : (sent acked others : List T) (x : T) → sent ≡ acked ++ x ∷ others
      → sent ≡ (acked ++ x ∷ []) ++ others
  next_rest sent acked others x e = e ∙ sym (append_assoc acked (x ∷ []) others)
