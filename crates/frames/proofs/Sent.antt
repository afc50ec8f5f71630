-- What was sent of a list, and what is left.
use Rattle.std.proofs.Common.{◌≡◌, ℕ, ◌-◌, List, ◌++◌, length, take, drop, sym, ap, ◌∙◌, append_assoc}
use Rattle.std.proofs.lemmas.List.{take-append-drop, take_rest}

-- n bytes more, in the form in which `&rest[n..]` is given
pub sent_more : (all sent rest : List ℕ) (n : ℕ) → all ≡ sent ++ rest → all ≡ (sent ++ take n rest) ++ take (length rest - n) (drop n rest)
sent_more all sent rest n p =
    p ∙ ap (λ x. sent ++ x) (sym (take-append-drop n rest)) ∙ sym (append_assoc sent (take n rest) (drop n rest)) ∙ ap (λ x. (sent ++ take n rest) ++ x) (sym (take_rest rest n))
