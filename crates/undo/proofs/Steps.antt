-- One inverse is put back, the newest.
use Rattle.std.specs.Prelude.{◌≡◌, ◌≢◌, ℕ, ◌+◌, ◌≤◌, ◌<◌, ◌⊎◌, get_or, Contains, List, [], ◌∷◌, ◌++◌, Option, Some, map, length, take, drop, option_to_list}
use Rattle.std.proofs.Common.{zero, suc, refl, sym, ◌∙◌, ap, subst, arith, inl, inr, add-one, drop-cons, take-suc}
use Rattle.std.proofs.lemmas.List.Elements.{Contains-append_left, Contains-append_right, Contains-append_cases, Contains-push}
use Rattle.model.specs.declared.key.Key.{Key}
use Rattle.model.specs.declared.row.Row.{Row}
use Rattle.model.specs.declared.cell.Cell.{Cell}
use Rattle.model.specs.Rows.{Rows, Schema}
use Rattle.model.specs.Effect.{Edits, back, all_back}
use Rattle.model.specs.EffectLemmas.{all_back_append}
use Rattle.indexes.specs.Content.{Content, KeepsCells}
use Rattle.change.specs.declared.inverse.Inverse.{Inverse}
use Rattle.change.specs.declared.inverse.Inverse.TheVariants.{Take, Put, Replace, Move, Unwipe}
use Rattle.change.specs.Inverse.{edits_of, room_back, IsKnown, CanPutBack}
use Rattle.undo.specs.Undo.{content_back, content_undone, CanUndo, AreKnownAll, cells_settled, all_settled, IsReleased, IsSettled, AreSettled}
use Rattle.undo.specs.UndoLemmas.{content_undone_last, CanUndo_last, CanUndo_keeps, room_undone_keeps}

pub drop_last : {X : Type 0} (xs : List X) (x : X) (n : ℕ) → n ≤ length xs → drop n (xs ++ x ∷ []) ≡ drop n xs ++ x ∷ []
drop_last xs x zero below = refl
drop_last [] x (suc n) below = absurd (omega arith)
drop_last (y ∷ xs) x (suc n) below = drop_last xs x n (omega arith)

pub take_last : {X : Type 0} (xs : List X) (x : X) (n : ℕ) → n ≤ length xs → take n (xs ++ x ∷ []) ≡ take n xs
take_last xs x zero below = refl
take_last [] x (suc n) below = absurd (omega arith)
take_last (y ∷ xs) x (suc n) below = ap (λ (l : List _). y ∷ l) (take_last xs x n (omega arith))

pub edits_last : (is : List Inverse) (i : Inverse) → map edits_of (is ++ i ∷ []) ≡ map edits_of is ++ edits_of i ∷ []
edits_last [] i = refl
edits_last (first ∷ is) i = ap (λ (es : List Edits). edits_of first ∷ es) (edits_last is i)

module _ (t new : Content) (all rest : List Inverse) (i : Inverse) (mark : ℕ) (split : all ≡ rest ++ i ∷ []) (below : mark ≤ length rest) (can : CanUndo t (drop mark all)) where
  since : drop mark all ≡ drop mark rest ++ i ∷ []
  since = ap (drop mark) split ∙ drop_last rest i mark below

  parted : CanPutBack t i × CanUndo (content_back t i) (drop mark rest)
  parted = CanUndo_last t (drop mark rest) i (subst (CanUndo t) since can)

  pub newest_can : CanPutBack t i
  newest_can = parted.0

  module _ (schema : new.schema ≡ t.schema) (rows : new.rows ≡ back t.rows (edits_of i)) (room : KeepsCells (room_back t.room i) new.room) where
    pub left_can : CanUndo new (drop mark rest)
    left_can = CanUndo_keeps (content_back t i) new (sym schema) (sym rows) room (drop mark rest) parted.1

    pub left_rows : all_back new.rows (map edits_of (drop mark rest)) ≡ all_back t.rows (map edits_of (drop mark all))
    left_rows =
        ap (λ (r : Rows). all_back r (map edits_of (drop mark rest))) rows
        ∙ sym (all_back_append t.rows (map edits_of (drop mark rest)) (edits_of i ∷ []))
        ∙ ap (all_back t.rows) (sym (edits_last (drop mark rest) i))
        ∙ ap (λ (is : List Inverse). all_back t.rows (map edits_of is)) (sym since)

    pub left_room : KeepsCells (content_undone t (drop mark all)).room (content_undone new (drop mark rest)).room
    left_room =
        subst (λ (u : Content). KeepsCells u.room (content_undone new (drop mark rest)).room)
        (sym (ap (content_undone t) since ∙ content_undone_last t (drop mark rest) i))
        (room_undone_keeps (content_back t i) new (sym schema) (sym rows) room (drop mark rest))

  pub left_same : take mark rest ≡ take mark all
  left_same = sym (ap (take mark) split ∙ take_last rest i mark below)

-- the list before its last element was taken
pub last_of : {X : Type 0} (all rest : List X) (last : X) (popped : Option X) → popped ≡ Some last → all ≡ rest ++ option_to_list popped → all ≡ rest ++ last ∷ []
last_of all rest last popped is split = split ∙ ap (λ o. rest ++ option_to_list o) is

-- ---- settling

not_first : {X : Type 0} (x y : X) (xs : List X) → ¬ Contains (x ∷ xs) y → ¬ (y ≡ x)
not_first {X = X} x y xs none is = none (subst (λ (z : X). Contains (x ∷ xs) z) (sym is) (Contains-append_left (x ∷ []) xs x (Contains-push [] x)))

not_later : {X : Type 0} (x y : X) (xs : List X) → ¬ Contains (x ∷ xs) y → ¬ Contains xs y
not_later x y xs none is = none (Contains-append_right (x ∷ []) xs y is)

-- a cell that is none of the row's and not its key's stays
pub stays : (old new : List Cell) (cells : List Cell) (own : Cell)
    → ((c : Cell) → ¬ Contains cells c → c ≢ own → Contains old c → Contains new c)
    → (c : Cell) → ¬ Contains (own ∷ cells) c → Contains old c → Contains new c
stays old new cells own settled c none is = settled c (not_later own c cells none) (not_first own c cells none) is

pub known_at : (schema : Schema) (is : List Inverse) (i : ℕ) (d : Inverse) → i < length is → AreKnownAll schema (drop i is) → IsKnown schema (get_or is i d) × AreKnownAll schema (drop (i + 1) is)
known_at schema is i d below known =
    let parts : AreKnownAll schema (get_or is i d ∷ drop (suc i) is) = subst (AreKnownAll schema) (drop-cons is i d below) known in
    (parts.0, subst (λ n. AreKnownAll schema (drop n is)) (sym (add-one i)) parts.1)

settled_last : (schema : Schema) (is : List Inverse) (i : Inverse) (c : Cell) → Contains (all_settled schema is) c ⊎ Contains (cells_settled schema i) c → Contains (all_settled schema (is ++ i ∷ [])) c
settled_last schema [] i c (inl none) = absurd (omega (arith, none.1))
settled_last schema [] i c (inr here) = Contains-append_left (cells_settled schema i) [] c here
settled_last schema (first ∷ is) i c (inl sooner) =
    elim (Contains-append_cases (cells_settled schema first) (all_settled schema is) c sooner) [
      | inl in_first ↦ Contains-append_left (cells_settled schema first) (all_settled schema (is ++ i ∷ [])) c in_first
      | inr in_rest ↦ Contains-append_right (cells_settled schema first) (all_settled schema (is ++ i ∷ [])) c (settled_last schema is i c (inl in_rest))
    ]
settled_last schema (first ∷ is) i c (inr here) = Contains-append_right (cells_settled schema first) (all_settled schema (is ++ i ∷ [])) c (settled_last schema is i c (inr here))

-- what all of these and one more give up
pub more_settled : (schema : Schema) (is : List Inverse) (i : ℕ) (d : Inverse) → i < length is → (c : Cell)
    → ¬ Contains (all_settled schema (take (i + 1) is)) c → ¬ Contains (all_settled schema (take i is)) c × ¬ Contains (cells_settled schema (get_or is i d)) c
more_settled schema is i d below c none =
    let split : take (i + 1) is ≡ take i is ++ get_or is i d ∷ [] = ap (λ n. take n is) (add-one i) ∙ take-suc is i d below in
    let free : ¬ Contains (all_settled schema (take i is ++ get_or is i d ∷ [])) c = subst (λ (l : List Inverse). ¬ Contains (all_settled schema l) c) split none in
    ((λ sooner. free (settled_last schema (take i is) (get_or is i d) c (inl sooner))), (λ here. free (settled_last schema (take i is) (get_or is i d) c (inr here))))

-- what is given up stays so in less room
module _ (schema : Schema) (rows : Rows) (room less : List Cell) (fewer : KeepsCells less room) where
  released_in_less : (table : ℕ) (key : Key) (row : Row) → IsReleased schema rows room table key row → IsReleased schema rows less table key row
  released_in_less table key row given = record {
    slot = λ free there. given.slot free (fewer _ there);
    values = λ i columns values at has none there. given.values i columns values at has none (fewer _ there);
  }

  settled_in_less : (i : Inverse) → IsSettled schema rows room i → IsSettled schema rows less i
  settled_in_less (Take table key) given = tt
  settled_in_less (Put table key row) given = released_in_less table key row given
  settled_in_less (Replace table key row) given = released_in_less table key row given
  settled_in_less (Move table keys row) given = released_in_less table keys.value.key row given
  settled_in_less (Unwipe wiped) given = tt

  pub all_settled_in_less : (is : List Inverse) → AreSettled schema rows room is → AreSettled schema rows less is
  all_settled_in_less [] given = tt
  all_settled_in_less (i ∷ is) given = (settled_in_less i given.0, all_settled_in_less is given.1)

module _ (schema : Schema) (rows : Rows) (room : List Cell) where
  are_settled_last : (is : List Inverse) (i : Inverse) → AreSettled schema rows room is → IsSettled schema rows room i → AreSettled schema rows room (is ++ i ∷ [])
  are_settled_last [] i given here = (here, tt)
  are_settled_last (first ∷ is) i given here = (given.0, are_settled_last is i given.1 here)

  -- these and one more
  pub one_more_settled : (is : List Inverse) (i : ℕ) (d : Inverse) → i < length is → AreSettled schema rows room (take i is) → IsSettled schema rows room (get_or is i d)
      → AreSettled schema rows room (take (i + 1) is)
  one_more_settled is i d below given here =
      let split : take (i + 1) is ≡ take i is ++ get_or is i d ∷ [] = ap (λ n. take n is) (add-one i) ∙ take-suc is i d below in
      subst (AreSettled schema rows room) (sym split) (are_settled_last (take i is) (get_or is i d) given here)
