-- All inverses of a list are put back, the last of them first, and each leaves what settles the row that went.
--     IsUndone      tables in which these were put back
--     next_can, next_undone      the one before them can be, and then it was too
--     one_more      one more of a list, in place
--     vacated      the rows that went are settled then
use Rattle.std.specs.Prelude.{◌≡◌, ℕ, ◌+◌, ◌<◌, ◌≤◌, get_or, List, [], ◌∷◌, ◌++◌, Some, length, map, take, drop, refl}
use Rattle.std.proofs.Common.{zero, suc, sym, ◌∙◌, ap, subst, arith, append_assoc}
use Rattle.std.proofs.Math.ListN.{set}
use Rattle.std.proofs.lemmas.List.{take-append-drop, take_more, length-set, take-set, drop-set}
use Rattle.model.specs.declared.row.Row.{Row}
use Rattle.model.specs.declared.cell.Cell.{Cell}
use Rattle.model.specs.Rows.{Rows, Schema}
use Rattle.model.specs.Effect.{back, all_back}
use Rattle.indexes.specs.Content.{Content, KeepsCells}
use Rattle.change.specs.declared.inverse.Inverse.{Inverse}
use Rattle.change.specs.declared.inverse.Inverse.TheVariants.{Take, Put, Replace, Move, Unwipe}
use Rattle.change.specs.Inverse.{edits_of, room_back, IsKnown, CanPutBack}
use Rattle.change.specs.InverseLemmas.{room_back_keeps, CanPutBack_keeps}
use Rattle.change.specs.Turned.{IsTurned}
use Rattle.undo.specs.Undo.{content_undone, CanUndo, AreKnownAll, IsReleased, IsSettled, AreSettled}
use Rattle.undo.specs.UndoLemmas.{rows_undone, schema_undone, CanUndo_both}
use Rattle.undo.specs.Turned.{AreTurned}
use Rattle.undo.specs.Vacated.{IsVacated, AreVacated}

-- the tables in which these were put back, and perhaps more room
pub record IsUndone (old new : Content) (is : List Inverse) : Type 0 where
  pub schema : new.schema ≡ old.schema
  pub rows : new.rows ≡ (content_undone old is).rows
  pub room : KeepsCells (content_undone old is).room new.room

pub undone_none : (t : Content) → IsUndone t t []
undone_none t = record { schema = refl; rows = refl; room = λ cell there. there }

module _ (old t : Content) (before : List Inverse) (i : Inverse) (after : List Inverse) (can : CanUndo old (before ++ i ∷ after)) (undone : IsUndone old t after) where
  can_here : CanUndo old (i ∷ after)
  can_here = (CanUndo_both old before (i ∷ after) can).0

  -- the one before them can be put back
  pub next_can : CanPutBack t i
  next_can = CanPutBack_keeps (content_undone old after) t i (schema_undone old after ∙ sym undone.schema) (sym undone.rows) undone.room can_here.1

  -- and then it was too
  pub next_undone : (new : Content) → new.schema ≡ t.schema → new.rows ≡ back t.rows (edits_of i) → KeepsCells (room_back t.room i) new.room → IsUndone old new (i ∷ after)
  next_undone new schema rows room = record {
    schema = schema ∙ undone.schema;
    rows = rows ∙ ap (λ (r : Rows). back r (edits_of i)) undone.rows;
    room = λ cell there. room cell (room_back_keeps (content_undone old after).room t.room i undone.room cell there);
  }

  pub next_turned : (js : List Inverse) (j : Inverse) → IsTurned t.rows i j → AreTurned old.rows after js → AreTurned old.rows (i ∷ after) (j ∷ js)
  next_turned js j turned rest = (subst (λ (r : Rows). IsTurned r i j) (undone.rows ∙ rows_undone old after) turned, rest)

-- ---- in place

drop_front : {X : Type 0} (n : ℕ) (xs ys : List X) → n ≤ length xs → drop n (take n xs ++ ys) ≡ ys
drop_front zero xs ys below = refl
drop_front (suc n) [] ys below = absurd (omega (arith, below))
drop_front (suc n) (x ∷ xs) ys below = drop_front n xs ys (omega (arith, below))

take_front : {X : Type 0} (n : ℕ) (xs ys : List X) → n ≤ length xs → take n (take n xs ++ ys) ≡ take n xs
take_front zero xs ys below = refl
take_front (suc n) [] ys below = absurd (omega (arith, below))
take_front {X} (suc n) (x ∷ xs) ys below = ap (λ (l : List X). x ∷ l) (take_front n xs ys (omega (arith, below)))

-- the inverses of a list past the first so many were put back, and each became what settles the row that went
pub record AreTurnedPast (old t : Content) (all now : List Inverse) (left : ℕ) : Type 0 where
  pub within : left ≤ length now
  pub same_length : length now ≡ length all
  pub front : take left now ≡ take left all
  pub undone : IsUndone old t (drop left all)
  pub known : AreKnownAll old.schema (drop left now)
  pub turned : AreTurned old.rows (drop left all) (drop left now)

module _ (old t : Content) (all now : List Inverse) (can : CanUndo old all) (left : ℕ) (far : AreTurnedPast old t all now (left + 1)) (i : Inverse) (at : i ≡ get_or now left i) where
  below : left < length now
  below = omega (arith, far.within)

  split : all ≡ take left now ++ i ∷ drop (left + 1) all
  split =
      sym (take-append-drop (left + 1) all) ∙ ap (λ (l : List Inverse). l ++ drop (left + 1) all) (sym far.front ∙ take_more now left i below)
      ∙ append_assoc (take left now) (get_or now left i ∷ []) (drop (left + 1) all)
      ∙ ap (λ (x : Inverse). take left now ++ x ∷ drop (left + 1) all) (sym at)

  can_all : CanUndo old (take left now ++ i ∷ drop (left + 1) all)
  can_all = subst (CanUndo old) split can

  -- the next can be put back
  pub this_can : CanPutBack t i
  this_can = next_can old t (take left now) i (drop (left + 1) all) can_all far.undone

  behind : drop left all ≡ i ∷ drop (left + 1) all
  behind = ap (drop left) split ∙ drop_front left now (i ∷ drop (left + 1) all) (omega (arith, far.within))

  -- and then it was too
  pub one_more : (new : Content) (j : Inverse) → new.schema ≡ t.schema → new.rows ≡ back t.rows (edits_of i) → KeepsCells (room_back t.room i) new.room → IsKnown t.schema j → IsTurned t.rows i j
      → AreTurnedPast old new all (set now left j) left
  one_more new j schema rows room known turned = record {
    within = omega (arith, far.within, length-set now left j);
    same_length = length-set now left j ∙ far.same_length;
    front = take-set now left j ∙ sym (ap (take left) split ∙ take_front left now (i ∷ drop (left + 1) all) (omega (arith, far.within)));
    undone = subst (IsUndone old new) (sym behind) (next_undone old t (take left now) i (drop (left + 1) all) can_all far.undone new schema rows room);
    known = subst (AreKnownAll old.schema) (sym (drop-set now left j below)) (subst (λ (s : Schema). IsKnown s j) far.undone.schema known, far.known);
    turned =
        subst (λ (is : List Inverse). AreTurned old.rows is (drop left (set now left j))) (sym behind)
        (subst (AreTurned old.rows (i ∷ drop (left + 1) all)) (sym (drop-set now left j below))
        (next_turned old t (take left now) i (drop (left + 1) all) can_all far.undone (drop (left + 1) now) j turned far.turned));
  }

-- ---- what is settled then

same_some : (x y : Row) → Some x ≡ Some y → x ≡ y
same_some x y e = cc

module _ (schema : Schema) (now : Rows) (room : List Cell) where
  vacated_one : (before : Rows) (i j : Inverse) → IsTurned before i j → IsSettled schema now room j → IsVacated schema before now room i
  vacated_one before (Take table key) j turned settled =
      λ row at.
      subst (λ (r : Row). IsReleased schema now room table key r) (same_some turned.0 row (sym turned.1 ∙ at))
      (subst (λ (k : Inverse). IsSettled schema now room k) turned.2 settled)
  vacated_one before (Put table key row) j turned settled = tt
  vacated_one before (Replace table key row) j turned settled =
      λ gone at.
      subst (λ (r : Row). IsReleased schema now room table key r) (same_some turned.0 gone (sym turned.1 ∙ at))
      (subst (λ (k : Inverse). IsSettled schema now room k) turned.2 settled)
  vacated_one before (Move table keys row) j turned settled =
      λ gone at.
      subst (λ (r : Row). IsReleased schema now room table keys.value.new_key r) (same_some turned.0 gone (sym turned.1 ∙ at))
      (subst (λ (k : Inverse). IsSettled schema now room k) turned.2 settled)
  vacated_one before (Unwipe wiped) j turned settled = tt

  pub vacated : (before : Rows) (is js : List Inverse) → AreTurned before is js → AreSettled schema now room js → AreVacated schema before now room is
  vacated before [] js turned settled = tt
  vacated before (i ∷ is) [] turned settled = absurd turned
  vacated before (i ∷ is) (j ∷ js) turned settled =
      (vacated_one (all_back before (map edits_of is)) i j turned.0 settled.0, vacated before is js turned.1 settled.1)
