-- What look-ups of a place and of its table tell of what is to lie beside the place, and where its committed row is found.
use Rattle.std.specs.Prelude.{◌≡◌, ◌&&◌, ℕ, true, false, List, [], ◌∷◌, ◌++◌, Option, Some, None, Result, Ok, Err, IfSome, IfNone, IfOk, OnOk, OnErr, All, is_some, refl}
use Rattle.std.proofs.Common.{sym, ◌∙◌, ap, subst, inl, inr, true≢false}
use Rattle.std.specs.List.{Contains}
use Rattle.std.specs.Map.{keys_of}
use Rattle.std.specs.Cmp.{eq_by_cmp_equiv}
use Rattle.std.specs.Iterator.{Yields}
use Rattle.std.specs.Vec.Iter.{into_iter_items, into_iter_steps}
use Rattle.std.specs.declared.vec.IntoIter.{IntoIter}
use Rattle.std.proofs.lemmas.Bool.{eq-eqb}
use Rattle.std.proofs.lemmas.List.{map-append}
use Rattle.std.proofs.lemmas.List.Elements.{All-contains, Contains-append_right, Contains-append_cases}
use Rattle.model.specs.declared.key.Key.{Key}
use Rattle.model.specs.declared.row.Row.{Row as RecordRow}
use Rattle.model.specs.declared.cell.Cell.{Cell}
use Rattle.model.specs.declared.cell.Cell.TheVariants.{Row, Whole}
use Rattle.model.specs.Key.{key_cmp_total}
use Rattle.model.specs.Rows.{Place}
use Rattle.model.specs.Cells.{same_key, overlaps}
use Rattle.change.specs.InverseLemmas.{contains_here, contains_one}
use Rattle.keyholds.specs.Holds.{IsFreeCell}
use Rattle.world.specs.ListingLemmas.{xid_cases}
use Rattle.live_tables.specs.declared.before_image.BeforeImage.{BeforeImage}
use Rattle.live_tables.specs.BeforeImages.{IsToStand, AreToStand, BeforeImageFits, HasNoRowBeside}
use Rattle.live_tables.specs.UnheldLemmas.{whole_overlaps}

-- ---- what a look-up answers

pub some_is : {T : Type 0} (o : Option T) (P : T → Type 0) → IfSome o P → is_some o ≡ true → (x : T) × P x
some_is None P h e = absurd cc
some_is (Some x) P h e = (x, h)

pub none_is : {T : Type 0} (o : Option T) (P : Type 0) → IfNone o P → is_some o ≡ false → P
none_is None P h e = h
none_is (Some x) P h e = absurd cc

pub if_ok : {T E : Type 0} (r : Result T E) (P Q : T → Type 0) → IfOk r P → ((x : T) → P x → Q x) → IfOk r Q
if_ok (Ok x) P Q h f = f x h
if_ok (Err e) P Q h f = tt

pub on_ok : {T E : Type 0} (r : Result T E) (P Q : Type 0) → OnOk r P → (P → Q) → OnOk r Q
on_ok (Ok x) P Q h f = f h
on_ok (Err e) P Q h f = tt

pub on_err : {T E : Type 0} (r : Result T E) (P : Type 0) → P → OnErr r P
on_err (Ok x) P h = tt
on_err (Err e) P h = h

pub map_err : {T E : Type 0} (r : Result T E) (P Q : Type 0) → OnErr r P → (P → Q) → OnErr r Q
map_err (Ok x) P Q h f = tt
map_err (Err e) P Q h f = f h

-- ---- a place that is free for a transaction

row_itself : (table : ℕ) (key : Key) → overlaps (Row table key) (Row table key) ≡ true
row_itself table key = ap (λ b. b && same_key key key) (eq-eqb table table refl) ∙ (eq_by_cmp_equiv key_cmp_total).refl key

module _ (held : ℕ → List Cell) (xid table : ℕ) (key : Key) (free : IsFreeCell held xid (Row table key)) where
  -- whoever holds it is that one
  own_place : (other : ℕ) → Contains (held other) (Row table key) → other ≡ xid
  own_place other has =
      elim (xid_cases other xid) [
        | inl same ↦ same
        | inr differs ↦ absurd (true≢false (sym (row_itself table key) ∙ free other (Row table key) differs has))
      ]

  -- and so is who holds its table as a whole
  own_table : (other : ℕ) → Contains (held other) (Whole table) → other ≡ xid
  own_table other has =
      elim (xid_cases other xid) [
        | inl same ↦ same
        | inr differs ↦ absurd (true≢false (sym (whole_overlaps table key) ∙ free other (Whole table) differs has))
      ]

  pub held_by_itself : (other : ℕ) → Contains (held other) (Row table key) → Contains (held xid) (Row table key)
  held_by_itself other has = subst (λ (n : ℕ). Contains (held n) (Row table key)) (own_place other has) has

  pub table_by_itself : (other : ℕ) → Contains (held other) (Whole table) → Contains (held xid) (Whole table)
  table_by_itself other has = subst (λ (n : ℕ). Contains (held n) (Whole table)) (own_table other has) has

-- ---- where the committed row is found

-- nothing lies beside the place, and nobody holds its table as a whole: nobody holds it
pub nobody_holds : (held : ℕ → List (Cell × BeforeImage)) (table : ℕ) (key : Key) → BeforeImageFits held → HasNoRowBeside held table key
    → ((xid : ℕ) → ¬ Contains (keys_of (held xid)) (Whole table)) → (xid : ℕ) → ¬ Contains (keys_of (held xid)) (Row table key)
nobody_holds held table key fits (inl none) no_table = none
nobody_holds held table key fits (inr there) no_table = absurd (no_table there.0 (fits.emptied there.0 table key there.1))

-- ---- the cells of a change, one after another

-- what the iterator of a vector has given is a front of its items
pub taken_front : {X A : Type 0} (s : IntoIter X A) (xs : List X) (t : IntoIter X A) → Yields into_iter_steps s xs t → into_iter_items s ≡ xs ++ into_iter_items t
taken_front s [] t y = ap into_iter_items y
taken_front s (x ∷ xs) t y = y.1.0 ∙ ap (λ ys. x ∷ ys) (taken_front y.0 xs t y.2)

pub among : {X : Type 0} (xs before after : List X) (x : X) → xs ≡ before ++ x ∷ after → Contains xs x
among xs before after x is = subst (λ ys. Contains ys x) (sym is) (Contains-append_right before (x ∷ after) x (contains_here x after))

pub cells_more : (more new : List (Cell × BeforeImage)) (cell : Cell) (before_image : BeforeImage) (before : List Cell) → new ≡ more ++ (cell, before_image) ∷ [] → keys_of more ≡ before
    → keys_of new ≡ before ++ cell ∷ []
cells_more more new cell before_image before is was =
    ap keys_of is ∙ map-append (λ (h : Cell × BeforeImage). h.0) more ((cell, before_image) ∷ []) ∙ ap (λ cs. cs ++ cell ∷ []) was

module _ (before : Place → Option RecordRow) (count : ℕ) (held : ℕ → List Cell) where
  -- each cell so far has beside it what is to lie there, for whom they are free
  abbrev pub AreSoFar : List Cell → List (Cell × BeforeImage) → Type 0
  AreSoFar cells more = (xid : ℕ) → All (IsFreeCell held xid) cells → AreToStand before count (held xid) more

  pub one_more : (cells : List Cell) (more new : List (Cell × BeforeImage)) (cell : Cell) (before_image : BeforeImage) → AreSoFar cells more → Contains cells cell
      → ((xid : ℕ) → IsFreeCell held xid cell → (Contains (held xid) cell → ⊥) → IsToStand before count (held xid) cell before_image)
      → new ≡ more ++ (cell, before_image) ∷ [] → AreSoFar cells new
  one_more cells more new cell before_image had its here is xid free c s has fresh =
      elim (Contains-append_cases more ((cell, before_image) ∷ []) (c, s) (subst (λ (hs : List (Cell × BeforeImage)). Contains hs (c, s)) is has)) [
        | inl old ↦ had xid free c s old fresh
        | inr new ↦
            let same = contains_one (cell, before_image) (c, s) new in
            let to : IsToStand before count (held xid) cell before_image =
            here xid (All-contains (IsFreeCell held xid) cells cell free its)
            (subst (λ (d : Cell). ¬ Contains (held xid) d) (sym (ap (λ (h : Cell × BeforeImage). h.0) same)) fresh) in
            subst (λ (h : Cell × BeforeImage). IsToStand before count (held xid) h.0 h.1) same to
      ]
