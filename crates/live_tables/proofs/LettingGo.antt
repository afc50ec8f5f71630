-- Cells are let go one after another, the last first; what the tables have given up on the way.
--     IsLeftOf      of what was held at the start the first are left
--     all_left, one_less_left, first_left      at the start; one goes; once no more than a mark says are left
--     none_released, one_more_released, all_released      what was given up by then
--     IsUnderWay, begun, goes_on, at_end      both, for all transactions
--     alone_released, held_stays      one cell is given up; it stays where one that is held overlaps it
use Rattle.std.proofs.Common.{◌≡◌, ◌≢◌, ℕ, ◌+◌, ◌≤◌, ◌⊎◌, true, false, List, [], ◌∷◌, ◌++◌, length, take, Some, refl, sym, ap, subst, ◌∙◌, inl, inr, arith, true≢false, append-nil, length-append}
use Rattle.std.specs.Prelude.{slice_get}
use Rattle.std.specs.List.{Contains, list_any}
use Rattle.std.specs.Map.{keys_of}
use Rattle.std.proofs.Math.Seq.{take-append_seam}
use Rattle.std.proofs.lemmas.List.{take_all, map-append}
use Rattle.std.proofs.lemmas.Option.{slice_get_within}
use Rattle.std.proofs.lemmas.Map.Entries.{length-keys_of}
use Rattle.model.specs.declared.cell.Cell.{Cell}
use Rattle.model.specs.Cells.{overlaps}
use Rattle.model.specs.Rows.{Rows, Schema}
use Rattle.indexes.specs.Content.{Content, IsEmptyCell, ReleasesCell}
use Rattle.change.specs.InverseLemmas.{contains_here, contains_one}
use Rattle.keyholds.specs.Holds.{ReleasesLast}
use Rattle.undo.specs.OthersLemmas.{among}
use Rattle.world.specs.ListingLemmas.{xid_cases}
use Rattle.live_tables.specs.declared.before_image.BeforeImage.{BeforeImage}
use Rattle.live_tables.specs.Released.{IsLetGo, IsAlone, HasReleased}

-- of what was held at the start the first are left, and no fewer than a mark says
pub record IsLeftOf (mark : ℕ) (start held : List (Cell × BeforeImage)) : Type 0 where
  pub rest : List (Cell × BeforeImage)
  pub is : start ≡ held ++ rest
  pub far : (mark ≤ length held) ⊎ (held ≡ start)

all_left : (mark : ℕ) (start : List (Cell × BeforeImage)) → IsLeftOf mark start start
all_left mark start = record { rest = []; is = sym (append-nil start); far = inr refl }

seam : {X : Type 0} (xs : List X) (y : X) (ys : List X) → (xs ++ y ∷ []) ++ ys ≡ xs ++ y ∷ ys
seam [] y ys = refl
seam (x ∷ xs) y ys = ap (λ l. x ∷ l) (seam xs y ys)

at_seam : {X : Type 0} (xs : List X) (y : X) (ys : List X) → slice_get (xs ++ y ∷ ys) (length xs) ≡ Some y
at_seam [] y ys = refl
at_seam (x ∷ xs) y ys = at_seam xs y ys

one_less_left : (mark : ℕ) (start held left : List (Cell × BeforeImage)) (last : Cell × BeforeImage) → held ≡ left ++ last ∷ [] → mark ≤ length left
    → IsLeftOf mark start held → IsLeftOf mark start left
one_less_left mark start held left last same far was = record {
  rest = last ∷ was.rest;
  is = was.is ∙ ap (λ (h : List (Cell × BeforeImage)). h ++ was.rest) same ∙ seam left last was.rest;
  far = inl far;
}

-- no more than a mark says are left: they are those up to it
first_left : (mark : ℕ) (start held : List (Cell × BeforeImage)) → IsLeftOf mark start held → length held ≤ mark → held ≡ take mark start
first_left mark start held was within =
    elim was.far [
      | inl far ↦
          let same : mark ≡ length held = omega (arith, within, far) in
          sym (take-append_seam held was.rest) ∙ ap (take (length held)) (sym was.is) ∙ ap (λ (n : ℕ). take n start) (sym same)
      | inr same ↦
          let long : length start ≤ mark = subst (λ (h : List (Cell × BeforeImage)). length h ≤ mark) same within in
          same ∙ sym (take_all mark start long)
    ]

-- ---- what was given up

-- of cells of two kinds that are the same the same is said
given_alike : (Goes Gone : Cell → Type 0) (old new : Content) → ((cell : Cell) → Goes cell → Gone cell) → ((cell : Cell) → Gone cell → Goes cell)
    → HasReleased Goes old new → HasReleased Gone old new
given_alike Goes Gone old new there back given = record {
  schema = given.schema;
  rows = given.rows;
  gone = λ cell gone. given.gone cell (back cell gone);
  fewer = given.fewer;
  others = λ cell. elim (given.others cell) [
    | inl stays ↦ inl stays
    | inr goes ↦ inr (there cell goes)
  ];
}

-- cells past a mark are past a lower one
let_go_more : (mark lower : ℕ) (cells : List Cell) → lower ≤ mark → (cell : Cell) → IsLetGo mark cells cell → IsLetGo lower cells cell
let_go_more mark lower cells below cell goes = record { index = goes.index; past = let past = goes.past in omega (arith, below, past); at = goes.at; alone = goes.alone }

-- past the end there is none
none_past : (cells : List Cell) (cell : Cell) → ¬ IsLetGo (length cells) cells cell
none_past cells cell goes = let within = slice_get_within cells goes.index cell goes.at in let past = goes.past in omega (arith, within, past)

none_released : (cells : List Cell) (t : Content) → HasReleased (IsLetGo (length cells) cells) t t
none_released cells t = record {
  schema = refl;
  rows = refl;
  gone = λ cell goes. absurd (none_past cells cell goes);
  fewer = λ cell is. is;
  others = λ cell. inl (λ is. is);
}

module _ (front : List Cell) (last : Cell) (behind : List Cell) where
  abbrev cells : List Cell
  cells = front ++ last ∷ behind

  -- the last of them is let go, if none before overlaps it
  alone_goes : (cell : Cell) → IsAlone front last cell → IsLetGo (length front) cells cell
  alone_goes cell alone = record {
    index = length front;
    past = omega arith;
    at = at_seam front last behind ∙ ap Some (sym alone.0);
    alone = ap (list_any (overlaps cell)) (take-append_seam front (last ∷ behind)) ∙ alone.1;
  }

  -- what is let go from there on is the last, or was let go before
  goes_here : (cell : Cell) → IsLetGo (length front) cells cell → IsAlone front last cell ⊎ IsLetGo (length front + 1) cells cell
  goes_here cell goes =
      elim (xid_cases goes.index (length front)) [
        | inl same ↦
            inl (
              let found : Some last ≡ Some cell = sym (at_seam front last behind) ∙ ap (slice_get cells) (sym same) ∙ goes.at in cc,
              ap (list_any (overlaps cell)) (sym (take-append_seam front (last ∷ behind))) ∙ ap (λ (n : ℕ). list_any (overlaps cell) (take n cells)) (sym same) ∙ goes.alone,
            )
        | inr differs ↦ inr (record { index = goes.index; past = let past = goes.past in omega (arith, past, differs); at = goes.at; alone = goes.alone })
      ]

  one_released : (first t new : Content) → HasReleased (IsLetGo (length front + 1) cells) first t → HasReleased (IsAlone front last) t new
      → HasReleased (IsLetGo (length front) cells) first new
  one_released first t new was gives = record {
    schema = gives.schema ∙ was.schema;
    rows = gives.rows ∙ was.rows;
    gone = λ cell goes empty.
        elim (goes_here cell goes) [
          | inl alone ↦
              gives.gone cell alone
              (subst (λ (s : Schema). IsEmptyCell s t.rows cell) (sym was.schema) (subst (λ (r : Rows). IsEmptyCell first.schema r cell) (sym was.rows) empty))
          | inr before ↦ λ is. was.gone cell before empty (gives.fewer cell is)
        ];
    fewer = λ cell is. was.fewer cell (gives.fewer cell is);
    others = λ cell.
        elim (gives.others cell) [
          | inr alone ↦ inr (alone_goes cell alone)
          | inl stays ↦
              elim (was.others cell) [
                | inl stayed ↦ inl (λ is. stays (stayed is))
                | inr goes ↦ inr (let_go_more (length front + 1) (length front) cells (omega arith) cell goes)
              ]
        ];
  }

-- the same in what is held, with what stood there
one_more_released : (mark : ℕ) (start held left : List (Cell × BeforeImage)) (last : Cell) (before_image : BeforeImage) (first t new : Content) → IsLeftOf mark start held
    → held ≡ left ++ (last, before_image) ∷ [] → HasReleased (IsLetGo (length (keys_of held)) (keys_of start)) first t → HasReleased (IsAlone (keys_of left) last) t new
    → HasReleased (IsLetGo (length (keys_of left)) (keys_of start)) first new
one_more_released mark start held left last before_image first t new was same given gives =
    subst (λ (cells : List Cell). HasReleased (IsLetGo (length (keys_of left)) cells) first new) (sym split)
    (one_released (keys_of left) last (keys_of was.rest) first t new
    (subst (λ (n : ℕ). HasReleased (IsLetGo n (keys_of left ++ last ∷ keys_of was.rest)) first t) longer
    (subst (λ (cells : List Cell). HasReleased (IsLetGo (length (keys_of held)) cells) first t) split given)) gives)
  where
    split : keys_of start ≡ keys_of left ++ last ∷ keys_of was.rest
    split =
        ap keys_of (was.is ∙ ap (λ (h : List (Cell × BeforeImage)). h ++ was.rest) same ∙ seam left (last, before_image) was.rest)
        ∙ map-append (λ (h : Cell × BeforeImage). h.0) left ((last, before_image) ∷ was.rest)

    longer : length (keys_of held) ≡ length (keys_of left) + 1
    longer =
        ap (λ (h : List (Cell × BeforeImage)). length (keys_of h)) same ∙ ap length (map-append (λ (h : Cell × BeforeImage). h.0) left ((last, before_image) ∷ []))
        ∙ length-append (keys_of left) (last ∷ [])

-- no more than a mark says are left: those past it were let go
all_released : (mark : ℕ) (start held : List (Cell × BeforeImage)) (first t : Content) → IsLeftOf mark start held → length held ≤ mark
    → HasReleased (IsLetGo (length (keys_of held)) (keys_of start)) first t → HasReleased (IsLetGo mark (keys_of start)) first t
all_released mark start held first t was within given =
    given_alike (IsLetGo (length (keys_of held)) (keys_of start)) (IsLetGo mark (keys_of start)) first t (λ cell goes. there cell goes)
    (let_go_more mark (length (keys_of held)) (keys_of start) (let same = length-keys_of held in omega (arith, same, within))) given
  where
    there : (cell : Cell) → IsLetGo (length (keys_of held)) (keys_of start) cell → IsLetGo mark (keys_of start) cell
    there cell goes =
        elim was.far [
          | inl far ↦ let_go_more (length (keys_of held)) mark (keys_of start) (let same = length-keys_of held in omega (arith, same, far)) cell goes
          | inr all ↦
              absurd (none_past (keys_of start) cell
              (subst (λ (h : List (Cell × BeforeImage)). IsLetGo (length (keys_of h)) (keys_of start) cell) all goes))
        ]

-- ---- all together

-- A transaction lets its cells go: the first of them are left, no other's go, and those that went are given up.
pub record IsUnderWay (mark xid : ℕ) (start held : ℕ → List (Cell × BeforeImage)) (first t : Content) : Type 0 where
  pub left : IsLeftOf mark (start xid) (held xid)
  pub others : (other : ℕ) → other ≢ xid → held other ≡ start other
  pub released : HasReleased (IsLetGo (length (keys_of (held xid))) (keys_of (start xid))) first t

pub begun : (mark xid : ℕ) (start : ℕ → List (Cell × BeforeImage)) (t : Content) → IsUnderWay mark xid start start t t
begun mark xid start t = record {
  left = all_left mark (start xid);
  others = λ other differs. refl;
  released = none_released (keys_of (start xid)) t;
}

pub goes_on : (mark xid : ℕ) (start held next : ℕ → List (Cell × BeforeImage)) (first t new : Content) → IsUnderWay mark xid start held first t
    → (last : Cell) → ReleasesLast mark (held xid) (next xid) (Some last) → ((other : ℕ) → other ≢ xid → next other ≡ held other)
    → HasReleased (IsAlone (keys_of (next xid)) last) t new → IsUnderWay mark xid start next first new
goes_on mark xid start held next first t new was last released beside gives = record {
  left = one_less_left mark (start xid) (held xid) (next xid) (last, released.0) released.1 released.2 was.left;
  others = λ other differs. beside other differs ∙ was.others other differs;
  released = one_more_released mark (start xid) (held xid) (next xid) last released.0 first t new was.left released.1 was.released gives;
}

pub at_end : (mark xid : ℕ) (start held : ℕ → List (Cell × BeforeImage)) (first t : Content) → IsUnderWay mark xid start held first t → length (held xid) ≤ mark
    → (held xid ≡ take mark (start xid)) × HasReleased (IsLetGo mark (keys_of (start xid))) first t
at_end mark xid start held first t was within = (
  first_left mark (start xid) (held xid) was.left within,
  all_released mark (start xid) (held xid) first t was.left within was.released,
)

-- ---- one cell

pub alone_released : (cells : List Cell) (one : Cell) (old new : Content) → list_any (overlaps one) cells ≡ false → ReleasesCell old new one
    → HasReleased (IsAlone cells one) old new
alone_released cells one old new free gives = record {
  schema = gives.schema;
  rows = gives.rows;
  gone = λ cell alone empty is. gives.gone (subst (IsEmptyCell old.schema old.rows) alone.0 empty) (subst (Contains new.room) alone.0 is);
  fewer = gives.fewer;
  others = λ cell.
      elim (among (one ∷ []) cell) [
        | inl is ↦
            let same : cell ≡ one = sym (contains_one one cell is) in
            inr (same, ap (λ (c : Cell). list_any (overlaps c) cells) same ∙ free)
        | inr not ↦ inl (gives.others cell (λ same. not (subst (Contains (one ∷ [])) (sym same) (contains_here one []))))
      ];
}

pub held_stays : (cells : List Cell) (one : Cell) (t : Content) → list_any (overlaps one) cells ≡ true → HasReleased (IsAlone cells one) t t
held_stays cells one t meets = record {
  schema = refl;
  rows = refl;
  gone = λ cell alone. absurd (true≢false (sym meets ∙ ap (λ (c : Cell). list_any (overlaps c) cells) (sym alone.0) ∙ alone.1));
  fewer = λ cell is. is;
  others = λ cell. inl (λ is. is);
}
