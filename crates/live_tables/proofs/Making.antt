-- Holds are made from the items of a record, one after another.
use Rattle.std.proofs.Common.{◌≡◌, ℕ, ◌<◌, ◌+◌, List, [], ◌∷◌, ◌++◌, length, take, drop, sym, ap, subst, ◌∙◌, arith, append-nil}
use Rattle.std.specs.Prelude.{All, IsTrue}
use Rattle.std.proofs.lemmas.List.{take-append-drop}
use Rattle.std.proofs.lemmas.List.Elements.{All-head}
use Rattle.model.specs.declared.change.Change as change_type
use Rattle.model.specs.declared.cell.Cell.{Cell}
use Rattle.model.specs.declared.item.Item.{Item}
use Rattle.model.specs.declared.item.Item.TheVariants.{Change}
use Rattle.model.specs.Named.{NamesTables}
use Rattle.model.specs.Rows.{Rows, Schema}
use Rattle.model.specs.Survivors.{changes_of}
use Rattle.model.specs.SurvivorLemmas.{changes_of_both}
use Rattle.change.specs.declared.inverse.Inverse.{Inverse}
use Rattle.change.specs.Footprint.{looked_row}
use Rattle.undo.specs.LogOf.{IsLogOf}
use Rattle.undo.specs.Next.{next_row, has_next}
use Rattle.live_tables.specs.declared.before_image.BeforeImage.{BeforeImage}
use Rattle.live_tables.specs.NamedLemmas.{changes_at}
use Rattle.live_tables.specs.MadeHolds.{inverse_at, IsSoFar, TakesNext}
use Rattle.live_tables.specs.MadeHoldsLemmas.{made_none, so_far_more, so_far_has}

module _ (items : List Item) (k : ℕ) (item : Item) (behind : drop k items ≡ item ∷ drop (k + 1) items) (more : take (k + 1) items ≡ take k items ++ item ∷ []) where
  whole : items ≡ take k items ++ item ∷ drop (k + 1) items
  whole = sym (take-append-drop k items) ∙ ap (λ (l : List Item). take k items ++ l) behind

  -- the tables of a change among them are there
  pub its_tables : (tables : ℕ) (sub : ℕ) (c : change_type.Change) → item ≡ Change sub c → All (NamesTables tables) (changes_of items) → NamesTables tables c
  its_tables tables sub c is names =
      All-head (NamesTables tables) c []
      (subst (λ (i : Item). All (NamesTables tables) (changes_of (i ∷ []))) is
      (changes_at (NamesTables tables) (take k items) (drop (k + 1) items) item (subst (λ (l : List Item). All (NamesTables tables) (changes_of l)) whole names)))

  changes_so_far : changes_of (take (k + 1) items) ≡ changes_of (take k items) ++ changes_of (item ∷ [])
  changes_so_far = ap changes_of more ∙ changes_of_both (take k items) (item ∷ [])

  module _ (schema : Schema) (committed : Rows) (is : List Inverse) (xid count : ℕ) where
    -- a change comes next
    change_next : (sub : ℕ) (c : change_type.Change) → item ≡ Change sub c → (held : List (Cell × BeforeImage))
        → IsSoFar schema committed (changes_of (take k items)) (changes_of (drop k items)) is count held
        → IsSoFar schema committed (changes_of (take k items)) (c ∷ changes_of (drop (k + 1) items)) is count held
    change_next sub c same held =
        subst (λ (l : List change_type.Change). IsSoFar schema committed (changes_of (take k items)) l is count held)
        (ap changes_of behind ∙ ap (λ (i : Item). changes_of (i ∷ drop (k + 1) items)) same)

    pub has_inverse : (sub : ℕ) (c : change_type.Change) → item ≡ Change sub c → (held : List (Cell × BeforeImage))
        → IsSoFar schema committed (changes_of (take k items)) (changes_of (drop k items)) is count held
        → IsTrue (has_next c (looked_row c (next_row (inverse_at is count)))) → count < length is
    has_inverse sub c same held far = so_far_has schema committed (changes_of (take k items)) c (changes_of (drop (k + 1) items)) is count held (change_next sub c same held far)

    pub change_taken : (sub : ℕ) (c : change_type.Change) → item ≡ Change sub c → (n : ℕ) (old new : ℕ → List (Cell × BeforeImage))
        → IsSoFar schema committed (changes_of (take k items)) (changes_of (drop k items)) is count (old xid)
        → TakesNext schema is xid count c old new n
        → IsSoFar schema committed (changes_of (take (k + 1) items)) (changes_of (drop (k + 1) items)) is n (new xid)
    change_taken sub c same n old new far takes =
        subst (λ (l : List change_type.Change). IsSoFar schema committed l (changes_of (drop (k + 1) items)) is n (new xid))
        (sym (changes_so_far ∙ ap (λ (i : Item). changes_of (take k items) ++ changes_of (i ∷ [])) same))
        (so_far_more schema committed (changes_of (take k items)) c (changes_of (drop (k + 1) items)) is xid count n old new (change_next sub c same (old xid) far) takes)

    -- an item that is no change
    pub other_next : (changes_of (item ∷ []) ≡ []) → (held : List (Cell × BeforeImage))
        → IsSoFar schema committed (changes_of (take k items)) (changes_of (drop k items)) is count held
        → IsSoFar schema committed (changes_of (take (k + 1) items)) (changes_of (drop (k + 1) items)) is count held
    other_next none held far =
        subst (λ (l : List change_type.Change). IsSoFar schema committed l (changes_of (drop (k + 1) items)) is count held)
        (sym (changes_so_far ∙ ap (λ (l : List change_type.Change). changes_of (take k items) ++ l) none ∙ append-nil (changes_of (take k items))))
        (subst (λ (l : List change_type.Change). IsSoFar schema committed (changes_of (take k items)) l is count held)
        (ap changes_of behind ∙ changes_of_both (item ∷ []) (drop (k + 1) items) ∙ ap (λ (l : List change_type.Change). l ++ changes_of (drop (k + 1) items)) none) far)

-- none is taken at first
pub so_far_none : (schema : Schema) (committed : Rows) (cs : List change_type.Change) (is : List Inverse) (held : List (Cell × BeforeImage)) → held ≡ []
    → IsLogOf schema committed cs is → IsSoFar schema committed [] cs is 0 held
so_far_none schema committed cs is held none log =
    subst (IsSoFar schema committed [] cs is 0) (sym none) (record { made = made_none schema committed; log = log; within = omega arith })
