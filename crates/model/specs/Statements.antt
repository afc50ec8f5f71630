-- The laws that the layers above rest on, each as one statement. `src/laws.rt` names them, so that the check proves them.
use Rattle.std.specs.Prelude.{◌≡◌, ◌↔◌, List, ◌++◌, unwrap_or}
use Rattle.std.specs.Cmp.{IsTotalOrder}
use Rattle.std.specs.FinMap.{get}
use Rattle.std.specs.declared.cmp.Ordering.{Ordering}
use Rattle.std.specs.declared.cmp.Ordering.TheVariants.{Equal}
use Rattle.model.specs.declared.change.Change.{Change}
use Rattle.model.specs.Value.{value_cmp}
use Rattle.model.specs.Key.{key_cmp}
use Rattle.model.specs.Rows.{Place, place_cmp, Rows, Schema, IsValid}
use Rattle.model.specs.Effect.{Edits, overlay, Skip, Clashes, ClashCause, outcome, effect, inverse, back, serial, inverses, all_back, AreApart}

-- a total order, whose Equal means equal
abbrev pub IsExactOrder : {K : Type 0} → (K → K → Ordering) → Type 0
IsExactOrder {K} R = IsTotalOrder R × ((x y : K) → (R x y ≡ Equal) ↔ (x ≡ y))

-- values, keys and places are so ordered: a finite map by keys or by places has one row at each
abbrev pub ValuesAreOrdered : Type 0
ValuesAreOrdered = IsExactOrder value_cmp

-- the order of keys is total, and keys that tie are equal
abbrev pub KeysAreOrdered : Type 0
KeysAreOrdered = IsExactOrder key_cmp

-- the order of places is total, and places that tie are equal
abbrev pub PlacesAreOrdered : Type 0
PlacesAreOrdered = IsExactOrder place_cmp

-- what stands at a place after edits is the edit there, or else the row
abbrev pub OverlayByPlace : Type 0
OverlayByPlace = (rows : Rows) (edits : Edits) (p : Place) → get (overlay rows edits) p ≡ unwrap_or (get edits p) (get rows p)

-- a change that is skipped, or that clashes, leaves the rows
abbrev pub SkipLeavesRows : Type 0
SkipLeavesRows = (schema : Schema) (rows : Rows) (c : Change) → outcome schema rows c ≡ Skip → effect schema rows c ≡ rows

-- a change that clashes leaves the rows
abbrev pub ClashLeavesRows : Type 0
ClashLeavesRows = (schema : Schema) (rows : Rows) (c : Change) (cause : ClashCause) → outcome schema rows c ≡ Clashes cause → effect schema rows c ≡ rows

-- a change keeps valid rows valid
abbrev pub EffectKeepsValid : Type 0
EffectKeepsValid = (schema : Schema) (rows : Rows) (c : Change) → IsValid schema rows → IsValid schema (effect schema rows c)

-- a change and then its inverse restore the rows, whatever they are
abbrev pub InverseRestores : Type 0
InverseRestores = (schema : Schema) (rows : Rows) (c : Change) → back (effect schema rows c) (inverse schema rows c) ≡ rows

-- past edits at other places too, which stay
abbrev pub InverseRestoresPast : Type 0
InverseRestoresPast =
    (schema : Schema) (rows : Rows) (c : Change) (others : Edits) → AreApart others (inverse schema rows c)
    → back (overlay (effect schema rows c) others) (inverse schema rows c) ≡ overlay rows others

-- one list of changes after another is the two as one
abbrev pub SerialAppends : Type 0
SerialAppends = (schema : Schema) (rows : Rows) (cs ds : List Change) → serial schema rows (cs ++ ds) ≡ serial schema (serial schema rows cs) ds

-- the inverses of changes, put back from the newest, restore the rows before them
abbrev pub UndoneRestores : Type 0
UndoneRestores = (schema : Schema) (rows : Rows) (cs : List Change) → all_back (serial schema rows cs) (inverses schema rows cs) ≡ rows
