-- How columns lie in one block of memory: their texts one behind another, then a cut of nine bytes for each, and in four bytes how many there are.
use Rattle.std.specs.Prelude.{◌≡◌, ℕ, zero, suc, ◌+◌, ◌-◌, ◌*◌, ◌/◌, ◌%◌, ◌^◌, ◌<◌, ◌≤◌, ◌==◌, if◌then◌else◌, true, false, List, [], ◌∷◌, map, take, drop, length, slice_index, slice_range, IsUtf8, IsCharBoundary}
use Rattle.std.specs.Int.{w32, w64, cast_signed, from_le_bytes}
use Rattle.std.specs.List.{AllByRecursion}
use Rattle.model.specs.declared.value.Value.TheVariants.{Int, Text, Bool as Truth}
use Rattle.model.specs.declared.patch.ColumnPatch.{ColumnPatch}
use Rattle.model.specs.declared.patch.ColumnPatch.TheVariants.{Keep, Null, Value}
use Rattle.model.specs.declared.packed.Cut.{Cut}
use Rattle.model.specs.declared.packed.Cut.TheVariants.{Null as NullCut, Int as IntCut, Text as TextCut, Bool as BoolCut, Kept as KeptCut}

-- what is done to a column by its cut
abbrev pub column_in : List ℕ → Cut → ColumnPatch
column_in texts NullCut = Null
column_in texts (IntCut n) = Value (Int n)
column_in texts (TextCut start end) = Value (Text (slice_range texts start end))
column_in texts (BoolCut b) = Value (Truth b)
column_in texts KeptCut = Keep

-- a text lies within the texts, cut before and behind whole characters
abbrev pub IsCut : List ℕ → Cut → Type 0
IsCut texts NullCut = Unit {0}
IsCut texts (IntCut n) = Unit {0}
IsCut texts (TextCut start end) = (start ≤ end) × IsCharBoundary texts start × IsCharBoundary texts end
IsCut texts (BoolCut b) = Unit {0}
IsCut texts KeptCut = Unit {0}

-- each of these cuts does
abbrev pub AreCuts : List ℕ → List Cut → Type 0
AreCuts texts cuts = AllByRecursion (IsCut texts) cuts

-- what lay in the one lies in the other, and does the same
abbrev pub KeepsCuts : List ℕ → List ℕ → Type 0
KeepsCuts old new = (cut : Cut) → IsCut old cut → IsCut new cut × (column_in new cut ≡ column_in old cut)

-- a cut of the texts that does this to a column
abbrev pub IsCutOf : List ℕ → ColumnPatch → Cut → Type 0
IsCutOf texts column cut = IsCut texts cut × (column_in texts cut ≡ column)

-- a cut by its word and by which kind it is
abbrev pub cut_as : ℕ → ℕ → Cut
cut_as word kind =
    if kind == 0 then NullCut
    else (if kind == 1 then IntCut (cast_signed w64 word)
    else (if kind == 2 then TextCut (word % 2 ^ 32) (word / 2 ^ 32)
    else (if kind == 3 then BoolCut true
    else (if kind == 4 then BoolCut false
    else KeptCut))))

-- the cut whose bytes come first: a word of eight, and which kind it is
abbrev pub cut_of : List ℕ → Cut
cut_of bytes = cut_as (from_le_bytes w64 bytes) (slice_index bytes 8)

-- so many cuts, one behind another
abbrev pub cuts_of : ℕ → List ℕ → List Cut
cuts_of zero bytes = []
cuts_of (suc n) bytes = cut_of bytes ∷ cuts_of n (drop 9 bytes)

-- the bytes are those of so many cuts of the texts
abbrev pub HasCuts : List ℕ → ℕ → List ℕ → Type 0
HasCuts texts columns cuts = (columns < 2 ^ 32) × (length cuts ≡ 9 * columns) × AreCuts texts (cuts_of columns cuts)

-- how many columns a block has
abbrev pub columns_in : List ℕ → ℕ
columns_in block = from_le_bytes w32 (drop (length block - 4) block)

-- where its cuts begin
abbrev pub cuts_at : List ℕ → ℕ
cuts_at block = length block - 4 - 9 * columns_in block

-- the bytes of its texts
abbrev pub texts_in : List ℕ → List ℕ
texts_in block = take (cuts_at block) block

-- its cuts, column by column
abbrev pub cuts_in : List ℕ → List Cut
cuts_in block = cuts_of (columns_in block) (drop (cuts_at block) block)

-- what is done to each column
abbrev pub patch_in : List ℕ → List ColumnPatch
patch_in block = map (column_in (texts_in block)) (cuts_in block)

-- the bytes are those of such a block
abbrev pub IsPacked : List ℕ → Type 0
IsPacked block = (4 + 9 * columns_in block ≤ length block) × IsUtf8 (texts_in block) × AreCuts (texts_in block) (cuts_in block)
