-- The entries of a part up to a position.
--     more_above      one that ends above it is none of them
--     those_until      where one ends there or below, they are all up to this one
--     within_line      there are no more of them than commits
--     commits_told      their changes are those of the commits up to the position
--     until_lifts      the rows behind these are the world's
use Rattle.std.specs.Prelude.{◌≡◌, ℕ, zero, suc, ◌+◌, ◌<◌, ◌≤◌, ◌⊎◌, nat_le, Bool, true, false, cond, List, [], ◌∷◌, ◌++◌, Vec, filter, flat_map, length, map, take, IfOk, Result, Ok, Err, refl}
use Rattle.std.proofs.Common.{sym, ◌∙◌, ap, subst, inl, inr, append-nil, arith, get_or}
use Rattle.std.specs.Global.{Global}
use Rattle.std.specs.List.Sorted.{IsStrictlyIncreasing}
use Rattle.std.proofs.lemmas.Bool.{cases_order, le-leb, lt-leb}
use Rattle.std.proofs.lemmas.Grind.{take_at_read}
use Rattle.std.proofs.lemmas.List.{length-map, take-map, get_or-map}
use Rattle.std.proofs.lemmas.List.Elements.{filter_more}
use Rattle.std.proofs.lemmas.List.Folds.{flat_map-map}
use Rattle.std.proofs.lemmas.List.Kept.{AllPairs-from_increasing}
use Rattle.model.specs.declared.change.Change.{Change}
use Rattle.model.specs.declared.row.Row.{Row}
use Rattle.model.specs.Rows.{Rows, Schema}
use Rattle.model.specs.TableRows.{rows_of_table}
use Rattle.model.specs.Effect.{serial}
use Rattle.world.specs.World.{Past, Entry, World, entry_of, changes_in}
use Rattle.engine.specs.declared.entry.Entry as entry_type
use Rattle.engine.specs.Engine.{entry_in}
use Rattle.world_parts.specs.ByTableLemmas.{walked_at}
use Rattle.world_parts.specs.Lines.{HasLine, commits_until, rows_until}
use Rattle.world_parts.specs.LineLemmas.{until_in_part}

-- the entry ends at the position or below it
abbrev pub is_until : ℕ → entry_type.Entry → Bool
is_until position e = nat_le e.end position

-- ---- the search for a position

module _ (position : ℕ) (entries : List entry_type.Entry) (e : entry_type.Entry) where
  pub more_above : (count : ℕ) → count < length entries → position < (get_or entries count e).end
      → filter (is_until position) (take (count + 1) entries) ≡ filter (is_until position) (take count entries)
  more_above count below above =
      filter_more (is_until position) entries count e below
      ∙ ap (λ b. filter (is_until position) (take count entries) ++ cond b (get_or entries count e ∷ []) [])
      (lt-leb (get_or entries count e).end position above)
      ∙ append-nil (filter (is_until position) (take count entries))

  -- where each of the first so many is one of them, all of these are
  each_until : (count : ℕ) → count ≤ length entries → ((k : ℕ) → k < count → (get_or entries k e).end ≤ position)
      → filter (is_until position) (take count entries) ≡ take count entries
  each_until zero within each = refl
  each_until (suc count) within each =
      let one : suc count ≡ count + 1 = omega arith in
      let below : count < length entries = omega (arith, within) in
      ap (λ n. filter (is_until position) (take n entries)) one
      ∙ filter_more (is_until position) entries count e below
      ∙ ap (λ b. filter (is_until position) (take count entries) ++ cond b (get_or entries count e ∷ []) [])
      (le-leb (get_or entries count e).end position (each count (omega arith)))
      ∙ ap (λ es. es ++ get_or entries count e ∷ []) (each_until count (omega (arith, within)) (λ k before. each k (omega (arith, before))))
      ∙ sym (take_at_read entries count e below).1
      ∙ ap (λ n. take n entries) (sym one)

  module _ (rising : IsStrictlyIncreasing (0 ∷ map (λ (f : entry_type.Entry). f.end) entries)) where
    -- one ends above those before it
    ends_above : (k count : ℕ) → k < count → count < length entries → (get_or entries k e).end < (get_or entries count e).end
    ends_above k count before below =
        subst (λ n. n < (get_or entries count e).end) (get_or-map (λ (f : entry_type.Entry). f.end) entries k e e.end (omega (arith, before, below)))
        (subst (λ n. get_or (map (λ (f : entry_type.Entry). f.end) entries) k e.end < n) (get_or-map (λ (f : entry_type.Entry). f.end) entries count e e.end below)
        (AllPairs-from_increasing (0 ∷ map (λ (f : entry_type.Entry). f.end) entries) rising (suc k) (suc count) e.end (omega (arith, before))
        (omega (arith, below, length-map entries (λ (f : entry_type.Entry). f.end)))))

    pub those_until : (count : ℕ) → count < length entries → (get_or entries count e).end ≤ position
        → filter (is_until position) (take (count + 1) entries) ≡ take (count + 1) entries
    those_until count below last = each_until (count + 1) (omega (arith, below)) (λ k before. by k before (cases_order k count))
      where
        by : (k : ℕ) → k < count + 1 → (k ≡ count) ⊎ ((k < count) ⊎ (count < k)) → (get_or entries k e).end ≤ position
        by k before (inl same) = subst (λ n. (get_or entries n e).end ≤ position) (sym same) last
        by k before (inr (inl earlier)) = omega (arith, last, ends_above k count earlier below)
        by k before (inr (inr later)) = absurd (omega (arith, before, later))

-- ---- what they tell

-- what is told of those that pass a test is what passes it of all that is told
kept_told : {A B : Type 0} (tell : A → B) (test : B → Bool) (xs : List A)
    → map tell (filter (λ x. test (tell x)) xs) ≡ filter test (map tell xs)
kept_told tell test [] = refl
kept_told tell test (x ∷ xs) = by (kept_told tell test xs) (test (tell x))
  where
    by : map tell (filter (λ y. test (tell y)) xs) ≡ filter test (map tell xs) → (b : Bool)
        → map tell (cond b (x ∷ filter (λ y. test (tell y)) xs) (filter (λ y. test (tell y)) xs))
        ≡ cond b (tell x ∷ filter test (map tell xs)) (filter test (map tell xs))
    by rest true = ap (λ ys. tell x ∷ ys) rest
    by rest false = rest

-- the changes of entries
abbrev changes_told : List Entry → List Change
changes_told entries = flat_map (λ (e : Entry). e.changes) entries

told_by : (line : List Past) → changes_told (map entry_of line) ≡ changes_in line
told_by line = flat_map-map (λ (e : Entry). e.changes) entry_of line

module _ (entries : List entry_type.Entry) (line : List Past) (told : map entry_in entries ≡ map entry_of line) where
  pub within_line : (count : ℕ) → count ≤ length entries → count ≤ length (map entry_of line)
  within_line count within =
      let as_many : length (map entry_in entries) ≡ length (map entry_of line) = ap length told in
      omega (arith, within, as_many, length-map entries entry_in)

  pub commits_told : (count position : ℕ) → take count entries ≡ filter (is_until position) entries
      → changes_in (take count line) ≡ changes_in (commits_until position line)
  commits_told count position are =
      sym (told_by (take count line))
      ∙ ap changes_told (sym (take-map entry_of count line) ∙ ap (take count) (sym told) ∙ take-map entry_in count entries
      ∙ ap (map entry_in) are
      ∙ kept_told entry_in (λ (e : Entry). nat_le e.end position) entries
      ∙ ap (filter (λ (e : Entry). nat_le e.end position)) told
      ∙ sym (kept_told entry_of (λ (e : Entry). nat_le e.end position) line))
      ∙ told_by (commits_until position line)

-- the rows behind them
pub until_lifts : {E : Type 0} (schema : Schema) (table : ℕ) (part : World) (count position : ℕ)
    → changes_in (take count part.line) ≡ changes_in (commits_until position part.line) → (answer : Result (Vec Row Global) E)
    → IfOk answer (λ rows. rows.items ≡ rows_of_table (serial schema part.start (changes_in (take count part.line))) table)
    → (w : World) → HasLine table w part → IfOk answer (λ rows. rows.items ≡ rows_of_table (rows_until schema w position) table)
until_lifts schema table part count position same (Ok rows) read w has =
    read ∙ ap (λ (cs : List Change). rows_of_table (serial schema part.start cs) table) same
    ∙ sym (walked_at table (rows_until schema part position))
    ∙ ap (λ (r : Rows). rows_of_table r table) (until_in_part schema table w part has position)
    ∙ walked_at table (rows_until schema w position)
until_lifts schema table part count position same (Err fault) read w has = read
