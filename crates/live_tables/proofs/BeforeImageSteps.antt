-- What is committed at some keys, laid under what is known of a table, key by key, and with the live rows beside it.
--     none_laid, laid_both      of no key; of some keys, and then others
--     skips_one, one_laid      of one of which something was known; of which nothing was
--     laid_beside      with the live rows beside it, where these are the keys that are held
use Rattle.std.specs.Prelude.{◌≡◌, ◌⊎◌, ℕ, Bool, true, false, cond, List, [], ◌∷◌, ◌++◌, Option, Some, None, is_some, refl}
use Rattle.std.proofs.Common.{sym, ◌∙◌, ap, subst, inl, inr, true≢false, arith}
use Rattle.std.specs.List.{Contains}
use Rattle.std.specs.Ordering.{eq_by_cmp}
use Rattle.std.specs.BTreeMap.{BTreeMap, Updates}
use Rattle.std.specs.FinMap.{get}
use Rattle.std.proofs.lemmas.List.Elements.{Contains-append_cases}
use Rattle.std.proofs.lemmas.Map.Views.{tells_apart}
use Rattle.model.specs.declared.key.Key.{Key}
use Rattle.model.specs.declared.row.Row.{Row as RecordRow}
use Rattle.model.specs.declared.cell.Cell.TheVariants.{Row, Whole}
use Rattle.model.specs.Key.{key_cmp}
use Rattle.model.specs.ExactLemmas.{key_cmp_exact}
use Rattle.model.specs.Rows.{Rows}
use Rattle.rows.specs.KeyLemmas.{same_key}
use Rattle.change.specs.Edits.{or_else}
use Rattle.change.specs.EditsLemmas.{or_both}
use Rattle.change.specs.InverseLemmas.{contains_one}
use Rattle.change.specs.Laid.{known_at}
use Rattle.keyholds.specs.Holds.{cells_held}
use Rattle.world.specs.World.{World}
use Rattle.live_tables.specs.declared.live_tables.Live.{Live}
use Rattle.live_tables.specs.Merged.{or_row, AreLaid}
use Rattle.live_tables.specs.ByHolds.{RepresentsByHolds}
use Rattle.live_tables.specs.ReadingLemmas.{committed_live}

abbrev Known : Type 0
Known = BTreeMap Key (Option RecordRow)

module _ (committed : Rows) (table : ℕ) where
  pub none_laid : (known : Known) → AreLaid committed table [] known known
  none_laid known key = inr (refl, λ has. omega (arith, has.1))

  -- some keys, and then others
  pub laid_both : (keys more : List Key) (old now new : Known) → AreLaid committed table keys old now → AreLaid committed table more now new → AreLaid committed table (keys ++ more) old new
  laid_both keys more old now new first second key =
      let there = Some (get committed (table, key)) in
      elim (first key) [
        | inl one ↦
            elim (second key) [
              | inl two ↦ inl (two ∙ ap (λ o. or_else o there) one ∙ or_both (known_at old key) there there)
              | inr same ↦ inl (same.0 ∙ one)
            ]
        | inr same ↦
            elim (second key) [
              | inl two ↦ inl (two ∙ ap (λ o. or_else o there) same.0)
              | inr too ↦ inr (
                too.0 ∙ same.0,
                λ has. elim (Contains-append_cases keys more key has) [
                  | inl before ↦ same.1 before
                  | inr behind ↦ too.1 behind
                ],
              )
            ]
      ]

  module _ (key : Key) where
    not_this : (other : Key) → eq_by_cmp key_cmp key other ≡ false → ¬ Contains (key ∷ []) other
    not_this other differs has = true≢false (sym (same_key key) ∙ ap (eq_by_cmp key_cmp key) (contains_one key other has) ∙ differs)

    -- something is known at the key already
    pub skips_one : (known : Known) → is_some (known_at known key) ≡ true → AreLaid committed table (key ∷ []) known known
    skips_one known some other = by (eq_by_cmp key_cmp key other) refl
      where
        first : {X : Type 0} (o : Option X) (rest : X) → is_some o ≡ true → o ≡ or_else o (Some rest)
        first None rest is = absurd (true≢false (sym is))
        first (Some x) rest is = refl

        by : (b : Bool) → eq_by_cmp key_cmp key other ≡ b
            → (known_at known other ≡ or_else (known_at known other) (Some (get committed (table, other)))) ⊎ ((known_at known other ≡ known_at known other) × ¬ Contains (key ∷ []) other)
        by true e = inl (subst (λ (k : Key). known_at known k ≡ or_else (known_at known k) (Some (get committed (table, k)))) (tells_apart key_cmp_exact key other e) (first (known_at known key) _ some))
        by false e = inr (refl, not_this other e)

    -- it is known now
    pub one_laid : (known new : Known) → is_some (known_at known key) ≡ false → (row : Option RecordRow) → row ≡ get committed (table, key) → Updates key_cmp known new key (Some row)
        → AreLaid committed table (key ∷ []) known new
    one_laid known new none row is step other = by (eq_by_cmp key_cmp key other) refl
      where
        nothing : {X : Type 0} (o : Option X) (x : X) → is_some o ≡ false → Some x ≡ or_else o (Some x)
        nothing None x e = refl
        nothing (Some y) x e = absurd (true≢false e)

        here : known_at new key ≡ or_else (known_at known key) (Some (get committed (table, key)))
        here =
            step.0 key ∙ ap (λ (b : Bool). cond b (Some row) (known_at known key)) (same_key key) ∙ ap Some is
            ∙ nothing (known_at known key) (get committed (table, key)) none

        by : (b : Bool) → eq_by_cmp key_cmp key other ≡ b
            → (known_at new other ≡ or_else (known_at known other) (Some (get committed (table, other)))) ⊎ ((known_at new other ≡ known_at known other) × ¬ Contains (key ∷ []) other)
        by true e = inl (subst (λ (k : Key). known_at new k ≡ or_else (known_at known k) (Some (get committed (table, k)))) (tells_apart key_cmp_exact key other e) here)
        by false e = inr (step.2 other e, not_this other e)

-- with the live rows beside it, where these are the keys that are held
pub laid_beside : (w : World) (l : Live) → RepresentsByHolds w l → (table : ℕ) → ((xid : ℕ) → ¬ Contains (cells_held l.holds xid) (Whole table))
    → (keys : List Key) → ((xid : ℕ) (key : Key) → Contains (cells_held l.holds xid) (Row table key) → Contains keys key)
    → (old new : Known) → AreLaid w.committed table keys old new
    → (key : Key) → or_row (known_at new key) (get l.tables.rows (table, key)) ≡ or_row (known_at old key) (get w.committed (table, key))
laid_beside w l tied table whole keys all old new laid key = elim (laid key) [
  | inl there ↦ ap (λ (o : Option (Option RecordRow)). or_row o (get l.tables.rows (table, key))) there ∙ either (known_at old key)
  | inr none ↦
      ap (λ (o : Option (Option RecordRow)). or_row o (get l.tables.rows (table, key))) none.0
      ∙ ap (or_row (known_at old key)) (committed_live w l tied table key (λ xid has. none.1 (all xid key has)) whole)
]
  where
    either : (o : Option (Option RecordRow)) → or_row (or_else o (Some (get w.committed (table, key)))) (get l.tables.rows (table, key)) ≡ or_row o (get w.committed (table, key))
    either None = refl
    either (Some row) = refl
