-- Counts after one of them was set, and what a search for another transaction in a table finds.
use Rattle.std.specs.Prelude.{◌≡◌, ◌≢◌, ℕ, ◌+◌, ◌<◌, true, false, cond, Bool, List, [], ◌∷◌, Option, Some, None, IsSome, unwrap_or, refl, IfSome, slice_get}
use Rattle.std.proofs.Common.{sym, ◌∙◌, ap, subst, arith}
use Rattle.std.proofs.lemmas.Grind.{common_steps}
use Rattle.std.specs.Prelude.{nat_lt, ◌-◌, ◌≤◌, Result, Ok, Err, OnOk, OnErr}
use Rattle.std.specs.Map.{lookup}
use Rattle.std.specs.BTreeMap.{is_at}
use Rattle.std.specs.Ordering.{nat_cmp, is_eq}
use Rattle.std.specs.Map.Iter.{TakesFirst}
use Rattle.std.proofs.lemmas.Map.Iter.{rest_all}
use Rattle.std.specs.Cmp.{IsTotalOrder, on_total, nat_cmp_total}
use Rattle.std.proofs.lemmas.Cmp.{then_total}
use Rattle.std.specs.FinMap.{IsAntisymmetric, nat_cmp-IsAntisymmetric}
use Rattle.std.proofs.lemmas.Map.Lookups.{exact_pairs}
use Rattle.std.specs.BTreeMap.{BTreeMap, get, Updates}
use Rattle.std.specs.BTreeMap.Range.{IsInRange, IsRangeOf, IsEntryInRange, IsLeBy}
use Rattle.std.specs.declared.cmp.Ordering.TheVariants.{Less}
use Rattle.std.specs.declared.ops.Bound.TheVariants.{Included, Excluded, Unbounded}
use Rattle.keyholds.specs.Counts.{pair_cmp, count_in, SetsCount}
use Rattle.keyholds.proofs.Ties.{updated_here, updated_beside}

pub pair_cmp_total : IsTotalOrder pair_cmp
pair_cmp_total = then_total (on_total (λ (p : ℕ × ℕ). p.0) nat_cmp_total) (on_total (λ (p : ℕ × ℕ). p.1) nat_cmp_total)

pub pair_cmp_exact : IsAntisymmetric pair_cmp
pair_cmp_exact = exact_pairs nat_cmp nat_cmp nat_cmp-IsAntisymmetric nat_cmp-IsAntisymmetric

module _ (m n : BTreeMap (ℕ × ℕ) ℕ) (table xid : ℕ) (w : Option ℕ) (step : Updates pair_cmp m n (table, xid) w) where
  pub sets_count : SetsCount table xid (unwrap_or w 0) m n
  sets_count = record {
    here = ap (λ o. unwrap_or o 0) (updated_here (get pair_cmp m) (get pair_cmp n) (table, xid) w step.0 pair_cmp_total);
    tables = λ t x apart. ap (λ o. unwrap_or o 0) (updated_beside (get pair_cmp m) (get pair_cmp n) (table, xid) w step.0 pair_cmp_exact (t, x) (λ e. apart (ap (λ (p : ℕ × ℕ). p.0) e)));
    others = λ t x apart. ap (λ o. unwrap_or o 0) (updated_beside (get pair_cmp m) (get pair_cmp n) (table, xid) w step.0 pair_cmp_exact (t, x) (λ e. apart (ap (λ (p : ℕ × ℕ). p.1) e)));
  }

  either : (b : Bool) (o : Option ℕ) → cond b w o ≡ Some 0 → w ≢ Some 0 → o ≢ Some 0 → ⊥
  either true o e here there = here e
  either false o e here there = there e

  -- none of them is 0
  pub stays_counted : w ≢ Some 0 → ((key : ℕ × ℕ) → get pair_cmp m key ≢ Some 0) → (key : ℕ × ℕ) → get pair_cmp n key ≢ Some 0
  stays_counted here there key e = either (is_eq (pair_cmp (table, xid) key)) (get pair_cmp m key) (sym (step.0 key) ∙ e) here (there key)

pub none_below : (m : BTreeMap (ℕ × ℕ) ℕ) (table xid : ℕ) → ((key : ℕ × ℕ) → IsInRange pair_cmp (Included (table, 0)) (Excluded (table, xid)) key → get pair_cmp m key ≡ None) → (other : ℕ) → other < xid → count_in m table other ≡ 0
none_below m table xid none other lt = ap (λ o. unwrap_or o 0) (none (table, other) (grind (arith, common_steps), grind (arith, common_steps)))

pub none_above : (m : BTreeMap (ℕ × ℕ) ℕ) (table xid : ℕ) → ((key : ℕ × ℕ) → IsInRange pair_cmp (Excluded (table, xid)) Unbounded key → get pair_cmp m key ≡ None) → (other : ℕ) → xid < other → count_in m table other ≡ 0
none_above m table xid none other lt = ap (λ o. unwrap_or o 0) (none (table, other) (grind (arith, common_steps), tt))

-- what is not there
gone : {X : Type 0} (o : Option X) → (IsSome o → ⊥) → o ≡ None
gone None absent = refl
gone (Some x) absent = absurd (absent refl)

-- where the first count behind is of another table
pub none_past : (m : BTreeMap (ℕ × ℕ) ℕ) (table xid : ℕ) (r : List ((ℕ × ℕ) × ℕ)) → IsRangeOf pair_cmp (Excluded (table, xid)) Unbounded m r → (key : ℕ × ℕ) (count : ℕ) (rest : List ((ℕ × ℕ) × ℕ)) → r ≡ (key, count) ∷ rest → key.0 ≢ table → (other : ℕ) → xid < other → count_in m table other ≡ 0
none_past m table xid r in_range key count rest is apart other lt =
    ap (λ o. unwrap_or o 0) (gone (get pair_cmp m (table, other)) (λ some. past some))
  where
    first : slice_get r 0 ≡ Some (key, count)
    first = ap (λ l. slice_get l 0) is

    past : IsSome (get pair_cmp m (table, other)) → ⊥
    past some =
        let P : Option ((ℕ × ℕ) × ℕ) → Type 0 = λ o. IfSome o (λ (e : (ℕ × ℕ) × ℕ). IsLeBy pair_cmp e.0 (table, other)) in
        let le : IsLeBy pair_cmp key (table, other) = subst P first (in_range.2 (table, other) (grind (arith, common_steps), tt) some) in
        let Q : Option ((ℕ × ℕ) × ℕ) → Type 0 = λ o. IfSome o (IsEntryInRange pair_cmp (Excluded (table, xid)) Unbounded m) in
        let from : IsEntryInRange pair_cmp (Excluded (table, xid)) Unbounded m (key, count) = subst Q first in_range.1 in
        let above : pair_cmp (table, xid) key ≡ Less = from.0.0 in
        grind (arith, common_steps)

-- a transaction stands before or behind
pub by_side : (m : BTreeMap (ℕ × ℕ) ℕ) (table xid : ℕ) → ((other : ℕ) → other < xid → count_in m table other ≡ 0) → ((other : ℕ) → xid < other → count_in m table other ≡ 0) → (other : ℕ) → other ≢ xid → count_in m table other ≡ 0
by_side m table xid below above other apart = elim (nat_lt other xid) as (λ b. nat_lt other xid ≡ b → count_in m table other ≡ 0) [
  | true ↦ λ e. below other (grind (arith, common_steps))
  | false ↦ λ e. above other (grind (arith, common_steps))
] refl

-- an iterator that answered None had nothing left
pub ended : {A X : Type 0} (shows : A → X) (r : Option A) (s t : List X) → r ≡ None → TakesFirst shows s r t → s ≡ []
ended shows r s t is step = rest_all shows s t r is step

-- after an insert of the first one, which may have been refused
module _ (m n : BTreeMap (ℕ × ℕ) ℕ) (table xid : ℕ) where
  one : ◌≢◌ {A = Option ℕ} (Some 1) (Some 0)
  one e = let none : 1 ≡ 0 = ap (λ o. unwrap_or o 0) e in omega (arith, none)

  pub first_counted : {A E : Type 0} (r : Result A E) → OnOk r (Updates pair_cmp m n (table, xid) (Some 1)) → OnErr r (n.entries ≡ m.entries) → ((key : ℕ × ℕ) → get pair_cmp m key ≢ Some 0) → (key : ℕ × ℕ) → get pair_cmp n key ≢ Some 0
  first_counted (Ok x) step same there = stays_counted m n table xid (Some 1) step one there
  first_counted (Err x) step same there = λ key e. there key (ap (lookup (is_at (pair_cmp key))) (sym same) ∙ e)

module _ (m n : BTreeMap (ℕ × ℕ) ℕ) (table xid count : ℕ) (now : count ≡ count_in m table xid) where
  pub first_count : count ≤ 0 → Updates pair_cmp m n (table, xid) (Some 1) → SetsCount table xid (count_in m table xid + 1) m n
  first_count none step =
      let first : 1 ≡ count_in m table xid + 1 = omega (arith, none, now) in
      subst (λ k. SetsCount table xid k m n) first (sets_count m n table xid (Some 1) step)

  more : Some (count + 1) ≢ Some 0
  more e = let grows : count + 1 ≡ 0 = ap (λ o. unwrap_or o 0) e in omega (arith, grows)

  -- after one more came to others
  pub raised_count : Updates pair_cmp m n (table, xid) (Some (count + 1)) → SetsCount table xid (count_in m table xid + 1) m n
  raised_count step = subst (λ k. SetsCount table xid (k + 1) m n) now (sets_count m n table xid (Some (count + 1)) step)

  pub raised_counted : Updates pair_cmp m n (table, xid) (Some (count + 1)) → ((key : ℕ × ℕ) → get pair_cmp m key ≢ Some 0) → (key : ℕ × ℕ) → get pair_cmp n key ≢ Some 0
  raised_counted step there = stays_counted m n table xid (Some (count + 1)) step more there

  -- after one of several went
  pub lowered_count : Updates pair_cmp m n (table, xid) (Some (count - 1)) → SetsCount table xid (count_in m table xid - 1) m n
  lowered_count step = subst (λ k. SetsCount table xid (k - 1) m n) now (sets_count m n table xid (Some (count - 1)) step)

  pub lowered_counted : 1 < count → Updates pair_cmp m n (table, xid) (Some (count - 1)) → ((key : ℕ × ℕ) → get pair_cmp m key ≢ Some 0) → (key : ℕ × ℕ) → get pair_cmp n key ≢ Some 0
  lowered_counted several step there =
      stays_counted m n table xid (Some (count - 1)) step (λ e. let none : count - 1 ≡ 0 = ap (λ o. unwrap_or o 0) e in omega (arith, none, several)) there

  -- after the last one went
  pub removed_count : count ≤ 1 → Updates pair_cmp m n (table, xid) None → SetsCount table xid (count_in m table xid - 1) m n
  removed_count least step =
      let zero : 0 ≡ count_in m table xid - 1 = omega (arith, least, now) in
      subst (λ k. SetsCount table xid k m n) zero (sets_count m n table xid None step)

  pub removed_counted : Updates pair_cmp m n (table, xid) None → ((key : ℕ × ℕ) → get pair_cmp m key ≢ Some 0) → (key : ℕ × ℕ) → get pair_cmp n key ≢ Some 0
  removed_counted step there = stays_counted m n table xid None step (λ e. absurd cc) there
