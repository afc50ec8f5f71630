-- Each step of a token keeps the rule.
use Rattle.std.proofs.Common.{◌≡◌, ◌≢◌, ℕ, zero, suc, ◌+◌, List, [], ◌∷◌, ◌++◌, length, set, sym, refl, ap, ◌∙◌, subst, ⊎_elim, Some}
use mathlib.Core.Option.{some, some-injective, some-ne-none}
use lib.ListN.{get_elem?}
use Rattle.crossbeam_utils.specs.Register.{Turns, Forks, Merges}
use Rattle.atomic_table.proofs.Lists.{at_set, at_snoc, set_again}
use Rattle.origin.specs.declared.position.Published.{Published}
use Rattle.origin.specs.declared.protocol.View.{View}
use Rattle.origin.specs.Commits.{published_after}
use Rattle.model.specs.Beginning.{Begins}
use Rattle.origin.specs.CommitLemmas.{nothing_begins, all_begins, begins_longer, next_position}
use Rattle.origin.specs.Rule.{Knows, IsInOrder, Publishes, Loads, Compares, first_view, blank_view, published_by, HasPublished, seen_part, met_view}

-- a new cell
pub starts : IsInOrder (published_after []) (first_view ∷ [])
starts = record {
  ends = [];
  publisher = 0;
  now_is = refl;
  each = λ by v at. at_start by v at;
}
  where
    knows : Knows [] 0 0 first_view
    knows = record {
      published = λ l e. (refl, (let h : [] ≡ l = cc in sym h));
      seen = nothing_begins [];
    }

    at_start : (by : ℕ) (v : View) → get_elem? (first_view ∷ []) by ≡ some v → Knows [] 0 by v
    at_start zero v at = subst (Knows [] 0 0) (some-injective _ _ at) knows
    at_start (suc by) v at = absurd (some-ne-none v (sym at))

-- one token's view changes, and so may what was published
reviews : (ends : List ℕ) (publisher id : ℕ) (w : View) (views : List View)
    → ((by : ℕ) (u : View) → by ≢ id → get_elem? views by ≡ some u → Knows ends publisher by u)
    → Knows ends publisher id w
    → (by : ℕ) (u : View) → get_elem? (set views id w) by ≡ some u → Knows ends publisher by u
reviews ends publisher id w views others mine by u at =
    ⊎_elim
    (λ here. subst (λ (t : ℕ × View). Knows ends publisher t.0 t.1) (λ i. (sym here.0 i, here.1 i)) mine)
    (λ there. others by u there.0 there.1) (at_set views id by w u at)

-- one token's view changes, to another that is true
sees : (id : ℕ) (w : View) (x : Published) (views : List View) (rule : IsInOrder x views)
    → Knows rule.ends rule.publisher id w → IsInOrder x (set views id w)
sees id w x views rule knows = record {
  ends = rule.ends;
  publisher = rule.publisher;
  now_is = rule.now_is;
  each = reviews rule.ends rule.publisher id w views (λ by u _ there. rule.each by u there) knows;
}

pub publishes : (id : ℕ) (v : View) (p : Published) → HasPublished v
    → p.commits ≡ length (published_by v) + 1
    → Turns IsInOrder id v (λ _. p) (λ before _ stored after. Publishes before stored after)
publishes id v p is next x views rule at =
    let mine = rule.each id v at in
    let own = mine.published (published_by v) is in
    let end : List ℕ = p.end_lsn ∷ [] in
    let now : List ℕ = rule.ends ++ end in
    let w : View = record v { published = Some (published_by v ++ end) } in (
      w,
      record {
        ends = now;
        publisher = rule.publisher;
        now_is = next_position rule.ends p (next ∙ ap (λ l. length l + 1) own.1);
        each = reviews now rule.publisher id w views
            (λ by u apart there. record {
              published = λ l e. let theirs = (rule.each by u there).published l e in
                  absurd (apart (theirs.0 ∙ sym own.0));
              seen = begins_longer u.seen rule.ends end (rule.each by u there).seen;
            })
            (record {
              published = λ l e. let same : published_by v ++ end ≡ l = cc in
                  (own.0, sym same ∙ ap (λ m. m ++ end) own.1);
              seen = begins_longer v.seen rule.ends end mine.seen;
            });
      },
      refl,
    )

pub loads : (id : ℕ) (v : View)
    → Turns IsInOrder id v (λ x. x) (λ before found _ after. Loads before found after)
loads id v x views rule at =
    let mine = rule.each id v at in
    let w : View = record v { seen = rule.ends } in (
      w,
      sees id w x views rule record { published = mine.published; seen = all_begins rule.ends },
      record { same = refl; later = mine.seen; position = rule.now_is },
    )

pub compares : (id : ℕ) (v : View) → HasPublished v
    → Turns IsInOrder id v (λ x. x) (λ before _ _ after. Compares before after)
compares id v is x views rule at =
    let mine = rule.each id v at in
    let own = mine.published (published_by v) is in
    (v, sees id v x views rule mine, (subst (Begins v.seen) (sym own.1) mine.seen, refl))

pub tells : (id : ℕ) (v : View) → Forks IsInOrder id v v (seen_part v)
tells id v x views rule at = record {
  ends = rule.ends;
  publisher = rule.publisher;
  now_is = rule.now_is;
  each = λ by u there. ⊎_elim
      (λ was. rule.each by u (subst (λ (l : List View). get_elem? l by ≡ some u) (set_again views id v at) was))
      (λ (same : seen_part v ≡ u). subst (Knows rule.ends rule.publisher by) same
      (record { published = λ l e. absurd (cc); seen = (rule.each id v at).seen }))
      (at_snoc (set views id v) (seen_part v) u by there);
}

pub meets : (id other : ℕ) (v w : View) → Merges IsInOrder id v other w (met_view v w) blank_view
meets id other v w x views rule at apart there =
    let mine = rule.each id v at in
    let m : View = met_view v w in
    let was : get_elem? views other ≡ some w = ⊎_elim
    (λ (e : (other ≡ id) × (m ≡ w)). absurd (apart e.0))
    (λ e. e.1)
    (at_set views id other m w there) in
    let told = (rule.each other w was).seen in
    sees other blank_view x (set views id m)
    (sees id m x views rule record { published = mine.published; seen = told })
    record { published = λ l e. absurd (cc); seen = nothing_begins _ }
