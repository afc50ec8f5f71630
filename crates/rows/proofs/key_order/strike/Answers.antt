use Rattle.std.specs.Prelude.{◌≡◌, ℕ, ◌<◌, List, length, Option, None, is_some, slice_set}
use Rattle.std.proofs.Common.{◌∙◌, ap, sym, subst, rules, of_calls}
use Rattle.std.proofs.lemmas.Fn.{always_returns_same}
use Rattle.std.specs.BTreeMap.{is_at}
use Rattle.std.specs.List.{HoldsAt}
use Rattle.std.specs.List.Sorted.{IsNonDecreasingBy, IsPartitionPoint}
use Rattle.std.specs.Map.{lookup}
use Rattle.std.specs.Ordering.{ordering_index}
use Rattle.std.specs.declared.cmp.Ordering.TheVariants.{Less, Equal, Greater}
use Rattle.model.specs.declared.key.Key.{Key}
use Rattle.model.specs.Key.{key_cmp}
use Rattle.rows.proofs.Searching.{number_at_place, set_at_place, searchable, none_at_gap, number_at_no_place, set_at_no_place}
use Rattle.rows.proofs.key_order.strike.Goals as goal
use Rattle.rows.proofs.key_order.strike.Goals.{After-is_some, In-Err}

-- the key stands where the search hit
hit : (c : After-is_some) → HoldsAt (λ (e : Key × Option ℕ). key_cmp e.0 c.args.key.now ≡ Equal) c.args.run.now.items c.in-Ok.at
hit c =
    subst (λ (run : List (Key × Option ℕ)). HoldsAt (λ (e : Key × Option ℕ). key_cmp e.0 c.args.key.now ≡ Equal) run c.in-Ok.at) c.deref.ensures.value
    (c.in-Ok.ensures.position (λ e. key_cmp e.0 c.args.key.now) (always_returns_same _ _ _ (λ a r f k. search (rules, of_calls))))

within : (c : After-is_some) → c.in-Ok.at < length c.args.run.now.items
within c = subst (λ (run : List (Key × Option ℕ)). c.in-Ok.at < length run) c.deref.ensures.value c.in-Ok.ensures.bound

-- the key stands nowhere, where it did not hit
missed : (c : In-Err) → lookup (is_at (key_cmp c.args.key.now)) c.args.run.now.items ≡ None
missed c =
    let key = c.args.key.now in
    let run = c.args.run.now.items in
    none_at_gap run key c.in-Err.field-0 c.requires
    (subst (λ (es : List (Key × Option ℕ)). IsNonDecreasingBy (λ (e : Key × Option ℕ). ordering_index (key_cmp e.0 key)) es
    → IsPartitionPoint (λ (e : Key × Option ℕ). key_cmp e.0 key ≡ Less) (λ (e : Key × Option ℕ). key_cmp e.0 key ≡ Greater) es c.in-Err.field-0) c.deref.ensures.value
    (c.in-Err.ensures.position (λ e. key_cmp e.0 key) (always_returns_same _ _ _ (λ a r f k. search (rules, of_calls))))
    (searchable run key c.requires))

pub returns-in-Ok-clause-had : goal.returns-in-Ok-clause-had
returns-in-Ok-clause-had c =
    let at = c.index_mut.result.now in
    c.is_some.ensures ∙ ap is_some (c.take.ensures.value ∙ ap (λ (e : Key × Option ℕ). e.1) c.index_mut.ensures.value
    ∙ sym (number_at_place c.args.key.now at c.args.run.now.items c.in-Ok.at c.requires (within c) (hit c at)))

pub returns-in-Ok-clause-struck : goal.returns-in-Ok-clause-struck
returns-in-Ok-clause-struck c =
    let at = c.index_mut.result.now in
    let key_is = ap (λ (e : Key × Option ℕ). e.0) c.index_mut.ensures.value in
    ap (slice_set c.args.run.now.items c.in-Ok.at) (λ i. (key_is i, c.take.ensures.after i))
    ∙ set_at_place c.args.key.now at c.args.run.now.items c.in-Ok.at c.requires (within c) (hit c at)

pub returns-in-Err-clause-had : goal.returns-in-Err-clause-had
returns-in-Err-clause-had c = sym (ap is_some (number_at_no_place c.args.key.now c.args.run.now.items (missed c)))

pub returns-in-Err-clause-struck : goal.returns-in-Err-clause-struck
returns-in-Err-clause-struck c = set_at_no_place c.args.key.now c.args.run.now.items (missed c)
