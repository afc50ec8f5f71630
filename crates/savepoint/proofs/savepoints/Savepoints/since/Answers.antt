use Rattle.std.proofs.Common.{◌≡◌, ◌++◌, ◌<◌, ◌-◌, ℕ, List, [], Option, Some, None, sym, ap, ◌∙◌, arith, length, take, drop, append-nil, take-append-drop, length-drop, Bor, subst}
use Rattle.std.proofs.Math.Seq.{take-length}
use Rattle.std.specs.Prelude.{unwrap_or}
use Rattle.std.specs.Slice.{IsGetRangeResult}
use Rattle.savepoint.specs.Savepoints.{before_mark}
use Rattle.savepoint.proofs.Indexed.{before_mark-get, before_mark-none, index_within}
use Rattle.savepoint.proofs.savepoints.Savepoints.since.Goals as goal

-- the first ones, and the part that begins behind them
both_parts : {A : Type 0} (xs : List A) (at : ℕ) → at < length xs → (found : Option (Bor (List A))) → IsGetRangeResult xs at (length xs) found
    → (other : Bor (List A)) → take at xs ++ (unwrap_or found other).now ≡ xs
both_parts xs at within None is other =
    let there = is.1 (omega (arith, within), omega arith) in
    cc
both_parts xs at within (Some part) is other =
    ap (λ rest. take at xs ++ rest) (is.0.2 ∙ all_of_it) ∙ take-append-drop at xs
  where
    all_of_it : take (length xs - at) (drop at xs) ≡ drop at xs
    all_of_it = ap (λ n. take n (drop at xs)) (sym (length-drop at xs)) ∙ take-length (drop at xs)

pub returns-in-Some : goal.returns-in-Some
returns-in-Some g c =
    let marks = c.self.inside.marks.items in
    let index = c.in-Some.index.now in
    let first : before_mark c.args.sub c.args.self.now ≡ take index marks =
    ap (before_mark c.args.sub) (sym c.self.view_is)
    ∙ before_mark-get c.self.inside.indexes marks c.args.sub index c.self.invariant (sym c.in-Some.ensures.value) in
    let within : index < length marks = index_within c.self.inside.indexes marks c.args.sub index c.self.invariant (sym c.in-Some.ensures.value) in
    ap (λ ms. ms ++ c.unwrap_or.result.now) first
    ∙ ap (λ rest. take index marks ++ rest.now) c.unwrap_or.ensures
    ∙ both_parts marks index within c.get-in-Some.result (subst (λ xs. IsGetRangeResult xs index (length xs) c.get-in-Some.result) c.deref.ensures.value c.get-in-Some.ensures.lookup) _
    ∙ c.self.view_is

pub returns-in-None : goal.returns-in-None
returns-in-None g c =
    ap (λ ms. ms ++ []) (ap (before_mark c.args.sub) (sym c.self.view_is) ∙ before_mark-none c.self.inside.indexes c.self.inside.marks.items c.args.sub c.self.invariant (sym c.in-None.ensures.value))
    ∙ append-nil c.self.inside.marks.items ∙ c.self.view_is
