use Rattle.std.proofs.Common.{◌≡◌, ℕ, ◌+◌, ◌<◌, ◌∷◌, List, drop, get_or, length, map, sym, ap, ◌∙◌, arith}
use Rattle.std.specs.FinMap.{get, get-empty}
use Rattle.std.proofs.Math.Seq.{drop-length}
use Rattle.std.proofs.lemmas.List.{drop_more}
use Rattle.model.specs.declared.key.Key.{Key}
use Rattle.model.specs.Rows.{place_cmp}
use Rattle.change.specs.declared.inverse.Inverse.{Inverse}
use Rattle.change.specs.Edits.{or_else, laid_together}
use Rattle.change.specs.EditsLemmas.{get_over}
use Rattle.change.specs.Inverse.{edits_of}
use Rattle.undo.proofs.log.first_edit.Goals as goal

-- what those from here on edit: what this one does, or else those behind it
from_here : (is : List Inverse) (k : ℕ) (i : Inverse) (table : ℕ) (key : Key) → k < length is → i ≡ get_or is k i
    → get (laid_together (map edits_of (drop k is))) (table, key) ≡ or_else (get (edits_of i) (table, key)) (get (laid_together (map edits_of (drop (k + 1) is))) (table, key))
from_here is k i table key below at =
    ap (λ (l : List Inverse). get (laid_together (map edits_of l)) (table, key)) (drop_more is k i below ∙ ap (λ (x : Inverse). x ∷ drop (k + 1) is) (sym at))
    ∙ get_over (edits_of i) (laid_together (map edits_of (drop (k + 1) is))) (table, key)

pub returns-in-Some : goal.returns-in-Some
returns-in-Some c =
    let is = c.args.inverses.now in
    let k = c.loop-inverse.inverse-index in
    let rest = get (laid_together (map edits_of (drop (k + 1) is))) (c.args.table, c.args.key.now) in
    ap (λ e. or_else e rest) c.in-Some.ensures
    ∙ sym (from_here is k c.inverse-item.result c.args.table c.args.key.now c.loop-inverse-test.true c.inverse-item.is) ∙ c.loop-inverse.invariant

pub loop-inverse-preserved : goal.loop-inverse-preserved
loop-inverse-preserved c =
    let is = c.args.inverses.now in
    let k = c.loop-inverse.inverse-index in
    let rest = get (laid_together (map edits_of (drop (k + 1) is))) (c.args.table, c.args.key.now) in
    ap (λ e. or_else e rest) c.in_default.ensures
    ∙ sym (from_here is k c.inverse-item.result c.args.table c.args.key.now c.loop-inverse-test.true c.inverse-item.is) ∙ c.loop-inverse.invariant

pub returns : goal.returns
returns c =
    let is = c.args.inverses.now in
    let last : c.loop-inverse.inverse-index ≡ length is = omega arith in
    sym (get-empty place_cmp (c.args.table, c.args.key.now))
    ∙ sym (ap (λ (l : List Inverse). get (laid_together (map edits_of l)) (c.args.table, c.args.key.now)) (ap (λ n. drop n is) last ∙ drop-length is))
    ∙ c.loop-inverse.invariant
