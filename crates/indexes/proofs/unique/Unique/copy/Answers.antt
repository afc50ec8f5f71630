use Rattle.std.proofs.Common.{◌≡◌, ℕ, List, Option, ap, ◌∙◌}
use Rattle.model.specs.declared.key.Key.{Key}
use Rattle.indexes.proofs.Copying.{clones_are, entry_is, number_is}
use Rattle.indexes.proofs.unique.Unique.copy.Goals as goal

pub returns : goal.returns
returns c =
    let columns : c.in_ok-clone.field-0 ≡ c.args.self.now.columns = c.in_ok-clone.ensures.cases in
    let entries : c.in_ok-clone-2.field-0.entries ≡ c.args.self.now.entries.entries =
    clones_are _ (entry_is _ _ (λ x y is. is) (number_is _ (λ n is. absurd is) (λ m is. absurd is) (λ m n is. is))) _ _ c.in_ok-clone-2.ensures.cases in
    ap (λ (cs : List ℕ). (cs, c.in_ok-clone-2.field-0.entries)) columns ∙ ap (λ (es : List (Key × Option ℕ)). (c.args.self.now.columns, es)) entries
