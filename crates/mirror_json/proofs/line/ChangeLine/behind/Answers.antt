use Rattle.std.proofs.Common.{ℕ, List, [], ◌∷◌, ◌++◌, append_assoc, ap, ◌∙◌}
use Rattle.json.specs.Print.{print}
use Rattle.mirror_json.proofs.Appending.{one_line}
use Rattle.mirror_json.proofs.line.ChangeLine.behind.Goals as goal

pub returns : goal.returns
returns c =
    let bytes = c.args.bytes.items in
    let tokens = c.write_object.new.writer.tokens in
    one_line bytes c.push.new.self.items tokens
    (c.in_ok-push.ensures.items
    ∙ ap (λ (front : List ℕ). front ++ 10 ∷ []) (c.into_inner-longer.ensures.items ∙ ap (λ (front : List ℕ). front ++ print tokens) (c.in_ok-write_object.ensures ∙ c.new-writer.ensures.before))
    ∙ append_assoc bytes (print tokens) (10 ∷ []))
