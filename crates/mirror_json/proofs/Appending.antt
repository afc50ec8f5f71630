-- Lines behind bytes.
--     no_lines, one_line, more_lines      none, one, and some behind some
--     lines_behind      lines that come behind other bytes
use Rattle.std.proofs.Common.{◌≡◌, ℕ, List, [], ◌∷◌, ◌++◌, append-nil, append_assoc, ap, sym, ◌∙◌}
use Rattle.std.specs.List.{flat_map}
use Rattle.std.proofs.lemmas.Grind.{flat_map-append}
use Rattle.json.specs.Token.{Token}
use Rattle.mirror_json.specs.Lines.{line_of, AppendsLines}

pub no_lines : (bytes : List ℕ) → AppendsLines bytes bytes
no_lines bytes = ([], sym (append-nil bytes))

pub one_line : (old new : List ℕ) (tokens : List Token) → new ≡ old ++ line_of tokens → AppendsLines old new
one_line old new tokens is = (tokens ∷ [], is ∙ ap (λ (more : List ℕ). old ++ more) (sym (append-nil (line_of tokens))))

pub more_lines : (old middle new : List ℕ) → AppendsLines old middle → AppendsLines middle new → AppendsLines old new
more_lines old middle new first second = (
  first.0 ++ second.0,
  second.1 ∙ ap (λ (bytes : List ℕ). bytes ++ flat_map line_of second.0) first.1
      ∙ append_assoc old (flat_map line_of first.0) (flat_map line_of second.0)
      ∙ ap (λ (more : List ℕ). old ++ more) (sym (flat_map-append line_of first.0 second.0)),
)

pub lines_behind : (old lines new : List ℕ) → AppendsLines [] lines → new ≡ old ++ lines → AppendsLines old new
lines_behind old lines new are is = (are.0, is ∙ ap (λ (more : List ℕ). old ++ more) are.1)
