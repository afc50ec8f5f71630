-- Lines of JSON.
--     line_of      the bytes of a line
--     AppendsLines      lines, and nothing else, come behind bytes
use Rattle.std.specs.Prelude.{◌≡◌, ℕ, List, [], ◌∷◌, ◌++◌, flat_map}
use Rattle.json.specs.Token.{Token}
use Rattle.json.specs.Print.{print}

-- The tokens of JSON as they are printed, and a line feed: in a text it is escaped.
abbrev pub line_of : List Token → List ℕ
line_of tokens = print tokens ++ 10 ∷ []

-- the second is the first with some lines behind it, each of them whole
abbrev pub AppendsLines : List ℕ → List ℕ → Type 0
AppendsLines old new = (lines : List (List Token)) × (new ≡ old ++ flat_map line_of lines)
