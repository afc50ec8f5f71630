-- What `Taker::take` lends.
use Rattle.std.specs.Prelude.{◌≡◌, Option, None, Some, MatchOption}
use Rattle.std.specs.Borrow.{Bor, MutBor, Fml}
use denote.Follow.{follows_so}
use denote.RattleType.{RattleType}
use mathlib.Core.Option.{none}
use Rattle.ring.specs.Ends.{Taking, Looked}
use Rattle.ring.specs.contracts.taker.Taker.{the_row}

-- the taker has looked, and the result is the item that is then taken
abbrev pub LendsFirst : (T : RattleType) → MutBor (Taking T.Denot) → Option (Bor T.Denot) → Fml
LendsFirst T s r =
    follows_so (the_row T) (the_row T) s.ghost_name none (λ _ _. Unit {0})
    (λ n. Looked s.now n × MatchOption r (n.taken ≡ None) (λ x. n.taken ≡ Some x.now))
