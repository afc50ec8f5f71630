-- Whether two numbers of transactions are the same.
use Rattle.std.proofs.Common.{◌≡◌, ℕ, true, false, arith}
use Rattle.std.proofs.lemmas.Bool.Decides.{nat_tests}
use Rattle.world.specs.World.{is_xid}

pub same_self : (x : ℕ) → is_xid x x ≡ true
same_self x = grind (arith, nat_tests)

pub same_apart : (x q : ℕ) → (x ≡ q → ⊥) → is_xid q x ≡ false
same_apart x q ne = grind (arith, nat_tests)
