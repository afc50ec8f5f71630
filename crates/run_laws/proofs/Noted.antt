-- The change that an open transaction wants is the one that stopped the world, where that was one of its own.
use Rattle.std.proofs.Common.{◌≡◌, ℕ, ◌⊎◌, refl, ap, inl, inr}
use Rattle.std.proofs.Math.Bool.{Bool-set}
use Rattle.std.proofs.Math.Logic.{∥∥₁_elim, ∥∥₁_map}
use Rattle.std.specs.Coded.{Coded, Coded-set, code_by, coded×, coded⊎, coded_ℕ}
use Rattle.model.specs.contracts.change.Change as change_code
use Rattle.model.specs.Rows.{Rows, Schema, IsValid}
use Rattle.model.specs.Effect.{ClashCause, NullKey, Unique, Edits, Outcome, Done, Skip, Clashes, outcome}
use Rattle.world.specs.Fine.{StillClashes}
use Rattle.world.specs.Steps.{IsClashing}
use Rattle.world.specs.World.{World, own_rows}
use Rattle.world_parts.specs.Led.{IsLed}
use Rattle.world_parts.specs.Sound.{IsWanted, IsSound}

pub is_wanted : (schema : Schema) (rows : Rows) (w : World) → IsValid schema rows → IsLed schema rows w → IsWanted w
is_wanted schema rows w valid led xid c cause stopped o sub e at wants =
    ∥∥₁_elim (led.sound valid) (Coded-set change_code.the_row.coded e c)
    (λ (is : IsSound schema w). is.wanted xid c cause stopped o sub e at wants)

-- ---- it clashes still

⊥-prop : IsProp ⊥
⊥-prop x y = absurd x

-- a cause by its kind
split_cause : ClashCause → ℕ ⊎ (ℕ × ℕ)
split_cause (NullKey table) = inl table
split_cause (Unique table key) = inr (table, key)

join_cause : ℕ ⊎ (ℕ × ℕ) → ClashCause
join_cause (inl table) = NullKey table
join_cause (inr p) = Unique p.0 p.1

join_split_cause : (c : ClashCause) → join_cause (split_cause c) ≡ c
unfolding join_cause split_cause
join_split_cause (NullKey table) = refl
join_split_cause (Unique table key) = refl

cause_code : Coded ClashCause
cause_code = code_by (ℕ ⊎ (ℕ × ℕ)) (coded⊎ coded_ℕ (coded× coded_ℕ coded_ℕ)) split_cause join_cause join_split_cause

same_cause : (a b : ClashCause) → Clashes a ≡ Clashes b → a ≡ b
same_cause a b e = cc

no_clash_done : (edits : Edits) (cause : ClashCause) → Done edits ≡ Clashes cause → ⊥
no_clash_done edits cause e = cc

no_clash_skip : (cause : ClashCause) → Skip ≡ Clashes cause → ⊥
no_clash_skip cause e = cc

-- that an outcome is a clash has one proof
clashes_so : (o : Outcome) (cause : ClashCause) → ∥ (o ≡ Clashes cause) ∥₁ → o ≡ Clashes cause
clashes_so (Done edits) cause is = absurd (∥∥₁_elim is ⊥-prop (no_clash_done edits cause))
clashes_so Skip cause is = absurd (∥∥₁_elim is ⊥-prop (no_clash_skip cause))
clashes_so (Clashes why) cause is = ap Clashes (∥∥₁_elim is (Coded-set cause_code why cause) (same_cause why cause))

pub still_clashes : (schema : Schema) (rows : Rows) (w : World) → IsValid schema rows → IsLed schema rows w
    → StillClashes schema w
still_clashes schema rows w valid led xid c cause stopped o sub at wants =
    let noted =
    ∥∥₁_map (led.sound valid) (λ (is : IsSound schema w). is.fine.noted xid c cause stopped o sub at wants) in (
      λ other p apart there. ∥∥₁_elim noted (Bool-set _ _) (λ (is : IsClashing schema w xid o c cause). is.0 other p apart there),
      clashes_so (outcome schema (own_rows schema w xid o) c) cause (∥∥₁_map noted (λ (is : IsClashing schema w xid o c cause). is.1)),
    )
