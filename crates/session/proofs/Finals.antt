-- What is final of a transaction's items, and that no skip is set behind a commit.
use Rattle.std.proofs.Common.{◌≡◌, ◌≢◌, ℕ, Bool, true, false, if◌then◌else◌, List, [], ◌∷◌, ◌++◌, Option, Some, None, refl, sym, ap, subst, ◌∙◌, ◌⊎◌, inl, inr}
use Rattle.std.specs.Prelude.{map, All, is_some, not, ◌&&◌}
use Rattle.std.specs.FinMap as finite
use Rattle.std.proofs.lemmas.List.Elements.{All-nil}
use Rattle.model.specs.declared.item.Item.{Item}
use Rattle.session.specs.Sized.{SizedItems, item_of}
use Rattle.session.specs.State.{Way, Direct, Worker, Spooled, Committed, State}
use Rattle.session.specs.StreamEvents.{IsCommitting}
use Rattle.session.specs.Table.{skip_until, names, final_items}

-- all of a transaction's items are final, or it is spooled and none is
pub are_final : (skipped : Bool) (way : Way) (items : SizedItems)
    → (final_items skipped way items ≡ items) ⊎ ((way ≡ Spooled) × (final_items skipped way items ≡ []))
are_final skipped Direct items = inl refl
are_final skipped Worker items = inl refl
are_final true Spooled items = inr (refl, refl)
are_final false Spooled items = inl refl

pub none_behind : (skip : ℕ) (past : List Committed) (c : Committed) → skip_until skip (past ++ c ∷ []) ≡ None
none_behind skip [] c = refl
none_behind skip (d ∷ past) c = refl

-- one that isn't spooled was open with just what is final of it
pub open_whole : (s t : State) (c : Committed) → IsCommitting s t c → c.way ≢ Spooled
    → finite.get s.transactions c.xid ≡ Some (record { way = c.way; items = c.items })
open_whole s t c commits not =
    elim commits.final [
      | inl same ↦ commits.present ∙ ap (λ (items : SizedItems). Some (record { way = c.way; items = items })) (sym same)
      | inr skipped ↦ absurd (not skipped.0)
    ]

-- what holds of all items holds of those that are final
pub all_final : (P : Item → Type 0) (s t : State) (c : Committed) (commits : IsCommitting s t c) → All P (map item_of commits.items)
    → All P (map item_of c.items)
all_final P s t c commits all =
    elim commits.final [
      | inl same ↦ subst (λ (items : SizedItems). All P (map item_of items)) (sym same) all
      | inr skipped ↦ subst (λ (items : SizedItems). All P (map item_of items)) (sym skipped.1) (All-nil P)
    ]

-- of one that isn't skipped all is final
pub whole_final : (way : Way) (items : SizedItems) → final_items false way items ≡ items
whole_final Direct items = refl
whole_final Worker items = refl
whole_final Spooled items = refl

-- ---- the skip

pub set_by : (commit : ℕ) (skip : Option ℕ) → names commit skip ≡ true → is_some skip ≡ true
set_by commit None e = cc
set_by commit (Some skip) e = refl

-- while it is set, none gets a worker
pub set_spools : (set room : Bool) → set ≡ true → (if not set && room then Worker else Spooled) ≢ Worker
set_spools true room e = λ works. cc
set_spools false room e = cc

-- behind a commit it isn't
pub unset_behind : (skip : ℕ) (past : List Committed) (c : Committed) → is_some (skip_until skip (past ++ c ∷ [])) ≡ true → ⊥
unset_behind skip [] c e = cc
unset_behind skip (d ∷ past) c e = cc
