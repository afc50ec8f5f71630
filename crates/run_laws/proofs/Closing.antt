-- Aborting all that is open leaves the commits alone.
use Rattle.std.proofs.Common.{◌≡◌, ◌≢◌, ℕ, true, false, List, [], ◌∷◌, Option, Some, None, refl, sym, ap, subst, ◌∙◌, inl, inr}
use Rattle.std.specs.Prelude.{cond, ◌⊎◌}
use Rattle.std.proofs.lemmas.Map.Views.{tells_apart}
use Rattle.std.specs.Ordering.{nat_cmp}
use Rattle.std.specs.FinMap as finite
use Rattle.std.specs.FinMap.{get, entries, find, get-entries, nat_cmp-IsAntisymmetric}
use Rattle.model.specs.Rows.{Rows, Schema}
use Rattle.session.specs.State.{Setting}
use Rattle.run.specs.declared.outcome.Outcome.{Outcome}
use Rattle.run.specs.Cause.{schema_of}
use Rattle.run.specs.Devices.{DeviceState}
use Rattle.world.specs.FineLemmas.{gone_cases}
use Rattle.world.specs.ListingLemmas.{same_by_xid}
use Rattle.world.specs.World.{Opened, World, journal, is_xid}
use Rattle.world.specs.Steps.{aborts, aborted_with, Closes}
use Rattle.world_parts.specs.Led.{IsLed}
use Rattle.world_parts.specs.LedLemmas.{led_step}
use Rattle.run_laws.specs.Runs.{LeavesWorld}
use Rattle.run_laws.specs.ThreadedRun.{IsThreadedRun}

-- the xid is that of one of these
abbrev IsAmong : ℕ → List (ℕ × Opened) → Type 0
IsAmong xid [] = ⊥
IsAmong xid (e ∷ es) = (xid ≡ e.0) ⊎ IsAmong xid es

none_is : (o : Opened) → None ≡ Some o → ⊥
none_is o e = cc

found_among : (xid : ℕ) (es : List (ℕ × Opened)) (o : Opened) → find nat_cmp xid es ≡ Some o → IsAmong xid es
found_among xid [] o is = absurd (none_is o is)
found_among xid (e ∷ es) o is =
    elim (is_xid xid e.0) as (λ b. is_xid xid e.0 ≡ b → cond b (Some e.1) (find nat_cmp xid es) ≡ Some o → (xid ≡ e.0) ⊎ IsAmong xid es) [
      | true ↦ λ same there. inl (tells_apart nat_cmp-IsAntisymmetric xid e.0 same)
      | false ↦ λ same there. inr (found_among xid es o there)
    ] refl is

-- nothing is open any more
abbrev emptied : World → World
emptied w = record w { opened = finite.empty }

-- all that is open is among these
abbrev AreAmong : World → List (ℕ × Opened) → Type 0
AreAmong w es = (xid : ℕ) (o : Opened) → get w.opened xid ≡ Some o → IsAmong xid es

among_rest : (w : World) (e : ℕ × Opened) (es : List (ℕ × Opened)) → AreAmong w (e ∷ es) → (xid : ℕ) (o : Opened)
    → xid ≢ e.0 → get w.opened xid ≡ Some o → IsAmong xid es
among_rest w e es among xid o differs at = elim (among xid o at) [ inl is ↦ absurd (differs is) | inr later ↦ later ]

among_none : (w : World) (e : ℕ × Opened) (es : List (ℕ × Opened)) → AreAmong w (e ∷ es) → get w.opened e.0 ≡ None
    → AreAmong w es
among_none w e es among none xid o at =
    among_rest w e es among xid o (λ same. none_is o (sym none ∙ ap (get w.opened) (sym same) ∙ at)) at

among_gone : (w : World) (e : ℕ × Opened) (es : List (ℕ × Opened)) → AreAmong w (e ∷ es)
    → AreAmong (aborted_with w e.0) es
among_gone w e es among xid o at =
    let there = gone_cases w.opened e.0 xid o at in among_rest w e es among xid o there.0 there.1

none_open : (w : World) → AreAmong w [] → w.opened ≡ finite.empty
none_open w among = same_by_xid w.opened finite.empty (λ xid. by_found xid (get w.opened xid) refl)
  where
    by_found : (xid : ℕ) (found : Option Opened) → get w.opened xid ≡ found
        → get w.opened xid ≡ get (finite.empty {X = Opened} {R = nat_cmp}) xid
    by_found xid None e = e ∙ sym (finite.get-empty nat_cmp xid)
    by_found xid (Some o) e = absurd (among xid o e)

all_aborted : (schema : Schema) (rows : Rows) (es : List (ℕ × Opened)) (w : World) → AreAmong w es
    → IsLed schema rows w → IsLed schema rows (emptied w)
all_aborted schema rows [] w among led =
    subst (λ m. IsLed schema rows (record w { opened = m })) (none_open w among) led
all_aborted schema rows (e ∷ es) w among led =
    elim (get w.opened e.0) as (λ found. get w.opened e.0 ≡ found → IsLed schema rows (emptied w)) [
      | None ↦ λ is. all_aborted schema rows es w (among_none w e es among is) led
      | Some o ↦ λ is.
          all_aborted schema rows es (aborted_with w e.0) (among_gone w e es among)
          (led_step schema rows w (aborted_with w e.0) led (aborts e.0 o (aborted_with w e.0) is refl))
    ] refl

pub closed : (g : Setting) (rows : Rows) (old new : DeviceState) (o : Outcome)
    (run : IsThreadedRun g rows old new o)
    → (closed : World) × IsLed (schema_of g) rows closed
    × Closes closed o.tables.rows (journal closed) × LeavesWorld o closed
closed g rows old new o run = (
  emptied run.world,
  all_aborted (schema_of g) rows (entries run.world.opened) run.world
      (λ xid p at. found_among xid (entries run.world.opened) p (sym (get-entries run.world.opened xid) ∙ at))
      run.is_world.led,
  (refl, run.left.tables, refl),
  record { entries = run.left.entries; position = run.left.position; tables = run.left.tables },
)
