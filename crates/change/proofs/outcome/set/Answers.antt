use Rattle.std.proofs.Common.{rules, ◌≡◌, Box, Global, Option, None, Some, Ok, MatchOption, refl, sym, ◌∙◌, ap, subst}
use Rattle.change.specs.Leaving.{Leaves}
use Rattle.change.specs.declared.inverse.Inverse.{Inverse}
use Rattle.change.specs.declared.inverse.MovedKeys.{MovedKeys}
use Rattle.change.specs.declared.outcome.Applied.TheVariants.{Done}
use Rattle.std.proofs.lemmas.Result.{err_from_is_err_and}
use Rattle.std.specs.FinMap.{remove}
use Rattle.model.specs.declared.change.Change.TheVariants.{Set}
use Rattle.model.specs.Effect.{one_edit, patch_row, set_outcome}
use Rattle.model.specs.EffectLemmas.{row_outcome_taken}
use Rattle.change.proofs.Outcomes.{set_as_placed, placed_held, none_of, same_there, replace_leaves, move_leaves, skipped_leaves, refused_leaves}
use Rattle.change.proofs.outcome.set.Goals as goal
use Rattle.change.proofs.outcome.set.Goals.{in-None, in-Some-moved}

pub returns-in_default : goal.returns-in_default
returns-in_default c =
    skipped_leaves c.args.t.now (Set c.args.table c.args.key.now c.args.patch.now)
    (ap (set_outcome c.args.t.now.schema c.args.t.now.rows (c.args.table, c.args.key.now) c.args.patch.now) (sym c.get.ensures ∙ c.in_default.is))

pub returns-then-is_key_held : goal.returns-then-is_key_held
returns-then-is_key_held c =
    refused_leaves c.args.t.now c.args.t.now (Set c.args.table c.args.key.now c.args.patch.now) _
    (set_as_placed c.args.t.now.schema c.args.t.now.rows c.args.table c.args.key.now c.args.patch.now c.in-Some.old c.in_ok-row.row
    (sym c.get.ensures ∙ c.in-Some.is) c.in_ok-row.ensures
    ∙ placed_held c.args.t.now.schema (remove c.args.t.now.rows (c.args.table, c.args.key.now)) (one_edit (c.args.table, c.args.key.now) None) c.args.table c.in_ok-row.row c.in-Some-2.new_key
    (sym c.in_ok-new_key.ensures ∙ c.in-Some-2.is) (sym c.is_key_held.ensures ∙ c.if-is_key_held.true))
    refl (λ cell is. is) refl

pub returns-in-Some-first_clash : goal.returns-in-Some-first_clash
returns-in-Some-first_clash c =
    refused_leaves c.args.t.now c.args.t.now (Set c.args.table c.args.key.now c.args.patch.now) _
    (set_as_placed c.args.t.now.schema c.args.t.now.rows c.args.table c.args.key.now c.args.patch.now c.in-Some.old c.in_ok-row.row
    (sym c.get.ensures ∙ c.in-Some.is) c.in_ok-row.ensures
    ∙ row_outcome_taken c.args.t.now.schema (remove c.args.t.now.rows (c.args.table, c.args.key.now)) (one_edit (c.args.table, c.args.key.now) None) c.args.table c.in_ok-row.row c.in-Some-2.new_key c.in-Some-first_clash.number
    (sym c.in_ok-new_key.ensures ∙ c.in-Some-2.is) (none_of _ (sym c.is_key_held.ensures ∙ c.if-is_key_held.false)) (sym c.first_clash.ensures ∙ c.in-Some-first_clash.is))
    refl (λ cell is. is) refl

pub replace-requires-clause-free : goal.replace-requires-clause-free
replace-requires-clause-free c = none_of _ (sym c.is_key_held.ensures ∙ c.if-is_key_held.false)

pub returns-in_err-row-2 : goal.returns-in_err-row-2
returns-in_err-row-2 c =
    rw ((err_from_is_err_and c.from_residual-in_err-row-2.result c.from_residual-in_err-row-2.ensures.1).1)
    (refused_leaves c.args.t.now c.replace.new.self (Set c.args.table c.args.key.now c.args.patch.now) _ (search rules) (search rules) c.replace.ensures.kept (search rules))

pub returns : goal.returns
returns c =
    let same : c.in-Some.old ≡ c.in_ok-row-2.row = same_there _ _ _ (sym c.get.ensures ∙ c.in-Some.is) c.in_ok-row-2.ensures.stood in
    let patched = c.in_ok-row.ensures ∙ ap (patch_row c.args.patch.now) same in
    let own = sym c.in_ok-new_key.ensures ∙ c.in-Some-2.is in
    let free = none_of _ (sym c.is_key_held.ensures ∙ c.if-is_key_held.false) in
    let none = sym c.first_clash.ensures ∙ c.in_default-first_clash.is in
    let told : Option (Box MovedKeys Global) → Type 0 = λ moved. MatchOption moved (c.in-Some-2.new_key ≡ c.args.key.now) (λ keys. keys.value ≡ record { key = c.args.key.now; new_key = c.in-Some-2.new_key }) in
    let leaves : Inverse → Type 0 = λ inverse. Leaves c.args.t.now c.replace.new.self (Set c.args.table c.args.key.now c.args.patch.now) (Ok (Done inverse)) in
    elim c.match-moved-2.branch [
      | in-None w ↦
          subst leaves (sym w.result-is)
          (replace_leaves c.args.t.now c.replace.new.self c.args.table c.args.key.now c.in_ok-stood_at.stood_at c.in-Some-2.new_key c.in_ok-stood_at.stood_at c.args.patch.now
          c.in_ok-row-2.row c.in_ok-row.row c.in_ok-stood_at.ensures (c.in_ok-stood_at.ensures ∙ sym (subst told w.in-None.is c.in_ok-moved.ensures)) c.requires.sound c.requires.known
          c.in_ok-row-2.ensures.stood patched own free none c.replace.ensures.schema c.in_ok-row-2.ensures.ok c.replace.ensures.kept refl)
      | in-Some-moved w ↦
          subst leaves (sym w.result-is)
          (move_leaves c.args.t.now c.replace.new.self c.args.table c.args.key.now c.args.key.now c.in-Some-2.new_key c.in-Some-2.new_key c.args.patch.now
          c.in_ok-row-2.row c.in_ok-row.row refl refl c.requires.sound c.requires.known
          c.in_ok-row-2.ensures.stood patched own free none c.replace.ensures.schema c.in_ok-row-2.ensures.ok c.replace.ensures.kept
          w.in-Some-moved.keys (subst told w.in-Some-moved.is c.in_ok-moved.ensures))
    ]
