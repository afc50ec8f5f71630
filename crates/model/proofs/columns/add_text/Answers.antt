use Rattle.std.proofs.Common.{◌≡◌, ◌∙◌, sym, ap, subst, length, string_bytes, ℕ, List}
use Rattle.model.specs.declared.value.Value.TheVariants.{Text}
use Rattle.model.specs.declared.patch.ColumnPatch.TheVariants.{Value}
use Rattle.model.specs.declared.packed.Cut.TheVariants.{Text as TextCut}
use Rattle.model.specs.Packed.{KeepsCuts, IsCutOf}
use Rattle.model.proofs.Cuts.{cuts_kept, cut_behind}
use Rattle.model.proofs.columns.add_text.Goals as goal

pub returns-in-Ok-Ok-clause-kept : goal.returns-in-Ok-Ok-clause-kept
returns-in-Ok-Ok-clause-kept c =
    let grown = c.in_ok-push_str.ensures.bytes in
    subst (λ (bytes : List ℕ). KeepsCuts (string_bytes c.args.texts.now) bytes) (sym grown) (cuts_kept _ _ c.utf8.text)

pub returns-in-Ok-Ok-clause-ok : goal.returns-in-Ok-Ok-clause-ok
returns-in-Ok-Ok-clause-ok c =
    let grown = c.in_ok-push_str.ensures.bytes in
    let start : length (string_bytes c.args.texts.now) ≡ c.in-Ok-Ok.start = ap length (sym c.as_str-start.ensures.value) ∙ sym c.in-Ok-Ok.ensures.1 in
    let end : length (string_bytes c.push_str.new.self) ≡ c.in-Ok-Ok.end = ap length (sym c.as_str.ensures.value) ∙ sym c.in-Ok-Ok.ensures'.1 in
    let at : IsCutOf (string_bytes c.push_str.new.self) (Value (Text c.args.text.now)) (TextCut (length (string_bytes c.args.texts.now)) (length (string_bytes c.push_str.new.self))) =
    subst (λ (bytes : List ℕ). IsCutOf bytes (Value (Text c.args.text.now)) (TextCut (length (string_bytes c.args.texts.now)) (length bytes))) (sym grown) (cut_behind _ _ c.utf8.text) in
    subst (λ (n : ℕ). IsCutOf (string_bytes c.push_str.new.self) (Value (Text c.args.text.now)) (TextCut c.in-Ok-Ok.start n)) end
    (subst (λ (n : ℕ). IsCutOf (string_bytes c.push_str.new.self) (Value (Text c.args.text.now)) (TextCut n (length (string_bytes c.push_str.new.self)))) start at)

pub returns-in_default-clause-kept : goal.returns-in_default-clause-kept
returns-in_default-clause-kept c =
    let grown = c.in_ok-push_str.ensures.bytes in
    subst (λ (bytes : List ℕ). KeepsCuts (string_bytes c.args.texts.now) bytes) (sym grown) (cuts_kept _ _ c.utf8.text)

pub returns-in_default-2-clause-kept : goal.returns-in_default-2-clause-kept
returns-in_default-2-clause-kept c =
    let grown = c.in_ok-push_str.ensures.bytes in
    subst (λ (bytes : List ℕ). KeepsCuts (string_bytes c.args.texts.now) bytes) (sym grown) (cuts_kept _ _ c.utf8.text)
