use Rattle.std.specs.Prelude.{◌≡◌, ◌||◌}
use Rattle.std.proofs.Common.{sym, ◌∙◌}
use Rattle.std.proofs.lemmas.Bool.{OnFalse_from, or_parts}
use Rattle.model.specs.Types.Text.{escaped_text}
use Rattle.model.proofs.Escapes.{printed_as_is}
use Rattle.model.proofs.types.text.has_escaped.Goals as goal

pub returns : goal.returns
returns c =
    let backslash = c.contains.result in
    let bar = c.contains-2.result in
    let feed = c.contains-3.result in
    let return = c.contains-4.result in
    OnFalse_from (((backslash || bar) || feed) || return) (escaped_text c.args.bytes.now ≡ c.args.bytes.now) (λ none.
    let by_return = or_parts ((backslash || bar) || feed) return none in
    let by_feed = or_parts (backslash || bar) feed by_return.0 in
    let by_bar = or_parts backslash bar by_feed.0 in
    printed_as_is c.args.bytes.now (sym c.contains.ensures.value ∙ by_bar.0) (sym c.contains-2.ensures.value ∙ by_bar.1)
    (sym c.contains-3.ensures.value ∙ by_feed.1) (sym c.contains-4.ensures.value ∙ by_return.1))
