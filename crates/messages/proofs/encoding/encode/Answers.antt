use Rattle.std.proofs.Common.{◌≡◌, ◌++◌, List, ℕ, ap, ◌∙◌}
use Rattle.messages.specs.Writing.{message_bytes}
use Rattle.messages.proofs.Written.{Spelled-from_says}
use Rattle.messages.proofs.encoding.encode.Goals as goal

pub returns-clause-ok : goal.returns-clause-ok
returns-clause-ok c =
    let bytes = message_bytes c.args.m.now in
    let fresh = c.in_ok-put_message.ensures.written ∙ ap (λ (xs : List ℕ). xs ++ bytes) c.new-payload.ensures.items in
    let appended : c.extend_from_slice.new.self.items ≡ c.args.out.now.items ++ bytes = cc (fresh, c.in_ok-extend_from_slice.ensures.items, c.deref.ensures.value) in
    (bytes, Spelled-from_says bytes c.args.in_block c.args.m.now c.in_ok-put_message.ensures.says, appended)
