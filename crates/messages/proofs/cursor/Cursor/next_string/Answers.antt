use Rattle.std.proofs.Common.{◌≡◌, ◌<◌, true, length, sym, ap, subst, arith}
use Rattle.std.specs.Str.{is_utf8}
use Rattle.std.specs.List.{position_or_len, before_first}
use Rattle.messages.specs.Field.{is_zero, HasNoZero}
use Rattle.messages.proofs.Fields.{no_zero_before_first}
use Rattle.messages.proofs.Texts.{string_found}
use Rattle.messages.proofs.cursor.Cursor.next_string.Goals as goal

pub new-requires : goal.new-requires
new-requires c =
    let bytes = c.args.self.now in
    let e : c.from_known_utf8-text.result ≡ before_first is_zero bytes = cc (c.in_ok-cut.ensures.ok.0) in
    subst HasNoZero (sym e) (no_zero_before_first bytes)

pub returns : goal.returns
returns c =
    let bytes = c.args.self.now in
    let text = c.from_known_utf8-text.result in
    let at : c.zero_at-len.result ≡ position_or_len is_zero bytes = cc in
    let inside : c.zero_at-len.result < length bytes = omega (arith, ap length c.unread-unread.ensures) in
    let front : text ≡ before_first is_zero bytes = cc (c.in_ok-cut.ensures.ok.0) in
    let utf8 : is_utf8 text ≡ true = cc in
    let found = string_found bytes text c.zero_at-len.result at inside front utf8 in
    cc (found, c.in_ok-cut.ensures.ok.1)
