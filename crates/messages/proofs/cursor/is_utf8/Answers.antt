use Rattle.std.proofs.Common.{sym}
use Rattle.std.proofs.lemmas.Str.{is_utf8-from_IsUtf8}
use Rattle.messages.proofs.Texts.{not_utf8}
use Rattle.messages.proofs.cursor.is_utf8.Goals as goal

pub returns-in-Ok-clause-value : goal.returns-in-Ok-clause-value
returns-in-Ok-clause-value c = sym (is_utf8-from_IsUtf8 _ c.in-Ok.ensures.cases.1)

pub returns-in-Err-clause-value : goal.returns-in-Err-clause-value
returns-in-Err-clause-value c = not_utf8 _ c.in-Err.ensures.cases.0
