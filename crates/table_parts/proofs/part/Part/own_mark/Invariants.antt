use Rattle.std.proofs.Common.{◌≡◌, ◌≢◌, true}
use Rattle.table_parts.specs.Several.{is_known}
use Rattle.table_parts.proofs.part.Part.own_mark.Given as goal

-- part and ticket are what they were, and the ticket's mark is known, if it isn't the top transaction
abbrev pub invariant-loop-own : goal.invariant-loop-own
invariant-loop-own l =
    (l.self ≡ l.fn.self) × (l.t ≡ l.fn.t) × (l.xid ≡ l.fn.t.number) × (l.mark ≢ l.fn.t.number → is_known l.fn.t l.mark ≡ true)
