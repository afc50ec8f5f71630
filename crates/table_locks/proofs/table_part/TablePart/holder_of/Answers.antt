use Rattle.std.proofs.Common.{ℕ, sym, subst, ◌∙◌}
use Rattle.std.proofs.lemmas.Option.{IfSome_then, same_Some}
use Rattle.table_parts.specs.Part.{Part}
use Rattle.parted_store.specs.Lent.{WaitsIn}
use Rattle.table_locks.proofs.table_part.TablePart.holder_of.Goals as goal

pub returns-clause-held : goal.returns-clause-held
returns-clause-held g c =
    IfSome_then c.holder_tied-holder.result c.holder_tied-holder.ensures.held (λ holder waits.
    (c.take-part.result, c.take-part.ensures.was, subst (λ (p : Part). WaitsIn p c.args.ticket.now.shares holder) c.part.ensures.part waits))

pub returns-clause-free : goal.returns-clause-free
returns-clause-free g c none p is =
    subst (λ (q : Part). (holder : ℕ) → ¬ (WaitsIn q c.args.ticket.now.shares holder))
    (c.part.ensures.part ∙ same_Some c.take-part.result p (sym c.take-part.ensures.was ∙ is)) (c.holder_tied-holder.ensures.free none)
