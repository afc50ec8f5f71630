use Rattle.std.proofs.Common.{◌∙◌, ℕ, Option, sym, subst}
use Rattle.std.specs.Prelude.{IfNone}
use Rattle.std.proofs.lemmas.Option.{IfSome_then}
use Rattle.model.specs.ValidLemmas.{not_none}
use Rattle.live_tables.specs.StopLemmas.{WantsFromNobody, none_open, wants_named, wanting_waits, wanting_nobody}
use Rattle.live_tables.proofs.live_tables.Live.holder_by_holds.Goals as goal

pub returns-in_default-clause-free : goal.returns-in_default-clause-free
returns-in_default-clause-free c = λ none w o tied at holder waits.
    not_none o (sym (none_open w c.args.self.now tied c.args.xid (sym c.in_default.ensures.value)) ∙ at)

pub find_holder-requires-clause-named : goal.find_holder-requires-clause-named
find_holder-requires-clause-named c =
    let (w, tied) = c.requires.tied in
    wants_named w c.args.self.now tied c.args.xid c.in-Some.transaction.now (sym c.in-Some.ensures.value)

pub returns-clause-held : goal.returns-clause-held
returns-clause-held c =
    IfSome_then c.find_holder.result c.find_holder.ensures.held (λ holder wants w o tied at.
    wanting_waits w c.args.self.now tied c.args.xid c.in-Some.transaction.now (sym c.in-Some.ensures.value) o at holder wants)

pub returns-clause-free : goal.returns-clause-free
returns-clause-free c = λ none w o tied at.
    wanting_nobody w c.args.self.now tied c.args.xid c.in-Some.transaction.now (sym c.in-Some.ensures.value) o at
    (subst (λ (r : Option ℕ). IfNone r (WantsFromNobody c.args.self.now c.args.xid c.in-Some.transaction.now.wants)) none c.find_holder.ensures.free)
