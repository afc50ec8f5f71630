use Rattle.std.proofs.Common.{◌≡◌, ◌≢◌, ◌∙◌, List, true, false, sym, ap, subst, inl, inr, is_some}
use Rattle.std.proofs.lemmas.Bool.{cases_Bool}
use Rattle.std.specs.List.{list_any}
use Rattle.model.specs.declared.item.Item.{Item}
use Rattle.model.specs.Survivors.{is_of, survivors}
use Rattle.savepoint.specs.Savepoints.{mark_at}
use Rattle.savepoint.proofs.Marked.{never_whole}
use Rattle.live_tables.specs.ByHoldsLemmas.{never_absent, open_tells}
use Rattle.live_tables.specs.MarksLemmas.{unmarked_whole}
use Rattle.live_tables.proofs.live_tables.Live.knows.Goals as goal

pub returns-in-Some : goal.returns-in-Some
returns-in-Some c = λ below w o tied is.
    let store = c.args.self.now in
    let r = c.in-Some.transaction.now.record in
    let tells = open_tells w store tied c.args.xid o is c.in-Some.transaction.now (sym c.in-Some.ensures.value) in
    let found : c.is_some.result ≡ is_some (mark_at c.args.sub r.marks) = c.is_some.ensures ∙ ap is_some c.mark_of.ensures.mark in
    let same = ap (λ (items : List Item). list_any (is_of c.args.sub) items) tells.survives in
    elim (cases_Bool (is_some (mark_at c.args.sub r.marks))) [
      | inl some ↦ found ∙ some ∙ sym (tells.named c.args.sub some) ∙ same
      | inr none ↦
          elim (cases_Bool (list_any (is_of c.args.sub) r.survivors)) [
            | inl any ↦ absurd (never_whole c.args.sub r.survivors any (unmarked_whole store.tables.schema w.committed c.args.xid r tells.logs c.args.sub below none))
            | inr not ↦ found ∙ none ∙ sym not ∙ same
          ]
    ]

pub returns-in-None : goal.returns-in-None
returns-in-None c = λ below w o tied is.
    absurd (never_absent c.args.self.now c.args.xid (w, o, tied, is) c.in-None.ensures.value)
