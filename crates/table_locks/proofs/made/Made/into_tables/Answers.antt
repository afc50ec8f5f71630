use Rattle.std.proofs.Common.{◌≡◌, ◌≤◌, ◌∙◌, ℕ, length, sym, ap, subst}
use Rattle.model.specs.Rows.{Rows}
use Rattle.world_parts.specs.ByTable.{rows_at}
use Rattle.table_locks.specs.StartLemmas.{are_unused, given_back, none_beyond}
use Rattle.table_locks.specs.Starts.{MadeStore, IsMade, AreOver, AreUnused, AreKnown}
use Rattle.table_locks.proofs.made.Made.into_tables.Goals as goal

pub give_back-requires-clause-unused : goal.give_back-requires-clause-unused
give_back-requires-clause-unused c =
    let m : MadeStore = c.args.self in
    subst (λ (n : MadeStore). AreUnused n.blank.schema n.tables) (sym c.self.view_is)
    (are_unused m.journal.tables m.blank.schema c.requires.over.0 m.tables (subst IsMade c.self.view_is c.self.invariant).begun c.requires.over.1)

pub returns-clause-rows : goal.returns-clause-rows
returns-clause-rows c start over known =
    let blank = c.self.inside.blank in
    let tables = c.self.inside.tables.items in
    let keys = ap (λ (n : MadeStore). n.blank.schema) c.self.view_is in
    let long : length tables ≡ length blank.schema =
    subst (λ (n : MadeStore). length n.tables ≡ length n.blank.schema) (sym c.self.view_is) c.requires.long in
    given_back blank.schema start blank.rows c.give_back.new.start.rows tables
    (subst (λ (n : MadeStore). AreOver n.blank.schema (λ number. rows_at number start) n.tables) (sym c.self.view_is) over)
    (λ number past.
    let beyond = subst (λ (count : ℕ). count ≤ number) long past in
    none_beyond blank.schema blank.rows c.recall_invariant.ensures.known number beyond
    ∙ sym (none_beyond blank.schema start (subst (λ keys. AreKnown keys start) (sym keys) known) number beyond))
    c.give_back.ensures.back c.give_back.ensures.beyond
