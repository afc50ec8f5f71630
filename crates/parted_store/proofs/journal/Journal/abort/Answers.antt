use Rattle.std.proofs.Common.{◌≡◌, ◌+◌, refl, sym, ap, ◌∙◌}
use Rattle.std.specs.BTreeSet.{btree_set_len}
use Rattle.tokens.specs.Half.{Half}
use Rattle.engine.specs.declared.events.LineEvent.{LineEvent}
use Rattle.parted_store.specs.Journal.{JournalPart}
use Rattle.parted_store.specs.KeptLemmas.{keeps_aborted, one_left}
use Rattle.parted_store.proofs.journal.Journal.abort.Goals as goal

pub invariant_of-self : goal.invariant_of-self
invariant_of-self c =
    let fewer : btree_set_len c.remove.new.self + 1 ≡ btree_set_len c.self.inside.open_ones =
    one_left c.self.inside c.self.invariant c.args.xid c.args.line.now c.requires.open (sym c.line.view_is ∙ c.grow.ensures.met) c.remove.result
    c.remove.ensures.test (btree_set_len c.remove.new.self) c.remove.ensures.len in
    keeps_aborted c.self.inside _ c.self.invariant c.args.xid refl c.remove.ensures.updates fewer
    (ap (λ (h : Half LineEvent). h.list) c.grow.ensures.kept) refl

pub returns-clause-count : goal.returns-clause-count
returns-clause-count c =
    one_left c.self.inside c.self.invariant c.args.xid c.args.line.now c.requires.open (sym c.line.view_is ∙ c.grow.ensures.met) c.remove.result
    c.remove.ensures.test (btree_set_len c.remove.new.self) c.remove.ensures.len
    ∙ ap (λ (j : JournalPart). j.open_count) c.self.view_is
