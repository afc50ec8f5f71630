use Rattle.std.proofs.Common.{refl, ◌∙◌, btree_map_len}
use Rattle.world.specs.Steps.{aborted_with}
use Rattle.live_tables.specs.ShutLemmas.{open_there, none_aborted, one_aborted, fewer_kept, none_left, all_aborted}
use Rattle.live_tables.proofs.live_tables.Live.abort_all.Goals as goal

pub loop-xid-init : goal.loop-xid-init
loop-xid-init c = record { aborted = λ w tied. (w, none_aborted c.args.self.now.tables.schema w, tied); schema = refl }

pub abort-requires : goal.abort-requires
abort-requires c =
    let (w, was) = c.requires in
    let (v, aborted, tied) = c.loop-xid.invariant.aborted w was in
    let (o, is) = open_there v c.loop-xid.self tied c.in-Some.xid.now c.in-Some.field-0-1.now c.in-Some.ensures.value in
    (v, o, tied, is)

pub loop-xid-smaller : goal.loop-xid-smaller
loop-xid-smaller c =
    let (w, was) = c.requires in
    let (v, aborted, tied) = c.loop-xid.invariant.aborted w was in
    let (o, is) = open_there v c.loop-xid.self tied c.in-Some.xid.now c.in-Some.field-0-1.now c.in-Some.ensures.value in
    fewer_kept v c.loop-xid.self c.abort.new.self tied c.in-Some.xid.now o is (c.abort.ensures.tied v o tied is) (c.in-Some.ensures.variant.0 refl)

pub loop-xid-preserved : goal.loop-xid-preserved
loop-xid-preserved c = record {
  aborted = λ w was.
      let (v, aborted, tied) = c.loop-xid.invariant.aborted w was in
      let (o, is) = open_there v c.loop-xid.self tied c.in-Some.xid.now c.in-Some.field-0-1.now c.in-Some.ensures.value in
      (aborted_with v c.in-Some.xid.now, one_aborted c.args.self.now.tables.schema w v aborted c.in-Some.xid.now o is, c.abort.ensures.tied v o tied is);
  schema = c.abort.ensures.schema ∙ c.loop-xid.invariant.schema;
}

pub returns-clause-shut : goal.returns-clause-shut
returns-clause-shut c = λ w was.
    let (v, aborted, tied) = c.loop-xid.invariant.aborted w was in
    (v, all_aborted c.args.self.now.tables.schema w v aborted c.loop-xid.self tied (none_left (btree_map_len c.loop-xid.self.transactions) c.in_default.ensures.variant.1), tied)
