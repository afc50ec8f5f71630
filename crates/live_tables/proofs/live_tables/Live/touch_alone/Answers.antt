use Rattle.std.proofs.Common.{refl, sym}
use Rattle.live_tables.specs.BasicLemmas.{writes_by_borrow}
use Rattle.live_tables.specs.ByHoldsLemmas.{never_absent, open_tells}
use Rattle.live_tables.specs.LoneLemmas.{lone_touched, lone_refused}
use Rattle.live_tables.proofs.Stands.{on_ok, map_err}
use Rattle.live_tables.proofs.live_tables.Live.touch_alone.Goals as goal

pub unreachable-requires : goal.unreachable-requires
unreachable-requires c = never_absent c.args.self.now c.args.xid c.requires.tied c.in_default.ensures.value

pub touch-requires : goal.touch-requires
touch-requires c =
    let (w, o, tied, is) = c.requires.tied in
    record { named = (open_tells w c.args.self.now tied c.args.xid o is c.in-Some.transaction.now (sym c.in-Some.ensures.value)).named }

pub returns : goal.returns
returns c =
    let old = c.in-Some.transaction.now in
    let store = c.args.self.now in
    let after = c.get_mut.follows.lender c.touch.new.self in
    let writes = writes_by_borrow c.args.xid old c.touch.new.self store.transactions after (sym c.in-Some.ensures.value) (c.get_mut.follows.holds c.touch.new.self) in
    record {
      ok =
          on_ok c.touch.result _ _ c.touch.ensures.ok (λ touched w o tied is.
          lone_touched w store tied c.requires.alone c.args.xid o is old c.touch.new.self (record store { transactions = after }) writes refl refl refl c.args.xid 0
          (sym (open_tells w store tied c.args.xid o is old (sym c.in-Some.ensures.value)).top) touched refl refl);
      err =
          map_err c.touch.result _ _ c.touch.ensures.err (λ before w o tied is.
          lone_refused w store tied c.requires.alone c.args.xid o is old c.touch.new.self (record store { transactions = after }) writes refl refl refl
          (record { schema_is = refl; rows = refl; room = λ cell has. has }) before refl);
      schema = refl;
    }
