use Rattle.std.proofs.Common.{refl, rules, subst, sym, ℕ, ◌∙◌}
use Rattle.std.proofs.lemmas.Map.Entries.{length-keys_of}
use Rattle.keyholds.specs.Holds.{holds_of}
use Rattle.live_tables.specs.BasicLemmas.{never_missing, writes_by_borrow, its_names}
use Rattle.live_tables.specs.EndedLemmas.{tied_touched}
use Rattle.live_tables.specs.ActLemmas.{tied_refused}
use Rattle.live_tables.specs.Transactions.{HasTouched}
use Rattle.live_tables.proofs.Stands.{on_ok, map_err}
use Rattle.live_tables.proofs.live_tables.Live.touch_by_holds.Goals as goal

pub unreachable-requires : goal.unreachable-requires
unreachable-requires c = never_missing c.args.self.now c.args.xid c.requires c.in_default.ensures.value

pub touch-requires : goal.touch-requires
touch-requires c =
    let (w, o, tied, is) = c.requires in
    record { named = its_names w c.args.self.now tied c.args.xid o is c.in-Some.transaction.now (sym c.in-Some.ensures.value) }

pub returns : goal.returns
returns c =
    let old = c.in-Some.transaction.now in
    let store = c.args.self.now in
    let after = c.get_mut.follows.lender c.touch.new.self in
    let writes = writes_by_borrow c.args.xid old c.touch.new.self store.transactions after (sym c.in-Some.ensures.value) (c.get_mut.follows.holds c.touch.new.self) in
    let count = c.mark-mark.ensures.count ∙ sym (length-keys_of (holds_of store.holds c.args.xid)) in
    record {
      ok =
          on_ok c.touch.result _ _ c.touch.ensures.ok
          (λ touched w o tied is.
          tied_touched w store tied c.args.xid o is old c.touch.new.self (record store { transactions = after }) writes c.args.sub
          (subst (λ (held : ℕ). HasTouched c.args.sub held old c.touch.new.self) count touched) refl refl refl);
      err =
          map_err c.touch.result _ _ c.touch.ensures.err
          (λ before w o tied is.
          tied_refused w store tied c.args.xid o is old c.touch.new.self (record store { transactions = after }) writes
          (record { schema_is = refl; rows = refl; room = λ cell has. has }) before refl refl);
      schema = search rules;
      made = refl;
    }
