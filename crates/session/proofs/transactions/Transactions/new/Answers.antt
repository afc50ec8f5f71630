use Rattle.std.proofs.Common.{ℕ, sym, ap, ◌∙◌, cond, arith}
use Rattle.std.specs.Prelude.{option_map, sum_by}
use Rattle.std.specs.Ordering.{nat_cmp}
use Rattle.std.specs.BTreeMap.{is_at}
use Rattle.std.specs.Map.{lookup}
use Rattle.std.specs.FinMap as map
use Rattle.session.specs.State.{Open, has_worker, spool_bytes_of}
use Rattle.session.specs.KeptTransactions.{kept_part}
use Rattle.session.proofs.Kept.{entries-empty}
use Rattle.session.proofs.transactions.Transactions.new.Goals as goal

pub returns : goal.returns
returns c = λ g workers spool. record {
  ways = λ xid. ap (λ es. lookup (is_at (nat_cmp xid)) es) c.new.ensures.empty ∙ sym (ap (option_map (λ (o : Open). kept_part xid o.items o.way)) (map.get-empty nat_cmp xid));
  count = c.new.ensures.len ∙ sym (map.len-empty nat_cmp Open);
  workers = sym workers;
  working = sym (ap (sum_by (λ (t : ℕ × Open). cond (has_worker t.1.way) 1 0)) entries-empty);
  room = sym spool;
  spooled = sym (ap (sum_by (λ (t : ℕ × Open). spool_bytes_of t.0 t.1.items t.1.way)) entries-empty);
  fits = omega arith;
  limit = omega arith;
}
