use Rattle.std.proofs.Common.{◌≡◌, ◌+◌, ◌<◌, ◌^◌, ap, ◌∙◌, arith, refl, Some, None}
use Rattle.std.specs.FinMap as map
use Rattle.session.specs.State.{Open, spool_bytes_of}
use Rattle.session.specs.Kept.{without_last, bytes_kept}
use Rattle.session.specs.KeptTransactions.{kept_part, with_item}
use Rattle.session.proofs.Totals.{get-insert_same}
use Rattle.session.proofs.Kept.{found_is, kept_value, keeping_less, bytes_kept-keeping, spool_bytes-remove, Represents-undone}
use Rattle.session.proofs.transactions.Transactions.drop_last.Goals as goal

pub returns-in-Some : goal.returns-in-Some
returns-in-Some c = λ g m o item size some survives kept.
    let xid = c.args.xid in
    let p : Open = with_item o item size in
    let there : map.get (map.insert m xid p) xid ≡ Some p = get-insert_same m xid p in
    let was = found_is g c.args.self.now (map.insert m xid p) xid p c.in-Some.way.now kept there c.in-Some.ensures.value in
    let is : c.drop_last-freed.new.self ≡ kept_part xid o.items o.way = c.drop_last-freed.ensures.rest ∙ ap without_last was ∙ keeping_less xid o.items item size o.way survives in
    let before : bytes_kept c.in-Some.way.now ≡ spool_bytes_of xid p.items p.way = ap bytes_kept was ∙ bytes_kept-keeping xid p.items p.way in
    let after : bytes_kept c.drop_last-freed.new.self ≡ spool_bytes_of xid o.items o.way = ap bytes_kept is ∙ bytes_kept-keeping xid o.items o.way in
    let freed = c.drop_last-freed.ensures.freed in
    let all = spool_bytes-remove (map.insert m xid p) xid p there in
    let less = c.saturating_sub-self.ensures in
    let sums : c.saturating_sub-self.result + spool_bytes_of xid p.items p.way ≡ c.args.self.now.spooled + spool_bytes_of xid o.items o.way = omega (arith, less, freed, before, after, all, kept.spooled) in
    let fits : c.saturating_sub-self.result < 2 ^ 64 = omega (arith, less, kept.fits) in
    Represents-undone g c.args.self.now _ m xid o p c.drop_last-freed.new.self kept some refl (c.get_mut.follows.holds c.drop_last-freed.new.self) is refl refl refl sums fits

pub returns-in_default : goal.returns-in_default
returns-in_default c = λ g m o item size some survives kept.
    let there = kept_value g c.args.self.now (map.insert m c.args.xid (with_item o item size)) c.args.xid (with_item o item size) kept (get-insert_same m c.args.xid (with_item o item size)) in
    let no : None ≡ Some (kept_part c.args.xid (with_item o item size).items o.way) = c.in_default.ensures.value ∙ there in
    cc
