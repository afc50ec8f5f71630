use Rattle.std.proofs.Common.{◌≡◌, ℕ, ◌<◌, ◌^◌, sym, ◌∙◌, arith, refl, cond}
use Rattle.session.specs.Sized.{bytes_of}
use Rattle.session.specs.State.{has_worker, spool_bytes_of}
use Rattle.session.proofs.Kept.{kept_present, Represents-remove, is_kept_direct, is_kept_worker, is_kept_spooled, spool_bytes-remove}
use Rattle.session.proofs.transactions.Transactions.close.Goals as goal
use Rattle.session.proofs.transactions.Transactions.close.Goals.{in-Direct, in-Worker, in-Spooled}

pub returns : goal.returns
returns c = λ g m kept.
    let was = kept_present c.args.self.now.ways m c.args.xid c.in_ok-way.way kept.ways (sym c.in_ok-way.ensures.value) in (
      was.0,
      was.1,
      was.2,
      elim c.match-way.branch [
        | in-Direct w ↦
            let way = is_kept_direct c.args.xid was.0.items was.0.way (sym w.in-Direct.is ∙ was.2) in
            let worker : cond {A = ℕ} (has_worker was.0.way) 1 0 ≡ 0 = rw way in
            let bytes : spool_bytes_of c.args.xid was.0.items was.0.way ≡ 0 = rw way in
            rw w.self-is (Represents-remove g c.args.self.now _ m c.args.xid was.0 kept was.1 c.in_ok-way.ensures.updates c.in_ok-way.ensures.len refl (omega (arith, worker)) refl (omega (arith, bytes)))
        | in-Worker w ↦
            let way = is_kept_worker c.args.xid was.0.items was.0.way (sym w.in-Worker.is ∙ was.2) in
            let worker : cond {A = ℕ} (has_worker was.0.way) 1 0 ≡ 1 = rw way in
            let bytes : spool_bytes_of c.args.xid was.0.items was.0.way ≡ 0 = rw way in
            let less = w.saturating_sub-self.ensures in
            rw w.self-is (Represents-remove g c.args.self.now _ m c.args.xid was.0 kept was.1 c.in_ok-way.ensures.updates c.in_ok-way.ensures.len refl (omega (arith, less, worker)) refl (omega (arith, bytes)))
        | in-Spooled w ↦
            let way = is_kept_spooled c.args.xid was.0.items w.in-Spooled.spool was.0.way (sym w.in-Spooled.is ∙ was.2) in
            let worker : cond {A = ℕ} (has_worker was.0.way) 1 0 ≡ 0 = rw way.0 in
            let bytes : spool_bytes_of c.args.xid was.0.items was.0.way ≡ bytes_of w.in-Spooled.spool = rw (way.0, way.1) in
            let sums = spool_bytes-remove m c.args.xid was.0 was.1 in
            let fits : bytes_of w.in-Spooled.spool < 2 ^ 64 = omega (arith, bytes, sums, kept.spooled, kept.fits) in
            let total = w.bytes.ensures fits in
            let less = w.saturating_sub-self-in-Spooled.ensures in
            rw w.self-is (Represents-remove g c.args.self.now _ m c.args.xid was.0 kept was.1 c.in_ok-way.ensures.updates c.in_ok-way.ensures.len refl (omega (arith, worker)) refl (omega (arith, less, total, bytes)))
      ],
    )
