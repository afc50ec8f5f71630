use Rattle.std.proofs.Common.{◌≡◌, ◌+◌, ◌++◌, ◌∷◌, [], ℕ, List, length, take, sym, ap, subst, ◌∙◌, arith}
use Rattle.std.proofs.Math.Seq.{take-length}
use Rattle.std.proofs.lemmas.List.{take_more}
use Rattle.model.specs.declared.key.Key.{Key}
use Rattle.live_tables.specs.Merged.{AreLaid}
use Rattle.live_tables.proofs.BeforeImageSteps.{none_laid, laid_both}
use Rattle.live_tables.proofs.live_tables.Live.lay_committed.Goals as goal

pub loop-key-init : goal.loop-key-init
loop-key-init c = λ w tied. none_laid w.committed c.args.table c.args.known.now

pub loop-key-preserved : goal.loop-key-preserved
loop-key-preserved c = λ w tied.
    let keys = c.args.keys.now in
    let index = c.loop-key.key-index in
    let more : take (index + 1) keys ≡ take index keys ++ c.key-item.result ∷ [] =
    take_more keys index c.key-item.result c.loop-key-test.true ∙ ap (λ (k : Key). take index keys ++ k ∷ []) (sym c.key-item.is) in
    subst (λ (ks : List Key). AreLaid w.committed c.args.table ks c.args.known.now c.lay_committed_at.new.known) (sym more)
    (laid_both w.committed c.args.table (take index keys) (c.key-item.result ∷ []) c.args.known.now c.loop-key.known c.lay_committed_at.new.known (c.loop-key.invariant w tied)
    (c.in_ok-lay_committed_at.ensures w tied))

pub returns : goal.returns
returns c = λ w tied.
    let last : c.loop-key.key-index ≡ length c.args.keys.now = omega arith in
    subst (λ (ks : List Key). AreLaid w.committed c.args.table ks c.args.known.now c.loop-key.known)
    (ap (λ (n : ℕ). take n c.args.keys.now) last ∙ take-length c.args.keys.now) (c.loop-key.invariant w tied)
