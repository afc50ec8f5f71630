use Rattle.std.proofs.Common.{refl, sym, ap, subst}
use Rattle.std.specs.Prelude.{All}
use Rattle.session.specs.Answers.{IsOfTables, Says}
use Rattle.session.specs.declared.step.Step.TheVariants as steps
use Rattle.session.specs.Represents.{Represents}
use Rattle.run.specs.Ends.{end_of_refusal}
use Rattle.leader.specs.declared.lead.Stream.{Stream}
use Rattle.leader.specs.Threads.{Led, led}
use Rattle.leader.proofs.Leading.{IsNoCommit, keeps_on, same_but_open, item_named, step_taken, stays, nothing_agreed, begin_agreed, open_agreed, handed_on, item_agreed, abort_agreed, takes_err, led_commit, rises, led_to_commit, begun_line, handed_out_line, taken_line, aborted_line, stops_refused, stops_item, stops_at_commit}
use Rattle.leader.proofs.Asking.{begins_alone, item_ours, commit_ready, abort_goes}
use Rattle.leader.proofs.lead.Lead.take_message.Goals as goal

pub begin-requires : goal.begin-requires
begin-requires g c =
    let at = c.requires.3 in
    let t = c.in_ok-admit.ensures c.requires.0 c.requires.2.state at.catalog at.session in
    begins_alone c.requires.0 c.requires.2.state t.state t.told c.in-Begin.xid c.args.self.now.transactions at.agreed t.represents.alone t.tells t.within (subst (Says t.told) c.in-Begin.is t.says)

pub take-requires : goal.take-requires
take-requires g c =
    let at = c.requires.3 in
    let t = c.in_ok-admit.ensures c.requires.0 c.requires.2.state at.catalog at.session in
    let says = subst (Says t.told) c.in-Item.is t.says in
    record {
      named = subst (λ n. IsOfTables n c.in-Item.item) (sym at.tables) (item_named c.requires.0 t.told c.in-Item.xid c.in-Item.item t.within says);
      ours = item_ours c.requires.2.state t.state c.in-Item.xid c.in-Item.item c.args.self.now.transactions at.agreed (handed_on c.requires.0 c.requires.2.state t.state t.told c.in-Item.xid c.in-Item.item t.tells t.within says);
    }

pub abort-requires : goal.abort-requires
abort-requires g c =
    let at = c.requires.3 in
    let t = c.in_ok-admit.ensures c.requires.0 c.requires.2.state at.catalog at.session in
    abort_goes c.requires.0 c.requires.2.state t.state t.told c.in-Abort.xid c.args.self.now.transactions at.agreed t.tells t.within (subst (Says t.told) c.in-Abort.is t.says)

pub commit-requires : goal.commit-requires
commit-requires g c =
    let at = c.requires.3 in
    let t = c.in_ok-admit.ensures c.requires.0 c.requires.2.state at.catalog at.session in
    let is = led_commit c.requires.0 c.requires.2.state t.state t.told c.in-Commit.xid c.in-Commit.info c.in-Commit.items at.named t.tells (subst (Says t.told) c.in-Commit.is t.says) in
    record {
      named = subst (λ n. All (IsOfTables n) c.in-Commit.items.items) (sym at.tables) is.items;
      ready = commit_ready c.requires.2.state t.state is.transaction c.in-Commit.xid c.args.self.now.transactions is.xid_is at.agreed t.represents.alone is.commits;
      rising = rises c.requires.0 c.requires.1 (led c.args.self.now.stream c.args.self.now.transactions) c.requires.2 t.state c.in-Commit.xid c.in-Commit.info c.in-Commit.items.items at is;
    }

pub returns-in-Nothing : goal.returns-in-Nothing
returns-in-Nothing g c = let st = c.args.self.now.transactions in step_taken c.args.self.now.stream c.admit.new.self st st c.args.payload.now c.in_ok-admit.field-0 steps.Nothing c.in-Nothing.is tt c.in_ok-admit.ensures (refl, refl, refl) (nothing_agreed st)

pub returns-in_ok-begin-in-Begin : goal.returns-in_ok-begin-in-Begin
returns-in_ok-begin-in-Begin g c = let is = c.in_ok-begin-in-Begin.ensures.ok in step_taken c.args.self.now.stream c.admit.new.self c.args.self.now.transactions c.begin.new.self c.args.payload.now c.in_ok-admit.field-0 (steps.Begin c.in-Begin.xid) c.in-Begin.is tt c.in_ok-admit.ensures (begun_line _ _ _ is) (begin_agreed _ _ _ is)

pub returns-in_ok-hand_out-in-Open : goal.returns-in_ok-hand_out-in-Open
returns-in_ok-hand_out-in-Open g c = let is = c.in_ok-hand_out-in-Open.ensures.ok in step_taken c.args.self.now.stream c.admit.new.self c.args.self.now.transactions c.hand_out.new.self c.args.payload.now c.in_ok-admit.field-0 (steps.Open c.in-Open.xid) c.in-Open.is tt c.in_ok-admit.ensures (handed_out_line _ _ _ is) (open_agreed _ _ _ is)

pub returns-in_ok-take-in-Item : goal.returns-in_ok-take-in-Item
returns-in_ok-take-in-Item g c = let is = c.in_ok-take-in-Item.ensures.ok in step_taken c.args.self.now.stream c.admit.new.self c.args.self.now.transactions c.take.new.self c.args.payload.now c.in_ok-admit.field-0 (steps.Item c.in-Item.xid c.in-Item.item) c.in-Item.is tt c.in_ok-admit.ensures (taken_line _ _ _ _ is) (item_agreed _ _ _ _ is)

pub returns-in_ok-abort-in-Abort : goal.returns-in_ok-abort-in-Abort
returns-in_ok-abort-in-Abort g c = let is = c.in_ok-abort-in-Abort.ensures.ok in step_taken c.args.self.now.stream c.admit.new.self c.args.self.now.transactions c.abort.new.self c.args.payload.now c.in_ok-admit.field-0 (steps.Abort c.in-Abort.xid) c.in-Abort.is tt c.in_ok-admit.ensures (aborted_line _ _ _ is) (abort_agreed _ _ _ is)

pub returns-in-Commit : goal.returns-in-Commit
returns-in-Commit g c = λ s rows p at.
    let t = c.in_ok-admit.ensures s p.state at.catalog at.session in
    let is = led_commit s p.state t.state t.told c.in-Commit.xid c.in-Commit.info c.in-Commit.items at.named t.tells (subst (Says t.told) c.in-Commit.is t.says) in
    let ok = c.in_ok-commit-in-Commit.ensures.ok in
    led_to_commit s rows (led c.args.self.now.stream c.args.self.now.transactions) (led c.commit.new.self.stream c.commit.new.self.transactions) p c.args.payload.now t.message t.state c.in-Commit.xid c.in-Commit.info c.in-Commit.items.items at t.admits is
    c.in_ok-commit-in-Commit.ensures.commits (ap (λ (l : Led). l.catalog) ok) (ap (λ (l : Led). l.position) ok) (ap (λ (l : Led). l.written) ok) (subst (λ v. Represents s v t.state) (sym c.commit.ensures.session) t.represents)

pub returns-in_err-admit : goal.returns-in_err-admit
returns-in_err-admit g c = λ s rows p at.
    takes_err s rows (led (record c.args.self.now.stream { session = c.admit.new.self }) c.args.self.now.transactions) p c.args.payload.now c.from_residual.result (end_of_refusal c.in_err-admit.field-0.0) c.from_residual.ensures.1
    (stops_refused s rows (led c.args.self.now.stream c.args.self.now.transactions) (led (record c.args.self.now.stream { session = c.admit.new.self }) c.args.self.now.transactions) p c.args.payload.now c.in_err-admit.field-0.0 (end_of_refusal c.in_err-admit.field-0.0) at (same_but_open c.args.self.now.stream _ _ _ refl refl refl) refl (c.in_err-admit.ensures s p.state at.catalog at.session).cause refl)

pub returns-in_err-begin-in-Begin : goal.returns-in_err-begin-in-Begin
returns-in_err-begin-in-Begin g c = stays c.args.self.now.stream c.admit.new.self c.args.self.now.transactions c.begin.new.self c.args.payload.now c.from_residual-in_err-begin-in-Begin.result c.in_err-begin-in-Begin.field-0.0 c.from_residual-in_err-begin-in-Begin.ensures.1 c.in_err-begin-in-Begin.ensures.same c.in_err-begin-in-Begin.ensures.err

pub returns-in_err-hand_out-in-Open : goal.returns-in_err-hand_out-in-Open
returns-in_err-hand_out-in-Open g c = stays c.args.self.now.stream c.admit.new.self c.args.self.now.transactions c.hand_out.new.self c.args.payload.now c.from_residual-in_err-hand_out-in-Open.result c.in_err-hand_out-in-Open.field-0.0 c.from_residual-in_err-hand_out-in-Open.ensures.1 c.in_err-hand_out-in-Open.ensures.same c.in_err-hand_out-in-Open.ensures.err

pub returns-in_err-abort-in-Abort : goal.returns-in_err-abort-in-Abort
returns-in_err-abort-in-Abort g c = stays c.args.self.now.stream c.admit.new.self c.args.self.now.transactions c.abort.new.self c.args.payload.now c.from_residual-in_err-abort-in-Abort.result c.in_err-abort-in-Abort.field-0.0 c.from_residual-in_err-abort-in-Abort.ensures.1 c.in_err-abort-in-Abort.ensures.same c.in_err-abort-in-Abort.ensures.err

pub returns-in_err-take-in-Item : goal.returns-in_err-take-in-Item
returns-in_err-take-in-Item g c = λ s rows p at.
    let t = c.in_ok-admit.ensures s p.state at.catalog at.session in
    takes_err s rows (led (record c.args.self.now.stream { session = c.admit.new.self }) c.take.new.self) p c.args.payload.now c.from_residual-in_err-take-in-Item.result c.in_err-take-in-Item.field-0.0 c.from_residual-in_err-take-in-Item.ensures.1
    (stops_item s rows (led c.args.self.now.stream c.args.self.now.transactions) (led (record c.args.self.now.stream { session = c.admit.new.self }) c.take.new.self) p c.args.payload.now t.message t.state c.in-Item.xid c.in-Item.item c.in_err-take-in-Item.field-0.0 at t.admits
    (keeps_on s p.state t.state t.told c.in_ok-admit.field-0 at.named t.tells t.within t.says (subst IsNoCommit (sym c.in-Item.is) tt))
    t.represents.alone refl refl refl (handed_on s p.state t.state t.told c.in-Item.xid c.in-Item.item t.tells t.within (subst (Says t.told) c.in-Item.is t.says)) c.in_err-take-in-Item.ensures.err)

pub returns-in_err-commit-in-Commit : goal.returns-in_err-commit-in-Commit
returns-in_err-commit-in-Commit g c = λ s rows p at.
    let t = c.in_ok-admit.ensures s p.state at.catalog at.session in
    let is = led_commit s p.state t.state t.told c.in-Commit.xid c.in-Commit.info c.in-Commit.items at.named t.tells (subst (Says t.told) c.in-Commit.is t.says) in
    let stream = c.in_err-commit-in-Commit.ensures.stream in
    takes_err s rows (led c.commit.new.self.stream c.commit.new.self.transactions) p c.args.payload.now c.from_residual-in_err-commit-in-Commit.result c.in_err-commit-in-Commit.field-0.0 c.from_residual-in_err-commit-in-Commit.ensures.1
    (stops_at_commit s rows (led c.args.self.now.stream c.args.self.now.transactions) (led c.commit.new.self.stream c.commit.new.self.transactions) p c.args.payload.now t.message t.state c.in-Commit.xid c.in-Commit.info c.in-Commit.items.items c.in_err-commit-in-Commit.field-0.0 at t.admits is
    (ap (λ (x : Stream). x.catalog.now) stream) (ap (λ (x : Stream). x.position) stream) (ap (λ (x : Stream). x.written) stream) c.in_err-commit-in-Commit.ensures.err c.in_err-commit-in-Commit.ensures.end)
