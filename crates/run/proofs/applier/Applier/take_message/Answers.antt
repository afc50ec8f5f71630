use Rattle.std.proofs.Common.{[], ◌∷◌, ◌<◌, refl, sym, ap, subst, ◌∙◌}
use Rattle.model.specs.Rows.{Rows}
use Rattle.model.specs.Survivors.{changes_of}
use Rattle.session.specs.State.{Setting}
use Rattle.session.specs.Answers.{AdmitsPayload}
use Rattle.session.specs.declared.step.Step.TheVariants as steps
use Rattle.engine.specs.Engine.{Engine}
use Rattle.engine.specs.Serial.{Serial}
use Rattle.run.specs.Progress.{Progress}
use Rattle.run.specs.Applier.{Represents}
use Rattle.run.proofs.Admitted.{taken_on}
use Rattle.run.proofs.Taking.{given, committed_by, quiet, is_quiet, no_change, sane, went_on, commit_taken, clear_behind, one_counted, all_counted, rises}
use Rattle.run.proofs.Ending.{ends_with, turned_away, out_of_memory, clashed_on, clashed_at_commit}
use Rattle.run.proofs.applier.Applier.take_message.Goals as goal
use Rattle.run.proofs.applier.Applier.take_message.Goals.{In-Item, In-Commit}
use Rattle.model.specs.Beginning.{last_end}
use Rattle.world.specs.World.{ends_of}

-- the session answered this
taken : (c : In-Item) (g : Setting) (rows : Rows) (p : Progress) → Represents g rows c.args.self.now p → AdmitsPayload g c.admit.new.self p.state c.args.payload.now (steps.Item c.in-Item.field-0 c.in-Item.item)
taken c g rows p at = subst (AdmitsPayload g c.admit.new.self p.state c.args.payload.now) c.in-Item.is (c.in_ok-item.ensures g p.state at.catalog at.session)

taken_commit : (c : In-Commit) (g : Setting) (rows : Rows) (p : Progress) → Represents g rows c.args.self.now p → AdmitsPayload g c.admit.new.self p.state c.args.payload.now (steps.Commit c.in-Commit.xid c.in-Commit.info c.in-Commit.items)
taken_commit c g rows p at = subst (AdmitsPayload g c.admit.new.self p.state c.args.payload.now) c.in-Commit.is (c.in_ok-item.ensures g p.state at.catalog at.session)

pub returns-in_err-item : goal.returns-in_err-item
returns-in_err-item c = λ g rows p at.
    ends_with g rows _ p c.args.payload.now c.from_residual.result _ c.from_residual.ensures.1
    (turned_away g rows c.args.self.now _ p c.args.payload.now c.in_err-item.field-0.0 at (record { store = refl; position = refl }) (c.in_err-item.ensures g p.state at.catalog at.session).cause)

pub take-requires : goal.take-requires
take-requires c =
    let at = c.requires.3 in
    let t = taken (goal.at.take-requires c).In-Item c.requires.0 c.requires.1 c.requires.2 at in
    one_counted c.requires.0 c.requires.1 c.args.self.now c.requires.2 c.in-Item.item at (given c.requires.0 c.requires.2.state t.state t.told c.in-Item.field-0 c.in-Item.item (sane _ _ _ at.session) (sane _ _ _ t.represents) at.served t.tells t.within t.says).0

pub returns-in_err-take-in-Item : goal.returns-in_err-take-in-Item
returns-in_err-take-in-Item c = λ g rows p at.
    let t = taken (goal.at.returns-in_err-take-in-Item c).In-Item g rows p at in
    let on = (given g p.state t.state t.told c.in-Item.field-0 c.in-Item.item (sane _ _ _ at.session) (sane _ _ _ t.represents) at.served t.tells t.within t.says).1 in
    ends_with g rows _ p c.args.payload.now c.from_residual-in_err-take-in-Item.result _ c.from_residual-in_err-take-in-Item.ensures.1
    (clashed_on g rows c.args.self.now _ p c.args.payload.now t.message t.state (changes_of (c.in-Item.item ∷ [])) c.in_err-take-in-Item.field-0.0 at t.admits on
    (record { store = ap (λ (w : Serial). w.store) c.in_err-take-in-Item.ensures.err; position = refl })
    c.in_err-take-in-Item.ensures.refused)

pub returns-in_ok-take-in-Item : goal.returns-in_ok-take-in-Item
returns-in_ok-take-in-Item c = λ g rows p at.
    let t = taken (goal.at.returns-in_ok-take-in-Item c).In-Item g rows p at in
    let on = (given g p.state t.state t.told c.in-Item.field-0 c.in-Item.item (sane _ _ _ at.session) (sane _ _ _ t.represents) at.served t.tells t.within t.says).1 in
    let cs = changes_of (c.in-Item.item ∷ []) in
    taken_on g (Represents g rows _) p c.args.payload.now t.message t.state t.admits on.past
    (went_on g rows c.args.self.now _ p t.state cs at on (record { catalog = refl; work = c.in_ok-take-in-Item.ensures.ok; position = refl; written = refl }) t.represents
    (clear_behind g rows c.args.self.now p cs at c.in_ok-take-in-Item.ensures.clear))

pub take_all-requires : goal.take_all-requires
take_all-requires c =
    let at = c.requires.3 in
    let t = taken_commit (goal.at.take_all-requires c).In-Commit c.requires.0 c.requires.1 c.requires.2 at in
    all_counted c.requires.0 c.requires.1 c.args.self.now c.requires.2 c.in-Commit.items.items at
    (committed_by c.requires.0 c.requires.2.state t.state t.told c.in-Commit.xid c.in-Commit.info.commit c.in-Commit.info.end c.in-Commit.items (sane _ _ _ at.session) (sane _ _ _ t.represents) at.served t.tells t.says).named

pub commit-requires : goal.commit-requires
commit-requires c =
    let at = c.requires.3 in
    let t = taken_commit (goal.at.commit-requires c).In-Commit c.requires.0 c.requires.1 c.requires.2 at in
    let is = committed_by c.requires.0 c.requires.2.state t.state t.told c.in-Commit.xid c.in-Commit.info.commit c.in-Commit.info.end c.in-Commit.items (sane _ _ _ at.session) (sane _ _ _ t.represents) at.served t.tells t.says in
    subst (λ (e : Engine). last_end (ends_of e.world) < c.in-Commit.info.end) (sym c.take_all.ensures.store)
    (rises c.requires.0 c.requires.1 c.args.self.now c.requires.2 t.state c.in-Commit.xid c.in-Commit.info.commit c.in-Commit.info.end c.in-Commit.items.items at is)

pub returns-in_err-take_all-in-Commit : goal.returns-in_err-take_all-in-Commit
returns-in_err-take_all-in-Commit c = λ g rows p at.
    let t = taken_commit (goal.at.returns-in_err-take_all-in-Commit c).In-Commit g rows p at in
    let is = committed_by g p.state t.state t.told c.in-Commit.xid c.in-Commit.info.commit c.in-Commit.info.end c.in-Commit.items (sane _ _ _ at.session) (sane _ _ _ t.represents) at.served t.tells t.says in
    ends_with g rows _ p c.args.payload.now c.from_residual-in_err-take_all-in-Commit.result _ c.from_residual-in_err-take_all-in-Commit.ensures.1
    (clashed_at_commit g rows c.args.self.now _ p c.args.payload.now t.message t.state c.in-Commit.xid c.in-Commit.info.commit c.in-Commit.info.end c.in-Commit.items.items c.in_err-take_all-in-Commit.field-0.0 at t.admits is
    (record { store = c.in_err-take_all-in-Commit.ensures.store; position = refl })
    c.in_err-take_all-in-Commit.ensures.refused)

pub returns-in_err-commit-in-Commit : goal.returns-in_err-commit-in-Commit
returns-in_err-commit-in-Commit c = λ g rows p at.
    let left = c.in_err-commit-in-Commit.ensures.err in
    ends_with g rows _ p c.args.payload.now c.from_residual-in_err-commit-in-Commit.result _ c.from_residual-in_err-commit-in-Commit.ensures.1
    (out_of_memory g rows c.args.self.now _ p c.args.payload.now at
    (record { store = ap (λ (w : Serial). w.store) left.0 ∙ c.take_all.ensures.store; position = left.1 }))

pub returns-in_ok-commit-in-Commit : goal.returns-in_ok-commit-in-Commit
returns-in_ok-commit-in-Commit c = λ g rows p at.
    let t = taken_commit (goal.at.returns-in_ok-commit-in-Commit c).In-Commit g rows p at in
    let is = committed_by g p.state t.state t.told c.in-Commit.xid c.in-Commit.info.commit c.in-Commit.info.end c.in-Commit.items (sane _ _ _ at.session) (sane _ _ _ t.represents) at.served t.tells t.says in
    let cs = changes_of c.in-Commit.items.items in
    commit_taken g rows c.args.self.now c.commit.new.self p c.args.payload.now t.message t.state c.in-Commit.xid c.in-Commit.info.commit c.in-Commit.info.end c.in-Commit.items.items c.take_all.new.self at t.admits is (rw c.commit.ensures.session t.represents)
    (clear_behind g rows c.args.self.now p cs at c.in_ok-take_all-in-Commit.ensures.clear)
    c.in_ok-take_all-in-Commit.ensures.ok c.in_ok-commit-in-Commit.ensures.commits c.in_ok-commit-in-Commit.ensures.none c.commit.ensures.same c.in_ok-commit-in-Commit.ensures.position c.in_ok-commit-in-Commit.ensures.written c.commit.ensures.catalog

pub returns-in-Nothing : goal.returns-in-Nothing
returns-in-Nothing c = λ g rows p at.
    let t = c.in_ok-item.ensures g p.state at.catalog at.session in
    let on = quiet g p.state t.state t.told c.in_ok-item.field-0 (sane _ _ _ at.session) (sane _ _ _ t.represents) at.served at.workers t.tells t.within t.says (is_quiet c.in_ok-item.field-0 c.in-Nothing.is) in
    taken_on g (Represents g rows _) p c.args.payload.now t.message t.state t.admits on.past
    (went_on g rows c.args.self.now _ p t.state [] at on (record { catalog = refl; work = no_change c.args.self.now.work; position = refl; written = refl }) t.represents tt)
