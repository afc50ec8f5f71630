use Rattle.std.proofs.Common.{◌≡◌, ◌∷◌, ◌<◌, None, length, vec_capacity, sym, ap, subst, ◌∙◌}
use Rattle.std.specs.Prelude.{List, All, map, option_map}
use Rattle.std.proofs.lemmas.List.{length-map}
use Rattle.std.proofs.lemmas.List.Elements.{All-map}
use Rattle.model.specs.Rows.{Schema, IsValid}
use Rattle.engine.specs.declared.events.LineEvent.{LineEvent}
use Rattle.origin.specs.Commits.{commits_of}
use Rattle.world.specs.World.{Past}
use Rattle.engine.specs.Events.{commits_in}
use Rattle.dispatch.specs.Handle.{AreCounted}
use Rattle.dispatch.specs.Standing.{Standing, own_by, goes_by, holds_in}
use Rattle.leader.specs.Threads.{led}
use Rattle.leader.specs.Ending.{HasFinished}
use Rattle.run.specs.Settings.{setting_of}
use Rattle.leader.proofs.Leaving.{has_left, over_places, refused_end}
use Rattle.leader.proofs.threads.lead_all.Goals as goal

-- what was published are the ends of the line's commits, which what is undone at the end leaves as they are
pub returns-clause-published : goal.returns-clause-published
returns-clause-published g c =
    c.into_left-left.ensures.published
    ∙ ap (λ (ps : List Past). commits_of g.L.RunNames.origin (map (λ (p : Past). p.info.end) ps)) (sym (c.finish-end.ensures.commits ∙ ap commits_in c.into_left-left.ensures.list))

pub new-lead-requires-clause-workers : goal.new-lead-requires-clause-workers
new-lead-requires-clause-workers g c =
    ap (λ (t : Standing). length t.workers) c.new-transactions.ensures ∙ length-map c.args.opening.workers.items goes_by ∙ c.requires.workers

pub new-lead-requires-clause-free : goal.new-lead-requires-clause-free
new-lead-requires-clause-free g c =
    subst (All (λ goes. goes ≡ None)) (sym (ap (λ (t : Standing). t.workers) c.new-transactions.ensures))
    (All-map (λ goes. goes ≡ None) goes_by c.args.opening.workers.items (λ k d lt. (c.requires.free k d lt).0))

pub lead_stream-proposed-requires : goal.lead_stream-proposed-requires
lead_stream-proposed-requires g c = (setting_of c.args.workers c.args.config c.args.catalog.now, g.N.StoreNames.start, c.new-lead.ensures g.N.StoreNames.start)

-- there is room for a ticket of each worker, and for the leader's own
pub finish-end-requires-clause-room : goal.finish-end-requires-clause-room
finish-end-requires-clause-room g c =
    let s = setting_of c.args.workers c.args.config c.args.catalog.now in
    let start = g.N.StoreNames.start in
    let read = c.lead_stream-proposed in
    let l = led read.new.lead.stream read.new.lead.transactions in
    let left = c.into_left-left in
    let places : length read.new.lead.transactions.workers ≡ c.args.workers = over_places s start c.args.devices.now read.new.devices l read.result (read.ensures.over s start (c.new-lead.ensures start)) in
    let count : length left.result.0.workers.items ≡ c.args.workers = sym (length-map left.result.0.workers.items goes_by) ∙ ap length left.ensures.workers ∙ places in
    subst (λ n. n < vec_capacity c.args.opening.tickets) (sym count) c.requires.room

pub returns-clause-unread : goal.returns-clause-unread
returns-clause-unread g c = λ told.
    let none = c.lead_stream-proposed.ensures.unread told in
    (refused_end _ _ _ _ _ _ _ c.finish-end.ensures.finished none.0, none.1)

pub returns-clause-ends : goal.returns-clause-ends
returns-clause-ends g c =
    let s = setting_of c.args.workers c.args.config c.args.catalog.now in
    let start = g.N.StoreNames.start in
    let read = c.lead_stream-proposed in
    let l = led read.new.lead.stream read.new.lead.transactions in
    let left = c.into_left-left.result.0 in
    let left_so = c.into_left-left.ensures in
    let end = c.finish-end in
    has_left s start c.args.devices.now read.new.devices l read.result end.result (read.ensures.over s start (c.new-lead.ensures start))
    (subst (λ (keys : Schema). IsValid keys start) c.requires.keys c.requires.valid) left.begun left.workers.items c.deref.result.now
    left_so.begun left_so.workers left_so.home end.ensures.keeps (subst (AreCounted read.new.lead.transactions.workers) (sym c.deref.ensures.value) left_so.given)
    (subst (λ (keys : Schema). HasFinished keys start read.new.lead.transactions.line (option_map own_by left.begun ∷ map holds_in left.workers.items) c.deref.result.now read.result end.result) c.requires.keys
    (subst (λ (events : List LineEvent). HasFinished g.N.StoreNames.schema start events (option_map own_by left.begun ∷ map holds_in left.workers.items) c.deref.result.now read.result end.result) left_so.list
    end.ensures.finished))
    end.new.line.list c.into_left-left.result.1 (end.ensures.commits ∙ ap commits_in left_so.list) left_so.position
