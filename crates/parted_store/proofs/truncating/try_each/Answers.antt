use Rattle.std.proofs.Common.{rules, ◌≡◌, ◌<◌, ◌≤◌, ◌+◌, ◌∙◌, ◌∷◌, [], ℕ, List, true, false, Some, length, slice_index_or, slice_set, sym, ap, subst, length-append}
use Rattle.std.specs.Prelude.{Option, IsSome, IfErr, Result, Ok, Err}
use Rattle.std.proofs.lemmas.Option.{slice_get-get_or}
use Rattle.live_tables.specs.declared.answers.EngineFault.{EngineFault}
use Rattle.live_tables.specs.declared.answers.EngineFault.TheVariants.{OutOfMemory as NoMemory}
use Rattle.table_parts.specs.declared.several.Attempt.{Attempt}
use Rattle.table_parts.specs.declared.several.Attempted.{Attempted}
use Rattle.table_parts.specs.Several.{IsAttempted, IsWaiting, ComesTo}
use Rattle.parted_store.specs.Shares.{Share, share_of}
use Rattle.parted_store.specs.Truncating.{Both, EachIs, Zones, Untouched, Attempts, Stands, IsHeldInOne, cut_of}
use Rattle.parted_store.specs.TriedLemmas.{on_err, next_part, next_share, next_belongs, stops_here, goes_up, stand_behind, refused_stands, refused_same, waiting_stands, waiting_same, waiting_held, attempted_same}
use Rattle.parted_store.proofs.truncating.try_each.Goals as goal

pub attempt_share-requires-clause-belongs : goal.attempt_share-requires-clause-belongs
attempt_share-requires-clause-belongs c =
    let l = c.loop-i in
    let room : l.i < length l.parts = search rules in
    next_belongs c.args.mark c.args.parts.now c.args.shares.now.items c.requires.apart l.parts l.shares.items l.tried.items l.i l.invariant.0
    (slice_index_or l.parts l.i c.index-parts-i.result) (slice_get-get_or l.parts l.i c.index-parts-i.result room) c.requires.belong

pub attempt_share-requires-clause-share : goal.attempt_share-requires-clause-share
attempt_share-requires-clause-share c =
    let l = c.loop-i in
    let room : l.i < length l.parts = search rules in
    let q = slice_index_or l.parts l.i c.index-parts-i.result in
    let at = slice_get-get_or l.parts l.i c.index-parts-i.result room in
    subst (λ (f : Option Share). IsSome f)
    (sym (next_share c.args.mark c.args.parts.now c.args.shares.now.items c.requires.apart l.parts l.shares.items l.tried.items l.i l.invariant.0 q at))
    (c.requires.shares l.i q (next_part c.args.mark c.args.parts.now c.args.shares.now.items c.requires.apart l.parts l.shares.items l.tried.items l.i l.invariant.0 q at))

pub attempt_share-requires-clause-known : goal.attempt_share-requires-clause-known
attempt_share-requires-clause-known c =
    let l = c.loop-i in
    let room : l.i < length l.parts = search rules in
    let q = slice_index_or l.parts l.i c.index-parts-i.result in
    let at = slice_get-get_or l.parts l.i c.index-parts-i.result room in
    c.requires.known l.i q (next_part c.args.mark c.args.parts.now c.args.shares.now.items c.requires.apart l.parts l.shares.items l.tried.items l.i l.invariant.0 q at)

pub returns-in_err-attempt-clause-err : goal.returns-in_err-attempt-clause-err
returns-in_err-attempt-clause-err c =
    let l = c.loop-i in
    let room : l.i < length l.parts = search rules in
    let q = slice_index_or l.parts l.i c.index-parts-i.result in
    let at = slice_get-get_or l.parts l.i c.index-parts-i.result room in
    let refused = c.in_err-attempt.ensures.err in
    on_err c.from_residual.result _
    (subst (λ (n : ℕ). EachIs (Zones n (Attempts c.args.mark l.tried.items) (Stands true)) c.args.parts.now c.args.shares.now.items
    (slice_set l.parts l.i c.attempt_share.new.part) c.attempt_share.new.shares.items) (sym l.invariant.1)
    (stops_here c.args.mark c.args.parts.now c.args.shares.now.items c.requires.apart l.parts l.shares.items l.tried.items l.i l.invariant.0 q at true
    c.attempt_share.new.part c.attempt_share.new.shares.items (refused_same q c.attempt_share.new.part _ _ refused) c.attempt_share.ensures.others
    (refused_stands q c.attempt_share.new.part _ _ refused)))

pub returns-in_err-attempt-clause-fault : goal.returns-in_err-attempt-clause-fault
returns-in_err-attempt-clause-fault c =
    let same : c.from_residual.result ≡ Err c.in_err-attempt.field-0.0 = search rules in
    subst (λ (came : Result (Option ℕ) EngineFault). IfErr came (λ (fault : EngineFault). fault ≡ NoMemory)) (sym same) c.in_err-attempt.ensures.fault

pub returns-in-Held-clause-ok : goal.returns-in-Held-clause-ok
returns-in-Held-clause-ok c =
    let l = c.loop-i in
    let room : l.i < length l.parts = search rules in
    let q = slice_index_or l.parts l.i c.index-parts-i.result in
    let at = slice_get-get_or l.parts l.i c.index-parts-i.result room in
    let r = c.attempt_share.new.part in
    let waiting : Both (λ s t. IsWaiting q s c.in-Held.holder r t) (share_of l.shares.items q.number) (share_of c.attempt_share.new.shares.items q.number) =
    subst (λ (came : Attempted). Both (λ s t. ComesTo q s c.args.mark came r t) (share_of l.shares.items q.number) (share_of c.attempt_share.new.shares.items q.number)) c.in-Held.is c.in_ok-attempt.ensures.ok in
    subst (λ (n : ℕ). EachIs (Zones n (Attempts c.args.mark l.tried.items) (Stands false)) c.args.parts.now c.args.shares.now.items (slice_set l.parts l.i r) c.attempt_share.new.shares.items) (sym l.invariant.1)
    (stops_here c.args.mark c.args.parts.now c.args.shares.now.items c.requires.apart l.parts l.shares.items l.tried.items l.i l.invariant.0 q at false
    r c.attempt_share.new.shares.items (waiting_same q r c.in-Held.holder _ _ waiting) c.attempt_share.ensures.others (waiting_stands q r c.in-Held.holder _ _ waiting))

same_holder : (x y : ℕ) → ◌≡◌ {A = Result (Option ℕ) EngineFault} (Ok (Some x)) (Ok (Some y)) → x ≡ y
same_holder x y e = cc

pub returns-in-Held-clause-held : goal.returns-in-Held-clause-held
returns-in-Held-clause-held c = λ holder is.
    let l = c.loop-i in
    let room : l.i < length l.parts = search rules in
    let q = slice_index_or l.parts l.i c.index-parts-i.result in
    let at = slice_get-get_or l.parts l.i c.index-parts-i.result room in
    let r = c.attempt_share.new.part in
    let waiting : Both (λ s t. IsWaiting q s c.in-Held.holder r t) (share_of l.shares.items q.number) (share_of c.attempt_share.new.shares.items q.number) =
    subst (λ (came : Attempted). Both (λ s t. ComesTo q s c.args.mark came r t) (share_of l.shares.items q.number) (share_of c.attempt_share.new.shares.items q.number)) c.in-Held.is c.in_ok-attempt.ensures.ok in
    subst (IsHeldInOne c.args.parts.now c.args.shares.now.items) (same_holder c.in-Held.holder holder is)
    (waiting_held q r c.in-Held.holder c.args.parts.now c.args.shares.now.items l.i
    (next_part c.args.mark c.args.parts.now c.args.shares.now.items c.requires.apart l.parts l.shares.items l.tried.items l.i l.invariant.0 q at) _ _
    (sym (next_share c.args.mark c.args.parts.now c.args.shares.now.items c.requires.apart l.parts l.shares.items l.tried.items l.i l.invariant.0 q at)) waiting)

pub loop-i-preserved : goal.loop-i-preserved
loop-i-preserved c =
    let l = c.loop-i in
    let room : l.i < length l.parts = search rules in
    let q = slice_index_or l.parts l.i c.index-parts-i.result in
    let at = slice_get-get_or l.parts l.i c.index-parts-i.result room in
    let r = c.attempt_share.new.part in
    let a = c.in-Done.attempt in
    let done : Both (λ s t. IsAttempted q s c.args.mark (cut_of q) a r t) (share_of l.shares.items q.number) (share_of c.attempt_share.new.shares.items q.number) =
    subst (λ (came : Attempted). Both (λ s t. ComesTo q s c.args.mark came r t) (share_of l.shares.items q.number) (share_of c.attempt_share.new.shares.items q.number)) c.in-Done.is c.in_ok-attempt.ensures.ok in (
      subst (λ (told : List Attempt). EachIs (Zones (l.i + 1) (Attempts c.args.mark told) Untouched) c.args.parts.now c.args.shares.now.items (slice_set l.parts l.i r) c.attempt_share.new.shares.items)
          (sym c.push_reserved.ensures.items)
          (goes_up c.args.mark c.args.parts.now c.args.shares.now.items c.requires.apart l.parts l.shares.items l.tried.items l.i l.invariant.0 q at a l.invariant.1
          r c.attempt_share.new.shares.items (attempted_same c.args.mark q r a _ _ done) c.attempt_share.ensures.others done),
      ap length c.push_reserved.ensures.items ∙ length-append l.tried.items (a ∷ []) ∙ ap (λ n. n + 1) l.invariant.1,
      c.push_reserved.ensures.len ∙ ap (λ n. n + 1) l.invariant.2,
      subst (λ n. length c.args.parts.now ≤ n) (sym c.push_reserved.ensures.capacity) l.invariant.3,
    )

pub returns-clause-ok : goal.returns-clause-ok
returns-clause-ok c =
    let l = c.loop-i in
    subst (λ (n : ℕ). EachIs (Zones n (Attempts c.args.mark l.tried.items) (Stands false)) c.args.parts.now c.args.shares.now.items l.parts l.shares.items) (sym l.invariant.1)
    (stand_behind c.args.mark c.args.parts.now c.args.shares.now.items l.parts l.shares.items l.tried.items l.i false l.invariant.0)
