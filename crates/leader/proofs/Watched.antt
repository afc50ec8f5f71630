-- What those who watched a run know of it.
--     known_at_start      each knows a part of any run, as it has seen none of it
--     known_along      what is known along a store's line is known of the run that leaves it
use Rattle.std.proofs.Common.{◌≡◌, ℕ, List, [], refl, sym, ap, ◌∙◌}
use Rattle.std.specs.Prelude.{All, map}
use Rattle.std.proofs.Math.Logic.{∥∥₁_map}
use Rattle.std.proofs.lemmas.List.{map-append}
use Rattle.std.proofs.lemmas.Grind.{flat_map-append}
use Rattle.std.proofs.lemmas.Simd.{map-map}
use Rattle.model.specs.Rows.{Rows, Schema}
use Rattle.model.specs.Beginning.{Begins}
use Rattle.tokens.specs.Half.{half, no_name}
use Rattle.origin.specs.Commits.{loaded_of}
use Rattle.world.specs.World as worlds
use Rattle.world.specs.World.{Past, entry_of}
use Rattle.engine.specs.declared.entry.Entry.{Entry}
use Rattle.engine.specs.declared.events.LineEvent.{LineEvent}
use Rattle.engine.specs.Engine.{entry_in}
use Rattle.engine.specs.Events.{past_of, commits_in, ends_in}
use Rattle.run.specs.declared.outcome.Outcome.{Outcome}
use Rattle.snapshot.specs.Reads.{Sight}
use Rattle.leader.specs.WithWorkers.{IsShutSo}
use Rattle.leader.specs.Watching.{IsUnseen, KnowsStart, IsSightOf, KnowsRun, IsSightAlong, KnowsAlong}

-- what a reader has seen that has seen nothing
abbrev unseen : Schema → Rows → ℕ → Sight
unseen keys rows skip = record { schema = keys; start = rows; line = half no_name []; published = loaded_of no_name skip [] }

is_unseen : (keys : Schema) (rows : Rows) (skip : ℕ) → IsUnseen keys rows skip (unseen keys rows skip)
is_unseen keys rows skip = record { schema = refl; start = refl; line = refl; skip = refl; published = refl }

-- it is a part of any run
unseen_of_any : (keys : Schema) (rows : Rows) (skip : ℕ) (o : Outcome) → IsSightOf keys rows skip o (unseen keys rows skip)
unseen_of_any keys rows skip o = record {
  schema = refl;
  start = refl;
  commits = (map entry_in o.journal.items, refl);
  skip = refl;
  published = (map (λ (e : Entry). e.end) o.journal.items, refl);
}

module _ {V : Type 0} (knows : V → Sight → Type 0) (keys : Schema) (rows : Rows) (skip : ℕ) where
  pub known_at_start : (watches : List V) (o : Outcome) → All (KnowsStart knows keys rows skip) watches → All (KnowsRun knows keys rows skip o) watches
  known_at_start watches o all k d below =
      let s = unseen keys rows skip in
      ∣ (s, all k d below s (is_unseen keys rows skip), unseen_of_any keys rows skip o) ∣₁

  -- the journal ends where the line's commits do
  ends_of_line : (line : List LineEvent) (entries : List Entry) → map entry_in entries ≡ map entry_of (commits_in line)
      → map (λ (e : Entry). e.end) entries ≡ ends_in line
  ends_of_line line entries journal =
      sym (map-map (λ (e : worlds.Entry). e.end) entry_in entries)
      ∙ ap (map (λ (e : worlds.Entry). e.end)) journal
      ∙ map-map (λ (e : worlds.Entry). e.end) entry_of (commits_in line)

  -- a beginning of a line tells a beginning of the commits
  commits_begin : (front line : List LineEvent) (entries : List worlds.Entry) → Begins front line → entries ≡ map entry_of (commits_in line)
      → Begins (map entry_of (commits_in front)) entries
  commits_begin front line entries (rest, is) journal =
      (map entry_of (commits_in rest), journal ∙ ap (λ (l : List LineEvent). map entry_of (commits_in l)) is ∙ ap (map entry_of) (flat_map-append past_of front rest) ∙ map-append entry_of (commits_in front) (commits_in rest))

  part_along : (line : List LineEvent) (o : Outcome) → IsShutSo keys rows line o → (s : Sight) → IsSightAlong keys rows skip line (ends_in line) s → IsSightOf keys rows skip o s
  part_along line o shut s along = record {
    schema = along.schema;
    start = along.start;
    commits = commits_begin s.line.list line (map entry_in o.journal.items) along.commits shut.journal;
    skip = along.skip;
    published = (along.published.0, ends_of_line line o.journal.items shut.journal ∙ along.published.1);
  }

  pub known_along : (line : List LineEvent) (o : Outcome) (watches : List V) → IsShutSo keys rows line o → All (KnowsAlong knows keys rows skip line (ends_in line)) watches
      → All (KnowsRun knows keys rows skip o) watches
  known_along line o watches shut all k d below =
      ∥∥₁_map (all k d below) (λ known. (known.0, known.1, part_along line o shut known.0 known.2))
