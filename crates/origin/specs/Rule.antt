-- The rule of a position's cell, and what each of its steps tells.
--     Knows      what is true of a token's view
--     IsInOrder      the rule: the cell has what is published behind all commits
--     first_view, blank_view      the view of a new origin's publisher, and of a spent token
--     published_by, HasPublished      all that the publisher published; a view is the publisher's
--     seen_part, met_view      what was seen, for another token; the publisher's view with that
--     Publishes, Loads, Compares      what the steps tell
use Rattle.std.specs.Prelude.{◌≡◌, ℕ, List, [], ◌∷◌, ◌++◌, Some, None, unwrap_or}
use mathlib.Core.Option.{some}
use lib.ListN.{get_elem?}
use Rattle.origin.specs.declared.position.Published.{Published}
use Rattle.origin.specs.declared.protocol.View.{View}
use Rattle.origin.specs.Commits.{published_after}
use Rattle.model.specs.Beginning.{Begins}

-- What the token `by` knows is true: if it publishes, all that was published; and what it has seen
-- is a beginning of that.
pub record Knows (ends : List ℕ) (publisher by : ℕ) (v : View) : Type 0 where
  pub published : (l : List ℕ) → v.published ≡ Some l → (by ≡ publisher) × (l ≡ ends)
  pub seen : Begins v.seen ends

-- The cell has what is published behind all commits, and what each token knows is true.
pub record IsInOrder (now : Published) (views : List View) : Type 0 where
  pub ends : List ℕ
  pub publisher : ℕ
  pub now_is : now ≡ published_after ends
  pub each : (by : ℕ) (v : View) → get_elem? views by ≡ some v → Knows ends publisher by v

-- nothing was published yet
abbrev pub first_view : View
first_view = record { published = Some []; seen = [] }

-- what a token knows that was joined to another
abbrev pub blank_view : View
blank_view = record { published = None; seen = [] }

-- all that the publisher published
abbrev pub published_by : View → List ℕ
published_by v = unwrap_or v.published []

-- the view is the publisher's
abbrev pub HasPublished : View → Type 0
HasPublished v = v.published ≡ Some (published_by v)

-- what was seen, for another token
abbrev pub seen_part : View → View
seen_part v = record { published = None; seen = v.seen }

-- the publisher's view, with what a loader saw
abbrev pub met_view : View → View → View
met_view v w = record { published = v.published; seen = w.seen }

-- one more end LSN is published
abbrev pub Publishes : View → Published → View → Type 0
Publishes before stored after =
    after ≡ record before { published = Some (published_by before ++ stored.end_lsn ∷ []) }

-- it has seen what it had seen and maybe more, and found what is published behind that
pub record Loads (before : View) (found : Published) (after : View) : Type 0 where
  pub same : after.published ≡ before.published
  pub later : Begins before.seen after.seen
  pub position : found ≡ published_after after.seen

-- what was seen is a beginning of what was published
abbrev pub Compares : View → View → Type 0
Compares before after = Begins before.seen (published_by before) × (after ≡ before)
