-- A table's content among all, where it was that of the same table elsewhere.
--     sound_there, schema_there      the tables are sound, and have the keys that they had
--     rows_there, elsewhere_there      the table has the rows that it has elsewhere, and the others have theirs
use Rattle.std.specs.Prelude.{◌≡◌, ℕ, ◌<◌, List, length, slice_set, slice_index_or}
use Rattle.std.proofs.Common.{sym, ◌∙◌, ap, subst}
use Rattle.std.specs.FinMap.{get}
use Rattle.model.specs.declared.key.Key.{Key}
use Rattle.model.specs.Rows.{Schema, keys_at}
use Rattle.indexes.specs.Table.{TableContent, IsSound}
use Rattle.indexes.specs.Content.{Content, SameElsewhere}
use Rattle.indexes.specs.Gathered.{schema_of, rows_of, gathered, AllSound}
use Rattle.indexes.proofs.Seen as seen

module _ (ts us : List TableContent) (all others : Content) (v : gathered ts ≡ all) (w : gathered us ≡ others) (keys : others.schema ≡ all.schema)
    (i : ℕ) (known : i < length all.schema) (t u : TableContent) (is : t ≡ slice_index_or ts i t) (u_is : u ≡ slice_index_or us i u)
    (new : TableContent) (new_is : new ≡ u) where
  known_there : i < length others.schema
  known_there = subst (λ (s : Schema). i < length s) (sym keys) known

  pub sound_there : AllSound ts → AllSound us → AllSound (slice_set ts i new)
  sound_there sound sound_too =
      seen.sound_with ts all v i known t is new sound
      (subst IsSound (sym new_is) (sound_too i u (seen.at us others w i known_there u u_is)))

  pub schema_there : schema_of (slice_set ts i new) ≡ all.schema
  schema_there =
      seen.schema_stays ts all v i known t is new
      (ap (λ (s : TableContent). s.keys) new_is ∙ sym (seen.seen_keys us others w i known_there u u_is) ∙ ap (λ (s : Schema). keys_at s i) keys
      ∙ seen.seen_keys ts all v i known t is)

  pub rows_there : (key : Key) → get (rows_of (slice_set ts i new)) (i, key) ≡ get others.rows (i, key)
  rows_there key =
      seen.new_get ts all v i known t is new key ∙ ap (λ (s : TableContent). get s.rows key) new_is
      ∙ sym (seen.seen_get us others w i known_there u u_is key)

  pub elsewhere_there : SameElsewhere all.rows (rows_of (slice_set ts i new)) i
  elsewhere_there = seen.elsewhere ts all v i known t is new
