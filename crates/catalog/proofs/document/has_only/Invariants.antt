use Rattle.std.proofs.Common.{◌≡◌, map, string_bytes}
use Rattle.std.specs.List.{list_any, list_all}
use Rattle.std.specs.Str.{bytes_eq}
use Rattle.toml.specs.View.{table_view}
use Rattle.catalog.specs.Document.{has_only}
use Rattle.catalog.proofs.document.has_only.Given as goal

abbrev pub invariant-loop-key : goal.invariant-loop-key
invariant-loop-key l =
    has_only (map (λ k. k.now) l.keys) (table_view l.table) ≡ list_all (λ key. list_any (bytes_eq (string_bytes key)) (map (λ k. k.now) l.keys)) l.key-iterator
