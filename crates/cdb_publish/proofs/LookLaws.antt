-- Look-ups of a tile in an ascending list.
use Rattle.std.proofs.Common.{◌≡◌, ℕ, ◌+◌, ◌<◌, inl, inr, true, false, List, length, get_or, HoldsAt, Err, sym, ap, ◌∙◌, arith}
use Rattle.std.specs.List.Sorted.{IsSorted, IsPartitionPoint, IsBinarySearchResult}
use Rattle.std.specs.Ordering.{is_eq, is_lt, ordering_reverse}
use Rattle.std.specs.declared.cmp.Ordering.TheVariants.{Less, Equal, Greater}
use Rattle.std.proofs.lemmas.Bool.{cases_lt}
use Rattle.std.proofs.lemmas.List.Folds.{list_any_none, list_any_at}
use Rattle.std.proofs.lemmas.List.Sorted.{searchable_from_sorted}
use Rattle.cdb_grid.specs.Order.{tile_cmp}
use Rattle.cdb_grid.specs.OrderLaws.{tile_cmp-total}
use Rattle.cdb_grid.specs.declared.tile.Tile.{Tile}
use Rattle.cdb_manifest.specs.Entries.{Ascending}
use Rattle.cdb_chain.specs.LookUps.{is_listed}

sorted : (tiles : List Tile) → Ascending tiles → IsSorted tile_cmp tiles
sorted tiles up k d a b =
    ap is_lt (tile_cmp-total.antisymm (get_or tiles (k + 1) d) (get_or tiles k d)
    ∙ ap ordering_reverse (up k (k + 1) d (omega arith) b))

pub not_listed : (tiles : List Tile) (t : Tile) (at : ℕ) → Ascending tiles
    → IsBinarySearchResult (λ y. tile_cmp y t) tiles (Err at) → false ≡ is_listed tiles t
not_listed tiles t at up position =
    let cut : IsPartitionPoint (λ y. tile_cmp y t ≡ Less) (λ y. tile_cmp y t ≡ Greater) tiles at =
    position (searchable_from_sorted tile_cmp-total (λ (u : Tile). u) tiles t (sorted tiles up)) in
    sym (list_any_none (λ u. is_eq (tile_cmp u t)) tiles (λ k d l. elim (cases_lt k at) [
      | inl below ↦ ap is_eq (cut.0 k d (omega arith) below)
      | inr above ↦ ap is_eq (cut.1 k d above l)
    ]))

pub listed_at : (tiles : List Tile) (t : Tile) (k : ℕ) → k < length tiles → HoldsAt (λ y. tile_cmp y t ≡ Equal) tiles k
    → true ≡ is_listed tiles t
listed_at tiles t k l h = sym (list_any_at (λ u. is_eq (tile_cmp u t)) tiles k t l (ap is_eq (h t)))
