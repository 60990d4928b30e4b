use Rattle.std.proofs.Common.{◌≡◌, List, sym, subst}
use Rattle.std.specs.List.{Contains, dedup}
use Rattle.std.specs.List.Sorted.{IsStrictlySortedBy}
use Rattle.std.proofs.lemmas.List.Filters.{dedup_is}
use Rattle.std.proofs.lemmas.List.Kept.{Contains-dedup, Contains-from_dedup, IsStrictlySortedBy-dedup}
use Rattle.std.proofs.lemmas.List.Sorted.{Contains-permutation, IsPermutation-sym}
use Rattle.std.proofs.lemmas.Map.Keys.{Less-from_sorted}
use Rattle.cdb_grid.specs.Order.{tile_cmp}
use Rattle.cdb_grid.specs.OrderLaws.{tile_cmp-total, tile_ties}
use Rattle.cdb_grid.specs.declared.tile.Tile.{Tile}
use Rattle.cdb_touch.proofs.OrderLaws.{tile_eq, tile_eq-equiv, tile_eq-exact}
use Rattle.cdb_touch.proofs.touch.sort_once.Goals as goal

pub returns-clause-same : goal.returns-clause-same
returns-clause-same c t =
    let xs : List Tile = c.args.tiles.now.items in
    let ys : List Tile = c.sort_unstable.new.self.items in
    let is : c.dedup.new.self.items ≡ dedup tile_eq ys =
    dedup_is tile_eq ys c.dedup.new.self.items c.dedup.ensures.filtered in (
      (λ h. Contains-permutation ys xs t (IsPermutation-sym xs ys c.sort_unstable.ensures.permutation)
          (Contains-from_dedup tile_eq ys t (subst (λ zs. Contains zs t) is h))),
      (λ h. subst (λ zs. Contains zs t) (sym is)
          (Contains-dedup tile_eq-equiv tile_eq-exact ys t
          (Contains-permutation xs ys t c.sort_unstable.ensures.permutation h))),
    )

pub returns-clause-order : goal.returns-clause-order
returns-clause-order c =
    let ys : List Tile = c.sort_unstable.new.self.items in
    let is : c.dedup.new.self.items ≡ dedup tile_eq ys =
    dedup_is tile_eq ys c.dedup.new.self.items c.dedup.ensures.filtered in
    let sorted : IsStrictlySortedBy tile_cmp (dedup tile_eq ys) =
    IsStrictlySortedBy-dedup tile_cmp-total tile_ties ys c.sort_unstable.ensures.sorted in
    let all : IsStrictlySortedBy tile_cmp c.dedup.new.self.items = subst (λ zs. IsStrictlySortedBy tile_cmp zs)
    (sym is) sorted in
    λ i j d lt below. Less-from_sorted tile_cmp c.dedup.new.self.items i j d all lt below
