-- The finer tiles of a tile, folded one after the other.
use Rattle.std.proofs.Common.{◌≡◌, ℕ, ◌*◌, ◌/◌, ◌%◌, ◌⊎◌, inl, inr, ℤ, pos, negsuc, ◌≤ℤ◌, ◌<ℤ◌, List, [], ◌∷◌, All, Option, sym, ap, subst, arith}
use Rattle.std.proofs.lemmas.Int.{ints}
use Rattle.std.proofs.lemmas.List.Elements.{All-nil, All-cons}
use Rattle.std.proofs.lemmas.Bool.{cases_lt}
use Rattle.cdb_grid.specs.Units.{height_of}
use Rattle.cdb_grid.specs.Tiles.{tile_side}
use Rattle.cdb_grid.specs.Children.{IsParent, HasOneChild, HasFourChildren}
use Rattle.cdb_grid.specs.declared.tile.Tile.{Tile}
use Rattle.cdb_grid.proofs.ChildPlaces.{even}
use Rattle.cdb_source.specs.declared.source.Source.{Source}
use Rattle.cdb_cut.specs.FinerTiles.{AreChildren}
use Rattle.cdb_cut.specs.OneTile.{IsFolded, IsWholeFolded, StandsIn}
use Rattle.cdb_cut.proofs.OneTileWhole.{folded_whole, folded_finest}

pub even_side : (c t : Tile) (row col : ℕ) → StandsIn c t row col → tile_side c % 2 ≡ 0
even_side c t row col at =
    let e : tile_side c ≡ 2 * (tile_side c / 2) = even c t row col at.parent at.begins in omega arith

-- each finer tile has the tile as its parent
pub parents : (t : Tile) (items : List Tile) → AreChildren t items → All (λ c. IsParent c t) items
parents t items are = by t.level.number are.none are.one are.four t.level.finest
  where
    by : (l : ℤ) → (l ≡ pos 23 → items ≡ []) → (l <ℤ pos 0 → HasOneChild t items)
        → (pos 0 ≤ℤ l → l <ℤ pos 23 → HasFourChildren t items) → l ≤ℤ pos 23 → All (λ c. IsParent c t) items
    by (negsuc n) none one four most =
        let o = one (omega (arith, ints)) in
        subst (λ xs. All (λ c. IsParent c t) xs) (sym o.are)
        (All-cons (λ c. IsParent c t) o.child [] o.begins.parent_of (All-nil (λ c. IsParent c t)))
    by (pos n) none one four most = elim (cases_lt n 23) [
      | inl lt ↦
          let f = four (omega (arith, ints)) (omega (arith, ints)) in
          subst (λ xs. All (λ c. IsParent c t) xs) (sym f.are)
          (All-cons (λ c. IsParent c t) f.south_west (f.south_east ∷ f.north_west ∷ f.north_east ∷ [])
          f.at_south_west.parent_of
          (All-cons (λ c. IsParent c t) f.south_east (f.north_west ∷ f.north_east ∷ []) f.at_south_east.parent_of
          (All-cons (λ c. IsParent c t) f.north_west (f.north_east ∷ []) f.at_north_west.parent_of
          (All-cons (λ c. IsParent c t) f.north_east [] f.at_north_east.parent_of (All-nil (λ c. IsParent c t))))))
      | inr ge ↦
          let e : n ≡ 23 = omega (arith, ints) in
          subst (λ xs. All (λ c. IsParent c t) xs) (sym (none (ap pos e))) (All-nil (λ c. IsParent c t))
    ]

height_one : (l : ℤ) → l ≡ pos 23 → height_of l ≡ 1
height_one l e = ap height_of e

-- all finer tiles folded, or none at the finest level
pub all_folded : (ss : List Source) (t : Tile) (start : ℕ → ℕ → Option ℤ) (items : List Tile) (frame : List ℤ)
    → AreChildren t items → IsFolded ss t start items frame → IsWholeFolded ss t start frame
all_folded ss t start items frame are folded = by (z_cases t.level.number t.level.finest)
  where
    z_cases : (l : ℤ) → l ≤ℤ pos 23 → (l <ℤ pos 23) ⊎ (l ≡ pos 23)
    z_cases (negsuc n) h = inl (omega (arith, ints))
    z_cases (pos n) h = elim (cases_lt n 23) [
      | inl lt ↦ inl (omega (arith, ints))
      | inr ge ↦ let e : n ≡ 23 = omega (arith, ints) in inr (ap pos e)
    ]

    by : (t.level.number <ℤ pos 23) ⊎ (t.level.number ≡ pos 23) → IsWholeFolded ss t start frame
    by (inl lt) = folded_whole ss t start items frame folded (are.fill lt)
    by (inr e) = folded_finest ss t start frame (height_one t.level.number e)
        (subst (λ xs. IsFolded ss t start xs frame) (are.none e) folded)
