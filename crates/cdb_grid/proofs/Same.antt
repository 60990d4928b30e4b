-- A level, a geocell and a tile are told by their plain fields.
use Rattle.std.proofs.Common.{◌≡◌, ℕ, ◌%◌, ◌<◌, ℤ, pos, negsuc, ◌≤ℤ◌, ap, subst}
use Rattle.std.proofs.Props.{props}
use Rattle.cdb_grid.specs.Units.{height_of, tiles_of, width_at, row_of, column_of}
use Rattle.cdb_grid.specs.declared.family.Family.{Family}
use Rattle.cdb_grid.specs.declared.geocell.Geocell.{Geocell}
use Rattle.cdb_grid.specs.declared.level.Level.{Level}
use Rattle.cdb_grid.specs.declared.tile.Tile.{Tile}

abbrev LevelFacts : ℤ → Type 0
LevelFacts l = (negsuc 9 ≤ℤ l) × (l ≤ℤ pos 23)

level_of : (l : ℤ) → LevelFacts l → Level
level_of l f = record { number = l; coarsest = f.0; finest = f.1 }

level_facts : (l : ℤ) → IsProp (LevelFacts l)
level_facts l = hlevel props

pub same_level : (a b : Level) → a.number ≡ b.number → a ≡ b
unfolding level_of
same_level a b e =
    let P : ℤ → Type 0 = λ l. (f : LevelFacts l) → a ≡ level_of l f in
    let start : P a.number = λ f. ap (level_of a.number) (level_facts a.number (a.coarsest, a.finest) f) in
    subst P e start (b.coarsest, b.finest)

abbrev CellFacts : ℤ → ℤ → Type 0
CellFacts y x = (negsuc 89 ≤ℤ y) × (y ≤ℤ pos 89) × (negsuc 179 ≤ℤ x) × (x ≤ℤ pos 179)
    × (column_of x % width_at (row_of y) ≡ 0)

cell_of : (y x : ℤ) → CellFacts y x → Geocell
cell_of y x f = record { lat = y; lon = x; south = f.0; north = f.1; west = f.2; east = f.3; on_grid = f.4 }

cell_facts : (y x : ℤ) → IsProp (CellFacts y x)
cell_facts y x = hlevel props

pub same_geocell : (a b : Geocell) → a.lat ≡ b.lat → a.lon ≡ b.lon → a ≡ b
unfolding cell_of
same_geocell a b ey ex =
    let P : ℤ → ℤ → Type 0 = λ y x. (f : CellFacts y x) → a ≡ cell_of y x f in
    let start : P a.lat a.lon = λ f. ap (cell_of a.lat a.lon)
    (cell_facts a.lat a.lon (a.south, a.north, a.west, a.east, a.on_grid) f) in
    let moved : P b.lat a.lon = subst (λ y. P y a.lon) ey start in
    subst (λ x. P b.lat x) ex moved (b.south, b.north, b.west, b.east, b.on_grid)

abbrev TileFacts : Level → ℕ → ℕ → Type 0
TileFacts l u r = (u < tiles_of (height_of l.number)) × (r < tiles_of (height_of l.number))

tile_of : (f : Family) (c : Geocell) (l : Level) (u r : ℕ) → TileFacts l u r → Tile
tile_of f c l u r g =
    record { family = f; cell = c; level = l; up = u; right = r; up_in_range = g.0; right_in_range = g.1 }

tile_facts : (l : Level) (u r : ℕ) → IsProp (TileFacts l u r)
tile_facts l u r = hlevel props

pub same_tile : (a b : Tile) → a.family ≡ b.family → a.cell ≡ b.cell → a.level.number ≡ b.level.number
    → a.up ≡ b.up → a.right ≡ b.right → a ≡ b
unfolding tile_of
same_tile a b ef ec en eu er =
    let el : a.level ≡ b.level = same_level a.level b.level en in
    let P : Family → Geocell → Level → ℕ → ℕ → Type 0 = λ f c l u r. (g : TileFacts l u r) → a ≡ tile_of f c l u r g in
    let start : P a.family a.cell a.level a.up a.right = λ g. ap (tile_of a.family a.cell a.level a.up a.right)
    (tile_facts a.level a.up a.right (a.up_in_range, a.right_in_range) g) in
    let p1 : P b.family a.cell a.level a.up a.right = subst (λ f. P f a.cell a.level a.up a.right) ef start in
    let p2 : P b.family b.cell a.level a.up a.right = subst (λ c. P b.family c a.level a.up a.right) ec p1 in
    let p3 : P b.family b.cell b.level a.up a.right = subst (λ l. P b.family b.cell l a.up a.right) el p2 in
    let p4 : P b.family b.cell b.level b.up a.right = subst (λ u. P b.family b.cell b.level u a.right) eu p3 in
    subst (λ r. P b.family b.cell b.level b.up r) er p4 (b.up_in_range, b.right_in_range)
