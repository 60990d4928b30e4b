-- The stated order of tiles.
use Rattle.std.specs.Prelude.{ℕ}
use Rattle.std.specs.declared.cmp.Ordering.{Ordering}
use Rattle.std.specs.Ordering.{nat_cmp, int_cmp, on, flip_args, then_cmp}
use Rattle.cdb_grid.specs.declared.family.Family.{Family}
use Rattle.cdb_grid.specs.declared.family.Family.TheVariants.{Elev, Low, High, Mat}
use Rattle.cdb_grid.specs.declared.tile.Tile.{Tile}

-- the families in their order
abbrev pub family_rank : Family → ℕ
family_rank Elev = 0
family_rank Low = 1
family_rank High = 2
family_rank Mat = 3

-- by family, then finest level first, then latitude, longitude, row and column, each ascending
abbrev pub tile_cmp : Tile → Tile → Ordering
tile_cmp =
    then_cmp (on (λ t. family_rank t.family) nat_cmp)
    (then_cmp (flip_args (on (λ t. t.level.number) int_cmp))
    (then_cmp (on (λ t. t.cell.lat) int_cmp)
    (then_cmp (on (λ t. t.cell.lon) int_cmp)
    (then_cmp (on (λ t. t.up) nat_cmp)
    (on (λ t. t.right) nat_cmp)))))
