-- Inside the crate: what painting writes, row by row.
use Rattle.std.specs.Prelude.{ℕ, ◌+◌, ◌-◌, ◌*◌, ◌/◌, ◌%◌, ℤ, List, Option}
use Rattle.std.specs.Option.{option_or}
use Rattle.cdb_grid.specs.Frames.{number_in}
use Rattle.cdb_source.specs.declared.kind.Kind.{Kind}
use Rattle.cdb_source.specs.declared.kind.Kind.TheVariants.{Elevation, Material}
use Rattle.cdb_source.specs.Posts.{coded}
use Rattle.cdb_source.specs.Sample.{value_of}
use Rattle.cdb_cut.specs.inside.Blend.{mean_of_four}

-- the value of a post of a row
abbrev pub post_in : Kind → List ℤ → ℕ → Option ℤ
post_in kind row col = value_of kind (number_in row col)

-- a row of elevations, between two rows of posts, a above the lower one
abbrev pub mean_rule : ℕ → ℕ → ℕ → ℕ → ℕ → List ℤ → List ℤ → ℕ → ℤ → ℤ
mean_rule m n a start stride low high c old =
    coded Elevation (option_or (value_of Elevation old)
    (mean_of_four m n a ((start + c * stride) % n) (post_in Elevation low ((start + c * stride) / n))
    (post_in Elevation low ((start + c * stride) / n + 1))
    (post_in Elevation high ((start + c * stride) / n)) (post_in Elevation high ((start + c * stride) / n + 1))))

-- a row of materials, in a row of cells
abbrev pub cell_rule : ℕ → ℕ → ℕ → List ℤ → ℕ → ℤ → ℤ
cell_rule n start stride row c old =
    coded Material (option_or (value_of Material old) (post_in Material row ((start + c * stride) / n)))
