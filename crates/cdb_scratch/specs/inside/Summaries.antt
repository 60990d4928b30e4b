-- What a cell has of its own value and those of its four finer cells: the least and the greatest elevation, and the
-- most frequent material.
use Rattle.std.specs.Prelude.{ℕ, ℤ, List, Option}
use Rattle.std.specs.Option.{option_or}
use Rattle.cdb_grid.specs.Grid.{Place, centre}
use Rattle.cdb_source.specs.declared.kind.Kind.{Kind}
use Rattle.cdb_source.specs.declared.kind.Kind.TheVariants.{Elevation, Material}
use Rattle.cdb_source.specs.Values.{Sampled, elevation, newest_own, lesser, greater, mode_of_four, low, high, material}
use Rattle.cdb_material.specs.declared.four.Four.{Four}
use Rattle.cdb_scratch.specs.declared.cell.Summary.{Summary}
use Rattle.cdb_scratch.specs.declared.cell.Summary.TheVariants.{Least, Greatest, MostFrequent}

-- the kind of sources of which a summary is
abbrev pub summary_kind : Summary → Kind
summary_kind Least = Elevation
summary_kind Greatest = Elevation
summary_kind MostFrequent = Material

-- the least or the greatest elevation of a cell, or its material
abbrev pub summary_of : Summary → List Sampled → ℕ → Place → Option ℤ
summary_of Least ss h c = low ss h c
summary_of Greatest ss h c = high ss h c
summary_of MostFrequent ss h c = material ss h c

-- the value of a cell by itself: the elevation at its corner, or the newest material of exactly its level at its centre
abbrev pub own_of : Summary → List Sampled → ℕ → Place → Option ℤ
own_of Least ss h c = elevation ss h c
own_of Greatest ss h c = elevation ss h c
own_of MostFrequent ss h c = newest_own Material ss h (centre h c)

-- the summary of a cell's own value and four finer ones
abbrev pub combined : Summary → Option ℤ → Four → Option ℤ
combined Least own four =
    lesser own (lesser (lesser four.south_west four.south_east) (lesser four.north_west four.north_east))
combined Greatest own four =
    greater own (greater (greater four.south_west four.south_east) (greater four.north_west four.north_east))
combined MostFrequent own four =
    option_or (mode_of_four four.south_west four.south_east four.north_west four.north_east) own
