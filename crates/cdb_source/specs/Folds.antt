-- What a number of a frame becomes by the numbers of its four finer cells: south-west, south-east, north-west,
-- north-east.
use Rattle.std.specs.Prelude.{ℤ}
use Rattle.std.specs.Option.{option_or}
use Rattle.cdb_source.specs.declared.kind.Kind.TheVariants.{Elevation, Material}
use Rattle.cdb_source.specs.Posts.{coded}
use Rattle.cdb_source.specs.Sample.{value_of}
use Rattle.cdb_source.specs.Values.{lesser, greater, mode_of_four}

-- an elevation: the one of the finer cell at the same corner, else its own
abbrev pub finer_elevation : ℤ → ℤ → ℤ → ℤ → ℤ → ℤ
finer_elevation own sw se nw ne = coded Elevation (option_or (value_of Elevation sw) (value_of Elevation own))

-- the lesser, and the greater, of two numbers, one that stands for no value passed over
abbrev pub lesser_number : ℤ → ℤ → ℤ
lesser_number a b = coded Elevation (lesser (value_of Elevation a) (value_of Elevation b))

abbrev pub greater_number : ℤ → ℤ → ℤ
greater_number a b = coded Elevation (greater (value_of Elevation a) (value_of Elevation b))

-- the least, and the greatest, of its own and of the four
abbrev pub finer_low : ℤ → ℤ → ℤ → ℤ → ℤ → ℤ
finer_low own sw se nw ne = lesser_number own (lesser_number (lesser_number sw se) (lesser_number nw ne))

abbrev pub finer_high : ℤ → ℤ → ℤ → ℤ → ℤ → ℤ
finer_high own sw se nw ne = greater_number own (greater_number (greater_number sw se) (greater_number nw ne))

-- a material: the most frequent one of the four, else its own
abbrev pub finer_material : ℤ → ℤ → ℤ → ℤ → ℤ → ℤ
finer_material own sw se nw ne =
    coded Material
    (option_or (mode_of_four (value_of Material sw) (value_of Material se) (value_of Material nw)
    (value_of Material ne)) (value_of Material own))
