-- The values of a store's sources: elevation, least and greatest elevation, material. Lists are oldest first.
use Rattle.std.specs.Prelude.{ℕ, zero, suc, ℤ, Bool, true, false, ◌&&◌, ◌||◌, nat_eq, nat_lt, nat_le, int_lt, if◌then◌else◌, List, [], ◌∷◌, map, fold, filter_map, count_by, Option, Some, None}
use Rattle.std.specs.Option.{option_map, option_or}
use Rattle.std.specs.Ordering.{int_eq}
use Rattle.cdb_grid.specs.Units.{height_of}
use Rattle.cdb_grid.specs.Grid.{Place, beside, centre}
use Rattle.cdb_source.specs.declared.kind.Kind.{Kind}
use Rattle.cdb_source.specs.declared.kind.Kind.TheVariants.{Elevation, Material}
use Rattle.cdb_source.specs.declared.source.Source.{Source}
use Rattle.cdb_source.specs.Sample.{sample_at}
use Rattle.cdb_source.specs.Offers.{best, newest}

-- a source as the values see it: its kind, the height of its level, and what it has at each place
pub record Sampled : Type 0 where
  pub kind : Kind
  pub height : ℕ
  pub at : Place → Option ℤ

abbrev pub sampled : Source → Sampled
sampled s = record { kind = s.head.kind; height = height_of s.head.level.number; at = sample_at s }

-- two kinds are one
abbrev pub same_kind : Kind → Kind → Bool
same_kind Elevation Elevation = true
same_kind Elevation Material = false
same_kind Material Elevation = false
same_kind Material Material = true

-- what a source has for an elevation of a height: its sample, where its level is at least as fine
abbrev pub offer : ℕ → Place → Sampled → Option (ℕ × ℤ)
offer h p s = if same_kind s.kind Elevation && nat_le s.height h then option_map (λ v. (s.height, v)) (s.at p) else None

-- the elevation: the sample of the source that is greatest by level, then by number
abbrev pub elevation : List Sampled → ℕ → Place → Option ℤ
elevation ss h p = option_map (λ o. o.1) (best (map (offer h p) ss))

-- what a source of a kind has whose level is exactly the one of this height
abbrev pub own : Kind → ℕ → Place → Sampled → Option ℤ
own kind h p s = if same_kind s.kind kind && nat_eq s.height h then s.at p else None

-- the sample of the newest source of a kind, of exactly this level, that has one
abbrev pub newest_own : Kind → List Sampled → ℕ → Place → Option ℤ
newest_own kind ss h p = newest (map (own kind h p) ss)

-- the lesser and the greater of two values, one that is none passed over
abbrev pub lesser : Option ℤ → Option ℤ → Option ℤ
lesser None y = y
lesser (Some x) None = Some x
lesser (Some x) (Some y) = Some (if int_lt y x then y else x)

abbrev pub greater : Option ℤ → Option ℤ → Option ℤ
greater None y = y
greater (Some x) None = Some x
greater (Some x) (Some y) = Some (if int_lt x y then y else x)

-- the least elevation of a cell: of its corner's own and those of its four finer cells
unfoldable pub low : List Sampled → ℕ → Place → Option ℤ
low ss zero c = None
low ss (suc h) c =
    lesser (elevation ss (suc h) c)
    (lesser (lesser (low ss h (beside h c 0 0)) (low ss h (beside h c 0 1)))
    (lesser (low ss h (beside h c 1 0)) (low ss h (beside h c 1 1))))

-- the greatest elevation of a cell
unfoldable pub high : List Sampled → ℕ → Place → Option ℤ
high ss zero c = None
high ss (suc h) c =
    greater (elevation ss (suc h) c)
    (greater (greater (high ss h (beside h c 0 0)) (high ss h (beside h c 0 1)))
    (greater (high ss h (beside h c 1 0)) (high ss h (beside h c 1 1))))

-- how often a value stands in a list
abbrev pub count_of : List ℤ → ℤ → ℕ
count_of values v = count_by (λ x. int_eq x v) values

-- the one of two values that is more frequent, and of equally frequent ones the smaller
abbrev pub oftener : List ℤ → ℤ → ℤ → ℤ
oftener values v w =
    if nat_lt (count_of values v) (count_of values w) || (nat_eq (count_of values v) (count_of values w) && int_lt w v)
    then w else v

-- the most frequent value of a list, and of equally frequent ones the smallest
unfoldable pub mode : List ℤ → Option ℤ
mode [] = None
mode (v ∷ values) = Some (fold (oftener (v ∷ values)) v values)

-- the most frequent of the values that are there among four
abbrev pub mode_of_four : Option ℤ → Option ℤ → Option ℤ → Option ℤ → Option ℤ
mode_of_four a b c d = mode (filter_map (λ v. v) (a ∷ b ∷ c ∷ d ∷ []))

-- the material of a cell: the most frequent one of its four finer cells, else the newest of its own level at its centre
unfoldable pub material : List Sampled → ℕ → Place → Option ℤ
material ss zero c = None
material ss (suc h) c =
    option_or
    (mode_of_four (material ss h (beside h c 0 0)) (material ss h (beside h c 0 1)) (material ss h (beside h c 1 0))
    (material ss h (beside h c 1 1)))
    (newest_own Material ss (suc h) (centre (suc h) c))

-- the values of a list of sources at a height and a place of that height
abbrev pub elevation_of : List Source → ℕ → Place → Option ℤ
elevation_of ss h p = elevation (map sampled ss) h p

abbrev pub low_of : List Source → ℕ → Place → Option ℤ
low_of ss h c = low (map sampled ss) h c

abbrev pub high_of : List Source → ℕ → Place → Option ℤ
high_of ss h c = high (map sampled ss) h c

abbrev pub material_of : List Source → ℕ → Place → Option ℤ
material_of ss h c = material (map sampled ss) h c
