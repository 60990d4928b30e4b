-- The generator: a row of numbers that depends on its start alone, and the publications that are drawn from it.
use Rattle.std.specs.Prelude.{◌≡◌, ℕ, zero, suc, ◌+◌, ◌*◌, ◌/◌, ◌%◌, ◌^◌, ℤ, pos, ◌+ℤ◌, List, [], ◌∷◌, length, map, nat_eq, if◌then◌else◌}
use Rattle.std.specs.List.{flat_map, range_with_len}
use Rattle.cdb_grid.specs.Units.{degree, height_of, step}
use Rattle.cdb_source.specs.declared.kind.Kind.{Kind}
use Rattle.cdb_source.specs.declared.kind.Kind.TheVariants.{Elevation, Material}
use Rattle.cdb_source.specs.declared.head.SourceHead.{SourceHead}
use Rattle.cdb_source.specs.declared.source.Source.{Source}
use Rattle.cdb_model.specs.Publications.{Publication, sources_in}

-- ---- the draws

-- the state after one draw, and after some
abbrev pub state_after : ℕ → ℕ
state_after x = (6364136223846793005 * x + 1442695040888963407) % 2 ^ 64

abbrev pub state_after_draws : ℕ → ℕ → ℕ
state_after_draws zero x = x
state_after_draws (suc n) x = state_after_draws n (state_after x)

-- the draw of a number, the first one being number 1: the state after it without its last 32 bits
abbrev pub drawn : ℕ → ℕ → ℕ
drawn n x = state_after_draws n x / 2 ^ 32

-- ---- a source, of seven draws

abbrev pub kind_drawn : ℕ → Kind
kind_drawn n = if nat_eq (n % 4) 3 then Material else Elevation

-- the post of a row from the south and a column from the west
abbrev pub post_drawn : Kind → ℕ → ℕ → ℕ → ℤ
post_drawn Elevation base row col = pos ((base + 7 * row + 13 * col) % 2001)
post_drawn Material base row col = pos (1 + (base + 7 * row + 13 * col) % 255)

abbrev pub row_drawn : Kind → ℕ → ℕ → ℕ → List ℤ
row_drawn kind base cols row = map (λ col. post_drawn kind base row col) (range_with_len 0 cols)

abbrev pub posts_drawn : Kind → ℕ → ℕ → ℕ → List ℤ
posts_drawn kind base rows cols = flat_map (λ row. row_drawn kind base cols row) (range_with_len 0 rows)

-- a head, of the first six draws: kind, level, latitude and longitude in degrees, rows and columns. Both steps are the
-- step of the level in latitude
pub record HeadDrawn (x : ℕ) (head : SourceHead) : Type 0 where
  pub kind : head.kind ≡ kind_drawn (drawn 1 x)
  pub level : head.level.number +ℤ pos 6 ≡ pos (drawn 2 x % 8)
  pub lat : head.lat.units ≡ pos ((40 + drawn 3 x % 12) * degree)
  pub lon : head.lon.units ≡ pos (drawn 4 x % 20 * degree)
  pub dlat : head.dlat.units ≡ pos (step (height_of head.level.number))
  pub dlon : head.dlon.units ≡ pos (step (height_of head.level.number))
  pub rows : head.rows ≡ 1 + drawn 5 x % 64
  pub cols : head.cols ≡ 1 + drawn 6 x % 64

pub record SourceDrawn (x : ℕ) (s : Source) : Type 0 where
  pub head : HeadDrawn x s.head
  pub posts : s.posts ≡ posts_drawn s.head.kind (drawn 7 x) s.head.rows s.head.cols

-- ---- publications

abbrev pub count_drawn : ℕ → ℕ
count_drawn x = 1 + drawn 1 x % 3

-- sources one after another, seven draws each
abbrev pub SourcesDrawn : ℕ → List Source → Type 0
SourcesDrawn x [] = Unit {0}
SourcesDrawn x (s ∷ sources) = SourceDrawn x s × SourcesDrawn (state_after_draws 7 x) sources

-- the sources of a publication: how many they are is drawn first, and then each of them
pub record PublicationDrawn (x : ℕ) (sources : List Source) : Type 0 where
  pub count : length sources ≡ count_drawn x
  pub each : SourcesDrawn (state_after x) sources

-- the state after a publication
abbrev pub state_next : ℕ → ℕ
state_next x = state_after_draws (1 + 7 * count_drawn x) x

-- publications one after another, from a start
abbrev pub AreDrawn : ℕ → List Publication → Type 0
AreDrawn x [] = Unit {0}
AreDrawn x (p ∷ list) = PublicationDrawn x (sources_in p) × AreDrawn (state_next x) list

-- the state after so many publications
abbrev pub passed : ℕ → ℕ → ℕ
passed zero x = x
passed (suc n) x = passed n (state_next x)
