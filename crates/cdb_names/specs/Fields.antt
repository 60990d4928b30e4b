-- The fields of names and paths, each read from the front of a text: its value, and the rest of the text.
use Rattle.std.specs.Prelude.{ℕ, ◌+◌, ◌-◌, ◌*◌, ◌%◌, ℤ, pos, neg_ℤ, Bool, not, ◌&&◌, ◌||◌, [], ◌∷◌, length, take, drop, codes, Option, Some, None, option_map, option_and_then, nat_eq, nat_lt, nat_le, ◌==◌, slice_index, if◌then◌else◌}
use Rattle.std.specs.Char.{is_ascii_digit}
use Rattle.std.specs.List.{starts_with, prefix_len}
use Rattle.std.specs.Str.Parse.{digits_value}
use Rattle.cdb_grid.specs.Units.{width_at, row_of, column_of, tiles_of, height_of}
use Rattle.cdb_grid.specs.declared.family.Family.{Family}
use Rattle.cdb_grid.specs.declared.family.Family.TheVariants.{Elev, Low, High, Mat}
use Rattle.cdb_model.specs.Names.{Text}
use Rattle.cdb_model.specs.Words.{◌>>=◌}

-- what follows a prefix
abbrev pub after : Text → Text → Option Text
after prefix text = if starts_with nat_eq text prefix then Some (drop (length prefix) text) else None

-- the number of two digits
abbrev pub two_of : ℕ → ℕ → Option ℕ
two_of a b = if is_ascii_digit a && is_ascii_digit b then Some ((a - 48) * 10 + (b - 48)) else None

abbrev pub two_at : Text → Option (ℕ × Text)
two_at [] = None
two_at (a ∷ []) = None
two_at (a ∷ b ∷ rest) = option_map (λ n. (n, rest)) (two_of a b)

-- the number of three digits: one, and two more
abbrev pub three_at : Text → Option (ℕ × Text)
three_at [] = None
three_at (a ∷ text) =
    option_and_then (λ n. if is_ascii_digit a then Some ((a - 48) * 100 + n.0, n.1) else None) (two_at text)

-- the latitude of a letter and a number of degrees
abbrev pub lat_of : ℕ → ℕ → Option ℤ
lat_of letter n =
    if (letter == 78) && nat_lt n 90 then Some (pos n) else
    if (letter == 83) && (nat_lt 0 n && nat_le n 90) then Some (neg_ℤ (pos n)) else None

unfoldable pub lat_at : Text → Option (ℤ × Text)
lat_at [] = None
lat_at (letter ∷ text) = do
  n ← two_at text
  lat ← lat_of letter n.0
  Some (lat, n.1)

-- the longitude of a letter and a number of degrees
abbrev pub lon_of : ℕ → ℕ → Option ℤ
lon_of letter n =
    if (letter == 69) && nat_lt n 180 then Some (pos n) else
    if (letter == 87) && (nat_lt 0 n && nat_le n 180) then Some (neg_ℤ (pos n)) else None

-- a west edge of a geocell with this south edge
abbrev pub is_on_grid : ℤ → ℤ → Bool
is_on_grid lat lon = column_of lon % width_at (row_of lat) == 0

-- the west edge of a geocell with this south edge
unfoldable pub lon_at : ℤ → Text → Option (ℤ × Text)
lon_at lat [] = None
lon_at lat (letter ∷ text) = do
  n ← three_at text
  lon ← lon_of letter n.0
  if is_on_grid lat lon then Some (lon, n.1) else None

abbrev pub family_of : Text → Option Family
family_of text =
    if starts_with nat_eq text (codes "_D001_S001_T001") then Some Elev else
    if starts_with nat_eq text (codes "_D002_S001_T001") then Some Low else
    if starts_with nat_eq text (codes "_D002_S001_T002") then Some High else
    if starts_with nat_eq text (codes "_D005_S001_T001") then Some Mat else None

unfoldable pub family_at : Text → Option (Family × Text)
family_at text = option_map (λ family. (family, drop 15 text)) (family_of text)

-- the level of two digits, below 0 and from 0 on
abbrev pub coarse_of : ℕ → Option ℤ
coarse_of n = if nat_lt 0 n && nat_le n 10 then Some (neg_ℤ (pos n)) else None

abbrev pub fine_of : ℕ → Option ℤ
fine_of n = if nat_lt n 24 then Some (pos n) else None

unfoldable pub coarse_at : Text → Option (ℤ × Text)
coarse_at text = do
  rest ← after (codes "_LC") text
  n ← two_at rest
  level ← coarse_of n.0
  Some (level, n.1)

unfoldable pub fine_at : Text → Option (ℤ × Text)
fine_at text = do
  rest ← after (codes "_L") text
  n ← two_at rest
  level ← fine_of n.0
  Some (level, n.1)

unfoldable pub level_at : Text → Option (ℤ × Text)
level_at text = if starts_with nat_eq text (codes "_LC") then coarse_at text else fine_at text

-- how many tiles of a level stand along one side of a geocell
abbrev pub across : ℤ → ℕ
across level = tiles_of (height_of level)

-- how many digits the text begins with
abbrev pub digits_len : Text → ℕ
digits_len text = prefix_len is_ascii_digit text

-- digits without a leading zero, as a number below the limit
abbrev pub bounded_number : ℕ → Text → Option ℕ
bounded_number limit ds =
    if nat_lt 0 (length ds) && (((length ds == 1) || not (slice_index ds 0 == 48)) && nat_lt (digits_value 10 ds) limit)
    then Some (digits_value 10 ds) else None

-- a number below the limit, of all digits that follow
unfoldable pub bounded_number_at : ℕ → Text → Option (ℕ × Text)
bounded_number_at limit text = option_map (λ n. (n, drop (digits_len text) text))
    (bounded_number limit (take (digits_len text) text))

-- a number below the limit behind a prefix
unfoldable pub numbered_at : Text → ℕ → Text → Option (ℕ × Text)
numbered_at prefix limit text = option_and_then (λ rest. bounded_number_at limit rest) (after prefix text)

-- ---- the fields of a path
