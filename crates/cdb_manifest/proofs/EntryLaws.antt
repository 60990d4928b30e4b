-- Tiles by the fields of their entries.
use Rattle.std.proofs.Common.{◌≡◌, ℕ, ◌+◌, ◌-◌, ◌^◌, ◌<◌, ◌≤◌, ℤ, pos, negsuc, ◌≤ℤ◌, List, [], ◌∷◌, ◌++◌, length, take, drop, get_or, refl, sym, ap, subst, ◌∙◌, arith}
use Rattle.std.proofs.lemmas.Int.{to_z-of_z, of_z-to_z, ints}
use Rattle.std.proofs.lemmas.List.{take_at, drop_at, take-append-drop, length-take, length-drop, length-append, drop_more, drop_all}
use Rattle.std.proofs.lemmas.Nat.{be_bytes_2, from_be_bytes-to_be_bytes_2, from_be_bytes-to_be_bytes_4}
use Rattle.std.proofs.Math.Nat.{pow-le-pow_right}
use Rattle.std.specs.Int.{w8, w16, w32, to_be_bytes, from_be_bytes, cast_signed, cast_unsigned}
use mir.Val.{SFits}
use Rattle.cdb_grid.specs.Units.{height_of, tiles_of}
use Rattle.cdb_grid.specs.declared.family.Family.{Family}
use Rattle.cdb_grid.specs.declared.family.Family.TheVariants.{Elev, Low, High, Mat}
use Rattle.cdb_grid.specs.declared.level.Level.{Level}
use Rattle.cdb_grid.specs.declared.tile.Tile.{Tile}
use Rattle.cdb_grid.proofs.Same.{same_geocell, same_tile}
use Rattle.cdb_source.specs.Texts.{count_bytes}
use Rattle.cdb_source.proofs.HeadLaws.{IsBytes, IsBytes-take, IsBytes-drop, cut, count_is, level_again}
use Rattle.cdb_model.specs.Records.{family_number, entry_text}
use Rattle.cdb_manifest.specs.inside.Entries.{HasTileFields}

same_family : (a b : Family) → family_number a ≡ family_number b → a ≡ b
same_family Elev Elev e = refl
same_family Elev Low e = absurd (omega arith)
same_family Elev High e = absurd (omega arith)
same_family Elev Mat e = absurd (omega arith)
same_family Low Elev e = absurd (omega arith)
same_family Low Low e = refl
same_family Low High e = absurd (omega arith)
same_family Low Mat e = absurd (omega arith)
same_family High Elev e = absurd (omega arith)
same_family High Low e = absurd (omega arith)
same_family High High e = refl
same_family High Mat e = absurd (omega arith)
same_family Mat Elev e = absurd (omega arith)
same_family Mat Low e = absurd (omega arith)
same_family Mat High e = absurd (omega arith)
same_family Mat Mat e = refl

-- the same bytes have one tile
pub one_tile : (bytes : List ℕ) (a b : Tile) → HasTileFields bytes a → HasTileFields bytes b → a ≡ b
one_tile bytes a b h g =
    same_tile a b (same_family a.family b.family (sym h.family ∙ g.family))
    (same_geocell a.cell b.cell (sym h.lat ∙ g.lat) (sym h.lon ∙ g.lon)) (sym h.level ∙ g.level) (sym h.up ∙ g.up)
    (sym h.right ∙ g.right)

-- ---- an entry that was written

lat_fits : (z : ℤ) → negsuc 89 ≤ℤ z → z ≤ℤ pos 89 → SFits w8 z
lat_fits (pos n) least most = record { sfits = omega (arith, ints) }
lat_fits (negsuc n) least most = record { sfits = omega (arith, ints) }

lon_fits : (z : ℤ) → negsuc 179 ≤ℤ z → z ≤ℤ pos 179 → SFits w16 z × (cast_unsigned w16 z < 2 ^ 16)
lon_fits (pos n) least most = (record { sfits = omega (arith, ints) }, omega (arith, ints))
lon_fits (negsuc n) least most = (record { sfits = omega (arith, ints) }, omega arith)

number_fits : (h n : ℕ) → n < tiles_of h → n < 2 ^ 32
number_fits h n lt =
    let le : 24 - h ≤ 24 = omega arith in
    let two : 0 < 2 = omega arith in
    let most : 2 ^ (24 - h) ≤ 2 ^ 24 = pow-le-pow_right {n = 2} two le in
    omega arith

written_has : (tile : Tile) → HasTileFields (entry_text tile) tile
unfolding entry_text
written_has tile =
    let cell = tile.cell in
    let lon = lon_fits cell.lon cell.west cell.east in
    record {
      family = refl;
      level = level_again tile.level;
      lat = to_z-of_z w8 cell.lat (lat_fits cell.lat cell.south cell.north);
      zero_3 = refl;
      lon = ap (cast_signed w16) (from_be_bytes-to_be_bytes_2 (cast_unsigned w16 cell.lon) lon.1)
          ∙ to_z-of_z w16 cell.lon lon.0;
      zero_6 = refl;
      zero_7 = refl;
      up = from_be_bytes-to_be_bytes_4 tile.up (number_fits (height_of tile.level.number) tile.up tile.up_in_range);
      right = from_be_bytes-to_be_bytes_4 tile.right (number_fits (height_of tile.level.number)
          tile.right tile.right_in_range);
    }

pub has_tile : (bytes : List ℕ) (tile : Tile) → bytes ≡ entry_text tile → HasTileFields bytes tile
has_tile bytes tile e = subst (λ (bs : List ℕ). HasTileFields bs tile) (sym e) (written_has tile)

pub length-entry_text : (tile : Tile) → length (entry_text tile) ≡ 16
unfolding entry_text
length-entry_text tile = refl

pub entry_cancel : (a b : Tile) (x y : List ℕ) → entry_text a ++ x ≡ entry_text b ++ y → (a ≡ b) × (x ≡ y)
entry_cancel a b x y e =
    let texts : entry_text a ≡ entry_text b = sym (take_at (entry_text a) x 16 (length-entry_text a)) ∙ ap (take 16) e
    ∙ take_at (entry_text b) y 16 (length-entry_text b) in
    let rests : x ≡ y = sym (drop_at (entry_text a) x 16 (length-entry_text a)) ∙ ap (drop 16) e
    ∙ drop_at (entry_text b) y 16 (length-entry_text b) in
    (one_tile (entry_text a) a b (has_tile (entry_text a) a refl) (has_tile (entry_text a) b texts), rests)

-- ---- an entry that was read

lon_are : (bytes : List ℕ) (z : ℤ) → IsBytes bytes → 6 ≤ length bytes
    → cast_signed w16 (from_be_bytes w16 (take 2 (drop 4 bytes))) ≡ z → to_be_bytes w16 (cast_unsigned w16 z)
    ≡ take 2 (drop 4 bytes)
lon_are bytes z fits room is =
    let part_fits = IsBytes-take 2 (drop 4 bytes) (IsBytes-drop 4 bytes fits) in
    let two : length (take 2 (drop 4 bytes)) ≡ 2 = omega (arith, length-take 2 (drop 4 bytes), length-drop 4 bytes) in
    let below : from_be_bytes w16 (take 2 (drop 4 bytes)) < 2 ^ 16 = omega (arith, part_fits 0, part_fits 1) in
    let back : cast_unsigned w16 z ≡ from_be_bytes w16 (take 2 (drop 4 bytes)) = ap (cast_unsigned w16) (sym is)
    ∙ of_z-to_z w16 (from_be_bytes w16 (take 2 (drop 4 bytes))) below in
    be_bytes_2 (take 2 (drop 4 bytes)) (cast_unsigned w16 z) two part_fits back

pub entry_is : (bytes : List ℕ) (tile : Tile) → length bytes ≡ 16 → IsBytes bytes → HasTileFields bytes tile
    → bytes ≡ entry_text tile
unfolding entry_text
entry_is bytes tile len fits h =
    let level : get_or bytes 1 0 ≡ cast_unsigned w8 tile.level.number = sym (of_z-to_z w8 (get_or bytes 1 0) (fits 1))
    ∙ ap (cast_unsigned w8) h.level in
    let lat : get_or bytes 2 0 ≡ cast_unsigned w8 tile.cell.lat = sym (of_z-to_z w8 (get_or bytes 2 0) (fits 2))
    ∙ ap (cast_unsigned w8) h.lat in
    let d0 : bytes ≡ get_or bytes 0 0 ∷ drop 1 bytes = drop_more bytes 0 0 (omega arith) in
    let d1 : drop 1 bytes ≡ get_or bytes 1 0 ∷ drop 2 bytes = drop_more bytes 1 0 (omega arith) in
    let d2 : drop 2 bytes ≡ get_or bytes 2 0 ∷ drop 3 bytes = drop_more bytes 2 0 (omega arith) in
    let d3 : drop 3 bytes ≡ get_or bytes 3 0 ∷ drop 4 bytes = drop_more bytes 3 0 (omega arith) in
    let d6 : drop 6 bytes ≡ get_or bytes 6 0 ∷ drop 7 bytes = drop_more bytes 6 0 (omega arith) in
    let d7 : drop 7 bytes ≡ get_or bytes 7 0 ∷ drop 8 bytes = drop_more bytes 7 0 (omega arith) in
    let e4 = cut 4 2 6 bytes _ refl (lon_are bytes tile.cell.lon fits (omega arith) h.lon) in
    let e8 = cut 8 4 12 bytes _ refl (count_is bytes 8 tile.up fits (omega arith) h.up) in
    let e12 = cut 12 4 16 bytes _ refl (count_is bytes 12 tile.right fits (omega arith) h.right) in
    let e16 : drop 16 bytes ≡ [] = drop_all 16 bytes (omega arith) in
    let f12 : drop 12 bytes ≡ count_bytes tile.right = rw e16 at e12 in
    let f8 : drop 8 bytes ≡ count_bytes tile.up ++ count_bytes tile.right = rw f12 at e8 in
    let f6 : drop 6 bytes ≡ 0 ∷ 0 ∷ (count_bytes tile.up ++ count_bytes tile.right) = d6
    ∙ rw (h.zero_6, d7, h.zero_7, f8) refl in
    let f4 : drop 4 bytes ≡ to_be_bytes w16 (cast_unsigned w16 tile.cell.lon)
    ++ (0 ∷ 0 ∷ (count_bytes tile.up ++ count_bytes tile.right)) = rw f6 at e4 in
    d0 ∙ rw (h.family, d1, level, d2, lat, d3, h.zero_3, f4) refl

-- the bytes begin with an entry, or with none
pub entry_short : (bytes : List ℕ) → length bytes < 16 → (tile : Tile) (after : List ℕ)
    → bytes ≡ entry_text tile ++ after → ⊥
entry_short bytes short tile after e =
    let whole : length bytes ≡ 16 + length after = ap length e ∙ length-append (entry_text tile) after
    ∙ ap (λ n. n + length after) (length-entry_text tile) in
    omega arith

pub entry_other : (bytes entry : List ℕ) → entry ≡ take 16 bytes → ((tile : Tile) → HasTileFields entry tile → ⊥)
    → (tile : Tile) (after : List ℕ) → bytes ≡ entry_text tile ++ after → ⊥
entry_other bytes entry is never tile after e =
    never tile (has_tile entry tile (is ∙ ap (take 16) e ∙ take_at (entry_text tile) after 16 (length-entry_text tile)))

pub entry_then : (bytes entry : List ℕ) (tile : Tile) → length entry ≡ 16 → IsBytes entry → entry ≡ take 16 bytes
    → HasTileFields entry tile → bytes ≡ entry_text tile ++ drop 16 bytes
entry_then bytes entry tile len fits is h = sym (take-append-drop 16 bytes)
    ∙ ap (λ (front : List ℕ). front ++ drop 16 bytes) (sym is ∙ entry_is entry tile len fits h)

-- a row or a column that the level doesn't have
pub other_up : (entry : List ℕ) (level : Level) (up across : ℕ) → cast_signed w8 (get_or entry 1 0) ≡ level.number
    → up ≡ from_be_bytes w32 (take 4 (drop 8 entry)) → across ≡ tiles_of (height_of level.number) → across ≤ up
    → (tile : Tile) → HasTileFields entry tile → ⊥
other_up entry level up across el eu is out tile h =
    let same : level.number ≡ tile.level.number = sym el ∙ h.level in
    let most : across ≡ tiles_of (height_of tile.level.number) = is ∙ ap (λ (z : ℤ). tiles_of (height_of z)) same in
    let row : up ≡ tile.up = eu ∙ h.up in
    let below = tile.up_in_range in
    omega (arith, most, row, below)

pub other_right : (entry : List ℕ) (level : Level) (right across : ℕ) → cast_signed w8 (get_or entry 1 0) ≡ level.number
    → right ≡ from_be_bytes w32 (take 4 (drop 12 entry)) → across ≡ tiles_of (height_of level.number) → across ≤ right
    → (tile : Tile) → HasTileFields entry tile → ⊥
other_right entry level right across el er is out tile h =
    let same : level.number ≡ tile.level.number = sym el ∙ h.level in
    let most : across ≡ tiles_of (height_of tile.level.number) = is ∙ ap (λ (z : ℤ). tiles_of (height_of z)) same in
    let column : right ≡ tile.right = er ∙ h.right in
    let below = tile.right_in_range in
    omega (arith, most, column, below)
