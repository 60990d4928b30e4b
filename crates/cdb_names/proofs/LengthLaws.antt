-- How long names and paths are.
use Rattle.std.proofs.Common.{◌≡◌, ℕ, ◌+◌, ◌<◌, ◌≤◌, ◌^◌, [], ◌∷◌, ◌++◌, length, refl, arith, length-append, ℤ, pos, negsuc}
use Rattle.std.specs.Prelude.{codes}
use Rattle.std.specs.Fmt.{decimal}
use Rattle.std.proofs.lemmas.Fmt.{length-decimal-le}
use Rattle.cdb_grid.specs.declared.family.Family.{Family}
use Rattle.cdb_grid.specs.declared.family.Family.TheVariants.{Elev, Low, High, Mat}
use Rattle.cdb_model.specs.Names.{Text, lat_text, lon_text, dataset_text, level_text, version_folder, dataset_folder, level_folder, name}
use Rattle.cdb_names.specs.Fields.{across}
use Rattle.cdb_names.specs.Lengths.{NamesAreShort, PathsAreShort}
use Rattle.cdb_names.proofs.FolderLaws.{across_coarse}
use Rattle.cdb_names.proofs.NumberLaws.{up_small, right_small}
use Rattle.cdb_names.proofs.FieldLaws.{dataset_len}

lat_len : (z : ℤ) → length (lat_text z) ≡ 3
lat_len (pos n) = refl
lat_len (negsuc n) = refl

lon_len : (z : ℤ) → length (lon_text z) ≡ 4
lon_len (pos n) = refl
lon_len (negsuc n) = refl

dataset_folder_len : (f : Family) → length (dataset_folder f) ≤ 19
dataset_folder_len Elev = omega arith
dataset_folder_len Low = omega arith
dataset_folder_len High = omega arith
dataset_folder_len Mat = omega arith

level_folder_len : (z : ℤ) → length (level_folder z) ≤ 3
level_folder_len (pos n) = omega arith
level_folder_len (negsuc n) = omega arith

-- a number of at most seven digits
pub seven : (n : ℕ) → n < 10 ^ 7 → length (decimal n) ≤ 7
seven n small = length-decimal-le 7 n (omega arith) small (omega arith)

-- below level 0 there is one tile, so its row has one digit
level_and_row : (level : ℤ) (up : ℕ) → up < across level → up < 10 ^ 7
    → length (level_text level) + length (decimal up) ≤ 11
level_and_row (pos n) up lt small = omega (arith, seven up small)
level_and_row (negsuc n) up lt small = let one : length (decimal up) ≤ 1 =
    length-decimal-le 1 up (omega arith) (omega (arith, across_coarse n)) (omega arith) in omega (arith, one)

pub names_short : NamesAreShort
names_short t =
    let lat = lat_text t.cell.lat in
    let lon = lon_text t.cell.lon in
    let dataset = dataset_text t.family in
    let level = level_text t.level.number in
    let right : Text = 95 ∷ 82 ∷ (decimal t.right ++ 46 ∷ 116 ∷ 105 ∷ 102 ∷ []) in
    let up : Text = 95 ∷ 85 ∷ (decimal t.up ++ right) in
    omega (
      arith,
      length-append lat (lon ++ (dataset ++ (level ++ up))),
      length-append lon (dataset ++ (level ++ up)),
      length-append dataset (level ++ up),
      length-append level up,
      length-append (decimal t.up) right,
      length-append (decimal t.right) (46 ∷ 116 ∷ 105 ∷ 102 ∷ []),
      lat_len t.cell.lat,
      lon_len t.cell.lon,
      dataset_len t.family,
      level_and_row t.level.number t.up t.up_in_range (omega (arith, up_small t)),
      seven t.right (omega (arith, right_small t)),
    )

-- a part of a path, its slash, and what follows
slashed_len : (part rest : Text) → length ((part ++ 47 ∷ []) ++ rest) ≡ length part + 1 + length rest
slashed_len part rest = omega (arith, length-append (part ++ 47 ∷ []) rest, length-append part (47 ∷ []))

-- seven folders, each with its slash, and then a file name
seven_folders : (a b c d e f g rest : Text)
    → length
    ((a ++ 47 ∷ [])
    ++ ((b ++ 47 ∷ [])
    ++ ((c ++ 47 ∷ []) ++ ((d ++ 47 ∷ []) ++ ((e ++ 47 ∷ []) ++ ((f ++ 47 ∷ []) ++ ((g ++ 47 ∷ []) ++ rest)))))))
    ≡ length a + length b + length c + length d + length e + length f + length g + 7 + length rest
seven_folders a b c d e f g rest =
    let r6 = (g ++ 47 ∷ []) ++ rest in
    let r5 = (f ++ 47 ∷ []) ++ r6 in
    let r4 = (e ++ 47 ∷ []) ++ r5 in
    let r3 = (d ++ 47 ∷ []) ++ r4 in
    let r2 = (c ++ 47 ∷ []) ++ r3 in
    let r1 = (b ++ 47 ∷ []) ++ r2 in
    omega (
      arith,
      slashed_len a r1,
      slashed_len b r2,
      slashed_len c r3,
      slashed_len d r4,
      slashed_len e r5,
      slashed_len f r6,
      slashed_len g rest,
    )

pub paths_short : PathsAreShort
paths_short x =
    let t = x.tile in
    let row : Text = 85 ∷ decimal t.up in
    let nine : length (version_folder x.version) ≡ 9 = refl in
    let five : length (codes "Tiles") ≡ 5 = refl in
    let digits : length row ≤ 8 = omega (arith, seven t.up (omega (arith, up_small t))) in
    omega (
      arith,
      seven_folders (version_folder x.version) (codes "Tiles") (lat_text t.cell.lat) (lon_text t.cell.lon)
          (dataset_folder t.family) (level_folder t.level.number) row (name t),
      nine,
      five,
      digits,
      lat_len t.cell.lat,
      lon_len t.cell.lon,
      dataset_folder_len t.family,
      level_folder_len t.level.number,
      names_short t,
    )
