-- Reading a path: it gives the version and the tile that the text spells, or the place of the first wrong field.
use Rattle.std.proofs.Common.{◌≡◌, ℕ, suc, ◌<◌, ◌≤◌, ◌^◌, [], ◌∷◌, ◌++◌, take, Some, None, refl, ap, sym, subst, ◌∙◌, arith, ℤ, pos, negsuc}
use Rattle.std.specs.Prelude.{codes}
use Rattle.std.specs.Fmt.{decimal}
use Rattle.std.proofs.lemmas.Option.{same_Some}
use Rattle.cdb_grid.specs.declared.tile.Tile.{Tile}
use Rattle.cdb_model.specs.Names.{Text, VersionTile, lat_text, lon_text, version_folder, dataset_folder, level_folder, path_fields, spell, BeginsWith}
use Rattle.cdb_names.specs.declared.folder.DatasetFolder.{DatasetFolder}
use Rattle.cdb_names.specs.Fields.{after, across}
use Rattle.cdb_names.specs.inside.Fields.{version_folder_at, lat_folder_at, lon_folder_at, dataset_folder_at, level_folder_at, up_folder_at}
use Rattle.cdb_names.specs.Reading.{dataset_folder_of}
use Rattle.cdb_names.proofs.FieldLaws.{IsLon, after_takes, after_again}
use Rattle.cdb_names.proofs.FolderLaws.{some_tile, some_family, with_lat, with_lon, with_family, with_level, with_up, across_coarse}
use Rattle.cdb_names.proofs.Settled.{Settles}
use Rattle.cdb_names.proofs.NameLaws.{same, none_some, across_small, level_of}
use Rattle.cdb_names.proofs.NameResults.{anywhere}
use Rattle.cdb_names.proofs.PathFieldLaws.{version_folder_takes, version_folder_again, lat_folder_takes, lat_folder_again, lon_folder_takes, lon_folder_again, dataset_folder_takes, dataset_folder_again, level_for_folder, level_folder_takes, level_folder_again, up_folder_takes, up_folder_again}

-- the text begins with so many fields of a path, and each other such path shares these values
pub record Stage (text : Text) (count : ℕ) (Shares : VersionTile → Type 0) (rest : Text) : Type 0 where
  pub value : VersionTile
  pub begins : BeginsWith (path_fields value) text count rest
  pub only : (x : VersionTile) (after : Text) → BeginsWith (path_fields x) text count after → Shares x
      × (after ≡ rest)

abbrev pub Stops : Text → Text → Type 0
Stops text rest = Settles path_fields text rest

pub shares : {text : Text} {count : ℕ} {Shares : VersionTile → Type 0} {rest : Text}
    → (s : Stage text count Shares rest) → Shares s.value
shares {text} {count} {Shares} {rest} s = (s.only s.value rest s.begins).0

stops : {text : Text} {count : ℕ} {Shares : VersionTile → Type 0} {rest : Text} → Stage text count Shares rest
    → ((x : VersionTile) (after : Text) → BeginsWith (path_fields x) text (suc count) after → ⊥) → Stops text rest
stops {text} {count} {Shares} {rest} s none = record {
  stops = record { value = s.value; count = count; begins = s.begins; no_more = none };
  one = λ x after b. (s.only x after b).1;
}

-- the same version with another tile
abbrev with_tile : VersionTile → Tile → VersionTile
with_tile v t = record { version = v.version; tile = t; from_one = v.from_one; to_last = v.to_last }

abbrev pub Shares1 : ℕ → VersionTile → Type 0
Shares1 version v = v.version ≡ version

abbrev pub Shares3 : ℕ → ℤ → VersionTile → Type 0
Shares3 version lat v = (v.version ≡ version) × (v.tile.cell.lat ≡ lat)

abbrev pub Shares4 : ℕ → ℤ → ℤ → VersionTile → Type 0
Shares4 version lat lon v = (v.version ≡ version) × (v.tile.cell.lat ≡ lat) × (v.tile.cell.lon ≡ lon)

abbrev pub Shares5 : ℕ → ℤ → ℤ → DatasetFolder → VersionTile → Type 0
Shares5 version lat lon dataset v = (v.version ≡ version) × (v.tile.cell.lat ≡ lat) × (v.tile.cell.lon ≡ lon)
    × (dataset_folder_of v.tile.family ≡ dataset)

abbrev pub Shares6 : ℕ → ℤ → ℤ → DatasetFolder → ℤ → VersionTile → Type 0
Shares6 version lat lon dataset level v = (v.version ≡ version) × (v.tile.cell.lat ≡ lat) × (v.tile.cell.lon ≡ lon)
    × (dataset_folder_of v.tile.family ≡ dataset) × (level_for_folder v.tile.level.number ≡ level)

abbrev pub Shares7 : ℕ → ℤ → ℤ → DatasetFolder → ℤ → ℕ → VersionTile → Type 0
Shares7 version lat lon dataset level up v = (v.version ≡ version) × (v.tile.cell.lat ≡ lat)
    × (v.tile.cell.lon ≡ lon)
    × (dataset_folder_of v.tile.family ≡ dataset) × (level_for_folder v.tile.level.number ≡ level)
    × (v.tile.up ≡ up)

-- all levels of a folder have as many tiles
pub across_same : (l : ℤ) → across (level_for_folder l) ≡ across l
across_same (pos n) = refl
across_same (negsuc n) = across_coarse 0 ∙ sym (across_coarse n)

-- the fields of a path, read again
pub version_reads : (x : VersionTile) (after : Text)
    → version_folder_at ((version_folder x.version ++ 47 ∷ []) ++ after) ≡ Some (x.version, after)
version_reads x after = version_folder_again x.version after x.from_one x.to_last

pub lat_reads : (t : Tile) (after : Text) → lat_folder_at ((lat_text t.cell.lat ++ 47 ∷ []) ++ after)
    ≡ Some (t.cell.lat, after)
lat_reads t after = lat_folder_again t.cell.lat after (t.cell.south, t.cell.north)

pub lon_reads : (t : Tile) (after : Text) → lon_folder_at t.cell.lat ((lon_text t.cell.lon ++ 47 ∷ []) ++ after)
    ≡ Some (t.cell.lon, after)
lon_reads t after = lon_folder_again t.cell.lat t.cell.lon after (t.cell.west, t.cell.east, t.cell.on_grid)

pub level_reads : (t : Tile) (after : Text) → level_folder_at ((level_folder t.level.number ++ 47 ∷ []) ++ after)
    ≡ Some (level_for_folder t.level.number, after)
level_reads t after = level_folder_again t.level.number after (level_of t)

pub up_reads : (t : Tile) (after : Text) → up_folder_at (across (level_for_folder t.level.number))
    (((85 ∷ decimal t.up) ++ 47 ∷ []) ++ after) ≡ Some (t.up, after)
up_reads t after = ap (λ (k : ℕ). up_folder_at k (((85 ∷ decimal t.up) ++ 47 ∷ []) ++ after))
    (across_same t.level.number)
    ∙ up_folder_again (across t.level.number) t.up after t.up_in_range (across_small t.level.number (level_of t))

module _ (text : Text) where
  pub stage0 : Stage text 0 (λ v. Unit {0}) text
  stage0 =
      record {
        value = record {
          version = 1;
          tile = (some_tile None tt).tile;
          from_one = omega arith;
          to_last = omega arith;
        };
        begins = record { parts = refl; follows = refl };
        only = λ x after b. (tt, sym b.parts);
      }

  -- the version
  pub stop1 : version_folder_at text ≡ None → Stops text text
  stop1 e =
      stops stage0
      (λ x after b. none_some version_folder_at text ((version_folder x.version ++ 47 ∷ []) ++ after)
      x.version after e
      (sym b.parts) (version_reads x after))

  pub stage1 : (version : ℕ) (rest : Text) → version_folder_at text ≡ Some (version, rest)
      → Stage text 1 (Shares1 version) rest
  stage1 version rest e =
      let t = version_folder_takes text version rest e in
      record {
        value = record { version = version; tile = (some_tile None tt).tile; from_one = t.1; to_last = t.2 };
        begins = record { parts = t.0; follows = refl };
        only = λ x after b. same version_folder_at text ((version_folder x.version ++ 47 ∷ []) ++ after)
            version x.version rest after e (sym b.parts) (version_reads x after);
      }

  -- the folder of all tiles
  pub stop2 : (version : ℕ) (rest : Text) → Stage text 1 (Shares1 version) rest → after (codes "Tiles/") rest ≡ None
      → Stops text rest
  stop2 version rest s e = stops s (λ x end b.
      let a = s.only x (codes "Tiles/" ++ end) (record { parts = b.parts; follows = refl }) in
      let again : after (codes "Tiles/") rest ≡ Some end = ap (after (codes "Tiles/")) (sym a.1)
      ∙ after_again (codes "Tiles/") end in
      let both : None ≡ Some end = sym e ∙ again in
      cc both)

  pub stage2 : (version : ℕ) (r : Text) → Stage text 1 (Shares1 version) r → (rest : Text)
      → after (codes "Tiles/") r
      ≡ Some rest → Stage text 2 (Shares1 version) rest
  stage2 version r s rest e =
      let t = after_takes (codes "Tiles/") r rest e in
      record {
        value = s.value;
        begins = record {
          parts = s.begins.parts ∙ ap (λ (x : Text). spell (take 1 (path_fields s.value)) x) t;
          follows = refl;
        };
        only = λ x end b.
            let a = s.only x (codes "Tiles/" ++ end) (record { parts = b.parts; follows = refl }) in
            let again : Some end ≡ Some rest = sym (after_again (codes "Tiles/") end)
            ∙ ap (after (codes "Tiles/")) a.1 ∙ e in
            (a.0, same_Some end rest again);
      }

  -- latitude
  pub stop3 : (version : ℕ) (rest : Text) → Stage text 2 (Shares1 version) rest → lat_folder_at rest ≡ None
      → Stops text rest
  stop3 version rest s e = stops s (λ x after b.
      let a = s.only x ((lat_text x.tile.cell.lat ++ 47 ∷ []) ++ after)
      (record { parts = b.parts; follows = refl }) in
      none_some lat_folder_at rest ((lat_text x.tile.cell.lat ++ 47 ∷ []) ++ after) x.tile.cell.lat after e
      a.1 (lat_reads x.tile after))

  pub stage3 : (version : ℕ) (r : Text) → Stage text 2 (Shares1 version) r → (lat : ℤ) (rest : Text)
      → lat_folder_at r
      ≡ Some (lat, rest) → Stage text 3 (Shares3 version lat) rest
  unfolding with_lat anywhere
  stage3 version r s lat rest e =
      let t = lat_folder_takes r lat rest e in
      record {
        value = with_tile s.value (with_lat None tt (anywhere s.value.tile) lat t.0 refl).tile;
        begins = record {
          parts = s.begins.parts ∙ ap (λ (x : Text). spell (take 2 (path_fields s.value)) x) t.1;
          follows = refl;
        };
        only = λ x after b.
            let a = s.only x ((lat_text x.tile.cell.lat ++ 47 ∷ []) ++ after)
            (record { parts = b.parts; follows = refl }) in
            let q = same lat_folder_at r ((lat_text x.tile.cell.lat ++ 47 ∷ []) ++ after)
            lat x.tile.cell.lat rest after
            e a.1 (lat_reads x.tile after) in
            ((a.0, q.0), q.1);
      }

  -- longitude
  lon_next : (version : ℕ) (lat : ℤ) (rest : Text) → Stage text 3 (Shares3 version lat) rest
      → (x : VersionTile) (after : Text) → BeginsWith (path_fields x) text 4 after
      → Shares3 version lat x × ((lon_text x.tile.cell.lon ++ 47 ∷ []) ++ after ≡ rest)
      × (lon_folder_at lat ((lon_text x.tile.cell.lon ++ 47 ∷ []) ++ after) ≡ Some (x.tile.cell.lon, after))
  lon_next version lat rest s x after b =
      let a = s.only x ((lon_text x.tile.cell.lon ++ 47 ∷ []) ++ after)
      (record { parts = b.parts; follows = refl }) in (
        a.0,
        a.1,
        subst (λ z. lon_folder_at z ((lon_text x.tile.cell.lon ++ 47 ∷ []) ++ after)
            ≡ Some (x.tile.cell.lon, after)) a.0.1 (lon_reads x.tile after),
      )

  pub stop4 : (version : ℕ) (lat : ℤ) (rest : Text) → Stage text 3 (Shares3 version lat) rest
      → lon_folder_at lat rest
      ≡ None → Stops text rest
  stop4 version lat rest s e = stops s (λ x after b.
      let a = lon_next version lat rest s x after b in
      none_some (lon_folder_at lat) rest ((lon_text x.tile.cell.lon ++ 47 ∷ []) ++ after)
      x.tile.cell.lon after e a.1 a.2)

  pub stage4 : (version : ℕ) (lat : ℤ) (r : Text) → Stage text 3 (Shares3 version lat) r → (lon : ℤ) (rest : Text)
      → lon_folder_at lat r ≡ Some (lon, rest) → Stage text 4 (Shares4 version lat lon) rest
  unfolding with_lon anywhere
  stage4 version lat r s lon rest e =
      let t = lon_folder_takes lat r lon rest e in
      let sh = shares s in
      let is : IsLon s.value.tile.cell.lat lon = subst (λ z. IsLon z lon) (sym sh.1) t.0 in
      record {
        value = with_tile s.value (with_lon None (anywhere s.value.tile) lon is refl).tile;
        begins = record {
          parts = s.begins.parts ∙ ap (λ (x : Text). spell (take 3 (path_fields s.value)) x) t.1;
          follows = refl;
        };
        only = λ x after b.
            let a = lon_next version lat r s x after b in
            let q = same (lon_folder_at lat) r ((lon_text x.tile.cell.lon ++ 47 ∷ []) ++ after)
            lon x.tile.cell.lon rest
            after e a.1 a.2 in
            ((a.0.0, a.0.1, q.0), q.1);
      }

  -- dataset
  pub stop5 : (version : ℕ) (lat lon : ℤ) (rest : Text) → Stage text 4 (Shares4 version lat lon) rest
      → dataset_folder_at rest ≡ None → Stops text rest
  stop5 version lat lon rest s e = stops s (λ x after b.
      let a = s.only x ((dataset_folder x.tile.family ++ 47 ∷ []) ++ after)
      (record { parts = b.parts; follows = refl }) in
      none_some dataset_folder_at rest ((dataset_folder x.tile.family ++ 47 ∷ []) ++ after)
      (dataset_folder_of x.tile.family) after e a.1 (dataset_folder_again x.tile.family after))

  pub stage5 : (version : ℕ) (lat lon : ℤ) (r : Text) → Stage text 4 (Shares4 version lat lon) r
      → (dataset : DatasetFolder) (rest : Text) → dataset_folder_at r ≡ Some (dataset, rest)
      → Stage text 5 (Shares5 version lat lon dataset) rest
  unfolding with_family anywhere
  stage5 version lat lon r s dataset rest e =
      let t = dataset_folder_takes r dataset rest e in
      record {
        value = with_tile s.value (with_family None (anywhere s.value.tile) (some_family dataset) refl).tile;
        begins = record {
          parts = s.begins.parts ∙ ap (λ (x : Text). spell (take 4 (path_fields s.value)) x) t;
          follows = refl;
        };
        only = λ x after b.
            let a = s.only x ((dataset_folder x.tile.family ++ 47 ∷ []) ++ after)
            (record { parts = b.parts; follows = refl }) in
            let q = same dataset_folder_at r ((dataset_folder x.tile.family ++ 47 ∷ []) ++ after) dataset
            (dataset_folder_of x.tile.family) rest after e a.1 (dataset_folder_again x.tile.family after) in
            ((a.0.0, a.0.1, a.0.2, q.0), q.1);
      }

  -- level
  pub stop6 : (version : ℕ) (lat lon : ℤ) (dataset : DatasetFolder) (rest : Text)
      → Stage text 5 (Shares5 version lat lon dataset) rest → level_folder_at rest ≡ None → Stops text rest
  stop6 version lat lon dataset rest s e = stops s (λ x after b.
      let a = s.only x ((level_folder x.tile.level.number ++ 47 ∷ []) ++ after)
      (record { parts = b.parts; follows = refl }) in
      none_some level_folder_at rest ((level_folder x.tile.level.number ++ 47 ∷ []) ++ after)
      (level_for_folder x.tile.level.number) after e a.1 (level_reads x.tile after))

  pub stage6 : (version : ℕ) (lat lon : ℤ) (dataset : DatasetFolder) (r : Text)
      → Stage text 5 (Shares5 version lat lon dataset) r → (level : ℤ) (rest : Text) → level_folder_at r
      ≡ Some (level, rest) → Stage text 6 (Shares6 version lat lon dataset level) rest
  unfolding with_level anywhere
  stage6 version lat lon dataset r s level rest e =
      let t = level_folder_takes r level rest e in
      record {
        value = with_tile s.value (with_level None tt (anywhere s.value.tile) level t.0 refl).tile;
        begins = record {
          parts = s.begins.parts ∙ ap (λ (x : Text). spell (take 5 (path_fields s.value)) x) t.1;
          follows = refl;
        };
        only = λ x after b.
            let a = s.only x ((level_folder x.tile.level.number ++ 47 ∷ []) ++ after)
            (record { parts = b.parts; follows = refl }) in
            let q = same level_folder_at r ((level_folder x.tile.level.number ++ 47 ∷ []) ++ after) level
            (level_for_folder x.tile.level.number) rest after e a.1 (level_reads x.tile after) in
            ((a.0.0, a.0.1, a.0.2, a.0.3, q.0), q.1);
      }

  -- row
  up_next : (version : ℕ) (lat lon : ℤ) (dataset : DatasetFolder) (level : ℤ) (rest : Text)
      → Stage text 6 (Shares6 version lat lon dataset level) rest → (x : VersionTile) (after : Text)
      → BeginsWith (path_fields x) text 7 after
      → Shares6 version lat lon dataset level x × (((85 ∷ decimal x.tile.up) ++ 47 ∷ []) ++ after ≡ rest)
      × (up_folder_at (across level) (((85 ∷ decimal x.tile.up) ++ 47 ∷ []) ++ after) ≡ Some (x.tile.up, after))
  up_next version lat lon dataset level rest s x after b =
      let a = s.only x (((85 ∷ decimal x.tile.up) ++ 47 ∷ []) ++ after)
      (record { parts = b.parts; follows = refl }) in (
        a.0,
        a.1,
        subst (λ z. up_folder_at (across z) (((85 ∷ decimal x.tile.up) ++ 47 ∷ []) ++ after)
            ≡ Some (x.tile.up, after)) a.0.4 (up_reads x.tile after),
      )

  pub stop7 : (version : ℕ) (lat lon : ℤ) (dataset : DatasetFolder) (level : ℤ) (rest : Text)
      → Stage text 6 (Shares6 version lat lon dataset level) rest → up_folder_at (across level) rest ≡ None
      → Stops text rest
  stop7 version lat lon dataset level rest s e = stops s (λ x after b.
      let a = up_next version lat lon dataset level rest s x after b in
      none_some (up_folder_at (across level)) rest (((85 ∷ decimal x.tile.up) ++ 47 ∷ []) ++ after)
      x.tile.up after e a.1 a.2)

  pub stage7 : (version : ℕ) (lat lon : ℤ) (dataset : DatasetFolder) (level : ℤ) (r : Text)
      → Stage text 6 (Shares6 version lat lon dataset level) r → (up : ℕ) (rest : Text)
      → up_folder_at (across level) r
      ≡ Some (up, rest) → Stage text 7 (Shares7 version lat lon dataset level up) rest
  unfolding with_up anywhere
  stage7 version lat lon dataset level r s up rest e =
      let sh = shares s in
      let tiles : across level ≡ across s.value.tile.level.number = ap across (sym sh.4)
      ∙ across_same s.value.tile.level.number in
      let small : across level ≤ 2 ^ 32 =
      omega (arith, tiles, across_small s.value.tile.level.number (level_of s.value.tile)) in
      let t = up_folder_takes (across level) r up rest small e in
      let lt : up < across s.value.tile.level.number = subst (λ (k : ℕ). up < k) tiles t.0 in
      record {
        value = with_tile s.value (with_up None (anywhere s.value.tile) up lt refl).tile;
        begins = record {
          parts = s.begins.parts ∙ ap (λ (x : Text). spell (take 6 (path_fields s.value)) x) t.1;
          follows = refl;
        };
        only = λ x after b.
            let a = up_next version lat lon dataset level r s x after b in
            let q = same (up_folder_at (across level)) r (((85 ∷ decimal x.tile.up) ++ 47 ∷ []) ++ after)
            up x.tile.up rest after e a.1 a.2 in
            ((a.0.0, a.0.1, a.0.2, a.0.3, a.0.4, q.0), q.1);
      }
