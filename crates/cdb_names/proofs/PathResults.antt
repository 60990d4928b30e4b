-- What reading a path gives, by versions and tiles.
use Rattle.std.proofs.Common.{◌≡◌, ℕ, suc, ◌+◌, ◌-◌, ◌<◌, ◌≤◌, true, List, [], ◌∷◌, length, take, drop, Some, Result, Ok, Err, ◌⊎◌, inl, inr, refl, ap, sym, subst, ◌∙◌, arith, ℤ, pos, negsuc}
use Rattle.std.specs.Prelude.{codes, IfOk, IfErr}
use Rattle.std.specs.Cmp.{signed_Decides}
use Rattle.std.specs.Fmt.{decimal}
use Rattle.std.proofs.lemmas.Bool.{eq-eqb, eqb-true}
use Rattle.std.proofs.lemmas.Int.{ints}
use Rattle.cdb_grid.specs.declared.family.Family.{Family}
use Rattle.cdb_grid.specs.declared.family.Family.TheVariants.{Elev, Low, High, Mat}
use Rattle.cdb_grid.specs.declared.tile.Tile.{Tile}
use Rattle.cdb_model.specs.declared.name_error.NameError.{NameError}
use Rattle.cdb_model.specs.Names.{Text, VersionTile, two, lat_text, lon_text, version_folder, dataset_folder, level_folder, name, name_fields, path_fields, path, folders, with_slashes, spell, BeginsWith, FirstWrong}
use Rattle.cdb_names.specs.declared.folder.Folder.{Folder}
use Rattle.cdb_names.specs.declared.folder.DatasetFolder.{DatasetFolder}
use Rattle.cdb_names.specs.declared.folder.DatasetFolder.TheVariants.{Elevation, MinMaxElevation, RmTexture}
use Rattle.cdb_names.specs.declared.folder.LevelFolder.{LevelFolder}
use Rattle.cdb_names.specs.declared.folder.LevelFolder.TheVariants.{BelowZero, At}
use Rattle.cdb_names.specs.Fields.{after, across}
use Rattle.cdb_names.specs.inside.Fields.{version_folder_at, lat_folder_at, lon_folder_at, dataset_folder_at, level_folder_at, up_folder_at}
use Rattle.cdb_names.specs.Reading.{◌>>=◌, wrong_at, has_lat, has_lon, has_dataset, has_level, has_up, same_dataset, same_level, dataset_folder_of, level_folder_of, name_at, Spelled, spelled_tile, IsReadAs}
use Rattle.cdb_names.specs.inside.Reading.{folders_at, path_at}
use Rattle.cdb_names.proofs.FieldLaws.{IsLevel, after_again}
use Rattle.cdb_names.proofs.FolderLaws.{InFolder, IsFolder, some_level}
use Rattle.cdb_names.proofs.NameLaws.{step, fields_in, name_says, name_again}
use Rattle.cdb_names.specs.Places.{OneWrongPlaceOfPaths, PathsHaveNoWrongPlace}
use Rattle.cdb_names.proofs.Settled.{AreFields, Settles, one_rest, never_stops}
use Rattle.cdb_names.proofs.NameResults.{are_name_fields, begins_at}
use Rattle.cdb_names.proofs.PathFieldLaws.{level_for_folder, dataset_folder_again}
use Rattle.cdb_names.proofs.PathLaws.{Stage, Stops, shares, Shares7, across_same, version_reads, lat_reads, lon_reads, level_reads, up_reads, stop1, stop2, stop3, stop4, stop5, stop6, stop7, stage1, stage2, stage3, stage4, stage5, stage6, stage7}
use Rattle.cdb_names.proofs.SameTile.{same_tile}

-- ---- the folder of a tile

-- what the folders of a tile say of it
abbrev folder_of : Tile → Folder
folder_of t = record {
  lat = t.cell.lat;
  lon = t.cell.lon;
  dataset = dataset_folder_of t.family;
  level = level_folder_of (level_for_folder t.level.number);
  up = t.up;
}

-- the folder that was read
abbrev folder_with : ℤ → ℤ → DatasetFolder → ℤ → ℕ → Folder
folder_with lat lon dataset level up =
    record { lat = lat; lon = lon; dataset = dataset; level = level_folder_of level; up = up }

folder_is : (version : ℕ) (lat lon : ℤ) (dataset : DatasetFolder) (level : ℤ) (up : ℕ) (v : VersionTile)
    → Shares7 version lat lon dataset level up v → folder_of v.tile ≡ folder_with lat lon dataset level up
folder_is version lat lon dataset level up v s = rw (s.1, s.2, s.3, s.4, s.5) refl

some_level_again : (l : LevelFolder) → level_folder_of (some_level l) ≡ l
some_level_again BelowZero = refl
some_level_again (At n) = refl

dataset_itself : (d : DatasetFolder) → same_dataset d d ≡ true
dataset_itself Elevation = refl
dataset_itself MinMaxElevation = refl
dataset_itself RmTexture = refl

level_itself : (l : LevelFolder) → same_level l l ≡ true
level_itself BelowZero = refl
level_itself (At n) = eq-eqb n n refl

dataset_is : (d e : DatasetFolder) → same_dataset d e ≡ true → d ≡ e
dataset_is Elevation Elevation h = refl
dataset_is Elevation MinMaxElevation h = absurd cc
dataset_is Elevation RmTexture h = absurd cc
dataset_is MinMaxElevation Elevation h = absurd cc
dataset_is MinMaxElevation MinMaxElevation h = refl
dataset_is MinMaxElevation RmTexture h = absurd cc
dataset_is RmTexture Elevation h = absurd cc
dataset_is RmTexture MinMaxElevation h = absurd cc
dataset_is RmTexture RmTexture h = refl

level_is : (k l : LevelFolder) → same_level k l ≡ true → k ≡ l
level_is BelowZero BelowZero h = refl
level_is BelowZero (At n) h = absurd cc
level_is (At m) BelowZero h = absurd cc
level_is (At m) (At n) h = ap At (eqb-true m n h)

-- a tile stands in its folder
in_folder : (t : Tile) (f : Folder) → folder_of t ≡ f → InFolder (Some f)
in_folder t f e = record {
  tile = t;
  lat = subst (λ (g : Folder). has_lat (Some g) t.cell.lat ≡ true) e ((signed_Decides t.cell.lat t.cell.lat).1 refl);
  lon = subst (λ (g : Folder). has_lon (Some g) t.cell.lon ≡ true) e ((signed_Decides t.cell.lon t.cell.lon).1 refl);
  dataset = subst (λ (g : Folder). has_dataset (Some g) t.family ≡ true) e
      (dataset_itself (dataset_folder_of t.family));
  level = subst (λ (g : Folder). has_level (Some g) t.level.number ≡ true) e (level_of_folder t.level.number);
  up = subst (λ (g : Folder). has_up (Some g) t.up ≡ true) e (eq-eqb t.up t.up refl);
}
  where
    level_of_folder : (l : ℤ) → same_level (level_folder_of (level_for_folder l)) (level_folder_of l) ≡ true
    level_of_folder l = ap (λ (k : LevelFolder). same_level k (level_folder_of l))
        (some_level_again (level_folder_of l)) ∙ level_itself (level_folder_of l)

-- the folder of a tile has a tile
is_folder : (t : Tile) → IsFolder (folder_of t)
is_folder t = record {
  lat = (t.cell.south, t.cell.north);
  lon = (t.cell.west, t.cell.east, t.cell.on_grid);
  level = subst IsLevel (sym again) (in_range t.level.number (t.level.coarsest, t.level.finest));
  up = subst (λ (k : ℕ). t.up < k) (sym (ap across again ∙ across_same t.level.number)) t.up_in_range;
}
  where
    again : level_for_folder (level_for_folder t.level.number) ≡ level_for_folder t.level.number
    again = ap some_level (some_level_again (level_folder_of t.level.number))

    in_range : (l : ℤ) → IsLevel l → IsLevel (level_for_folder l)
    in_range (pos n) h = h
    in_range (negsuc n) h = (omega (arith, ints), omega (arith, ints))

-- the texts of the folders of a tile
abbrev dataset_name : DatasetFolder → Text
dataset_name Elevation = codes "001_Elevation"
dataset_name MinMaxElevation = codes "002_MinMaxElevation"
dataset_name RmTexture = codes "005_RMTexture"

abbrev level_name : LevelFolder → Text
level_name BelowZero = codes "LC"
level_name (At n) = 76 ∷ two n

dataset_named : (f : Family) → dataset_folder f ≡ dataset_name (dataset_folder_of f)
dataset_named Elev = refl
dataset_named Low = refl
dataset_named High = refl
dataset_named Mat = refl

level_named : (l : ℤ) → level_folder l ≡ level_name (level_folder_of l)
level_named (pos n) = refl
level_named (negsuc n) = refl

seven : (a b c d e g h : Text) (c' d' e' g' h' : Text) → c ≡ c' → d ≡ d' → e ≡ e' → g ≡ g' → h ≡ h'
    → a ∷ b ∷ c ∷ d ∷ e ∷ g ∷ h ∷ [] ≡ a ∷ b ∷ c' ∷ d' ∷ e' ∷ g' ∷ h' ∷ []
seven a b c d e g h c' d' e' g' h' p q r s t = cc

-- tiles of one folder have the same folders
same_folders : (version : ℕ) (t : Tile) (x : InFolder (Some (folder_of t))) → folders version t ≡ folders version x.tile
same_folders version t x =
    let level = some_level_again (level_folder_of t.level.number) in
    seven (version_folder version) (codes "Tiles") (lat_text t.cell.lat) (lon_text t.cell.lon) (dataset_folder t.family)
    (level_folder t.level.number) (85 ∷ decimal t.up)
    (lat_text x.tile.cell.lat) (lon_text x.tile.cell.lon) (dataset_folder x.tile.family)
    (level_folder x.tile.level.number) (85 ∷ decimal x.tile.up)
    (ap lat_text ((signed_Decides t.cell.lat x.tile.cell.lat).0 x.lat))
    (ap lon_text ((signed_Decides t.cell.lon x.tile.cell.lon).0 x.lon))
    (dataset_named t.family
    ∙ ap dataset_name (dataset_is (dataset_folder_of t.family) (dataset_folder_of x.tile.family) x.dataset)
    ∙ sym (dataset_named x.tile.family))
    (level_named t.level.number
    ∙ ap level_name
    (sym level ∙ level_is (level_folder_of (level_for_folder t.level.number)) (level_folder_of x.tile.level.number)
    x.level) ∙ sym (level_named x.tile.level.number))
    (ap (λ (n : ℕ). 85 ∷ decimal n) (eqb-true t.up x.tile.up x.up))

-- ---- the folders of a path

-- a version and a tile whose folders are these
abbrev version_tile : (v : VersionTile) → Tile → VersionTile
version_tile v t = record { version = v.version; tile = t; from_one = v.from_one; to_last = v.to_last }

-- the text is the folders of a version and a tile, and then this end
pub record Reads (text : Text) (version : ℕ) (f : Folder) (end : Text) : Type 0 where
  pub value : VersionTile
  pub version_is : value.version ≡ version
  pub folder_is : folder_of value.tile ≡ f
  pub begins : BeginsWith (path_fields value) text 7 end
  pub only : (x : VersionTile) (rest : Text) → BeginsWith (path_fields x) text 7 rest → (x.version ≡ version)
      × (folder_of x.tile ≡ f) × (rest ≡ end)

abbrev pub FoldersSay : Text → Result (ℕ × Folder × Text) NameError → Type 0
FoldersSay text (Ok p) = Reads text p.0 p.1 p.2
FoldersSay text (Err e) = (rest : Text) × Stops text rest × (wrong_at text rest ≡ e)

module _ (text : Text) where
  stopped : (r : Result (ℕ × Folder × Text) NameError) (rest : Text) → Stops text rest → Err (wrong_at text rest) ≡ r
      → FoldersSay text r
  stopped r rest s e = subst (FoldersSay text) e (rest, s, refl)

  finished : (version : ℕ) (lat lon : ℤ) (dataset : DatasetFolder) (level : ℤ) (up : ℕ) (end : Text)
      (r : Result (ℕ × Folder × Text) NameError) → Stage text 7 (Shares7 version lat lon dataset level up) end
      → Ok (version, folder_with lat lon dataset level up, end) ≡ r → FoldersSay text r
  finished version lat lon dataset level up end r s e =
      let sh = shares s in
      let reads : Reads text version (folder_with lat lon dataset level up) end = record {
        value = s.value;
        version_is = sh.0;
        folder_is = folder_is version lat lon dataset level up s.value sh;
        begins = s.begins;
        only = λ x rest b. let a = s.only x rest b in (a.0.0, folder_is version lat lon dataset level up x a.0, a.1);
      } in
      subst (FoldersSay text) e reads

  folders_say : (r : Result (ℕ × Folder × Text) NameError) → folders_at text ≡ r → FoldersSay text r
  unfolding folders_at
  folders_say r e =
      elim (step text text (version_folder_at text) _ r e) [
        | inl n ↦ stopped r text (stop1 text n.0) n.1
        | inr v ↦
            let s1 = stage1 text v.0.0 v.0.1 v.1 in
            elim (step text v.0.1 (after (codes "Tiles/") v.0.1) _ r v.2) [
              | inl n ↦ stopped r v.0.1 (stop2 text v.0.0 v.0.1 s1 n.0) n.1
              | inr t ↦
                  let s2 = stage2 text v.0.0 v.0.1 s1 t.0 t.1 in
                  elim (step text t.0 (lat_folder_at t.0) _ r t.2) [
                    | inl n ↦ stopped r t.0 (stop3 text v.0.0 t.0 s2 n.0) n.1
                    | inr l ↦
                        let s3 = stage3 text v.0.0 t.0 s2 l.0.0 l.0.1 l.1 in
                        elim (step text l.0.1 (lon_folder_at l.0.0 l.0.1) _ r l.2) [
                          | inl n ↦ stopped r l.0.1 (stop4 text v.0.0 l.0.0 l.0.1 s3 n.0) n.1
                          | inr lo ↦
                              let s4 = stage4 text v.0.0 l.0.0 l.0.1 s3 lo.0.0 lo.0.1 lo.1 in
                              elim (step text lo.0.1 (dataset_folder_at lo.0.1) _ r lo.2) [
                                | inl n ↦ stopped r lo.0.1 (stop5 text v.0.0 l.0.0 lo.0.0 lo.0.1 s4 n.0) n.1
                                | inr d ↦
                                    let s5 = stage5 text v.0.0 l.0.0 lo.0.0 lo.0.1 s4 d.0.0 d.0.1 d.1 in
                                    elim (step text d.0.1 (level_folder_at d.0.1) _ r d.2) [
                                      | inl n ↦ stopped r d.0.1 (stop6 text v.0.0 l.0.0 lo.0.0 d.0.0 d.0.1 s5 n.0) n.1
                                      | inr lv ↦
                                          let s6 = stage6 text v.0.0 l.0.0 lo.0.0 d.0.0 d.0.1 s5 lv.0.0 lv.0.1 lv.1 in
                                          elim (step text lv.0.1 (up_folder_at (across lv.0.0) lv.0.1) _ r lv.2) [
                                            | inl n ↦ stopped r
                                                lv.0.1 (stop7 text v.0.0 l.0.0 lo.0.0 d.0.0 lv.0.0 lv.0.1 s6 n.0) n.1
                                            | inr u ↦ finished v.0.0 l.0.0 lo.0.0 d.0.0 lv.0.0 u.0.0 u.0.1 r
                                                (stage7 text v.0.0 l.0.0 lo.0.0 d.0.0 lv.0.0 lv.0.1 s6 u.0.0 u.0.1 u.1)
                                                u.2
                                          ]
                                    ]
                              ]
                        ]
                  ]
            ]
      ]

-- ---- the whole path

-- what a step of the reading came to
bound : {A B : Type 0} (o : Result A NameError) (f : A → Result B NameError) (r : Result B NameError) → (o >>= f) ≡ r
    → ((e : NameError) × (o ≡ Err e) × (Err e ≡ r)) ⊎ ((x : A) × (o ≡ Ok x) × (f x ≡ r))
bound (Ok x) f r e = inr (x, refl, e)
bound (Err x) f r e = inl (x, refl, e)

-- what reading a path says: the version and the tile that the text spells, or where it stops
abbrev pub Says : Text → Result (ℕ × Spelled) NameError → Type 0
Says text (Ok p) = (x : VersionTile) × (x.version ≡ p.0) × (spelled_tile x.tile ≡ p.1) × (text ≡ path x.version x.tile)
Says text (Err e) = (rest : Text) × Stops text rest × (wrong_at text rest ≡ e)

module _ (text : Text) (version : ℕ) (end : Text) (v : VersionTile) (version_is : v.version ≡ version)
    (begins : BeginsWith (path_fields v) text 7 end)
    (only : (x : VersionTile) (rest : Text) → BeginsWith (path_fields x) text 7 rest → (x.version ≡ version)
    × (folder_of x.tile ≡ folder_of v.tile) × (rest ≡ end)) where
  -- the folders of any tile in the folder
  of_tile : (x : InFolder (Some (folder_of v.tile))) → text ≡ spell (take 7 (path_fields (version_tile v x.tile))) end
  of_tile x = begins.parts ∙ ap (λ (fs : List Text). spell (with_slashes fs []) end) (same_folders v.version v.tile x)

  lifted : (rest : Text) → Settles (fields_in {folder = Some (folder_of v.tile)}) end rest → Stops text rest
  unfolding in_folder
  lifted rest s = record {
    stops = record {
      value = version_tile v s.stops.value.tile;
      count = suc (suc (suc (suc (suc (suc (suc s.stops.count))))));
      begins =
          record {
            parts = of_tile s.stops.value
                ∙ ap (λ (y : Text). spell (take 7 (path_fields (version_tile v s.stops.value.tile))) y)
                s.stops.begins.parts;
            follows = s.stops.begins.follows;
          };
      no_more = λ other after b.
          let a = only other (spell (take (suc s.stops.count) (name_fields other.tile)) after)
          (record { parts = b.parts; follows = refl }) in
          s.stops.no_more (in_folder other.tile (folder_of v.tile) a.1) after
          (record { parts = sym a.2; follows = b.follows });
    };
    one = λ other after b.
        let a = only other (spell (take s.stops.count (name_fields other.tile)) after)
        (record { parts = b.parts; follows = refl }) in
        s.one (in_folder other.tile (folder_of v.tile) a.1) after (record { parts = sym a.2; follows = b.follows });
  }

  end_says : (r : Result Spelled NameError) → name_at (Some (folder_of v.tile)) text end ≡ r
      → Says text (r >>= λ s. Ok (version, s))
  end_says (Ok s) e =
      let n = name_says (Some (folder_of v.tile)) (is_folder v.tile) text end (Ok s) e in (
        version_tile v n.0.tile,
        version_is,
        n.1,
        of_tile n.0
            ∙ ap (λ (y : Text). spell (take 7 (path_fields (version_tile v n.0.tile))) y) n.2,
      )
  end_says (Err w) e =
      let n = name_says (Some (folder_of v.tile)) (is_folder v.tile) text end (Err w) e in
      (n.0, lifted n.0 n.1, n.2)

path_says : (text : Text) (r : Result (ℕ × Spelled) NameError) → path_at text ≡ r → Says text r
unfolding path_at
path_says text r e =
    elim (bound (folders_at text) _ r e) [
      | inl w ↦ subst (Says text) w.2 (folders_say text (Err w.0) w.1)
      | inr a ↦
          let reads = folders_say text (Ok a.0) a.1 in
          let read : Result Spelled NameError = name_at (Some (folder_of reads.value.tile)) text a.0.2 in
          let same_read : read ≡ name_at (Some a.0.1) text a.0.2 = ap (λ (g : Folder). name_at (Some g) text a.0.2)
          reads.folder_is in
          let says =
          end_says text a.0.0 a.0.2 reads.value reads.version_is reads.begins
          (λ x rest b. let o = reads.only x rest b in (o.0, o.1 ∙ sym reads.folder_is, o.2)) read refl in
          subst (Says text) (ap (λ (o : Result Spelled NameError). o >>= λ s. Ok (a.0.0, s)) same_read ∙ a.2) says
    ]

folders_again : (text : Text) (version : ℕ) (r1 r2 : Text) (lat : ℤ) (r3 : Text) (lon : ℤ) (r4 : Text)
    (dataset : DatasetFolder) (r5 : Text) (level : ℤ) (r6 : Text) (up : ℕ) (r7 : Text)
    → version_folder_at text ≡ Some (version, r1) → after (codes "Tiles/") r1 ≡ Some r2 → lat_folder_at r2
    ≡ Some (lat, r3) → lon_folder_at lat r3 ≡ Some (lon, r4) → dataset_folder_at r4 ≡ Some (dataset, r5)
    → level_folder_at r5 ≡ Some (level, r6) → up_folder_at (across level) r6 ≡ Some (up, r7) → folders_at text
    ≡ Ok (version, folder_with lat lon dataset level up, r7)
unfolding folders_at
folders_again text version r1 r2 lat r3 lon r4 dataset r5 level r6 up r7 e1 e2 e3 e4 e5 e6 e7 =
    rw (e1, e2, e3, e4, e5, e6, e7) refl

name_in_path : (text : Text) (version : ℕ) (f : Folder) (end : Text) (s : Spelled) → folders_at text
    ≡ Ok (version, f, end) → name_at (Some f) text end ≡ Ok s → path_at text ≡ Ok (version, s)
unfolding path_at
name_in_path text version f end s a b = rw (a, b) refl

-- the path of a version and a tile is read
path_again : (x : VersionTile) → path_at (path x.version x.tile) ≡ Ok (x.version, spelled_tile x.tile)
unfolding in_folder
path_again x =
    let t = x.tile in
    let fs = path_fields x in
    let text = path x.version x.tile in
    let folders = folders_again text x.version (spell (drop 1 fs) []) (spell (drop 2 fs) [])
    t.cell.lat (spell (drop 3 fs) []) t.cell.lon (spell (drop 4 fs) []) (dataset_folder_of t.family)
    (spell (drop 5 fs) []) (level_for_folder t.level.number) (spell (drop 6 fs) []) t.up (name t)
    (version_reads x (spell (drop 1 fs) [])) (after_again (codes "Tiles/") (spell (drop 2 fs) []))
    (lat_reads t (spell (drop 3 fs) [])) (lon_reads t (spell (drop 4 fs) []))
    (dataset_folder_again t.family (spell (drop 5 fs) [])) (level_reads t (spell (drop 6 fs) []))
    (up_reads t (name t)) in
    name_in_path text x.version (folder_of t) (name t) (spelled_tile t) folders
    (name_again (Some (folder_of t)) (is_folder t) text (in_folder t (folder_of t) refl))

-- ---- by tiles

-- a version and a tile as the numbers of their path
abbrev pub spelled_path : ℕ × Tile → ℕ × Spelled
spelled_path p = (p.0, spelled_tile p.1)

pub path_versions : (text : Text) (r : Result (ℕ × Tile) NameError) → IsReadAs spelled_path r (path_at text)
    → IfOk r (λ p. (1 ≤ p.0) × (p.0 ≤ 4096))
path_versions text (Ok p) e =
    let s = path_says text (Ok (p.0, spelled_tile p.1)) e in
    (subst (λ (k : ℕ). 1 ≤ k) s.1 s.0.from_one, subst (λ (k : ℕ). k ≤ 4096) s.1 s.0.to_last)
path_versions text (Err e) h = tt

pub path_found : (text : Text) (r : Result (ℕ × Tile) NameError) → IsReadAs spelled_path r (path_at text)
    → IfOk r (λ p. text ≡ path p.0 p.1)
path_found text (Ok p) e =
    let s = path_says text (Ok (p.0, spelled_tile p.1)) e in
    s.3 ∙ ap (λ (k : ℕ). path k s.0.tile) s.1 ∙ ap (path p.0) (same_tile s.0.tile p.1 s.2)
path_found text (Err e) h = tt

pub path_only : (text : Text) (r : Result (ℕ × Tile) NameError) → IsReadAs spelled_path r (path_at text)
    → (version : ℕ) (t : Tile) → 1 ≤ version → version ≤ 4096 → text ≡ path version t → r ≡ Ok (version, t)
path_only text r e version t first last is = by r e
  where
    again : path_at text ≡ Ok (version, spelled_tile t)
    again = ap path_at is ∙ path_again (record { version = version; tile = t; from_one = first; to_last = last })

    ok_is : (a b : ℕ × Spelled) → ◌≡◌ {A = Result (ℕ × Spelled) NameError} (Ok a) (Ok b) → a ≡ b
    ok_is a b h = cc

    by : (r : Result (ℕ × Tile) NameError) → IsReadAs spelled_path r (path_at text) → r ≡ Ok (version, t)
    by (Ok p) e =
        let s = ok_is (p.0, spelled_tile p.1) (version, spelled_tile t) (sym e ∙ again) in
        let k : p.0 ≡ version = ap (λ (q : ℕ × Spelled). q.0) s in
        let l : p.1 ≡ t = same_tile p.1 t (ap (λ (q : ℕ × Spelled). q.1) s) in
        let a : ◌≡◌ {A = ℕ × Tile} (p.0, p.1) (version, p.1) = ap (λ (n : ℕ). (n, p.1)) k in
        let b : ◌≡◌ {A = ℕ × Tile} (version, p.1) (version, t) = ap (λ (u : Tile). (version, u)) l in
        ap Ok (a ∙ b)
    by (Err w) e = let k : ◌≡◌ {A = Result (ℕ × Spelled) NameError} (Err w) (Ok (version, spelled_tile t)) = sym e
        ∙ again in absurd cc

pub path_wrong : (text : Text) (r : Result (ℕ × Tile) NameError) → IsReadAs spelled_path r (path_at text)
    → IfErr r (λ e. FirstWrong path_fields text e.place)
path_wrong text (Ok p) e = tt
path_wrong text (Err w) e =
    let s = path_says text (Err w) e in
    let stops = s.1.stops in
    let place : length text - length s.0 ≡ w.place = ap (λ (x : NameError). x.place) s.2 in
    record {
      rest = s.0;
      stops = stops;
      place_is = ap (λ (k : ℕ). k + length s.0) (sym place)
          ∙ begins_at text s.0 (take stops.count (path_fields stops.value)) stops.begins.parts;
    }

-- ---- the first wrong field is one, and of a path none is wrong

are_path_fields : (x : VersionTile) → AreFields (path_fields x)
are_path_fields x = (
  (λ rest. refl),
  (
    (λ rest. refl),
    (
      (λ rest. refl),
      ((λ rest. refl), ((λ rest. refl), ((λ rest. refl), ((λ rest. refl), are_name_fields x.tile)))),
    ),
  ),
)

pub one_wrong_in_path : OneWrongPlaceOfPaths
one_wrong_in_path text p q a b = by (path_at text) refl
  where
    by : (r : Result (ℕ × Spelled) NameError) → path_at text ≡ r → p ≡ q
    by (Ok s) e =
        let says = path_says text (Ok s) e in
        absurd (never_stops path_fields are_path_fields text a.rest says.0 says.3 a.stops)
    by (Err wrong) e =
        let s = path_says text (Err wrong) e in
        let first = ap length (one_rest path_fields are_path_fields text s.0 a.rest s.1 a.stops) in
        let second = ap length (one_rest path_fields are_path_fields text s.0 b.rest s.1 b.stops) in
        omega (arith, first, second, a.place_is, b.place_is)

pub none_in_path : PathsHaveNoWrongPlace
none_in_path x place a = never_stops path_fields are_path_fields (path x.version x.tile) a.rest x refl a.stops
