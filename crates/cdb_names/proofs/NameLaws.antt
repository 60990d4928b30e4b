-- Reading a name: it gives the tile that the text spells, or the place of the first wrong field.
use Rattle.std.proofs.Common.{◌≡◌, ℕ, suc, ◌-◌, ◌<◌, ◌≤◌, ◌^◌, Bool, true, false, cond, not, List, [], ◌∷◌, ◌++◌, length, take, drop, Option, Some, None, Result, Ok, Err, ◌⊎◌, inl, inr, refl, ap, sym, subst, ◌∙◌, arith, ℤ}
use Rattle.std.specs.Prelude.{codes}
use Rattle.std.specs.Str.{bytes_eq}
use Rattle.std.proofs.lemmas.Bool.{eqb-true, not-true}
use Rattle.std.proofs.lemmas.Slice.Eq.{bytes_eq-Decides}
use Rattle.std.proofs.Math.Nat.{pow-le-pow_right}
use Rattle.std.proofs.lemmas.Option.{cond_some, same_Some}
use Rattle.cdb_grid.specs.Units.{height_of}
use Rattle.cdb_grid.specs.declared.family.Family.{Family}
use Rattle.cdb_grid.specs.declared.tile.Tile.{Tile}
use Rattle.cdb_model.specs.declared.name_error.NameError.{NameError}
use Rattle.cdb_model.specs.Names.{Text, lat_text, lon_text, dataset_text, level_text, up_text, right_text, name_fields, name, spell, begins_with_digit, BeginsWith}
use Rattle.cdb_names.specs.declared.folder.Folder.{Folder}
use Rattle.cdb_names.specs.Fields.{lat_at, lon_at, family_at, level_at, across, numbered_at}
use Rattle.cdb_names.specs.Reading.{◌>>=◌, wrong_at, field_or_place, has_lat, has_lon, has_dataset, has_level, has_up, passing, lat_in, lon_in, family_in, level_in, up_in, name_at, Spelled, spelled_tile}
use Rattle.cdb_names.proofs.Tools.{pair_is, chosen}
use Rattle.cdb_names.proofs.FieldLaws.{IsLon, IsLevel, lat_takes, lat_again, lon_takes, lon_again, family_takes, family_again, level_takes, level_again, numbered_takes, numbered_again}
use Rattle.cdb_names.proofs.Settled.{Settles}
use Rattle.cdb_names.proofs.FolderLaws.{InFolder, IsSound, some_tile, with_lat, with_lon, with_family, with_level, with_up, with_right}

-- ---- values that pass a test

pub kept_takes : {X : Type 0} (test : X → Bool) (o : Option (X × Text)) (x : X) (rest : Text) → passing test o
    ≡ Some (x, rest) → (o ≡ Some (x, rest)) × (test x ≡ true)
kept_takes test None x rest e = absurd cc
kept_takes {X} test (Some p) x rest e =
    let g = cond_some (test p.0) p (x, rest) e in
    (ap Some g.1, ap (λ (q : X × Text). test q.0) (sym g.1) ∙ g.0)

pub kept_again : {X : Type 0} (test : X → Bool) (o : Option (X × Text)) (x : X) (rest : Text) → o ≡ Some (x, rest)
    → test x ≡ true → passing test o ≡ Some (x, rest)
kept_again test o x rest e h = ap (passing test) e ∙ rw h refl

-- one reader gives one answer
pub same : {A : Type 0} (read : Text → Option (A × Text)) (text spelled_tile : Text) (a b : A) (r rest : Text)
    → read text ≡ Some (a, r) → spelled_tile ≡ text → read spelled_tile ≡ Some (b, rest) → (b ≡ a) × (rest ≡ r)
same {A} read text spelled_tile a b r rest e is f =
    let p : Some (b, rest) ≡ Some (a, r) = sym f ∙ ap read is ∙ e in
    pair_is b a rest r (same_Some (b, rest) (a, r) p)

pub none_some : {A : Type 0} (read : Text → Option (A × Text)) (text spelled_tile : Text) (b : A) (rest : Text)
    → read text ≡ None → spelled_tile ≡ text → read spelled_tile ≡ Some (b, rest) → ⊥
none_some {A} read text spelled_tile b rest e is f = let p : Some (b, rest) ≡ None = sym f ∙ ap read is ∙ e in cc p

-- what a step of the reading came to
pub step : {A B : Type 0} (text rest : Text) (o : Option A) (f : A → Result B NameError) (r : Result B NameError)
    → (field_or_place text rest o >>= f) ≡ r → ((o ≡ None) × (Err (wrong_at text rest) ≡ r))
    ⊎ ((x : A) × (o ≡ Some x) × (f x ≡ r))
step text rest None f r e = inl (refl, e)
step text rest (Some x) f r e = inr (x, refl, e)

pub across_small : (l : ℤ) → IsLevel l → across l ≤ 2 ^ 32
across_small l h =
    let bound : 24 - height_of l ≤ 24 = omega arith in
    let some : 0 < 2 = omega arith in
    let a : 2 ^ (24 - height_of l) ≤ 2 ^ 24 = pow-le-pow_right {n = 2} some bound in
    omega (arith, a)

pub level_of : (t : Tile) → IsLevel t.level.number
level_of t = (t.level.coarsest, t.level.finest)

-- ---- the stages of reading

abbrev pub fields_in : {folder : Option Folder} → InFolder folder → List Text
fields_in x = name_fields x.tile

-- the text begins with so many fields of a tile in the folder, and each other such tile shares these values
pub record Stage (folder : Option Folder) (text : Text) (count : ℕ) (Shares : Tile → Type 0)
    (rest : Text) : Type 0 where
  pub value : InFolder folder
  pub begins : BeginsWith (fields_in value) text count rest
  pub only : (x : InFolder folder) (after : Text) → BeginsWith (fields_in x) text count after → Shares x.tile
      × (after ≡ rest)

abbrev pub Stops : Option Folder → Text → Text → Type 0
Stops folder text rest = Settles (fields_in {folder = folder}) text rest

-- what the value of a stage shares
shares : {folder : Option Folder} {text : Text} {count : ℕ} {Shares : Tile → Type 0} {rest : Text}
    → (s : Stage folder text count Shares rest) → Shares s.value.tile
shares {folder} {text} {count} {Shares} {rest} s = (s.only s.value rest s.begins).0

-- reading stops where no tile in the folder has the next field
stops : {folder : Option Folder} {text : Text} {count : ℕ} {Shares : Tile → Type 0} {rest : Text}
    → Stage folder text count Shares rest
    → ((x : InFolder folder) (after : Text) → BeginsWith (fields_in x) text (suc count) after → ⊥)
    → Stops folder text rest
stops {folder} {text} {count} {Shares} {rest} s none = record {
  stops = record { value = s.value; count = count; begins = s.begins; no_more = none };
  one = λ x after b. (s.only x after b).1;
}

abbrev pub Shares0 : Tile → Type 0
Shares0 t = Unit {0}

abbrev pub Shares1 : ℤ → Tile → Type 0
Shares1 lat t = t.cell.lat ≡ lat

abbrev pub Shares2 : ℤ → ℤ → Tile → Type 0
Shares2 lat lon t = (t.cell.lat ≡ lat) × (t.cell.lon ≡ lon)

abbrev pub Shares3 : ℤ → ℤ → Family → Tile → Type 0
Shares3 lat lon family t = (t.cell.lat ≡ lat) × (t.cell.lon ≡ lon) × (t.family ≡ family)

abbrev pub Shares4 : ℤ → ℤ → Family → ℤ → Tile → Type 0
Shares4 lat lon family level t = (t.cell.lat ≡ lat) × (t.cell.lon ≡ lon) × (t.family ≡ family)
    × (t.level.number ≡ level)

abbrev pub Shares5 : ℤ → ℤ → Family → ℤ → ℕ → Tile → Type 0
Shares5 lat lon family level up t = (t.cell.lat ≡ lat) × (t.cell.lon ≡ lon) × (t.family ≡ family)
    × (t.level.number ≡ level) × (t.up ≡ up)

abbrev pub Shares6 : ℤ → ℤ → Family → ℤ → ℕ → ℕ → Tile → Type 0
Shares6 lat lon family level up right t = (t.cell.lat ≡ lat) × (t.cell.lon ≡ lon) × (t.family ≡ family)
    × (t.level.number ≡ level) × (t.up ≡ up) × (t.right ≡ right)

module _ (folder : Option Folder) (sound : IsSound folder) (text : Text) where
  stage0 : Stage folder text 0 Shares0 text
  stage0 = record {
    value = some_tile folder sound;
    begins = record { parts = refl; follows = refl };
    only = λ x after b. (tt, sym b.parts);
  }

  -- the fields of a tile in the folder, read again
  lat_reads : (x : InFolder folder) (after : Text) → lat_in folder (lat_text x.tile.cell.lat ++ after)
      ≡ Some (x.tile.cell.lat, after)
  unfolding lat_in
  lat_reads x after = kept_again (has_lat folder) _ x.tile.cell.lat after
      (lat_again x.tile.cell.lat after (x.tile.cell.south, x.tile.cell.north)) x.lat

  lon_reads : (x : InFolder folder) (after : Text) → lon_in folder x.tile.cell.lat (lon_text x.tile.cell.lon ++ after)
      ≡ Some (x.tile.cell.lon, after)
  unfolding lon_in
  lon_reads x after = kept_again (has_lon folder) _ x.tile.cell.lon after
      (lon_again x.tile.cell.lat x.tile.cell.lon after (x.tile.cell.west, x.tile.cell.east, x.tile.cell.on_grid)) x.lon

  family_reads : (x : InFolder folder) (after : Text) → family_in folder (dataset_text x.tile.family ++ after)
      ≡ Some (x.tile.family, after)
  unfolding family_in
  family_reads x after = kept_again (has_dataset folder) _ x.tile.family after
      (family_again x.tile.family after) x.dataset

  level_reads : (x : InFolder folder) (after : Text) → level_in folder (level_text x.tile.level.number ++ after)
      ≡ Some (x.tile.level.number, after)
  unfolding level_in
  level_reads x after = kept_again (has_level folder) _ x.tile.level.number after
      (level_again x.tile.level.number after (level_of x.tile)) x.level

  up_reads : (x : InFolder folder) (after : Text) → begins_with_digit after ≡ false
      → up_in folder (across x.tile.level.number) (up_text x.tile.up ++ after) ≡ Some (x.tile.up, after)
  unfolding up_in
  up_reads x after e = kept_again (has_up folder) _ x.tile.up after
      (numbered_again (codes "_U") (across x.tile.level.number) x.tile.up after
      x.tile.up_in_range (across_small x.tile.level.number (level_of x.tile)) e) x.up

  right_reads : (x : InFolder folder) (after : Text) → begins_with_digit after ≡ false
      → numbered_at (codes "_R") (across x.tile.level.number) (right_text x.tile.right ++ after)
      ≡ Some (x.tile.right, after)
  right_reads x after e = numbered_again (codes "_R") (across x.tile.level.number) x.tile.right after
      x.tile.right_in_range (across_small x.tile.level.number (level_of x.tile)) e

  -- latitude
  stop1 : lat_in folder text ≡ None → Stops folder text text
  stop1 e =
      stops stage0
      (λ x after b. none_some (lat_in folder) text (lat_text x.tile.cell.lat ++ after) x.tile.cell.lat after e
      (sym b.parts) (lat_reads x after))

  stage1 : (lat : ℤ) (rest : Text) → lat_in folder text ≡ Some (lat, rest) → Stage folder text 1 (Shares1 lat) rest
  unfolding lat_in with_lat some_tile
  stage1 lat rest e =
      let k = kept_takes (has_lat folder) (lat_at text) lat rest e in
      let t = lat_takes text lat rest k.0 in
      record {
        value = with_lat folder sound (some_tile folder sound) lat t.0 k.1;
        begins = record { parts = t.1; follows = refl };
        only = λ x after b. same (lat_in folder) text (lat_text x.tile.cell.lat ++ after) lat x.tile.cell.lat rest after
            e (sym b.parts) (lat_reads x after);
      }

  -- longitude
  lon_next : (lat : ℤ) (rest : Text) → Stage folder text 1 (Shares1 lat) rest → (x : InFolder folder) (after : Text)
      → BeginsWith (fields_in x) text 2 after → (x.tile.cell.lat ≡ lat) × (lon_text x.tile.cell.lon ++ after ≡ rest)
      × (lon_in folder lat (lon_text x.tile.cell.lon ++ after) ≡ Some (x.tile.cell.lon, after))
  lon_next lat rest s x after b =
      let a = s.only x (lon_text x.tile.cell.lon ++ after) (record { parts = b.parts; follows = refl }) in (
        a.0,
        a.1,
        subst (λ z. lon_in folder z (lon_text x.tile.cell.lon ++ after) ≡ Some (x.tile.cell.lon, after))
            a.0 (lon_reads x after),
      )

  stop2 : (lat : ℤ) (rest : Text) → Stage folder text 1 (Shares1 lat) rest → lon_in folder lat rest ≡ None
      → Stops folder text rest
  stop2 lat rest s e = stops s (λ x after b.
      let a = lon_next lat rest s x after b in
      none_some (lon_in folder lat) rest (lon_text x.tile.cell.lon ++ after) x.tile.cell.lon after e a.1 a.2)

  stage2 : (lat : ℤ) (r : Text) → Stage folder text 1 (Shares1 lat) r → (lon : ℤ) (rest : Text) → lon_in folder lat r
      ≡ Some (lon, rest) → Stage folder text 2 (Shares2 lat lon) rest
  unfolding lon_in with_lon
  stage2 lat r s lon rest e =
      let k = kept_takes (has_lon folder) (lon_at lat r) lon rest e in
      let t = lon_takes lat r lon rest k.0 in
      let is : IsLon s.value.tile.cell.lat lon = subst (λ z. IsLon z lon) (sym (shares s)) t.0 in
      record {
        value = with_lon folder s.value lon is k.1;
        begins = record {
          parts = s.begins.parts ∙ ap (λ (x : Text). spell (take 1 (fields_in s.value)) x) t.1;
          follows = refl;
        };
        only = λ x after b.
            let a = lon_next lat r s x after b in
            let q = same (lon_in folder lat) r (lon_text x.tile.cell.lon ++ after) lon x.tile.cell.lon rest
            after e a.1 a.2 in
            ((a.0, q.0), q.1);
      }

  -- dataset
  stop3 : (lat lon : ℤ) (rest : Text) → Stage folder text 2 (Shares2 lat lon) rest → family_in folder rest ≡ None
      → Stops folder text rest
  stop3 lat lon rest s e = stops s (λ x after b.
      let a = s.only x (dataset_text x.tile.family ++ after) (record { parts = b.parts; follows = refl }) in
      none_some (family_in folder) rest (dataset_text x.tile.family ++ after) x.tile.family after e
      a.1 (family_reads x after))

  stage3 : (lat lon : ℤ) (r : Text) → Stage folder text 2 (Shares2 lat lon) r → (family : Family) (rest : Text)
      → family_in folder r ≡ Some (family, rest) → Stage folder text 3 (Shares3 lat lon family) rest
  unfolding family_in with_family
  stage3 lat lon r s family rest e =
      let k = kept_takes (has_dataset folder) (family_at r) family rest e in
      let t = family_takes r family rest k.0 in
      record {
        value = with_family folder s.value family k.1;
        begins = record {
          parts = s.begins.parts ∙ ap (λ (x : Text). spell (take 2 (fields_in s.value)) x) t;
          follows = refl;
        };
        only = λ x after b.
            let a = s.only x (dataset_text x.tile.family ++ after) (record { parts = b.parts; follows = refl }) in
            let q = same (family_in folder) r (dataset_text x.tile.family ++ after) family x.tile.family rest after e
            a.1 (family_reads x after) in
            ((a.0.0, a.0.1, q.0), q.1);
      }

  -- level
  stop4 : (lat lon : ℤ) (family : Family) (rest : Text) → Stage folder text 3 (Shares3 lat lon family) rest
      → level_in folder rest ≡ None → Stops folder text rest
  stop4 lat lon family rest s e = stops s (λ x after b.
      let a = s.only x (level_text x.tile.level.number ++ after) (record { parts = b.parts; follows = refl }) in
      none_some (level_in folder) rest (level_text x.tile.level.number ++ after) x.tile.level.number after e
      a.1 (level_reads x after))

  stage4 : (lat lon : ℤ) (family : Family) (r : Text) → Stage folder text 3 (Shares3 lat lon family) r
      → (level : ℤ) (rest : Text) → level_in folder r ≡ Some (level, rest)
      → Stage folder text 4 (Shares4 lat lon family level) rest
  unfolding level_in with_level
  stage4 lat lon family r s level rest e =
      let k = kept_takes (has_level folder) (level_at r) level rest e in
      let t = level_takes r level rest k.0 in
      record {
        value = with_level folder sound s.value level t.0 k.1;
        begins = record {
          parts = s.begins.parts ∙ ap (λ (x : Text). spell (take 3 (fields_in s.value)) x) t.1;
          follows = refl;
        };
        only = λ x after b.
            let a = s.only x (level_text x.tile.level.number ++ after) (record { parts = b.parts; follows = refl }) in
            let q = same (level_in folder) r (level_text x.tile.level.number ++ after) level x.tile.level.number rest
            after e a.1 (level_reads x after) in
            ((a.0.0, a.0.1, a.0.2, q.0), q.1);
      }

  -- up
  up_next : (lat lon : ℤ) (family : Family) (level : ℤ) (rest : Text)
      → Stage folder text 4 (Shares4 lat lon family level) rest → (x : InFolder folder) (after : Text)
      → BeginsWith (fields_in x) text 5 after
      → Shares4 lat lon family level x.tile × (up_text x.tile.up ++ after ≡ rest)
      × (up_in folder (across level) (up_text x.tile.up ++ after) ≡ Some (x.tile.up, after))
  up_next lat lon family level rest s x after b =
      let a = s.only x (up_text x.tile.up ++ after) (record { parts = b.parts; follows = refl }) in (
        a.0,
        a.1,
        subst (λ z. up_in folder (across z) (up_text x.tile.up ++ after) ≡ Some (x.tile.up, after))
            a.0.3 (up_reads x after (not-true (begins_with_digit after) b.follows)),
      )

  stop5 : (lat lon : ℤ) (family : Family) (level : ℤ) (rest : Text)
      → Stage folder text 4 (Shares4 lat lon family level) rest → up_in folder (across level) rest ≡ None
      → Stops folder text rest
  stop5 lat lon family level rest s e = stops s (λ x after b.
      let a = up_next lat lon family level rest s x after b in
      none_some (up_in folder (across level)) rest (up_text x.tile.up ++ after) x.tile.up after e a.1 a.2)

  stage5 : (lat lon : ℤ) (family : Family) (level : ℤ) (r : Text) → Stage folder text 4 (Shares4 lat lon family level) r
      → (up : ℕ) (rest : Text) → up_in folder (across level) r ≡ Some (up, rest)
      → Stage folder text 5 (Shares5 lat lon family level up) rest
  unfolding up_in with_up
  stage5 lat lon family level r s up rest e =
      let sh = shares s in
      let small = across_small level (subst IsLevel sh.3 (level_of s.value.tile)) in
      let k = kept_takes (has_up folder) (numbered_at (codes "_U") (across level) r) up rest e in
      let t = numbered_takes (codes "_U") (across level) r up rest small k.0 in
      let lt : up < across s.value.tile.level.number = subst (λ z. up < across z) (sym sh.3) t.0 in
      record {
        value = with_up folder s.value up lt k.1;
        begins = record {
          parts = s.begins.parts ∙ ap (λ (x : Text). spell (take 4 (fields_in s.value)) x) t.1;
          follows = ap not t.2;
        };
        only = λ x after b.
            let a = up_next lat lon family level r s x after b in
            let q = same (up_in folder (across level)) r (up_text x.tile.up ++ after) up x.tile.up rest
            after e a.1 a.2 in
            ((a.0.0, a.0.1, a.0.2, a.0.3, q.0), q.1);
      }

  -- right
  right_next : (lat lon : ℤ) (family : Family) (level : ℤ) (up : ℕ) (rest : Text)
      → Stage folder text 5 (Shares5 lat lon family level up) rest → (x : InFolder folder) (after : Text)
      → BeginsWith (fields_in x) text 6 after
      → Shares5 lat lon family level up x.tile × (right_text x.tile.right ++ after ≡ rest)
      × (numbered_at (codes "_R") (across level) (right_text x.tile.right ++ after) ≡ Some (x.tile.right, after))
  right_next lat lon family level up rest s x after b =
      let a = s.only x (right_text x.tile.right ++ after) (record { parts = b.parts; follows = refl }) in (
        a.0,
        a.1,
        subst (λ z. numbered_at (codes "_R") (across z) (right_text x.tile.right ++ after)
            ≡ Some (x.tile.right, after)) a.0.3 (right_reads x after (not-true (begins_with_digit after) b.follows)),
      )

  stop6 : (lat lon : ℤ) (family : Family) (level : ℤ) (up : ℕ) (rest : Text)
      → Stage folder text 5 (Shares5 lat lon family level up) rest → numbered_at (codes "_R") (across level) rest ≡ None
      → Stops folder text rest
  stop6 lat lon family level up rest s e = stops s (λ x after b.
      let a = right_next lat lon family level up rest s x after b in
      none_some (numbered_at (codes "_R") (across level)) rest (right_text x.tile.right ++ after)
      x.tile.right after e a.1 a.2)

  stage6 : (lat lon : ℤ) (family : Family) (level : ℤ) (up : ℕ) (r : Text)
      → Stage folder text 5 (Shares5 lat lon family level up) r → (right : ℕ) (rest : Text)
      → numbered_at (codes "_R") (across level) r ≡ Some (right, rest)
      → Stage folder text 6 (Shares6 lat lon family level up right) rest
  unfolding with_right
  stage6 lat lon family level up r s right rest e =
      let sh = shares s in
      let small = across_small level (subst IsLevel sh.3 (level_of s.value.tile)) in
      let t = numbered_takes (codes "_R") (across level) r right rest small e in
      let lt : right < across s.value.tile.level.number = subst (λ z. right < across z) (sym sh.3) t.0 in
      record {
        value = with_right folder s.value right lt;
        begins = record {
          parts = s.begins.parts ∙ ap (λ (x : Text). spell (take 5 (fields_in s.value)) x) t.1;
          follows = ap not t.2;
        };
        only = λ x after b.
            let a = right_next lat lon family level up r s x after b in
            let q = same (numbered_at (codes "_R") (across level)) r (right_text x.tile.right ++ after)
            right x.tile.right rest after e a.1 a.2 in
            ((a.0.0, a.0.1, a.0.2, a.0.3, a.0.4, q.0), q.1);
      }

  -- tail
  stop7 : (lat lon : ℤ) (family : Family) (level : ℤ) (up right : ℕ) (rest : Text)
      → Stage folder text 6 (Shares6 lat lon family level up right) rest → bytes_eq rest (codes ".tif") ≡ false
      → Stops folder text rest
  stop7 lat lon family level up right rest s e = stops s (λ x after b.
      let a = s.only x (codes ".tif" ++ after) (record { parts = b.parts; follows = refl }) in
      let none : length after ≡ 0 = eqb-true (length after) 0 b.follows in
      let whole : rest ≡ codes ".tif" = sym a.1 ∙ ap (λ (r : Text). codes ".tif" ++ r) (nothing after none) in
      let yes : bytes_eq rest (codes ".tif") ≡ true = (bytes_eq-Decides rest (codes ".tif")).1 whole in
      let both : true ≡ false = sym yes ∙ e in
      cc both)
    where
      nothing : (after : Text) → length after ≡ 0 → after ≡ []
      nothing [] h = refl
      nothing (c ∷ after) h = absurd (omega arith)

-- ---- the whole name

-- what reading a name says: the tile that the text spells, or where it stops
abbrev pub Says : Option Folder → Text → Text → Result Spelled NameError → Type 0
Says folder whole text (Ok s) = (x : InFolder folder) × (spelled_tile x.tile ≡ s) × (text ≡ name x.tile)
Says folder whole text (Err e) = (rest : Text) × Stops folder text rest × (wrong_at whole rest ≡ e)

module _ (folder : Option Folder) (sound : IsSound folder) (whole text : Text) where
  stopped : (r : Result Spelled NameError) (rest : Text) → Stops folder text rest → Err (wrong_at whole rest) ≡ r
      → Says folder whole text r
  stopped r rest s e = subst (Says folder whole text) e (rest, s, refl)

  finished : (lat lon : ℤ) (family : Family) (level : ℤ) (up right : ℕ) (rest : Text) (r : Result Spelled NameError)
      → Stage folder text 6 (Shares6 lat lon family level up right) rest
      → cond (bytes_eq rest (codes ".tif"))
      (Ok (record { family = family; lat = lat; lon = lon; level = level; up = up; right = right }))
      (Err (wrong_at whole rest)) ≡ r → Says folder whole text r
  finished lat lon family level up right rest r s e =
      let found : Spelled = record { family = family; lat = lat; lon = lon; level = level; up = up; right = right } in
      elim (chosen (bytes_eq rest (codes ".tif")) (Ok found) (Err (wrong_at whole rest)) r e) [
        | inl h ↦
            let is : rest ≡ codes ".tif" = (bytes_eq-Decides rest (codes ".tif")).0 h.0 in
            let sh = shares s in
            let t = s.value.tile in
            let parts : text ≡ name s.value.tile = s.begins.parts
            ∙ ap (λ (x : Text). spell (take 6 (fields_in s.value)) x) is in
            let same_fields : spelled_tile s.value.tile ≡ found = rw (sh.0, sh.1, sh.2, sh.3, sh.4, sh.5) refl in
            subst (Says folder whole text) h.1 (s.value, same_fields, parts)
        | inr h ↦ stopped r rest (stop7 folder sound text lat lon family level up right rest s h.0) h.1
      ]

  pub name_says : (r : Result Spelled NameError) → name_at folder whole text ≡ r → Says folder whole text r
  unfolding name_at
  name_says r e =
      elim (step whole text (lat_in folder text) _ r e) [
        | inl n ↦ stopped r text (stop1 folder sound text n.0) n.1
        | inr l ↦
            let s1 = stage1 folder sound text l.0.0 l.0.1 l.1 in
            elim (step whole l.0.1 (lon_in folder l.0.0 l.0.1) _ r l.2) [
              | inl n ↦ stopped r l.0.1 (stop2 folder sound text l.0.0 l.0.1 s1 n.0) n.1
              | inr lo ↦
                  let s2 = stage2 folder sound text l.0.0 l.0.1 s1 lo.0.0 lo.0.1 lo.1 in
                  elim (step whole lo.0.1 (family_in folder lo.0.1) _ r lo.2) [
                    | inl n ↦ stopped r lo.0.1 (stop3 folder sound text l.0.0 lo.0.0 lo.0.1 s2 n.0) n.1
                    | inr f ↦
                        let s3 = stage3 folder sound text l.0.0 lo.0.0 lo.0.1 s2 f.0.0 f.0.1 f.1 in
                        elim (step whole f.0.1 (level_in folder f.0.1) _ r f.2) [
                          | inl n ↦ stopped r f.0.1 (stop4 folder sound text l.0.0 lo.0.0 f.0.0 f.0.1 s3 n.0) n.1
                          | inr lv ↦
                              let s4 = stage4 folder sound text l.0.0 lo.0.0 f.0.0 f.0.1 s3 lv.0.0 lv.0.1 lv.1 in
                              elim (step whole lv.0.1 (up_in folder (across lv.0.0) lv.0.1) _ r lv.2) [
                                | inl n ↦ stopped r
                                    lv.0.1 (stop5 folder sound text l.0.0 lo.0.0 f.0.0 lv.0.0 lv.0.1 s4 n.0) n.1
                                | inr u ↦
                                    let s5 = stage5 folder sound text l.0.0 lo.0.0 f.0.0 lv.0.0 lv.0.1 s4
                                    u.0.0 u.0.1 u.1 in
                                    elim (step whole u.0.1 (numbered_at (codes "_R") (across lv.0.0) u.0.1) _ r u.2) [
                                      | inl n ↦ stopped r
                                          u.0.1 (stop6 folder sound text l.0.0 lo.0.0 f.0.0 lv.0.0 u.0.0 u.0.1 s5 n.0)
                                          n.1
                                      | inr ri ↦ finished l.0.0 lo.0.0 f.0.0 lv.0.0 u.0.0 ri.0.0 ri.0.1 r
                                          (stage6 folder sound text l.0.0 lo.0.0 f.0.0 lv.0.0 u.0.0 u.0.1 s5
                                          ri.0.0 ri.0.1 ri.1) ri.2
                                    ]
                              ]
                        ]
                  ]
            ]
      ]

-- the name of a tile in the folder is read
pub name_again : (folder : Option Folder) (sound : IsSound folder) (whole : Text) (x : InFolder folder)
    → name_at folder whole (name x.tile) ≡ Ok (spelled_tile x.tile)
unfolding name_at
name_again folder sound whole x =
    let fs = fields_in x in
    rw (
      lat_reads folder sound [] x (spell (drop 1 fs) []),
      lon_reads folder sound [] x (spell (drop 2 fs) []),
      family_reads folder sound [] x (spell (drop 3 fs) []),
      level_reads folder sound [] x (spell (drop 4 fs) []),
      up_reads folder sound [] x (spell (drop 5 fs) []) refl,
      right_reads folder sound [] x (codes ".tif") refl,
    ) refl
