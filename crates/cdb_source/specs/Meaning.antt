-- The values in the subject's own words: as the best, the least, the greatest and the most frequent of a set.
use Rattle.std.specs.Prelude.{◌≡◌, ℕ, ◌<◌, ◌≤◌, ◌⊎◌, ℤ, ◌≤ℤ◌, List, Contains, slice_get, Option, Some, None}
use Rattle.cdb_grid.specs.Grid.{Place, IsCorner, IsInCell}
use Rattle.cdb_source.specs.declared.kind.Kind.TheVariants.{Elevation}
use Rattle.cdb_source.specs.Values.{Sampled, elevation, count_of}

-- the source numbered i is one of elevation, of a level at least as fine as asked for, that has the value v at p
pub record HasElevation (ss : List Sampled) (h : ℕ) (p : Place) (i : ℕ) (s : Sampled) (v : ℤ) : Type 0 where
  pub there : slice_get ss i ≡ Some s
  pub kind : s.kind ≡ Elevation
  pub level : s.height ≤ h
  pub value : s.at p ≡ Some v

-- it is the greatest by level, then by number, of all such sources; a finer level has a lesser height
pub record IsBest (ss : List Sampled) (h : ℕ) (p : Place) (i : ℕ) (s : Sampled) (v : ℤ) : Type 0 where
  pub has : HasElevation ss h p i s v
  pub greatest : (j : ℕ) (t : Sampled) (w : ℤ) → HasElevation ss h p j t w
      → (s.height < t.height) ⊎ ((s.height ≡ t.height) × (j ≤ i))

-- the elevation is the value of the best source, and none where no source has one
abbrev pub IsElevation : List Sampled → ℕ → Place → Option ℤ → Type 0
IsElevation ss h p None = (i : ℕ) (s : Sampled) (v : ℤ) → HasElevation ss h p i s v → ⊥
IsElevation ss h p (Some v) = (i : ℕ) × (s : Sampled) × IsBest ss h p i s v

-- v is the elevation of a level as fine as the cell's or finer, at a place of that level in the cell
pub record IsValueIn (ss : List Sampled) (h : ℕ) (c : Place) (v : ℤ) (k : ℕ) (q : Place) : Type 0 where
  pub real : 1 ≤ k
  pub fine : k ≤ h
  pub corner : IsCorner k q
  pub inside : IsInCell h c q
  pub value : elevation ss k q ≡ Some v

abbrev pub ValueIn : List Sampled → ℕ → Place → ℤ → Type 0
ValueIn ss h c v = (k : ℕ) × (q : Place) × IsValueIn ss h c v k q

-- the least, and the greatest, of a set of numbers; none of an empty set
abbrev pub IsLeast : (ℤ → Type 0) → Option ℤ → Type 0
IsLeast Member None = (v : ℤ) → Member v → ⊥
IsLeast Member (Some v) = Member v × ((w : ℤ) → Member w → v ≤ℤ w)

abbrev pub IsGreatest : (ℤ → Type 0) → Option ℤ → Type 0
IsGreatest Member None = (v : ℤ) → Member v → ⊥
IsGreatest Member (Some v) = Member v × ((w : ℤ) → Member w → w ≤ℤ v)

-- the least, and the greatest, elevation of a cell
abbrev pub IsLow : List Sampled → ℕ → Place → Option ℤ → Type 0
IsLow ss h c r = IsLeast (ValueIn ss h c) r

abbrev pub IsHigh : List Sampled → ℕ → Place → Option ℤ → Type 0
IsHigh ss h c r = IsGreatest (ValueIn ss h c) r

-- the most frequent value of a list, and of equally frequent ones the smallest
pub record IsModeAt (values : List ℤ) (v : ℤ) : Type 0 where
  pub there : Contains values v
  pub greatest : (w : ℤ) → Contains values w
      → (count_of values w < count_of values v) ⊎ ((count_of values w ≡ count_of values v) × (v ≤ℤ w))

abbrev pub IsMode : List ℤ → Option ℤ → Type 0
IsMode values None = (v : ℤ) → Contains values v → ⊥
IsMode values (Some v) = IsModeAt values v
