-- What a crash may leave of a disk on which a store lies. The parameter says which maps of files stand for which lists.
use Rattle.std.specs.Prelude.{◌≡◌, ◌≢◌, ℕ, ◌+◌, ◌≤◌, ◌||◌, Bool, ◌⊎◌, List, [], ◌∷◌, ◌++◌, length, None, Some, IsTrue}
use Rattle.std.specs.Str.{bytes_eq}
use Rattle.cdb_model.specs.Maps.{Text, Content, FileMap, IsThere, folder_above, NoneUnder}
use Rattle.cdb_model.specs.Names.{version_folder, head_path, new_head_path}
use Rattle.cdb_model.specs.Stands.{AtMost}
use Rattle.cdb_files.specs.Disk.{State, IsImage, Allows, after_rename, after_sync_dir}
use Rattle.cdb_files.specs.Whole.{after_fill}
use Rattle.cdb_crash.specs.Leftovers.{IsOfVersion, HasAtMost}
use Rattle.cdb_model.specs.declared.limits.TheConstants.{MOST_VERSIONS}

-- A path under a version that has no file at present has none after a crash. The last version is 4,096, and files may
-- be left under the one after it.
pub record IsClear (s : State) : Type 0 where
  pub gone : (version : ℕ) → version ≤ MOST_VERSIONS + 1 → (path : Text) → IsOfVersion version path
      → s.present path ≡ None → (v : Content) → Allows (s.may path) v → v ≡ None

-- A crash may leave a file at the path.
abbrev pub MayLast : State → Text → Type 0
MayLast s path = (v : Content) × Allows (s.may path) v × IsThere v

-- Two maps that differ at the two heads alone.
abbrev pub SameButHeads : FileMap → FileMap → Type 0
SameButHeads old new = (q : Text) → q ≢ head_path → q ≢ new_head_path → new q ≡ old q

-- One folder more is synced.
abbrev pub with_folder : (Text → Bool) → Text → Text → Bool
with_folder synced folder q = synced q || bytes_eq q folder

-- The new head is written and synced; then it takes the place of the old one; then the root is synced.
abbrev pub head_filled : List ℕ → State → State
head_filled text s = after_fill new_head_path text s

abbrev pub head_renamed : List ℕ → State → State
head_renamed text s = after_rename new_head_path head_path (head_filled text s)

abbrev pub head_synced : List ℕ → State → State
head_synced text s = after_sync_dir [] (head_renamed text s)

-- A disk after a stop: this map is there, and a crash leaves no other, however often a possibility is listed.
pub record IsAlone (m : FileMap) (s : State) : Type 0 where
  pub present : (path : Text) → s.present path ≡ m path
  pub may : (path : Text) (v : Content) → Allows (s.may path) v → v ≡ m path

module _ {X : Type 0} (Stands : FileMap → List X → Type 0) where
  -- A clear disk of which a crash leaves only what stands for the list.
  pub record IsWhole (P : List X) (s : State) : Type 0 where
    pub clear : IsClear s
    pub stands : (m : FileMap) → IsImage s m → Stands m P

  -- Nor does a crash leave a file of the version after the newest.
  pub record IsClean (P : List X) (s : State) : Type 0 where
    pub whole : IsWhole P s
    pub none : (m : FileMap) → IsImage s m → NoneUnder m (version_folder (length P + 1))

  -- In the middle of a publication: these files are there under the next version, and no other. A crash leaves each of
  -- them as it is or absent, and as it is where its folder was synced.
  pub record IsMid (P : List X) (files : FileMap) (synced : Text → Bool) (s : State) : Type 0 where
    pub whole : IsWhole P s
    pub present : (path : Text) → IsOfVersion (length P + 1) path → s.present path ≡ files path
    pub each : (path : Text) → IsOfVersion (length P + 1) path → (v : Content) → Allows (s.may path) v
        → (v ≡ None) ⊎ (v ≡ files path)
    pub kept : (path : Text) → IsOfVersion (length P + 1) path → IsTrue (synced (folder_above path)) → (v : Content)
        → Allows (s.may path) v → v ≡ files path

  -- There is room for a call on this path: every image stands for the list, and the files of the next version that a
  -- crash may leave, together with the path, are no more than may be left over.
  pub record HasRoom (P : List X) (path : Text) (s : State) : Type 0 where
    pub stands : (m : FileMap) → IsImage s m → Stands m P
    pub few : AtMost 65536 (λ q. IsOfVersion (length P + 1) q × (MayLast s q ⊎ (q ≡ path)))

  -- A map stands for the list, or for the list with one publication more.
  abbrev pub IsEither : List X → X → FileMap → Type 0
  IsEither P x m = Stands m P ⊎ Stands m (P ++ x ∷ [])

  -- A clear disk, after a fault without a stop, of which a crash leaves only what stands for one of two lists.
  pub record IsFaulted (P : List X) (x : X) (s : State) : Type 0 where
    pub clear : IsClear s
    pub either : (m : FileMap) → IsImage s m → IsEither P x m

  -- A clear disk in recovery, of which a crash leaves only what stands for the list, with at most so many files under
  -- the next version at present.
  pub record IsClearing (P : List X) (count : ℕ) (s : State) : Type 0 where
    pub clear : IsClear s
    pub stands : (m : FileMap) → IsImage s m → Stands m P
    pub few : HasAtMost count (length P + 1) s.present

-- A clear disk with room for the new head, on which all of a publication but the head is there, and stays in whatever a
-- crash leaves.
pub record IsReadyForHead {X : Type 0} (Stands : FileMap → List X → Type 0) (Complete : List X → X → FileMap → Type 0)
    (P : List X) (x : X) (s : State) : Type 0 where
  pub clear : IsClear s
  pub room : HasRoom Stands P new_head_path s
  pub complete : (m n : FileMap) → IsImage s m → SameButHeads m n → Complete P x n
