-- The laws of what a crash leaves. The parameters say which maps stand for which lists, which maps have all files of
-- one publication more, and what the head's file has.
use Rattle.std.specs.Prelude.{◌≡◌, ℕ, ◌+◌, ◌-◌, ◌≤◌, ◌<◌, Bool, false, List, [], ◌∷◌, ◌++◌, length, slice_get, None, Some, IsTrue}
use Rattle.cdb_grid.specs.declared.tile.Tile.{Tile}
use Rattle.cdb_source.specs.Reached.{IsTouched}
use Rattle.cdb_source.specs.declared.source.Source.{Source}
use Rattle.cdb_model.specs.Maps.{Text, FileMap, IsThere, put, folder_above, NoneUnder}
use Rattle.cdb_model.specs.Names.{version_folder, head_path, new_head_path}
use Rattle.cdb_model.specs.Publications.{heads_of, step_count}
use Rattle.cdb_model.specs.Records.{head_file_text}
use Rattle.cdb_model.specs.Stands.{ArePublications, IsVersionFile, Stands as store}
use Rattle.cdb_files.specs.Disk.{State, empty_disk, IsImage, IsSettledAt, after_create, after_append, after_sync_file, after_sync_dir, after_rename, after_remove, after_make_dir, Fails, FailsAppend, FailsMakeDir}
use Rattle.cdb_files.specs.Moments.{IsBetween}
use Rattle.cdb_files.specs.Whole.{IsImageBut, after_write}
use Rattle.cdb_crash.specs.Leftovers.{IsOfVersion, IsLeftover, HasAtMost, HasNext}
use Rattle.cdb_crash.specs.Plan.{File, FileAction, files_of, folders_of, steps_of, after_step, after_steps, WritesTo, IsMidAfter}
use Rattle.cdb_crash.specs.Recovery.{after_removals, AreLeft, after_barrier}
use Rattle.cdb_crash.specs.Crash.{IsClear, with_folder, head_filled, head_renamed, head_synced, IsAlone, IsWhole, IsClean, IsMid, HasRoom, IsEither, IsFaulted, IsClearing, IsReadyForHead}
use Rattle.cdb_model.specs.declared.limits.TheConstants.{MOST_VERSIONS}

-- Whatever a crash leaves inside a call, after it where it is Ok, and after it where it fails, is of a kind.
pub record CallKeeps (Kind : FileMap → Type 0) (old after : State) (Failed : State → Type 0) : Type 0 where
  pub inside : (m : FileMap) → IsBetween old after m → Kind m
  pub ok : (m : FileMap) → IsImage after m → Kind m
  pub err : (new : State) → Failed new → (m : FileMap) → IsImage new m → Kind m

-- Making a folder or syncing one: a crash leaves nothing that it might not have left before.
pub record FolderCalls : Type 0 where
  pub make_dir : (folder : Text) (s : State) → IsImage s s.present
      → CallKeeps (IsImage s) s (after_make_dir folder s) (FailsMakeDir s (after_make_dir folder s))
  pub sync_dir : (folder : Text) (s : State) → IsImage s s.present
      → CallKeeps (IsImage s) s (after_sync_dir folder s) (λ new. new ≡ s)

-- Whatever a crash leaves in and after each call on one path, and in any run of such calls, is of a kind.
pub record PathCalls (Kind : FileMap → Type 0) (path : Text) (s : State) : Type 0 where
  pub create : CallKeeps Kind s (after_create path s) (Fails s (after_create path s))
  pub append : (piece : List ℕ) → CallKeeps Kind s (after_append path piece s) (FailsAppend path piece s)
  pub sync_file : CallKeeps Kind s (after_sync_file path s) (λ new. new ≡ s)
  pub remove : CallKeeps Kind s (after_remove path s) (Fails s (after_remove path s))
  pub run : (m : FileMap) → IsImageBut path s m → Kind m

-- The disk is clear after a call, whether it is Ok or fails.
pub record ClearKept (after : State) (Failed : State → Type 0) : Type 0 where
  pub ok : IsClear after
  pub err : (new : State) → Failed new → IsClear new

-- A clear disk stays clear in each call of a publication, but where a file's `create` fails.
pub record ClearStays : Type 0 where
  pub make_dir : (folder : Text) (s : State) → IsClear s
      → ClearKept (after_make_dir folder s) (FailsMakeDir s (after_make_dir folder s))
  pub create : (path : Text) (s : State) → IsClear s → IsClear (after_create path s)
  pub append : (path : Text) (piece : List ℕ) (s : State) → IsThere (s.present path) → IsClear s
      → ClearKept (after_append path piece s) (FailsAppend path piece s)
  pub sync_file : (path : Text) (s : State) → IsThere (s.present path) → IsClear s
      → ClearKept (after_sync_file path s) (λ new. new ≡ s)
  pub sync_dir : (folder : Text) (s : State) → IsImage s s.present → IsClear s
      → ClearKept (after_sync_dir folder s) (λ new. new ≡ s)
  pub new_head : (s : State) → IsClear s
      → ClearKept (after_create new_head_path s) (Fails s (after_create new_head_path s))
  pub no_new_head : (s : State) → IsClear s
      → ClearKept (after_remove new_head_path s) (Fails s (after_remove new_head_path s))
  pub rename : (s : State) → IsClear s
      → ClearKept (after_rename new_head_path head_path s) (Fails s (after_rename new_head_path head_path s))

-- For versions up to 4,097: each file of a version lies under the version's folder, no path lies under two of these
-- folders, and neither head under any.
pub record OwnPaths : Type 0 where
  pub files : (earlier : List (List Source)) (sources : List Source) (tiles : List Tile) (path : Text) (bytes : List ℕ)
      → length earlier + 1 ≤ MOST_VERSIONS + 1 → IsVersionFile earlier sources tiles path bytes
      → IsOfVersion (length earlier + 1) path
  pub apart : (j k : ℕ) (path : Text) → j ≤ MOST_VERSIONS + 1 → k ≤ MOST_VERSIONS + 1 → IsOfVersion j path
      → IsOfVersion k path → j ≡ k
  pub head : (k : ℕ) → k ≤ MOST_VERSIONS + 1 → IsOfVersion k head_path → ⊥
  pub new_head : (k : ℕ) → k ≤ MOST_VERSIONS + 1 → IsOfVersion k new_head_path → ⊥

module _ {X : Type 0} (Stands : FileMap → List X → Type 0) where
  -- A map stands for at most one list.
  abbrev pub OneList : Type 0
  OneList = (m : FileMap) (P Q : List X) → Stands m P → Stands m Q → P ≡ Q

  -- The store that was never written. A new head or a file of version 1 doesn't matter in it; a head does, and no file
  -- of version 2 may be there.
  pub record EmptyStore : Type 0 where
    pub empty : Stands (λ path. None) []
    pub new_head : (bytes : List ℕ) → Stands (put (λ path. None) new_head_path (Some bytes)) []
    pub leftover : (path : Text) (bytes : List ℕ) → IsOfVersion 1 path
        → Stands (put (λ path. None) path (Some bytes)) []
    pub head : (bytes : List ℕ) → Stands (put (λ path. None) head_path (Some bytes)) [] → ⊥
    pub stray : (path : Text) (bytes : List ℕ) → IsOfVersion 2 path
        → Stands (put (λ path. None) path (Some bytes)) [] → ⊥
    pub disk : IsClean Stands [] empty_disk

  -- A call on a leftover: whatever a crash leaves goes on standing for the list.
  abbrev pub LeftoverCalls : Type 0
  LeftoverCalls = (P : List X) (path : Text) (s : State) → IsImage s s.present → IsLeftover (length P) path
      → HasRoom Stands P path s → PathCalls (λ m. Stands m P) path s

  -- Where there is room: on a whole disk for the new head, in the middle of a publication with at most 65,535 files so
  -- far for each path, and in recovery for each file that is there.
  pub record Room : Type 0 where
    pub whole : (P : List X) (s : State) → IsImage s s.present → IsWhole Stands P s → HasRoom Stands P new_head_path s
    pub middle : (P : List X) (files : FileMap) (synced : Text → Bool) (s : State) (path : Text)
        → IsMid Stands P files synced s
        → HasAtMost 65535 (length P + 1) files → HasRoom Stands P path s
    pub clearing : (P : List X) (count : ℕ) (s : State) (path : Text) → count ≤ 65536 → IsImage s s.present
        → IsClearing Stands P count s → IsThere (s.present path) → HasRoom Stands P path s

  -- A publication begins on a clean disk: the middle with no file yet is a clean disk.
  pub record BeginsClean : Type 0 where
    pub begins : (P : List X) (synced : Text → Bool) (s : State) → IsImage s s.present → IsClean Stands P s
        → IsMid Stands P (λ path. None) synced s
    pub back : (P : List X) (synced : Text → Bool) (s : State) → IsMid Stands P (λ path. None) synced s
        → IsClean Stands P s

  -- A file is written and synced, where at most 65,535 are there so far, in a folder that wasn't synced.
  abbrev pub FileStep : Type 0
  FileStep = (P : List X) (files : FileMap) (synced : Text → Bool) (s : State) (folder path : Text) (bytes : List ℕ)
      → IsImage s s.present
      → IsMid Stands P files synced s → HasAtMost 65535 (length P + 1) files → IsOfVersion (length P + 1) path
      → synced (folder_above path) ≡ false
      → IsMid Stands P (put files path (Some bytes)) synced (after_write folder path bytes s)

  -- A folder is synced.
  abbrev pub FolderStep : Type 0
  FolderStep = (P : List X) (files : FileMap) (synced : Text → Bool) (s : State) (folder : Text) → IsImage s s.present
      → IsMid Stands P files synced s → IsMid Stands P files (with_folder synced folder) (after_sync_dir folder s)

  -- A file is written and synced, where at most 65,535 are there so far, in a folder that wasn't synced, and then this
  -- folder, as the record is.
  abbrev pub RecordStep : Type 0
  RecordStep = (P : List X) (files : FileMap) (synced : Text → Bool) (s : State) (path : Text) (bytes : List ℕ)
      → IsImage s s.present
      → IsMid Stands P files synced s → HasAtMost 65535 (length P + 1) files → IsOfVersion (length P + 1) path
      → synced (folder_above path) ≡ false
      → IsMid Stands P (put files path (Some bytes)) (with_folder synced (folder_above path))
      (after_sync_dir (folder_above path) (after_write (folder_above path) path bytes s))

  -- Recovery, on a whole disk: any folder is synced, the new head goes.
  pub record WholeStays : Type 0 where
    pub synced : (P : List X) (s : State) (folder : Text) → IsImage s s.present → IsWhole Stands P s
        → IsWhole Stands P (after_sync_dir folder s)
    pub new_head : (P : List X) (s : State) → IsImage s s.present → IsWhole Stands P s
        → IsWhole Stands P (after_remove new_head_path s)

  -- The files of the next version go one by one, each with its folder synced, until none is left.
  pub record Clearing : Type 0 where
    pub begins : (P : List X) (s : State) → IsImage s s.present → IsWhole Stands P s → IsClearing Stands P 65536 s
    pub goes : (P : List X) (count : ℕ) (s : State) (path : Text) → count ≤ 65536 → IsImage s s.present
        → IsClearing Stands P count s
        → IsOfVersion (length P + 1) path → IsThere (s.present path)
        → IsClearing Stands P (count - 1) (after_sync_dir (folder_above path) (after_remove path s))
    pub ends : (P : List X) (count : ℕ) (s : State) → IsClearing Stands P count s
        → NoneUnder s.present (version_folder (length P + 1)) → IsClean Stands P s

  -- After a fault without a stop: the sync of the root settles which of two lists stands, by the present map.
  pub record AfterFault : Type 0 where
    pub old : (P : List X) (x : X) (s : State) → IsImage s s.present → IsFaulted Stands P x s → Stands s.present P
        → IsWhole Stands P (after_sync_dir [] s)
    pub new : (P : List X) (x : X) (s : State) → IsImage s s.present → IsFaulted Stands P x s
        → Stands s.present (P ++ x ∷ []) → IsWhole Stands (P ++ x ∷ []) (after_sync_dir [] s)

  -- After a stop: the map that was left is a whole disk again, of the list that it stands for.
  pub record AfterStop : Type 0 where
    pub alone : (P : List X) (m : FileMap) (s : State) → Stands m P → IsAlone m s → IsWhole Stands P s
    pub again : (P : List X) (s : State) (m : FileMap) (new : State) → IsWhole Stands P s → IsImage s m → IsAlone m new
        → IsWhole Stands P new

module _ {X : Type 0} (Stands : FileMap → List X → Type 0) (Complete : List X → X → FileMap → Type 0) where
  -- The files of a publication are there and all their folders are synced: what is left is the head.
  abbrev pub ReadyStep : Type 0
  ReadyStep = (P : List X) (x : X) (files : FileMap) (synced : Text → Bool) (s : State) → IsImage s s.present
      → IsMid Stands P files synced s → HasAtMost 65535 (length P + 1) files
      → ((path : Text) → IsOfVersion (length P + 1) path → IsThere (files path) → IsTrue (synced (folder_above path)))
      → Complete P x files → IsReadyForHead Stands Complete P x s

  -- The last step, call by call: the new head is written, it takes the place of the head, the root is synced.
  pub record HeadCalls (text : List ℕ) (P : List X) (x : X) (s : State) : Type 0 where
    pub written : PathCalls (λ m. Stands m P) new_head_path s
    pub there : (head_filled text s).present new_head_path ≡ Some text
    pub settled : IsSettledAt (head_filled text s) new_head_path
    pub rename : CallKeeps (IsEither Stands P x) (head_filled text s) (head_renamed text s)
        (Fails (head_filled text s) (head_renamed text s))
    pub sync : CallKeeps (IsEither Stands P x) (head_renamed text s) (head_synced text s)
        (λ new. new ≡ head_renamed text s)
    pub end : IsClean Stands (P ++ x ∷ []) (head_synced text s)

  abbrev pub HeadStep : (ℕ → List ℕ) → Type 0
  HeadStep head_text = (P : List X) (x : X) (s : State) → IsImage s s.present → IsReadyForHead Stands Complete P x s
      → HeadCalls (head_text (length P + 1)) P x s

-- The steps of one publication before its head, from a clean disk to where the head alone is left. A step writes under
-- the next version alone, there is room for its calls, and at each of their moments a crash leaves the old list. A file
-- that a step has written is there with its bytes.
pub record PlanKeeps (P : List (List Source)) (x : List Source) (tiles : List Tile) : Type 0 where
  pub begins : (s : State) → IsImage s s.present → IsClean store P s → IsMidAfter P x tiles 0 s
  pub under : (number : ℕ) (step : FileAction) → slice_get (steps_of P x tiles) number ≡ Some step → (path : Text)
      → WritesTo path step → IsOfVersion (length P + 1) path
  pub room : (number : ℕ) (s : State) (path : Text) → IsMidAfter P x tiles number s → HasRoom store P path s
  pub calls : (number : ℕ) (step : FileAction) (s : State) → slice_get (steps_of P x tiles) number ≡ Some step
      → IsImage s s.present
      → IsMidAfter P x tiles number s → (path : Text) → WritesTo path step → PathCalls (λ m. store m P) path s
  pub step : (number : ℕ) (step : FileAction) (s : State) → slice_get (steps_of P x tiles) number ≡ Some step
      → IsImage s s.present
      → IsMidAfter P x tiles number s → IsMidAfter P x tiles (number + 1) (after_step step s)
  pub there : (i number : ℕ) (s : State) (file : File) → IsMidAfter P x tiles number s
      → slice_get (steps_of P x tiles) i ≡ Some (FileAction.write file) → i < number
      → s.present file.path ≡ Some file.bytes
  pub ready : (s : State) → IsImage s s.present → IsMidAfter P x tiles (length (steps_of P x tiles)) s
      → IsReadyForHead store HasNext P x s
  pub count : length (steps_of P x tiles) + 1 ≡ length x + length tiles + length (folders_of (files_of P x tiles)) + 2
  pub steps : length (steps_of P x tiles) + 1 ≡ step_count P x tiles

abbrev pub PlanSteps : Type 0
PlanSteps = (P : List (List Source)) (x : List Source) (tiles : List Tile) → ArePublications (P ++ x ∷ [])
    → IsTouched (heads_of x) tiles → PlanKeeps P x tiles

-- All steps in a row, and then the head, lead from a clean disk to a clean disk of the list with one publication more.
abbrev pub Publishes : Type 0
Publishes = (P : List (List Source)) (x : List Source) (tiles : List Tile) (s : State) → ArePublications (P ++ x ∷ [])
    → IsTouched (heads_of x) tiles
    → IsImage s s.present → IsClean store P s
    → IsClean store (P ++ x ∷ []) (head_synced (head_file_text (length P + 1)) (after_steps (steps_of P x tiles) s))

-- Each list that publications may be is stood for: some disk is clean for it.
abbrev pub EveryList : Type 0
EveryList = (list : List (List Source)) → ArePublications list
    → (s : State) × IsImage s s.present × IsClean store list s

-- Recovery from a whole disk: after the barrier, any files that are left are removed one by one. They are at most
-- 65,536, and where none is left the disk is clean; and some such removals leave none.
pub record Recovers : Type 0 where
  pub ends : (P : List (List Source)) (s : State) (paths : List Text) → IsImage s s.present → IsWhole store P s
      → AreLeft (length P + 1) paths (after_barrier s)
      → NoneUnder (after_removals paths (after_barrier s)).present (version_folder (length P + 1))
      → IsClean store P (after_removals paths (after_barrier s))
  pub bounded : (P : List (List Source)) (s : State) (paths : List Text) → IsImage s s.present → IsWhole store P s
      → AreLeft (length P + 1) paths (after_barrier s)
      → length paths ≤ 65536
  pub some : (P : List (List Source)) (s : State) → IsImage s s.present → IsWhole store P s
      → (paths : List Text) × AreLeft (length P + 1) paths (after_barrier s)
      × NoneUnder (after_removals paths (after_barrier s)).present (version_folder (length P + 1))
