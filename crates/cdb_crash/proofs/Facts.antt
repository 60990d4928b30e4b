-- What the laws of a crash need of the maps that stand for a list, whatever the bytes of the files are.
use Rattle.std.proofs.Common.{◌≡◌, ◌≢◌, ℕ, ◌+◌, ◌≤◌, ◌⊎◌, List, [], ◌∷◌, ◌++◌, length, Some}
use Rattle.cdb_model.specs.Maps.{Text, FileMap, NoneUnder}
use Rattle.cdb_model.specs.Names.{version_folder, head_path}
use Rattle.cdb_crash.specs.Leftovers.{IsLeftover, HasAtMost}
use Rattle.cdb_crash.specs.Crash.{SameButHeads}

pub record IsLayout {X : Type 0} (Stands : FileMap → List X → Type 0) (Complete : List X → X → FileMap → Type 0)
    (head_text : ℕ → List ℕ) : Type 0 where
  pub leftovers : (P : List X) (old new : FileMap) → Stands old P
      → ((q : Text) → IsLeftover (length P) q ⊎ (new q ≡ old q))
      → HasAtMost 65536 (length P + 1) new → Stands new P
  pub count : (P : List X) (m : FileMap) → Stands m P → length P ≤ 4096
  pub limit : (P : List X) (m : FileMap) → Stands m P → HasAtMost 65536 (length P + 1) m
  pub head : (P : List X) (m n : FileMap) → Stands m P → Stands n P → m head_path ≡ n head_path
  pub next : (P : List X) (x : X) (old new : FileMap) → Stands old P → Complete P x new → SameButHeads old new
      → new head_path ≡ Some (head_text (length P + 1)) → Stands new (P ++ x ∷ [])
  pub beyond : (P : List X) (m : FileMap) → Stands m P → (k : ℕ) → length P + 2 ≤ k → NoneUnder m (version_folder k)
  pub heads : (P : List X) (x : X) (m n : FileMap) → Stands m P → Stands n (P ++ x ∷ []) → m head_path ≢ n head_path
