-- The files that stand for nothing: the new head, and those of the version after the newest.
use Rattle.std.specs.Prelude.{◌≡◌, ℕ, ◌+◌, ◌⊎◌, List, [], ◌∷◌, ◌++◌, IsTrue}
use Rattle.cdb_source.specs.declared.source.Source.{Source}
use Rattle.cdb_model.specs.Maps.{Text, FileMap, IsThere, is_under}
use Rattle.cdb_model.specs.Names.{version_folder, new_head_path}
use Rattle.cdb_model.specs.Stands.{AtMost, ArePublications, HasVersion}

-- The path lies under the folder of a version, at any depth.
abbrev pub IsOfVersion : ℕ → Text → Type 0
IsOfVersion version path = IsTrue (is_under (version_folder version) path)

-- A leftover of a store of so many versions: whatever it has, the store means the same.
abbrev pub IsLeftover : ℕ → Text → Type 0
IsLeftover newest path = (path ≡ new_head_path) ⊎ IsOfVersion (newest + 1) path

-- At most so many files are there under a version.
abbrev pub HasAtMost : ℕ → ℕ → FileMap → Type 0
HasAtMost most version m = AtMost most (λ path. IsOfVersion version path × IsThere (m path))

-- The files of one publication more are there, all of them and no other, and the list may have it.
pub record HasNext (P : List (List Source)) (x : List Source) (m : FileMap) : Type 0 where
  pub publications : ArePublications (P ++ x ∷ [])
  pub files : HasVersion m P x
