-- The files of one version have paths of their own.
use Rattle.std.proofs.Common.{◌≡◌, ℕ, ◌+◌, List, length, get_or, Some, refl, ap, subst, arith}
use Rattle.std.specs.Prelude.{◌/◌, ◌%◌, slice_get}
use Rattle.cdb_grid.specs.declared.tile.Tile.{Tile}
use Rattle.cdb_source.specs.Texts.{source_text}
use Rattle.cdb_source.specs.declared.source.Source.{Source}
use Rattle.cdb_model.specs.Maps.{Text}
use Rattle.cdb_model.specs.Names.{record_path, source_path, path}
use Rattle.cdb_model.specs.Stands.{IsVersionFile}
use Rattle.cdb_names.proofs.VersionLaws.{two_tell, by_hundreds}

pub source_paths_tell : (v i j : ℕ) → source_path v i ≡ source_path v j → i ≡ j
source_paths_tell v i j e =
    let at = λ (k : ℕ). ap (λ (t : Text). get_or t k 0) e in
    by_hundreds i j (two_tell (i / 100) (j / 100) (at 19) (at 20)) (two_tell (i % 100) (j % 100) (at 21) (at 22))

pub record_isnt_source : (v i : ℕ) → record_path v ≡ source_path v i → ⊥
record_isnt_source v i e = let n : 77 ≡ 83 = ap (λ (t : Text). get_or t 10 0) e in omega (arith, n)

pub tile_isnt_source : (v i : ℕ) (t : Tile) → path v t ≡ source_path v i → ⊥
tile_isnt_source v i t e = let n : 84 ≡ 83 = ap (λ (s : Text). get_or s 10 0) e in omega (arith, n)

pub tile_isnt_record : (v : ℕ) (t : Tile) → path v t ≡ record_path v → ⊥
tile_isnt_record v t e = let n : 84 ≡ 77 = ap (λ (s : Text). get_or s 10 0) e in omega (arith, n)

-- What has the path of a source's file is that file.
pub file_at_source : (earlier : List (List Source)) (sources : List Source) (tiles : List Tile) (q : Text)
    (bytes : List ℕ) (i : ℕ)
    → IsVersionFile earlier sources tiles q bytes → q ≡ source_path (length earlier + 1) (i + 1)
    → (s : Source) × (slice_get sources i ≡ Some s) × (bytes ≡ source_text s)
file_at_source earlier sources tiles q bytes i (IsVersionFile.of_record) e =
    absurd (record_isnt_source (length earlier + 1) (i + 1) e)
file_at_source earlier sources tiles q bytes i (IsVersionFile.of_source j s at) e =
    let same = source_paths_tell (length earlier + 1) (j + 1) (i + 1) e in
    let P : ℕ → Type 0 = λ k. slice_get sources k ≡ Some s in
    (s, subst P (omega (arith, same)) at, refl)
file_at_source earlier sources tiles q bytes i (IsVersionFile.of_tile t reached) e =
    absurd (tile_isnt_source (length earlier + 1) (i + 1) t e)
