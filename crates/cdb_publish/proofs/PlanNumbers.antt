-- Which step of a plan has a number, with paths and bytes that are only equal to those of the step.
use Rattle.std.proofs.Common.{◌≡◌, ℕ, ◌+◌, List, ◌∷◌, ◌++◌, [], length, Some, refl, sym, ap, ◌∙◌, subst, arith}
use Rattle.std.specs.Prelude.{slice_get}
use Rattle.std.proofs.lemmas.List.{length-map}
use Rattle.arrayvec.specs.ArrayString.{ArrayString}
use Rattle.cdb_grid.specs.declared.tile.Tile.{Tile}
use Rattle.cdb_source.specs.Texts.{source_text}
use Rattle.cdb_source.specs.declared.source.Source.{Source}
use Rattle.cdb_model.specs.Publications.{sources_of}
use Rattle.cdb_model.specs.Maps.{Text}
use Rattle.cdb_model.specs.Names.{source_path, record_path, path}
use Rattle.cdb_model.specs.TileFile.{tile_bytes}
use Rattle.cdb_crash.specs.Plan.{FileAction, steps_of}
use Rattle.cdb_crash.proofs.PlanNumbers.{source_at, tile_at, folder_at, record_at, get-map}
use Rattle.cdb_publish.specs.Fitting.{Plans}
use Rattle.cdb_publish.specs.declared.plan.Plan.{Plan}

module _ (p : Plan) (P : List (List Source)) (x : List Source) (plans : Plans p P x) where
  pub plan_source : (i : ℕ) (s : Source) (q : Text) (bytes : List ℕ) → slice_get x i ≡ Some s
      → q ≡ source_path p.record.version (i + 1) → bytes ≡ source_text s
      → slice_get (steps_of P x p.record.tiles) i ≡ Some (FileAction.write (record { path = q; bytes = bytes }))
  plan_source i s q bytes at path_is bytes_is =
      let a = path_is ∙ ap (λ v. source_path v (i + 1)) plans.version in
      source_at P x p.record.tiles i s at
      ∙ sym (λ k. Some (FileAction.write (record { path = a k; bytes = bytes_is k })))

  pub plan_tile : (i : ℕ) (t : Tile) (q : Text) (bytes : List ℕ) → slice_get p.record.tiles i ≡ Some t
      → q ≡ path p.record.version t → bytes ≡ tile_bytes (sources_of (P ++ x ∷ [])) t
      → slice_get (steps_of P x p.record.tiles) (length x + i)
      ≡ Some (FileAction.write (record { path = q; bytes = bytes }))
  plan_tile i t q bytes at path_is bytes_is =
      let a = path_is ∙ ap (λ v. path v t) plans.version in
      tile_at P x p.record.tiles i (length x + i) t refl at
      ∙ sym (λ k. Some (FileAction.write (record { path = a k; bytes = bytes_is k })))

  pub plan_folder : (i : ℕ) (folder : ArrayString) → slice_get p.folders.keys i ≡ Some folder
      → slice_get (steps_of P x p.record.tiles) (length x + length p.record.tiles + i)
      ≡ Some (FileAction.sync folder.bytes)
  plan_folder i folder at = folder_at P x p.record.tiles i (length x + length p.record.tiles + i) folder.bytes refl
      (let F : List Text → Type 0 = λ fs. slice_get fs i ≡ Some folder.bytes in
      subst F plans.folders (get-map (λ f. f.bytes) p.folders.keys i folder at))

  pub plan_record : (q : Text) (bytes : List ℕ) → q ≡ record_path p.record.version → bytes ≡ p.bytes.items
      → slice_get (steps_of P x p.record.tiles) (length x + length p.record.tiles + length p.folders.keys)
      ≡ Some (FileAction.write_and_sync (record { path = q; bytes = bytes }))
  plan_record q bytes path_is bytes_is =
      let a = path_is ∙ ap record_path plans.version in
      let b = bytes_is ∙ plans.bytes in
      record_at P x p.record.tiles (length x + length p.record.tiles + length p.folders.keys)
      (omega (arith, ap length plans.folders, length-map p.folders.keys (λ f. f.bytes)))
      ∙ sym (λ k. Some (FileAction.write_and_sync (record { path = a k; bytes = b k })))
