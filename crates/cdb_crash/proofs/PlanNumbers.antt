-- Which step of a publication has a number.
use Rattle.std.proofs.Common.{◌≡◌, ℕ, zero, suc, ◌+◌, ◌<◌, List, [], ◌∷◌, ◌++◌, length, get_or, map, Option, Some, None, refl, sym, ap, ◌∙◌, subst, arith}
use Rattle.std.specs.Prelude.{slice_get}
use Rattle.std.proofs.lemmas.List.{length-map}
use Rattle.std.proofs.lemmas.Option.{none-some}
use Rattle.cdb_grid.specs.declared.tile.Tile.{Tile}
use Rattle.cdb_source.specs.Texts.{source_text}
use Rattle.cdb_source.specs.declared.source.Source.{Source}
use Rattle.cdb_source.proofs.Lists.{get-left}
use Rattle.cdb_model.specs.Publications.{sources_of}
use Rattle.cdb_model.specs.Maps.{Text}
use Rattle.cdb_model.specs.Names.{source_path, path}
use Rattle.cdb_crash.specs.Plan.{File, FileAction, source_files, tile_file, files_of, record_of, folders_of, steps_of}
use Rattle.cdb_crash.specs.StepLaws.{Numbers}
use Rattle.cdb_crash.proofs.PlanLaws.{files-count}
use Rattle.cdb_crash.proofs.PlanFiles.{source_files-length}

get-right : {A : Type 0} (xs ys : List A) (i n : ℕ) (y : A) → n ≡ length xs + i → slice_get ys i ≡ Some y
    → slice_get (xs ++ ys) n ≡ Some y
get-right {A = A} [] ys i n y is e = let G : ℕ → Type 0 = λ k. slice_get ys k ≡ Some y in
    let same : i ≡ n = omega (arith, is) in subst G same e
get-right (x ∷ xs) ys i zero y is e = absurd (omega (arith, is))
get-right (x ∷ xs) ys i (suc n) y is e = get-right xs ys i n y (omega (arith, is)) e

pub get-map : {A B : Type 0} (f : A → B) (xs : List A) (i : ℕ) (y : A) → slice_get xs i ≡ Some y
    → slice_get (map f xs) i ≡ Some (f y)
get-map f [] i y e = absurd (none-some y e)
get-map {A = A} {B = B} f (x ∷ xs) zero y e = ap (λ o. mapped o) e
  where
    mapped : Option A → Option B
    mapped None = None
    mapped (Some z) = Some (f z)
get-map f (x ∷ xs) (suc i) y e = get-map f xs i y e

get-source_files : (v from : ℕ) (sources : List Source) (i number : ℕ) (s : Source) → number ≡ from + i
    → slice_get sources i ≡ Some s
    → slice_get (source_files v from sources) i ≡ Some (record { path = source_path v number; bytes = source_text s })
get-source_files v from [] i number s is e = absurd (none-some _ e)
get-source_files v from (t ∷ sources) zero number s is e = first (omega (arith, is)) e
  where
    file_at : ℕ → Source → File
    file_at k u = record { path = source_path v k; bytes = source_text u }

    some_file : Option Source → Option File
    some_file None = None
    some_file (Some u) = Some (file_at number u)

    first : from ≡ number → Some t ≡ Some s → Some (file_at from t) ≡ Some (file_at number s)
    first n e = ap (λ k. Some (file_at k t)) n ∙ ap some_file e
get-source_files v from (t ∷ sources) (suc i) number s is e = get-source_files v (from + 1) sources i number s
    (omega (arith, is)) e

module _ (P : List (List Source)) (x : List Source) (tiles : List Tile) where
  pub source_at : (i : ℕ) (s : Source) → slice_get x i ≡ Some s
      → slice_get (steps_of P x tiles) i
      ≡ Some (FileAction.write (record { path = source_path (length P + 1) (i + 1); bytes = source_text s }))
  source_at i s e =
      get-left _ _ i _
      (get-map FileAction.write _ i _
      (get-left _ _ i _ (get-source_files (length P + 1) 1 x i (i + 1) s (omega arith) e)))

  pub tile_at : (i n : ℕ) (t : Tile) → n ≡ length x + i → slice_get tiles i ≡ Some t
      → slice_get (steps_of P x tiles) n
      ≡ Some (FileAction.write (tile_file (length P + 1) (sources_of (P ++ x ∷ [])) t))
  tile_at i n t is e = get-left _ _ n _ (get-map FileAction.write _ n _
      (get-right (source_files (length P + 1) 1 x) _ i n _ (omega (arith, is, source_files-length (length P + 1) 1 x))
      (get-map (tile_file (length P + 1) (sources_of (P ++ x ∷ []))) tiles i t e)))

  pub folder_at : (i n : ℕ) (folder : Text) → n ≡ length x + length tiles + i
      → slice_get (folders_of (files_of P x tiles)) i ≡ Some folder
      → slice_get (steps_of P x tiles) n ≡ Some (FileAction.sync folder)
  folder_at i n folder is e = get-right (map FileAction.write (files_of P x tiles)) _ i n _
      (omega (arith, is, files-count P x tiles, length-map (files_of P x tiles) FileAction.write))
      (get-left _ _ i _ (get-map FileAction.sync _ i _ e))

  pub record_at : (n : ℕ) → n ≡ length x + length tiles + length (folders_of (files_of P x tiles))
      → slice_get (steps_of P x tiles) n ≡ Some (FileAction.write_and_sync (record_of P x tiles))
  record_at n is = get-right (map FileAction.write (files_of P x tiles)) _
      (length (folders_of (files_of P x tiles))) n _
      (omega (arith, is, files-count P x tiles, length-map (files_of P x tiles) FileAction.write))
      (get-right (map FileAction.sync (folders_of (files_of P x tiles))) _ 0 _ _
      (omega (arith, length-map (folders_of (files_of P x tiles)) FileAction.sync)) refl)

pub numbers : (P : List (List Source)) (x : List Source) (tiles : List Tile) → Numbers P x tiles
numbers P x tiles =
    record {
      source_at = source_at P x tiles;
      tile_at = tile_at P x tiles;
      folder_at = folder_at P x tiles;
      record_at = record_at P x tiles;
    }

-- An element of a list at its index.
pub got : {A : Type 0} (xs : List A) (i : ℕ) (x : A) → i < length xs → x ≡ get_or xs i x → slice_get xs i ≡ Some x
got [] i x l e = absurd (omega (arith, l))
got (y ∷ xs) zero x l e = ap (λ z. Some z) (sym e)
got (y ∷ xs) (suc i) x l e = got xs i x (omega (arith, l)) e
