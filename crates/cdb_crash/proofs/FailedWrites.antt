-- What a write leaves that failed.
use Rattle.std.proofs.Common.{◌≡◌, ℕ, ◌≤◌, ◌⊎◌, inl, inr, List, [], length, take, Bool, None, Some, IsTrue, refl, sym, ap, ◌∙◌, subst, arith}
use Rattle.std.proofs.lemmas.Bool.{or_left}
use Rattle.cdb_model.specs.Maps.{Text, Content, FileMap, IsThere, is_at_or_above}
use Rattle.cdb_model.specs.Names.{new_head_path}
use Rattle.cdb_model.proofs.MapLaws.{put-same}
use Rattle.cdb_files.specs.Disk.{State, Fails, after_create, after_make_dir}
use Rattle.cdb_files.specs.Whole.{FailsFill, FailsWrite, after_pieces}
use Rattle.cdb_files.proofs.StateLaws.{create-only, fails-only, fails_fill-only, pieces-only, pieces-there}
use Rattle.cdb_files.proofs.StateLaws.{make_dir-present}
use Rattle.cdb_crash.specs.Crash.{IsClear}
use Rattle.cdb_crash.specs.StepLaws.{FailedWrite, FailedWrites}
use Rattle.cdb_crash.proofs.ClearLaws.{clear_but, clear_but_new_head, clear_stays}

made_kept : (folder : Text) (old : State) (q : Text) → IsTrue (old.made q) → IsTrue ((after_make_dir folder old).made q)
unfolding after_make_dir
made_kept folder old q was = or_left (old.made q) (is_at_or_above q folder) was

-- Calls that change no file.
pieces-made : (path : Text) (bytes : List ℕ) (s : State) → (after_pieces path bytes s).made ≡ s.made
unfolding after_pieces
pieces-made path bytes s = refl

pieces-at : (path : Text) (bytes : List ℕ) (s : State) → (after_pieces path bytes s).present path ≡ Some bytes
unfolding after_pieces
pieces-at path bytes s = put-same s.present path (Some bytes)

created-at : (path : Text) (s : State) → (after_create path s).present path ≡ Some []
unfolding after_create
created-at path s = put-same s.present path (Some [])

module _ (folder path : Text) (bytes : List ℕ) (old new : State) where
  fill_made : FailsFill path bytes (after_make_dir folder old) new → new.made ≡ (after_make_dir folder old).made
  fill_made (FailsFill.in_create fails) = fails.made
  fill_made (FailsFill.after_part n le e) = ap (λ (s : State). s.made) e
      ∙ pieces-made path (take n bytes) (after_make_dir folder old)

  fill_file : FailsFill path bytes (after_make_dir folder old) new
      → (new.present path ≡ old.present path)
      ⊎ ((n : ℕ) × (n ≤ length bytes) × (new.present path ≡ Some (take n bytes)))
  fill_file (FailsFill.in_create fails) = of fails.present
    where
      of : (new.present ≡ (after_make_dir folder old).present)
          ⊎ (new.present ≡ (after_create path (after_make_dir folder old)).present)
          → (new.present path ≡ old.present path)
          ⊎ ((n : ℕ) × (n ≤ length bytes) × (new.present path ≡ Some (take n bytes)))
      of (inl e) = inl (ap (λ (m : FileMap). m path) (e ∙ make_dir-present folder old))
      of (inr e) = inr ((0, omega arith, ap (λ (m : FileMap). m path) e ∙ created-at path (after_make_dir folder old)))
  fill_file (FailsFill.after_part n le e) =
      inr ((n, le, ap (λ (s : State). s.present path) e ∙ pieces-at path (take n bytes) (after_make_dir folder old)))

  fill_clear : FailsFill path bytes (after_make_dir folder old) new → IsClear old
      → IsClear new
      ⊎ (Fails (after_make_dir folder old) (after_create path (after_make_dir folder old)) new
      × (new.present path ≡ None))
  fill_clear (FailsFill.in_create fails) clear = of (new.present path) refl
    where
      of : (c : Content) → new.present path ≡ c → IsClear new
          ⊎ (Fails (after_make_dir folder old) (after_create path (after_make_dir folder old)) new
          × (new.present path ≡ None))
      of None e = inr ((fails, e))
      of (Some b) e = let T : Content → Type 0 = IsThere in
          inl (clear_but path (after_make_dir folder old) new (clear_stays.make_dir folder old clear).ok
          (fails-only path (after_make_dir folder old) (after_create path (after_make_dir folder old)) new
          (create-only path (after_make_dir folder old)) fails) (subst T (sym e) tt))
  fill_clear (FailsFill.after_part n le e) clear =
      let C : State → Type 0 = IsClear in
      inl (subst C (sym e)
      (clear_but path (after_make_dir folder old) (after_pieces path (take n bytes) (after_make_dir folder old))
      (clear_stays.make_dir folder old clear).ok
      (pieces-only path (take n bytes) (after_make_dir folder old))
      (pieces-there path (take n bytes) (after_make_dir folder old))))

  failed_write : FailsWrite folder path bytes old new → FailedWrite folder path bytes old new
  failed_write (FailsWrite.in_make_dir fails) = record {
    kept = fails.kept;
    added = fails.some;
    file = inl (ap (λ (m : FileMap). m path) fails.present);
    clear = λ clear. inl ((clear_stays.make_dir folder old clear).err new fails);
  }
  failed_write (FailsWrite.in_fill fails) = record {
    kept = λ q was. let M : (Text → Bool) → Type 0 = λ m. IsTrue (m q) in
        subst M (sym (fill_made fails)) (made_kept folder old q was);
    added = λ q is. let M : (Text → Bool) → Type 0 = λ m. IsTrue (m q) in subst M (fill_made fails) is;
    file = fill_file fails;
    clear = fill_clear fails;
  }

pub failed_writes : FailedWrites
failed_writes = record {
  whole = failed_write;
  new_head = λ bytes old new fails clear. clear_but_new_head old new clear
      (fails_fill-only new_head_path bytes old new fails);
}
