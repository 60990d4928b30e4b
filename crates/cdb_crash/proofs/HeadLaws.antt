-- The last step, call by call.
use Rattle.std.proofs.Common.{◌≡◌, ◌≢◌, ℕ, ◌+◌, ◌⊎◌, inl, inr, List, [], ◌∷◌, length, None, Some, refl, sym, subst}
use Rattle.cdb_model.specs.Maps.{Text, Content, FileMap, put}
use Rattle.cdb_model.specs.Names.{head_path, new_head_path}
use Rattle.cdb_model.proofs.MapLaws.{put-same, same_text}
use Rattle.cdb_files.specs.Disk.{State, Possible, IsImage, Allows, added, after_rename}
use Rattle.cdb_crash.specs.Crash.{head_filled, head_renamed}
use Rattle.cdb_crash.specs.Laws.{HeadStep}
use Rattle.cdb_crash.proofs.Facts.{IsLayout}
use Rattle.cdb_crash.proofs.Possible.{sync_dir-between, sync_dir-image, added-new}
use Rattle.cdb_crash.proofs.CallLaws.{path_calls}
use Rattle.cdb_crash.proofs.HeadSteps.{filled-there, filled-settled, renamed-present, renamed-head, renamed-head_may, renamed-free, during_fill, during_rename, after_renamed, failed_rename, clean_at_end}

-- What is there after the rename is possible.
renamed-gone : (text : List ℕ) (s : State) → (head_renamed text s).present new_head_path ≡ None
unfolding after_rename
renamed-gone text s = put-same (put (head_filled text s).present head_path ((head_filled text s).present new_head_path))
    new_head_path None

renamed-gone_may : (text : List ℕ) (s : State) → (head_renamed text s).may new_head_path
    ≡ Some (None ∷ (head_filled text s).present new_head_path ∷ [])
unfolding after_rename
renamed-gone_may text s =
    put-same
    (put (head_filled text s).may head_path
    (added ((head_filled text s).present new_head_path) ((head_filled text s).may head_path))) new_head_path
    (Some (None ∷ (head_filled text s).present new_head_path ∷ []))

pub renamed-here : (text : List ℕ) (s : State) → IsImage s s.present
    → IsImage (head_renamed text s) (head_renamed text s).present
renamed-here text s here q = of (same_text q new_head_path) (same_text q head_path)
  where
    moved : (t : Text) (may : Possible) (v : Content) → (head_renamed text s).may t ≡ may
        → (head_renamed text s).present t ≡ v → Allows may v
        → Allows ((head_renamed text s).may t) ((head_renamed text s).present t)
    moved t may v a b allowed =
        let A : Possible → Type 0 = λ p. Allows p ((head_renamed text s).present t) in
        let B : Content → Type 0 = Allows may in
        subst A (sym a) (subst B (sym b) allowed)

    of : (q ≡ new_head_path) ⊎ (q ≢ new_head_path) → (q ≡ head_path) ⊎ (q ≢ head_path)
        → Allows ((head_renamed text s).may q) ((head_renamed text s).present q)
    of (inl e) b = let P : Text → Type 0 = λ t. Allows ((head_renamed text s).may t)
        ((head_renamed text s).present t) in
        subst P (sym e) (moved new_head_path (Some (None ∷ (head_filled text s).present new_head_path ∷ [])) None
        (renamed-gone_may text s) (renamed-gone text s) (inl refl))
    of (inr a) (inl e) = let P : Text → Type 0 = λ t. Allows ((head_renamed text s).may t)
        ((head_renamed text s).present t) in
        subst P (sym e) (moved head_path (added (Some text) (s.may head_path)) (Some text) (renamed-head_may text s)
        (renamed-head text s) (added-new (Some text) (s.may head_path)))
    of (inr a) (inr b) = moved q (s.may q) (s.present q) (renamed-free text s q a b)
        (renamed-present text s q a b) (here q)

module _ {X : Type 0} (Stands : FileMap → List X → Type 0) (Complete : List X → X → FileMap → Type 0)
    (head_text : ℕ → List ℕ) (layout : IsLayout Stands Complete head_text) where
  pub head_step : HeadStep Stands Complete head_text
  head_step P x s here ready = record {
    written = path_calls (λ m. Stands m P) new_head_path s
        (during_fill Stands Complete head_text layout P x s here ready);
    there = filled-there (head_text (length P + 1)) s;
    settled = filled-settled (head_text (length P + 1)) s;
    rename = record {
      inside = during_rename Stands Complete head_text layout P x s here ready;
      ok = after_renamed Stands Complete head_text layout P x s here ready;
      err = failed_rename Stands Complete head_text layout P x s here ready;
    };
    sync = record {
      inside = λ m between. after_renamed Stands Complete head_text layout P x s here ready m
          (sync_dir-between [] (head_renamed (head_text (length P + 1)) s)
          (renamed-here (head_text (length P + 1)) s here) m between);
      ok = λ m image. after_renamed Stands Complete head_text layout P x s here ready m
          (sync_dir-image [] (head_renamed (head_text (length P + 1)) s)
          (renamed-here (head_text (length P + 1)) s here) m image);
      err = λ new e m image. after_renamed Stands Complete head_text layout P x s here ready m
          (let I : State → Type 0 = λ t. IsImage t m in subst I e image);
    };
    end = clean_at_end Stands Complete head_text layout P x s here ready
        (renamed-here (head_text (length P + 1)) s here);
  }
