-- The laws of single calls.
use Rattle.std.proofs.Common.{◌≡◌, ◌≢◌, ℕ, ◌+◌, Bool, ◌⊎◌, inl, inr, List, [], ◌∷◌, length, None, Some, refl, sym, ◌∙◌, subst}
use Rattle.cdb_model.specs.Maps.{Text, Content, FileMap, put}
use Rattle.cdb_model.proofs.MapLaws.{put-same, put-other, same_text}
use Rattle.cdb_files.specs.Disk.{State, Possible, IsImage, Allows, after_create, after_append, after_sync_file, after_remove, after_make_dir, Fails, FailsAppend}
use Rattle.cdb_files.specs.Whole.{IsImageBut, ChangesOnly, after_write, after_fill}
use Rattle.cdb_files.proofs.StateLaws.{same-only, create-only, append-only, sync_file-only, remove-only, fails-only, fails_append-only, between-but}
use Rattle.cdb_files.proofs.StateLaws.{image-but}
use Rattle.cdb_crash.specs.Leftovers.{IsOfVersion}
use Rattle.cdb_crash.specs.Crash.{IsClean, IsMid}
use Rattle.cdb_crash.specs.Laws.{CallKeeps, FolderCalls, PathCalls}
use Rattle.cdb_crash.proofs.Possible.{sync_dir-image, sync_dir-between, image_put}

-- A call that changes one path alone.
call_keeps : (Kind : FileMap → Type 0) (path : Text) (s after : State) (Failed : State → Type 0)
    → ((m : FileMap) → IsImageBut path s m → Kind m)
    → ChangesOnly path s after → ((new : State) → Failed new → ChangesOnly path s new) → CallKeeps Kind s after Failed
call_keeps Kind path s after Failed but only failed = record {
  inside = λ m between. but m (between-but path s s after m (same-only path s) only between);
  ok = λ m image. but m (image-but path s after only m image);
  err = λ new f m image. but m (image-but path s new (failed new f) m image);
}

pub path_calls : (Kind : FileMap → Type 0) (path : Text) (s : State) → ((m : FileMap) → IsImageBut path s m → Kind m)
    → PathCalls Kind path s
path_calls Kind path s but = record {
  create = call_keeps Kind path s (after_create path s) (Fails s (after_create path s)) but (create-only path s)
      (λ new f. fails-only path s (after_create path s) new (create-only path s) f);
  append = λ piece. call_keeps Kind path s (after_append path piece s) (FailsAppend path piece s) but
      (append-only path piece s)
      (λ new f. fails_append-only path piece s new f);
  sync_file = call_keeps Kind path s (after_sync_file path s) (λ new. new ≡ s) but (sync_file-only path s)
      (λ new e. let P : State → Type 0 = ChangesOnly path s in subst P (sym e) (same-only path s));
  remove = call_keeps Kind path s (after_remove path s) (Fails s (after_remove path s)) but (remove-only path s)
      (λ new f. fails-only path s (after_remove path s) new (remove-only path s) f);
  run = but;
}

same_may : (s new : State) → new.may ≡ s.may → (m : FileMap) → IsImage new m → IsImage s m
same_may s new e m image = let P : (Text → Possible) → Type 0 = λ may. (q : Text) → Allows (may q) (m q) in
    subst P e image

make_dir-may : (folder : Text) (s : State) → (after_make_dir folder s).may ≡ s.may
unfolding after_make_dir
make_dir-may folder s = refl

pub folder_calls : FolderCalls
folder_calls = record {
  make_dir = λ folder s here. record {
    inside = λ m between q. either folder s m q (between q);
    ok = λ m image. same_may s (after_make_dir folder s) (make_dir-may folder s) m image;
    err = λ new failed m image. same_may s new failed.may m image;
  };
  sync_dir = λ folder s here. record {
    inside = sync_dir-between folder s here;
    ok = sync_dir-image folder s here;
    err = λ new e m image. let P : State → Type 0 = λ t. IsImage t m in subst P e image;
  };
}
  where
    either : (folder : Text) (s : State) (m : FileMap) (q : Text) → Allows (s.may q) (m q)
        ⊎ Allows ((after_make_dir folder s).may q) (m q) → Allows (s.may q) (m q)
    either folder s m q (inl a) = a
    either folder s m q (inr a) = let P : (Text → Possible) → Type 0 = λ may. Allows (may q) (m q) in
        subst P (make_dir-may folder s) a

-- What is there after a file was written is possible.
pub write-here : (folder path : Text) (bytes : List ℕ) (s : State) → IsImage s s.present
    → IsImage (after_write folder path bytes s) (after_write folder path bytes s).present
unfolding after_write after_fill after_make_dir
write-here folder path bytes s here q = of (same_text q path)
  where
    of : (q ≡ path) ⊎ (q ≢ path) → Allows (put s.may path (Some (None ∷ Some bytes ∷ [])) q)
        (put s.present path (Some bytes) q)
    of (inl e) = let P : Text → Type 0 = λ t. Allows (put s.may path (Some (None ∷ Some bytes ∷ [])) t)
        (put s.present path (Some bytes) t) in
        let A : Possible → Type 0 = λ p. Allows p (put s.present path (Some bytes) path) in
        let B : Content → Type 0 = Allows (Some (None ∷ Some bytes ∷ [])) in
        subst P (sym e)
        (subst A (sym (put-same s.may path (Some (None ∷ Some bytes ∷ []))))
        (subst B (sym (put-same s.present path (Some bytes))) (inr (inl refl))))
    of (inr ne) = let A : Possible → Type 0 = λ p. Allows p (put s.present path (Some bytes) q) in
        let B : Content → Type 0 = Allows (s.may q) in
        subst A (sym (put-other s.may path (Some (None ∷ Some bytes ∷ [])) q ne))
        (subst B (sym (put-other s.present path (Some bytes) q ne)) (here q))

module _ {X : Type 0} (Stands : FileMap → List X → Type 0) where
  pub begins_clean : (P : List X) (synced : Text → Bool) (s : State) → IsImage s s.present → IsClean Stands P s
      → IsMid Stands P (λ path. None) synced s
  begins_clean P synced s here clean = record {
    whole = clean.whole;
    present = λ q under. clean.none s.present here q under;
    each = λ q under v a. inl (none q under v a);
    kept = λ q under was v a. none q under v a;
  }
    where
      none : (q : Text) → IsOfVersion (length P + 1) q → (v : Content) → Allows (s.may q) v → v ≡ None
      none q under v a = sym (put-same s.present q v)
          ∙ clean.none (put s.present q v) (image_put s s.present q v (λ p ne. here p) a) q under

  pub back_clean : (P : List X) (synced : Text → Bool) (s : State) → IsMid Stands P (λ path. None) synced s
      → IsClean Stands P s
  back_clean P synced s mid =
      record { whole = mid.whole; none = λ m image q under. of q under (m q) (mid.each q under (m q) (image q)) }
    where
      of : (q : Text) → IsOfVersion (length P + 1) q → (v : Content) → (v ≡ None) ⊎ (v ≡ None) → v ≡ None
      of q under v (inl e) = e
      of q under v (inr e) = e
