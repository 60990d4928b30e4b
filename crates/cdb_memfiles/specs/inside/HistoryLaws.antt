-- What holds of each history of calls: the present map is an image, and the moments are those of the calls.
use Rattle.std.proofs.Common.{◌≡◌, ◌≢◌, ℕ, ◌≤◌, ◌⊎◌, inl, inr, Bool, true, false, List, [], ◌∷◌, ◌++◌, length, take, None, Some, fold, refl, sym, ap, ◌∙◌, subst, arith, if◌then◌else◌}
use Rattle.std.proofs.lemmas.List.Sums.{fold_push}
use Rattle.std.specs.Str.{bytes_eq}
use Rattle.cdb_model.specs.Maps.{Text, Content, FileMap, put, folder_above}
use Rattle.cdb_model.proofs.MapLaws.{put-same, put-other, same_text}
use Rattle.cdb_files.specs.Disk.{State, empty_disk, Possible, IsOneOf, Allows, IsImage, with_piece, settled, after_sync, added, after_create, after_append, after_sync_file, after_sync_dir, after_rename, after_remove, after_make_dir}
use Rattle.cdb_memfiles.specs.declared.call.Call.{Call}
use Rattle.cdb_memfiles.specs.declared.call.Call.TheVariants.{MakeDir, Create, Append, SyncFile, SyncDir, Rename, Remove, Restore}
use Rattle.cdb_memfiles.specs.History.{apply, replay, HasBeen, after_restore}

-- ---- one call more
pub replay-push : (calls : List Call) (call : Call) → replay (calls ++ call ∷ []) ≡ apply call (replay calls)
unfolding replay
replay-push calls call = fold_push (λ s call. apply call s) empty_disk calls call

-- ---- the present map is an image
-- The value at one path and what is possible there change, and fit each other.
pub put_image : (present : FileMap) (may : Text → Possible) (p : Text) (v : Content) (x : Possible)
    → ((q : Text) → q ≢ p → Allows (may q) (present q)) → Allows x v → (q : Text)
    → Allows (put may p x q) (put present p v q)
put_image present may p v x others here q = cases (same_text q p)
  where
    cases : (q ≡ p) ⊎ (q ≢ p) → Allows (put may p x q) (put present p v q)
    cases (inl e) = let P : Text → Type 0 = λ t. Allows (put may p x t) (put present p v t) in
        subst P (sym e) (let Q : Content → Type 0 = λ c. Allows (put may p x p) c in
        subst Q (sym (put-same present p v))
        (let R : Possible → Type 0 = λ y. Allows y v in subst R (sym (put-same may p x)) here))
    cases (inr ne) =
        let Q : Content → Type 0 = λ c. Allows (put may p x q) c in subst Q (sym (put-other present p v q ne))
        (let R : Possible → Type 0 = λ y. Allows y (present q) in subst R (sym (put-other may p x q ne)) (others q ne))

pub added_here : (v : Content) (x : Possible) → Allows (added v x) v
added_here v None = tt
added_here v (Some xs) = last xs
  where
    last : (xs : List Content) → IsOneOf (xs ++ v ∷ []) v
    last [] = inl refl
    last (y ∷ ys) = inr (last ys)

settled_here : (v : Content) (x : Possible) → Allows x v → Allows (settled v x) v
settled_here v None h = inr (inl refl)
settled_here v (Some xs) h = h

kept_here : (v : Content) (x : Possible) → Allows (after_sync v x) v
kept_here v (Some xs) = inl refl
kept_here None None = inl refl
kept_here (Some bytes) None = tt

image-create : (p : Text) (s : State) → IsImage s s.present → IsImage (after_create p s) (after_create p s).present
unfolding after_create
image-create p s h = put_image s.present s.may p (Some []) None (λ q ne. h q) tt

image-append : (p : Text) (piece : List ℕ) (s : State) → IsImage s s.present
    → IsImage (after_append p piece s) (after_append p piece s).present
unfolding after_append
image-append p piece s h = put_image s.present s.may p (with_piece piece (s.present p)) None (λ q ne. h q) tt

image-sync_file : (p : Text) (s : State) → IsImage s s.present
    → IsImage (after_sync_file p s) (after_sync_file p s).present
unfolding after_sync_file
image-sync_file p s h q = cases (same_text q p)
  where
    cases : (q ≡ p) ⊎ (q ≢ p) → Allows (put s.may p (settled (s.present p) (s.may p)) q) (s.present q)
    cases (inl e) = let P : Text → Type 0 = λ t. Allows (put s.may p (settled (s.present p) (s.may p)) t)
        (s.present t) in
        subst P (sym e) (let R : Possible → Type 0 = λ y. Allows y (s.present p) in
        subst R (sym (put-same s.may p (settled (s.present p) (s.may p)))) (settled_here (s.present p) (s.may p) (h p)))
    cases (inr ne) = let R : Possible → Type 0 = λ y. Allows y (s.present q) in
        subst R (sym (put-other s.may p (settled (s.present p) (s.may p)) q ne)) (h q)

image-sync_dir : (f : Text) (s : State) → IsImage s s.present
    → IsImage (after_sync_dir f s) (after_sync_dir f s).present
unfolding after_sync_dir
image-sync_dir f s h q = cases (bytes_eq (folder_above q) f)
  where
    cases : (b : Bool) → Allows (if b then after_sync (s.present q) (s.may q) else s.may q) (s.present q)
    cases true = kept_here (s.present q) (s.may q)
    cases false = h q

image-rename : (from to : Text) (s : State) → IsImage s s.present
    → IsImage (after_rename from to s) (after_rename from to s).present
unfolding after_rename
image-rename from to s h =
    put_image (put s.present to (s.present from)) (put s.may to (added (s.present from) (s.may to))) from None
    (Some (None ∷ s.present from ∷ []))
    (λ q ne. put_image s.present s.may to (s.present from) (added (s.present from) (s.may to)) (λ q ne. h q)
    (added_here (s.present from) (s.may to)) q)
    (inl refl)

image-remove : (p : Text) (s : State) → IsImage s s.present → IsImage (after_remove p s) (after_remove p s).present
unfolding after_remove
image-remove p s h = put_image s.present s.may p None (added None (s.may p)) (λ q ne. h q) (added_here None (s.may p))

image-make_dir : (f : Text) (s : State) → IsImage s s.present
    → IsImage (after_make_dir f s) (after_make_dir f s).present
unfolding after_make_dir
image-make_dir f s h = h

image-restore : (p : Text) (bytes : List ℕ) (s : State) → IsImage s s.present
    → IsImage (after_restore p bytes s) (after_restore p bytes s).present
unfolding after_restore
image-restore p bytes s h = put_image s.present s.may p (Some bytes) (Some (Some bytes ∷ [])) (λ q ne. h q) (inl refl)

image-apply : (call : Call) (s : State) → IsImage s s.present → IsImage (apply call s) (apply call s).present
image-apply (MakeDir folder) s h = image-make_dir folder.bytes s h
image-apply (Create path) s h = image-create path.bytes s h
image-apply (Append path piece) s h = image-append path.bytes piece.items s h
image-apply (SyncFile path) s h = image-sync_file path.bytes s h
image-apply (SyncDir folder) s h = image-sync_dir folder.bytes s h
image-apply (Rename from to) s h = image-rename from.bytes to.bytes s h
image-apply (Remove path) s h = image-remove path.bytes s h
image-apply (Restore path bytes) s h = image-restore path.bytes bytes.items s h

pub present_is_possible : (calls : List Call) → IsImage (replay calls) (replay calls).present
unfolding replay
present_is_possible calls = from empty_disk (λ q. inl refl) calls
  where
    from : (s : State) → IsImage s s.present → (calls : List Call)
        → IsImage (fold (λ s call. apply call s) s calls) (fold (λ s call. apply call s) s calls).present
    from s h [] = h
    from s h (call ∷ rest) = from (apply call s) (image-apply call s h) rest

-- ---- the moments
take_whole : (calls : List Call) → take (length calls) calls ≡ calls
take_whole [] = refl
take_whole (call ∷ rest) = ap (λ t. call ∷ t) (take_whole rest)

pub counts_now_too : (calls : List Call) (t : ℕ) (m : FileMap) → t ≤ length calls → IsImage (replay calls) m
    → HasBeen calls t m
unfolding HasBeen
counts_now_too calls t m le image = (
  length calls,
  le,
  omega arith,
  let P : List Call → Type 0 = λ c. IsImage (replay c) m in
      subst P (sym (take_whole calls)) image,
)

pub nothing_later : (calls : List Call) (m : FileMap) → HasBeen calls (length calls) m → IsImage (replay calls) m
unfolding HasBeen
nothing_later calls m (k, from, to, image) =
    let same : k ≡ length calls = omega arith in
    let P : List Call → Type 0 = λ c. IsImage (replay c) m in
    subst P (ap (λ n. take n calls) same ∙ take_whole calls) image
