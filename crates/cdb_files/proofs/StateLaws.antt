-- Laws of the states of a disk.
use Rattle.std.proofs.Common.{◌≡◌, ◌≢◌, ℕ, ◌≤◌, ◌⊎◌, inl, inr, List, [], ◌∷◌, ◌++◌, length, take, None, Some, refl, sym, ap, ◌∙◌, subst, arith, append-nil}
use mathlib.Core.Path.{fun_ext}
use Rattle.std.proofs.lemmas.Bool.{or_left, or_right}
use Rattle.std.specs.Str.{bytes_eq}
use Rattle.cdb_model.specs.Maps.{Text, Content, FileMap, IsThere, put, is_at_or_above, is_under}
use Rattle.cdb_model.proofs.MapLaws.{put-same, put-other, put-put, bytes_eq-same}
use Rattle.cdb_files.specs.Disk.{State, Possible, IsImage, Allows, IsMade, with_piece, settled, added, after_create, after_append, after_sync_file, after_remove, after_make_dir, Fails, FailsAppend, FailsMakeDir}
use Rattle.cdb_files.specs.Moments.{IsBetween}
use Rattle.cdb_files.specs.Whole.{after_fill, after_pieces, FailsFill, FailsWrite, ChangesOnly, IsImageBut}
use Rattle.cdb_files.specs.Disk.{after_sync_dir}

-- ---- what holds after a call
pub made-make_dir : (folder : Text) (s : State) → IsMade (after_make_dir folder s) folder
unfolding after_make_dir is_at_or_above
made-make_dir folder s =
    inr (or_right (s.made folder) (is_at_or_above folder folder)
    (or_left (bytes_eq folder folder) (is_under folder folder) (bytes_eq-same folder)))

pub there-create : (path : Text) (s : State) → IsThere ((after_create path s).present path)
unfolding after_create
there-create path s = let P : Content → Type 0 = IsThere in subst P (sym (put-same s.present path (Some []))) tt

pub there-append : (path : Text) (piece : List ℕ) (s : State) → IsThere (s.present path)
    → IsThere ((after_append path piece s).present path)
unfolding after_append
there-append path piece s there =
    let P : Content → Type 0 = IsThere in subst P (sym (put-same s.present path (with_piece piece (s.present path))))
    (longer (s.present path) there)
  where
    longer : (content : Content) → IsThere content → IsThere (with_piece piece content)
    longer None h = h
    longer (Some bytes) h = tt

-- ---- a file that is written piece by piece
pub pieces-there : (path : Text) (bytes : List ℕ) (s : State) → IsThere ((after_pieces path bytes s).present path)
unfolding after_pieces
pieces-there path bytes s = let C : Content → Type 0 = IsThere in
    subst C (sym (put-same s.present path (Some bytes))) tt

pub create-pieces : (path : Text) (s : State) → after_create path s ≡ after_pieces path [] s
unfolding after_create after_pieces
create-pieces path s = refl

pub append-pieces : (path : Text) (bytes piece : List ℕ) (s : State)
    → after_append path piece (after_pieces path bytes s) ≡ after_pieces path (bytes ++ piece) s
unfolding after_append after_pieces
append-pieces path bytes piece s =
    let a = ap (λ c. put (put s.present path (Some bytes)) path (with_piece piece c))
    (put-same s.present path (Some bytes))
    ∙ put-put s.present path (Some bytes) (Some (bytes ++ piece)) in
    let b = put-put s.may path None None in
    λ i. record { present = a i; may = b i; made = s.made }

pub sync_file-pieces : (path : Text) (bytes : List ℕ) (s : State) → after_sync_file path (after_pieces path bytes s)
    ≡ after_fill path bytes s
unfolding after_sync_file after_pieces after_fill
sync_file-pieces path bytes s =
    let b = (λ i. put (put s.may path None) path
    (settled (put-same s.present path (Some bytes) i) (put-same s.may path None i)))
    ∙ put-put s.may path None (Some (None ∷ Some bytes ∷ [])) in
    λ i. record { present = put s.present path (Some bytes); may = b i; made = s.made }

-- ---- calls that change one path alone
pub same-only : (path : Text) (s : State) → ChangesOnly path s s
same-only path s = record { present = λ q ne. refl; may = λ q ne. refl }

pub then-only : (path : Text) (s t u : State) → ChangesOnly path s t → ChangesOnly path t u → ChangesOnly path s u
then-only path s t u a b =
    record { present = λ q ne. b.present q ne ∙ a.present q ne; may = λ q ne. b.may q ne ∙ a.may q ne }

pub create-only : (path : Text) (s : State) → ChangesOnly path s (after_create path s)
unfolding after_create
create-only path s = record { present = put-other s.present path (Some []); may = put-other s.may path None }

pub append-only : (path : Text) (piece : List ℕ) (s : State) → ChangesOnly path s (after_append path piece s)
unfolding after_append
append-only path piece s =
    record { present = put-other s.present path (with_piece piece (s.present path)); may = put-other s.may path None }

pub sync_file-only : (path : Text) (s : State) → ChangesOnly path s (after_sync_file path s)
unfolding after_sync_file
sync_file-only path s =
    record { present = λ q ne. refl; may = put-other s.may path (settled (s.present path) (s.may path)) }

pub remove-only : (path : Text) (s : State) → ChangesOnly path s (after_remove path s)
unfolding after_remove
remove-only path s =
    record { present = put-other s.present path None; may = put-other s.may path (added None (s.may path)) }

pub make_dir-only : (path folder : Text) (s : State) → ChangesOnly path s (after_make_dir folder s)
unfolding after_make_dir
make_dir-only path folder s = record { present = λ q ne. refl; may = λ q ne. refl }

-- Also where the call failed.
pub fails-only : (path : Text) (old after new : State) → ChangesOnly path old after → Fails old after new
    → ChangesOnly path old new
fails-only path old after new only fails =
    record { present = of fails.present; may = λ q ne. fails.stays q (only.may q ne) }
  where
    of : (new.present ≡ old.present) ⊎ (new.present ≡ after.present) → (q : Text) → q ≢ path → new.present q
        ≡ old.present q
    of (inl e) q ne = ap (λ m. m q) e
    of (inr e) q ne = ap (λ m. m q) e ∙ only.present q ne

pub fails_append-only : (path : Text) (piece : List ℕ) (old new : State) → FailsAppend path piece old new
    → ChangesOnly path old new
fails_append-only path piece old new (n, le, fails) = fails-only path old (after_append path (take n piece) old) new
    (append-only path (take n piece) old) fails

pub fails_make_dir-only : (path folder : Text) (old new : State) → FailsMakeDir old (after_make_dir folder old) new
    → ChangesOnly path old new
fails_make_dir-only path folder old new fails =
    record { present = λ q ne. ap (λ m. m q) fails.present; may = λ q ne. ap (λ m. m q) fails.may }

pub equal-only : (path : Text) (old after new : State) → ChangesOnly path old after → new ≡ after
    → ChangesOnly path old new
equal-only path old after new only e = let P : State → Type 0 = ChangesOnly path old in subst P (sym e) only

-- What may stand at a moment inside such a call is, but at that path, an image of each state before.
pub between-but : (path : Text) (s old after : State) (m : FileMap) → ChangesOnly path s old
    → ChangesOnly path old after → IsBetween old after m → IsImageBut path s m
between-but path s old after m before call between q ne = of (between q)
  where
    of : Allows (old.may q) (m q) ⊎ Allows (after.may q) (m q) → Allows (s.may q) (m q)
    of (inl a) = let P : Possible → Type 0 = λ p. Allows p (m q) in subst P (before.may q ne) a
    of (inr a) = let P : Possible → Type 0 = λ p. Allows p (m q) in
        subst P (before.may q ne) (subst P (call.may q ne) a)

-- What a crash may leave of a state that changed at one path alone is, but at that path, an image of the one before.
pub image-but : (path : Text) (s t : State) → ChangesOnly path s t → (m : FileMap) → IsImage t m → IsImageBut path s m
image-but path s t only m image q ne = let P : Possible → Type 0 = λ p. Allows p (m q) in
    subst P (only.may q ne) (image q)

-- ---- where the writing of a file failed
pub pieces-only : (path : Text) (bytes : List ℕ) (s : State) → ChangesOnly path s (after_pieces path bytes s)
unfolding after_pieces
pieces-only path bytes s = record { present = put-other s.present path (Some bytes); may = put-other s.may path None }

pub fails_fill-only : (path : Text) (bytes : List ℕ) (old new : State) → FailsFill path bytes old new
    → ChangesOnly path old new
fails_fill-only path bytes old new (FailsFill.in_create fails) = fails-only path old (after_create path old) new
    (create-only path old) fails
fails_fill-only path bytes old new (FailsFill.after_part n le e) =
    equal-only path old (after_pieces path (take n bytes) old) new (pieces-only path (take n bytes) old) e

pub fails_write-only : (folder path : Text) (bytes : List ℕ) (old new : State) → FailsWrite folder path bytes old new
    → ChangesOnly path old new
fails_write-only folder path bytes old new (FailsWrite.in_make_dir fails) =
    fails_make_dir-only path folder old new fails
fails_write-only folder path bytes old new (FailsWrite.in_fill fails) =
    then-only path old (after_make_dir folder old) new (make_dir-only path folder old)
    (fails_fill-only path bytes (after_make_dir folder old) new fails)

-- An append to a file that is written: a first part of its piece is there.
pub pieces-fail : (path : Text) (bytes piece : List ℕ) (s new : State)
    → FailsAppend path piece (after_pieces path bytes s) new
    → (n : ℕ) × (n ≤ length piece) × (new ≡ after_pieces path (bytes ++ take n piece) s)
unfolding after_pieces after_append
pieces-fail path bytes piece s new (n, le, fails) = of fails.present
  where
    stays : (q : Text) → new.may q ≡ put s.may path None q
    stays q = fails.stays q (ap (λ (m : Text → Possible). m q) (put-put s.may path None None))

    state : (part : List ℕ) → new.present ≡ put s.present path (Some (bytes ++ part))
        → new ≡ record s { present = put s.present path (Some (bytes ++ part)); may = put s.may path None }
    state part e = let b = fun_ext stays in λ i. record { present = e i; may = b i; made = fails.made i }

    of : (new.present ≡ put s.present path (Some bytes))
        ⊎ (new.present ≡ put (put s.present path (Some bytes)) path
        (with_piece (take n piece) (put s.present path (Some bytes) path)))
        → (n : ℕ) × (n ≤ length piece)
        × (new ≡ record s {
          present = put s.present path (Some (bytes ++ take n piece));
          may = put s.may path None;
        })
    of (inl e) = (0, omega arith, state [] (e ∙ ap (λ t. put s.present path (Some t)) (sym (append-nil bytes))))
    of (inr e) = (
      n,
      le,
      state (take n piece)
          (e ∙ ap (λ c. put (put s.present path (Some bytes)) path (with_piece (take n piece) c))
          (put-same s.present path (Some bytes))
          ∙ put-put s.present path (Some bytes) (Some (bytes ++ take n piece))),
    )

-- Calls that change no file.
pub make_dir-present : (folder : Text) (s : State) → (after_make_dir folder s).present ≡ s.present
unfolding after_make_dir
make_dir-present folder s = refl

pub sync_file-present : (path : Text) (s : State) → (after_sync_file path s).present ≡ s.present
unfolding after_sync_file
sync_file-present path s = refl

pub sync_dir-present : (folder : Text) (s : State) → (after_sync_dir folder s).present ≡ s.present
unfolding after_sync_dir
sync_dir-present folder s = refl
