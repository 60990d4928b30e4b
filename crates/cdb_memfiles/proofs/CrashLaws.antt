-- The table of what a crash may leave follows the states, call by call.
use Rattle.std.proofs.Common.{◌≡◌, ◌≢◌, ◌<◌, length, arith, ℕ, ◌⊎◌, inl, inr, Bool, true, false, cond, List, [], ◌∷◌, ◌++◌, Option, None, Some, refl, sym, ap, ◌∙◌, subst}
use Rattle.std.specs.Str.{bytes_eq}
use Rattle.cdb_model.specs.Maps.{Text, Content, FileMap, put, folder_above}
use Rattle.cdb_model.proofs.MapLaws.{put-same, put-other, same_text}
use Rattle.cdb_files.specs.Disk.{State, empty_disk, Possible, Allows, IsImage, with_piece, settled, after_sync, added, after_create, after_append, after_sync_file, after_sync_dir, after_rename, after_remove, after_make_dir}
use Rattle.cdb_memfiles.specs.Crash.{picked, half, first_possible, torn_possible, IsPicked, or_else, only_made, IsSettled}
use Rattle.cdb_memfiles.specs.inside.Crash.{restored_map}
use Rattle.cdb_memfiles.specs.History.{after_restore, apply, replay}
use Rattle.cdb_memfiles.specs.declared.call.Call.{Call}
use Rattle.cdb_memfiles.specs.declared.call.Call.TheVariants.{MakeDir, Create, Append, SyncFile, SyncDir, Rename, Remove, Restore}
use Rattle.arrayvec.specs.ArrayString.{ArrayString}
use Rattle.cdb_memfiles.specs.Standing.{Shown, ShowsFiles, ShowsAt, BeginsWithContent, never_named, synced_first, kept_shown, kept_in, picked_shown}
use Rattle.cdb_memfiles.specs.declared.pick.Pick.{Pick}
use Rattle.cdb_memfiles.specs.declared.pick.Pick.TheVariants.{Newest, Oldest, Torn}
use Rattle.std.proofs.Common.{⊎_elim}

-- ---- one path
put-shows : (t : Text → Shown) (present : FileMap) (may : Text → Possible) (p : Text) (x : Shown) (v : Content)
    (y : Possible) (q : Text)
    → (q ≢ p → ShowsAt (t q) (present q) (may q)) → (q ≡ p → ShowsAt x v y)
    → ShowsAt (put t p x q) (put present p v q) (put may p y q)
put-shows t present may p x v y q other here = cases (same_text q p)
  where
    cases : (q ≡ p) ⊎ (q ≢ p) → ShowsAt (put t p x q) (put present p v q) (put may p y q)
    cases (inl e) =
        let shows = here e in
        let a : put t p x q ≡ x = ap (put t p x) e ∙ put-same t p x in
        let b : put present p v q ≡ v = ap (put present p v) e ∙ put-same present p v in
        let c : put may p y q ≡ y = ap (put may p y) e ∙ put-same may p y in (
          ap (λ z. z.0) a ∙ shows.0 ∙ sym b,
          let P : Possible → Type 0 = λ z. BeginsWithContent (put t p x q).1 z in subst P (sym c)
              (let Q : Shown → Type 0 = λ z. BeginsWithContent z.1 y in subst Q (sym a) shows.1),
        )
    cases (inr ne) =
        let shows = other ne in
        let a = put-other t p x q ne in let b = put-other present p v q ne in let c = put-other may p y q ne in (
          ap (λ z. z.0) a ∙ shows.0 ∙ sym b,
          let P : Possible → Type 0 = λ z. BeginsWithContent (put t p x q).1 z in subst P (sym c)
              (let Q : Shown → Type 0 = λ z. BeginsWithContent z.1 (may q) in subst Q (sym a) shows.1),
        )

begins-added : (f : Option Content) (v : Content) (y : Possible) → BeginsWithContent f y
    → BeginsWithContent f (added v y)
begins-added None v y e = ap (added v) e
begins-added (Some w) v y (rest, e) = (rest ++ v ∷ [], ap (added v) e)

begins-settled : (f : Option Content) (now : Content) (y : Possible) → BeginsWithContent f y
    → BeginsWithContent (synced_first f) (settled now y)
begins-settled None now y e = (now ∷ [], ap (settled now) e)
begins-settled (Some w) now y (rest, e) = (rest, ap (settled now) e)

kept-shows : (n : Content) (f : Option Content) (v : Content) (y : Possible) → n ≡ v → BeginsWithContent f y
    → ShowsAt (kept_shown n f) v (after_sync v y)
kept-shows None None v y same e = let P : Content → Type 0 = λ w. ShowsAt never_named w (after_sync w y) in
    subst P same (refl, ([], ap (after_sync None) e))
kept-shows (Some bytes) None v y same e = let P : Content
    → Type 0 = λ w. ShowsAt (Some bytes, None) w (after_sync w y) in subst P same (refl, ap (after_sync (Some bytes)) e)
kept-shows None (Some w) v y same (rest, e) = let P : Content
    → Type 0 = λ u. ShowsAt (None, Some None) u (after_sync u y) in subst P same (refl, ([], ap (after_sync None) e))
kept-shows (Some bytes) (Some w) v y same (rest, e) =
    let P : Content → Type 0 = λ u. ShowsAt (Some bytes, Some (Some bytes)) u (after_sync u y) in
    subst P same (refl, ([], ap (after_sync (Some bytes)) e))

-- ---- each call
pub shows-create : (t : Text → Shown) (s : State) (p : Text) → ShowsFiles t s
    → ShowsFiles (put t p (Some [], None)) (after_create p s)
unfolding after_create
shows-create t s p h q = put-shows t s.present s.may p (Some [], None) (Some []) None q (λ ne. h q) (λ e. (refl, refl))

pub shows-append : (t : Text → Shown) (s : State) (p : Text) (piece : List ℕ) → ShowsFiles t s
    → ShowsFiles (put t p (with_piece piece (t p).0, None)) (after_append p piece s)
unfolding after_append
shows-append t s p piece h q =
    put-shows t s.present s.may p (with_piece piece (t p).0, None) (with_piece piece (s.present p)) None q (λ ne. h q)
    (λ e. (ap (with_piece piece) (h p).0, refl))

pub shows-sync_file : (t : Text → Shown) (s : State) (p : Text) → ShowsFiles t s
    → ShowsFiles (put t p ((t p).0, synced_first (t p).1)) (after_sync_file p s)
unfolding after_sync_file
shows-sync_file t s p h q =
    let x : Shown = ((t p).0, synced_first (t p).1) in let y = settled (s.present p) (s.may p) in
    let shows = put-shows t s.present s.may p x (s.present p) y q (λ ne. h q)
    (λ e. ((h p).0, begins-settled (t p).1 (s.present p) (s.may p) (h p).1)) in
    (shows.0 ∙ itself (same_text q p), shows.1)
  where
    itself : (q ≡ p) ⊎ (q ≢ p) → put s.present p (s.present p) q ≡ s.present q
    itself (inl e) = ap (put s.present p (s.present p)) e ∙ put-same s.present p (s.present p) ∙ ap s.present (sym e)
    itself (inr ne) = put-other s.present p (s.present p) q ne

pub shows-remove : (t : Text → Shown) (s : State) (p : Text) → ShowsFiles t s
    → ShowsFiles (put t p (None, (t p).1)) (after_remove p s)
unfolding after_remove
shows-remove t s p h q =
    put-shows t s.present s.may p (None, (t p).1) None (added None (s.may p)) q (λ ne. h q)
    (λ e. (refl, begins-added (t p).1 None (s.may p) (h p).1))

pub shows-rename : (t : Text → Shown) (s : State) (from to : Text) → ShowsFiles t s
    → ShowsFiles (put (put t to ((t from).0, (put t from never_named to).1)) from never_named) (after_rename from to s)
unfolding after_rename
shows-rename t s from to h q =
    let v = s.present from in
    put-shows (put t to ((t from).0, (put t from never_named to).1)) (put s.present to v)
    (put s.may to (added v (s.may to))) from never_named None (Some (None ∷ v ∷ [])) q
    (λ ne. put-shows t s.present s.may to ((t from).0, (put t from never_named to).1) v (added v (s.may to))
    q (λ apart. h q)
    (λ e. (
      (h from).0,
      let P : Shown → Type 0 = λ x. BeginsWithContent x.1 (added v (s.may to)) in
          subst P (sym (put-other t from never_named to (λ same. ne (e ∙ same))))
          (begins-added (t to).1 v (s.may to) (h to).1),
    )))
    (λ e. (refl, (v ∷ [], refl)))

pub shows-sync_dir : (t new : Text → Shown) (s : State) (folder : Text) → ((q : Text) → new q ≡ kept_in folder q (t q))
    → ShowsFiles t s → ShowsFiles new (after_sync_dir folder s)
unfolding after_sync_dir
shows-sync_dir t new s folder is h q =
    let P : Shown
    → Type 0 =
    λ x. ShowsAt x (s.present q)
    (cond (bytes_eq (folder_above q) folder) (after_sync (s.present q) (s.may q)) (s.may q)) in
    subst P (sym (is q)) (cases (bytes_eq (folder_above q) folder))
  where
    cases : (b : Bool) → ShowsAt (cond b (kept_shown (t q).0 (t q).1) (t q)) (s.present q)
        (cond b (after_sync (s.present q) (s.may q)) (s.may q))
    cases true = kept-shows (t q).0 (t q).1 (s.present q) (s.may q) (h q).0 (h q).1
    cases false = h q

pub shows-make_dir : (t : Text → Shown) (s : State) (folder : Text) → ShowsFiles t s
    → ShowsFiles t (after_make_dir folder s)
unfolding after_make_dir
shows-make_dir t s folder h = h

pub shows-restore : (t : Text → Shown) (s : State) (p : Text) (bytes : List ℕ) → ShowsFiles t s
    → ShowsFiles (put t p (Some bytes, Some (Some bytes))) (after_restore p bytes s)
unfolding after_restore
shows-restore t s p bytes h q =
    put-shows t s.present s.may p (Some bytes, Some (Some bytes)) (Some bytes) (Some (Some bytes ∷ [])) q (λ ne. h q)
    (λ e. (refl, ([], refl)))

-- ---- the picks
pub picked-shown : (pick : Pick) (t : Text → Shown) (s : State) → ShowsFiles t s → (q : Text) → picked_shown pick (t q)
    ≡ picked pick s q
unfolding picked
picked-shown Newest t s h q = (h q).0
picked-shown Oldest t s h q = of (t q).0 (t q).1 (s.may q) (h q).1
  where
    of : (n : Content) (f : Option Content) (y : Possible) → BeginsWithContent f y → picked_shown Oldest (n, f)
        ≡ first_possible y
    of n None y e = ap first_possible (sym e)
    of n (Some v) y (rest, e) = ap first_possible (sym e)
picked-shown Torn t s h q = of (t q).0 (t q).1 (s.present q) (s.may q) (h q).0 (h q).1
  where
    of : (n : Content) (f : Option Content) (v : Content) (y : Possible) → n ≡ v → BeginsWithContent f y
        → picked_shown Torn (n, f) ≡ torn_possible v y
    of n None v y same e = ap half same ∙ ap (torn_possible v) (sym e)
    of n (Some w) v y same (rest, e) = same ∙ ap (torn_possible v) (sym e)

-- What is picked is an image.
pub picked-image : (pick : Pick) (s : State) → IsImage s s.present → IsImage s (picked pick s)
unfolding picked
picked-image Newest s h q = h q
picked-image Oldest s h q = of (s.may q) (h q)
  where
    of : (y : Possible) → Allows y (s.present q) → Allows y (first_possible y)
    of None a = tt
    of (Some []) a = a
    of (Some (v ∷ rest)) a = inl refl
picked-image Torn s h q = of (s.may q) (h q)
  where
    of : (y : Possible) → Allows y (s.present q) → Allows y (torn_possible (s.present q) y)
    of None a = tt
    of (Some list) a = a

-- ---- a disk that has what was picked
pub nothing-picked : (pick : Pick) → picked_shown pick never_named ≡ None
nothing-picked Newest = refl
nothing-picked Oldest = refl
nothing-picked Torn = refl

pub shows-empty : (t : Text → Shown) → ((q : Text) → t q ≡ never_named) → ShowsFiles t empty_disk
shows-empty t empty q = let P : Shown → Type 0 = λ x. ShowsAt x None (Some (None ∷ [])) in
    subst P (sym (empty q)) (refl, ([], refl))

-- One path is taken out of the table, and restored where something was picked for it.
pub picked-step : (pick : Pick) (goal present later : FileMap) (t : Text → Shown) (p : Text) (w : Content)
    → picked_shown pick (t p) ≡ w
    → later ≡ restored_map p w present → IsPicked goal (λ q. picked_shown pick (t q)) present
    → IsPicked goal (λ q. picked_shown pick (put t p never_named q)) later
picked-step pick goal present later t p w is now picks q = cases (same_text q p)
  where
    rest : q ≡ p → picked_shown pick (put t p never_named q) ≡ None
    rest e = ap (picked_shown pick) (ap (put t p never_named) e ∙ put-same t p never_named) ∙ nothing-picked pick

    here : (v : Content) → restored_map p v present p ≡ or_else v (present p)
    here None = refl
    here (Some bytes) = put-same present p (Some bytes)

    apart : (v : Content) → q ≢ p → restored_map p v present q ≡ present q
    apart None ne = refl
    apart (Some bytes) ne = put-other present p (Some bytes) q ne

    at_p : (v : Content) → v ≡ w → ((v ≡ goal p) × (present p ≡ None)) ⊎ ((v ≡ None) × (present p ≡ goal p))
        → or_else w (present p) ≡ goal p
    at_p None e (inl (a, b)) = ap (λ u. or_else u (present p)) (sym e) ∙ b ∙ a
    at_p (Some bytes) e (inl (a, b)) = ap (λ u. or_else u (present p)) (sym e) ∙ a
    at_p v e (inr (a, b)) = ap (λ u. or_else u (present p)) (sym e ∙ a) ∙ b

    cases : (q ≡ p) ⊎ (q ≢ p) → ((picked_shown pick (put t p never_named q) ≡ goal q) × (later q ≡ None))
        ⊎ ((picked_shown pick (put t p never_named q) ≡ None) × (later q ≡ goal q))
    cases (inl e) = inr (
      rest e,
      ap later e ∙ ap (λ m. m p) now ∙ here w ∙ at_p (picked_shown pick (t p)) is (picks p) ∙ ap goal (sym e),
    )
    cases (inr ne) =
        let same : picked_shown pick (put t p never_named q) ≡ picked_shown pick (t q) =
        ap (picked_shown pick) (put-other t p never_named q ne) in
        let still : later q ≡ present q = ap (λ m. m q) now ∙ apart w ne in
        ⊎_elim (λ (h : (picked_shown pick (t q) ≡ goal q) × (present q ≡ None)). inl (same ∙ h.0, still ∙ h.1))
        (λ (h : (picked_shown pick (t q) ≡ None) × (present q ≡ goal q)). inr (same ∙ h.0, still ∙ h.1)) (picks q)

-- With an empty table each path has what was picked for it.
pub picked-end : (pick : Pick) (goal present : FileMap) (t : Text → Shown) → ((q : Text) → t q ≡ never_named)
    → IsPicked goal (λ q. picked_shown pick (t q)) present
    → (q : Text) → present q ≡ goal q
picked-end pick goal present t empty picks q = of (picks q)
  where
    none : picked_shown pick (t q) ≡ None
    none = ap (picked_shown pick) (empty q) ∙ nothing-picked pick

    of : ((picked_shown pick (t q) ≡ goal q) × (present q ≡ None))
        ⊎ ((picked_shown pick (t q) ≡ None) × (present q ≡ goal q)) → present q ≡ goal q
    of (inl h) = h.1 ∙ sym none ∙ h.0
    of (inr h) = h.1

-- ---- the calls
pub shows-call : (new t : Text → Shown) (s : State) (call same : Call) → call ≡ same → new ≡ t
    → ShowsFiles t (apply same s) → ShowsFiles new (apply call s)
shows-call new t s call same e f h =
    let P : Call → Type 0 = λ x. ShowsFiles new (apply x s) in
    subst P (sym e) (let Q : (Text → Shown) → Type 0 = λ u. ShowsFiles u (apply same s) in subst Q (sym f) h)

-- Only `make_dir` makes folders.
pub made-make_dir : (folder : Text) (s : State) → after_make_dir folder (only_made s)
    ≡ only_made (after_make_dir folder s)
unfolding after_make_dir
made-make_dir folder s = refl

pub made-other : (call : Call) (s : State) → ((folder : ArrayString) → call ≢ MakeDir folder)
    → only_made s ≡ only_made (apply call s)
unfolding after_create after_append after_sync_file after_sync_dir after_rename after_remove after_restore
made-other (MakeDir folder) s other = absurd (other folder refl)
made-other (Create path) s other = refl
made-other (Append path piece) s other = refl
made-other (SyncFile path) s other = refl
made-other (SyncDir folder) s other = refl
made-other (Rename from to) s other = refl
made-other (Remove path) s other = refl
made-other (Restore path bytes) s other = refl

pub present-restore : (p : Text) (bytes : List ℕ) (s : State) → (after_restore p bytes s).present
    ≡ put s.present p (Some bytes)
unfolding after_restore
present-restore p bytes s = refl

pub made-restore : (p : Text) (bytes : List ℕ) (s : State) → (after_restore p bytes s).made ≡ s.made
unfolding after_restore
made-restore p bytes s = refl

pub settled-restore : (p : Text) (bytes : List ℕ) (s : State) → IsSettled s → IsSettled (after_restore p bytes s)
unfolding after_restore
settled-restore p bytes s h q = cases (same_text q p)
  where
    cases : (q ≡ p) ⊎ (q ≢ p) → put s.may p (Some (Some bytes ∷ [])) q ≡ Some (put s.present p (Some bytes) q ∷ [])
    cases (inl e) = let P : Text → Type 0 = λ t. put s.may p (Some (Some bytes ∷ [])) t
        ≡ Some (put s.present p (Some bytes) t ∷ []) in
        subst P (sym e) (put-same s.may p (Some (Some bytes ∷ []))
        ∙ ap (λ v. Some (v ∷ [])) (sym (put-same s.present p (Some bytes))))
    cases (inr ne) = put-other s.may p (Some (Some bytes ∷ [])) q ne ∙ h q
        ∙ ap (λ v. Some (v ∷ [])) (sym (put-other s.present p (Some bytes) q ne))

pub replay-empty : (calls : List Call) → calls ≡ [] → replay calls ≡ empty_disk
unfolding replay
replay-empty calls e = ap replay e

pub nil_from : {X : Type 0} (xs : List X) → (0 < length xs → ⊥) → xs ≡ []
nil_from [] none = refl
nil_from (x ∷ xs) none = absurd (none (omega arith))
