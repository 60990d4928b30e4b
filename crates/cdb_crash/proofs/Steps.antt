-- The steps of a publication before the head: from one middle to the next.
use Rattle.std.proofs.Common.{◌≡◌, ◌≢◌, ℕ, ◌+◌, ◌≤◌, ◌||◌, Bool, true, false, ◌⊎◌, inl, inr, List, [], ◌∷◌, length, None, Some, IsTrue, refl, sym, ap, ◌∙◌, subst, arith}
use Rattle.std.proofs.lemmas.Bool.{true≢false}
use Rattle.std.specs.Str.{bytes_eq}
use Rattle.cdb_model.specs.Maps.{Text, Content, FileMap, IsThere, put, folder_above}
use Rattle.cdb_model.specs.Names.{new_head_path}
use Rattle.cdb_model.proofs.MapLaws.{put-same, put-other, same_text, put-at}
use Rattle.cdb_files.specs.Disk.{State, Possible, IsImage, Allows, after_sync_dir, after_make_dir}
use Rattle.cdb_files.specs.Whole.{after_fill, after_write}
use Rattle.cdb_files.proofs.StateLaws.{sync_dir-present}
use Rattle.cdb_crash.specs.Leftovers.{IsOfVersion, HasAtMost}
use Rattle.cdb_crash.specs.Crash.{MayLast, with_folder, IsWhole, IsMid, HasRoom, IsReadyForHead}
use Rattle.cdb_crash.proofs.Facts.{IsLayout}
use Rattle.cdb_crash.proofs.Paths.{not_head, not_new_head, at_most-wider, at_most-with}
use Rattle.cdb_crash.proofs.Possible.{sync_dir-allowed, sync_dir-image, sync_dir-kept, kept-settled, two_files}
use Rattle.cdb_crash.proofs.Law.{stands_but}

-- ---- a file that was written and synced
pub write-present : (folder path : Text) (bytes : List ℕ) (s : State) → (after_write folder path bytes s).present
    ≡ put s.present path (Some bytes)
unfolding after_write after_fill after_make_dir
write-present folder path bytes s = refl

pub write-may : (folder path : Text) (bytes : List ℕ) (s : State) → (after_write folder path bytes s).may
    ≡ put s.may path (Some (None ∷ Some bytes ∷ []))
unfolding after_write after_fill after_make_dir
write-may folder path bytes s = refl

pub write-other : (folder path : Text) (bytes : List ℕ) (s : State) (q : Text) → q ≢ path → (v : Content)
    → Allows ((after_write folder path bytes s).may q) v → Allows (s.may q) v
write-other folder path bytes s q ne v a =
    let P : Possible → Type 0 = λ p. Allows p v in
    subst P (ap (λ m. m q) (write-may folder path bytes s) ∙ put-other s.may path (Some (None ∷ Some bytes ∷ [])) q ne)
    a

pub write-at : (folder path : Text) (bytes : List ℕ) (s : State) (q : Text) → q ≡ path → (v : Content)
    → Allows ((after_write folder path bytes s).may q) v → (v ≡ None) ⊎ (v ≡ Some bytes)
write-at folder path bytes s q e v a =
    let P : Possible → Type 0 = λ p. Allows p v in
    of (subst P (ap (λ t. (after_write folder path bytes s).may t) e ∙ ap (λ m. m path) (write-may folder path bytes s)
    ∙ put-same s.may path (Some (None ∷ Some bytes ∷ []))) a)
  where
    of : (v ≡ None) ⊎ ((v ≡ Some bytes) ⊎ ⊥) → (v ≡ None) ⊎ (v ≡ Some bytes)
    of (inl g) = inl g
    of (inr (inl g)) = inr g
    of (inr (inr g)) = absurd g

module _ {X : Type 0} (Stands : FileMap → List X → Type 0) (Complete : List X → X → FileMap → Type 0)
    (head_text : ℕ → List ℕ) (layout : IsLayout Stands Complete head_text) where
  pub mid_room : (P : List X) (files : FileMap) (synced : Text → Bool) (s : State) (path : Text)
      → IsMid Stands P files synced s
      → HasAtMost 65535 (length P + 1) files → HasRoom Stands P path s
  mid_room P files synced s path mid few = record {
    stands = mid.whole.stands;
    few = at_most-wider (65535 + 1) 65536 _ _ (omega arith) (λ q w. w)
        (at_most-with 65535 (λ q. IsOfVersion (length P + 1) q × IsThere (files q))
        (λ q. IsOfVersion (length P + 1) q × (MayLast s q ⊎ (q ≡ path))) path
        (λ q w. of q (w.0) (w.1)) few);
  }
    where
      of : (q : Text) → IsOfVersion (length P + 1) q → MayLast s q ⊎ (q ≡ path)
          → (IsOfVersion (length P + 1) q × IsThere (files q)) ⊎ (q ≡ path)
      of q under (inr e) = inr e
      of q under (inl (v, allowed, there)) = inl ((under, there_of (mid.each q under v allowed)))
        where
          there_of : (v ≡ None) ⊎ (v ≡ files q) → IsThere (files q)
          there_of (inl e) = let T : Content → Type 0 = IsThere in absurd (subst T e there)
          there_of (inr e) = let T : Content → Type 0 = IsThere in subst T e there

  -- A file that is written and synced in a folder that wasn't synced.
  pub write_step : (P : List X) (files : FileMap) (synced : Text → Bool) (s : State) (folder path : Text)
      (bytes : List ℕ) → IsImage s s.present
      → IsMid Stands P files synced s → HasAtMost 65535 (length P + 1) files → IsOfVersion (length P + 1) path
      → synced (folder_above path) ≡ false
      → IsMid Stands P (put files path (Some bytes)) synced (after_write folder path bytes s)
  write_step P files synced s folder path bytes here mid few under fresh = record {
    whole = record {
      clear = record { gone = λ k le q of_k gone v a. clear k le q of_k gone v a (same_text q path) };
      stands = λ m image. stands_but Stands Complete head_text layout P s path here
          (mid_room P files synced s path mid few) (inr under) m
          (λ q ne. write-other folder path bytes s q ne (m q) (image q));
    };
    present = λ q of_next. present q of_next (same_text q path);
    each = λ q of_next v a. each q of_next v a (same_text q path);
    kept = λ q of_next was v a. kept q of_next was v a (same_text q path);
  }
    where
      new : State
      new = after_write folder path bytes s

      at : (q : Text) → (after_write folder path bytes s).present q ≡ put s.present path (Some bytes) q
      at q = ap (λ m. m q) (write-present folder path bytes s)

      clear : (k : ℕ) → k ≤ 4097 → (q : Text) → IsOfVersion k q → (after_write folder path bytes s).present q ≡ None
          → (v : Content)
          → Allows ((after_write folder path bytes s).may q) v → (q ≡ path) ⊎ (q ≢ path) → v ≡ None
      clear k le q of_k gone v a (inl e) = let T : Content → Type 0 = IsThere in
          absurd (subst T (sym (put-at s.present path (Some bytes) q e) ∙ sym (at q) ∙ gone) tt)
      clear k le q of_k gone v a (inr ne) =
          mid.whole.clear.gone k le q of_k (sym (put-other s.present path (Some bytes) q ne) ∙ sym (at q) ∙ gone) v
          (write-other folder path bytes s q ne v a)

      present : (q : Text) → IsOfVersion (length P + 1) q → (q ≡ path) ⊎ (q ≢ path)
          → (after_write folder path bytes s).present q ≡ put files path (Some bytes) q
      present q of_next (inl e) = at q ∙ put-at s.present path (Some bytes) q e
          ∙ sym (put-at files path (Some bytes) q e)
      present q of_next (inr ne) = at q ∙ put-other s.present path (Some bytes) q ne ∙ mid.present q of_next
          ∙ sym (put-other files path (Some bytes) q ne)

      each : (q : Text) → IsOfVersion (length P + 1) q → (v : Content)
          → Allows ((after_write folder path bytes s).may q) v → (q ≡ path) ⊎ (q ≢ path)
          → (v ≡ None) ⊎ (v ≡ put files path (Some bytes) q)
      each q of_next v a (inl e) = of (write-at folder path bytes s q e v a)
        where
          of : (v ≡ None) ⊎ (v ≡ Some bytes) → (v ≡ None) ⊎ (v ≡ put files path (Some bytes) q)
          of (inl g) = inl g
          of (inr g) = inr (g ∙ sym (put-at files path (Some bytes) q e))
      each q of_next v a (inr ne) = of (mid.each q of_next v (write-other folder path bytes s q ne v a))
        where
          of : (v ≡ None) ⊎ (v ≡ files q) → (v ≡ None) ⊎ (v ≡ put files path (Some bytes) q)
          of (inl g) = inl g
          of (inr g) = inr (g ∙ sym (put-other files path (Some bytes) q ne))

      kept : (q : Text) → IsOfVersion (length P + 1) q → IsTrue (synced (folder_above q)) → (v : Content)
          → Allows ((after_write folder path bytes s).may q) v
          → (q ≡ path) ⊎ (q ≢ path) → v ≡ put files path (Some bytes) q
      kept q of_next was v a (inl e) = absurd (true≢false (sym was ∙ ap (λ t. synced (folder_above t)) e ∙ fresh))
      kept q of_next was v a (inr ne) = mid.kept q of_next was v (write-other folder path bytes s q ne v a)
          ∙ sym (put-other files path (Some bytes) q ne)

  -- Any sync of a folder keeps a disk whole.
  pub whole_synced : (P : List X) (s : State) (folder : Text) → IsImage s s.present → IsWhole Stands P s
      → IsWhole Stands P (after_sync_dir folder s)
  whole_synced P s folder here whole = record {
    clear = record {
      gone = λ k le q of_k gone v a. whole.clear.gone k le q of_k
          (sym (ap (λ m. m q) (sync_dir-present folder s)) ∙ gone) v (sync_dir-allowed folder s here q v a);
    };
    stands = λ m image. whole.stands m (sync_dir-image folder s here m image);
  }

  pub folder_step : (P : List X) (files : FileMap) (synced : Text → Bool) (s : State) (folder : Text)
      → IsImage s s.present
      → IsMid Stands P files synced s → IsMid Stands P files (with_folder synced folder) (after_sync_dir folder s)
  folder_step P files synced s folder here mid = record {
    whole = whole_synced P s folder here mid.whole;
    present = λ q of_next. ap (λ m. m q) (sync_dir-present folder s) ∙ mid.present q of_next;
    each = λ q of_next v a. mid.each q of_next v (sync_dir-allowed folder s here q v a);
    kept = λ q of_next was v a. kept q of_next v a (synced (folder_above q))
        (bytes_eq (folder_above q) folder) refl refl was;
  }
    where
      kept : (q : Text) → IsOfVersion (length P + 1) q → (v : Content) → Allows ((after_sync_dir folder s).may q) v
          → (a b : Bool) → synced (folder_above q) ≡ a → bytes_eq (folder_above q) folder ≡ b
          → IsTrue (a || b) → v ≡ files q
      kept q of_next v may true b e g either = mid.kept q of_next e v (sync_dir-allowed folder s here q v may)
      kept q of_next v may false false e g either = absurd (true≢false (sym either))
      kept q of_next v may false true e g either =
          let P : Possible → Type 0 = λ p. Allows p v in
          kept-settled (s.present q) (s.may q) (λ free. two_files (s.may q) (files q) free (mid.each q of_next)) v
          (subst P (sync_dir-kept folder s q g) may)
          ∙ mid.present q of_next

  -- All files are there and all their folders are synced: what is left is the head.
  pub ready_step : (P : List X) (x : X) (files : FileMap) (synced : Text → Bool) (s : State) → IsImage s s.present
      → IsMid Stands P files synced s → HasAtMost 65535 (length P + 1) files
      → ((q : Text) → IsOfVersion (length P + 1) q → IsThere (files q) → IsTrue (synced (folder_above q)))
      → ((m : FileMap) → ((q : Text) → IsOfVersion (length P + 1) q → m q ≡ files q) → Complete P x m)
      → IsReadyForHead Stands Complete P x s
  ready_step P x files synced s here mid few all complete = record {
    clear = mid.whole.clear;
    room = mid_room P files synced s new_head_path mid few;
    complete = λ m n image same. complete n (λ q under.
        same q (not_head (length P + 1) q under) (not_new_head (length P + 1) q under)
        ∙ has q under (m q) (image q) (files q) refl);
  }
    where
      has : (q : Text) → IsOfVersion (length P + 1) q → (v : Content) → Allows (s.may q) v → (c : Content)
          → files q ≡ c → v ≡ files q
      has q under v a None e = of (mid.each q under v a)
        where
          of : (v ≡ None) ⊎ (v ≡ files q) → v ≡ files q
          of (inl g) = g ∙ sym e
          of (inr g) = g
      has q under v a (Some bytes) e = let T : Content → Type 0 = IsThere in
          mid.kept q under (all q under (subst T (sym e) tt)) v a
