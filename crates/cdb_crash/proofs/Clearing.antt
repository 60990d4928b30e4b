-- Recovery: the files of the version after the newest go one by one.
use Rattle.std.proofs.Common.{◌≡◌, ◌≢◌, ℕ, ◌+◌, ◌-◌, ◌≤◌, ◌⊎◌, inl, inr, List, length, None, refl, sym, ap, ◌∙◌, subst, arith}
use Rattle.cdb_model.specs.Maps.{Text, Content, FileMap, IsThere, folder_above, NoneUnder}
use Rattle.cdb_model.specs.Names.{version_folder, new_head_path}
use Rattle.cdb_model.proofs.MapLaws.{put-same, put-other, same_text, bytes_eq-same}
use Rattle.cdb_files.specs.Disk.{State, Possible, IsImage, Allows, added, after_remove, after_sync_dir}
use Rattle.cdb_files.proofs.StateLaws.{sync_dir-present}
use Rattle.cdb_crash.specs.Leftovers.{IsOfVersion}
use Rattle.cdb_crash.specs.Crash.{IsWhole, IsClean, IsClearing, HasRoom}
use Rattle.cdb_crash.proofs.Facts.{IsLayout}
use Rattle.cdb_crash.proofs.Paths.{not_new_head, at_most-wider, one_less}
use Rattle.cdb_crash.proofs.Possible.{sync_dir-allowed, sync_dir-kept, kept-none, added-new}
use Rattle.cdb_crash.proofs.Law.{stands_but, clear_room, whole_room}

-- ---- a removed file
pub removed-at : (path : Text) (s : State) → (after_remove path s).present path ≡ None
unfolding after_remove
removed-at path s = put-same s.present path None

pub removed-present : (path : Text) (s : State) (q : Text) → q ≢ path → (after_remove path s).present q ≡ s.present q
unfolding after_remove
removed-present path s q ne = put-other s.present path None q ne

pub removed-may : (path : Text) (s : State) (q : Text) → q ≢ path → (after_remove path s).may q ≡ s.may q
unfolding after_remove
removed-may path s q ne = put-other s.may path (added None (s.may path)) q ne

pub removed-may_at : (path : Text) (s : State) → (after_remove path s).may path ≡ added None (s.may path)
unfolding after_remove
removed-may_at path s = put-same s.may path (added None (s.may path))

pub removed-allowed : (path : Text) (s : State) (q : Text) → q ≢ path → (v : Content)
    → Allows ((after_remove path s).may q) v → Allows (s.may q) v
removed-allowed path s q ne v a = let P : Possible → Type 0 = λ p. Allows p v in subst P (removed-may path s q ne) a

pub removed-here : (path : Text) (s : State) → IsImage s s.present
    → IsImage (after_remove path s) (after_remove path s).present
removed-here path s here q = of (same_text q path)
  where
    of : (q ≡ path) ⊎ (q ≢ path) → Allows ((after_remove path s).may q) ((after_remove path s).present q)
    of (inl e) = let P : Text → Type 0 = λ t. Allows ((after_remove path s).may t) ((after_remove path s).present t) in
        let A : Possible → Type 0 = λ p. Allows p ((after_remove path s).present path) in
        let B : Content → Type 0 = Allows (added None (s.may path)) in
        subst P (sym e)
        (subst A (sym (removed-may_at path s)) (subst B (sym (removed-at path s)) (added-new None (s.may path))))
    of (inr ne) = let A : Possible → Type 0 = λ p. Allows p ((after_remove path s).present q) in
        let B : Content → Type 0 = Allows (s.may q) in
        subst A (sym (removed-may path s q ne)) (subst B (sym (removed-present path s q ne)) (here q))

pub removed_kept-at : (path : Text) (s : State) (v : Content)
    → Allows ((after_sync_dir (folder_above path) (after_remove path s)).may path) v → v ≡ None
removed_kept-at path s v a =
    let P : Possible → Type 0 = λ p. Allows p v in
    kept-none ((after_remove path s).present path) ((after_remove path s).may path) (removed-at path s) v
    (subst P (sync_dir-kept (folder_above path) (after_remove path s) path (bytes_eq-same (folder_above path))) a)

pub removed_kept-other : (path : Text) (s : State) → IsImage s s.present → (q : Text) → q ≢ path → (v : Content)
    → Allows ((after_sync_dir (folder_above path) (after_remove path s)).may q) v → Allows (s.may q) v
removed_kept-other path s here q ne v a =
    removed-allowed path s q ne v
    (sync_dir-allowed (folder_above path) (after_remove path s) (removed-here path s here) q v a)

module _ {X : Type 0} (Stands : FileMap → List X → Type 0) (Complete : List X → X → FileMap → Type 0)
    (head_text : ℕ → List ℕ) (layout : IsLayout Stands Complete head_text) where
  pub from_whole : (P : List X) (s : State) → IsImage s s.present → IsWhole Stands P s → IsClearing Stands P 65536 s
  from_whole P s here whole =
      record {
        clear = whole.clear;
        stands = whole.stands;
        few = layout.limit P s.present (whole.stands s.present here);
      }

  -- There is room for the removal of a file that is there.
  pub clearing_room : (P : List X) (count : ℕ) (s : State) (path : Text) → count ≤ 65536 → IsImage s s.present
      → IsClearing Stands P count s → IsThere (s.present path) → HasRoom Stands P path s
  clearing_room P count s path le here clearing there = clear_room Stands Complete head_text layout P s path
      (layout.count P s.present (clearing.stands s.present here)) clearing.clear clearing.stands
      (at_most-wider count 65536 (λ q. IsOfVersion (length P + 1) q × IsThere (s.present q)) _ le
      (λ q f. (f.0, of q (f.1))) clearing.few)
    where
      of : (q : Text) → IsThere (s.present q) ⊎ (q ≡ path) → IsThere (s.present q)
      of q (inl h) = h
      of q (inr e) = let P : Text → Type 0 = λ t. IsThere (s.present t) in subst P (sym e) there

  -- One file less.
  pub goes : (P : List X) (count : ℕ) (s : State) (path : Text) → count ≤ 65536 → IsImage s s.present
      → IsClearing Stands P count s
      → IsOfVersion (length P + 1) path → IsThere (s.present path)
      → IsClearing Stands P (count - 1) (after_sync_dir (folder_above path) (after_remove path s))
  goes P count s path le here clearing under there = record {
    clear = record { gone = λ k le q of_k gone v a. clear k le q of_k gone v a (same_text q path) };
    stands = λ m image. stands_but Stands Complete head_text layout P s path here
        (clearing_room P count s path le here clearing there) (inr under) m
        (λ q ne. removed_kept-other path s here q ne (m q) (image q));
    few = one_less count (λ q. IsOfVersion (length P + 1) q × IsThere (s.present q))
        (λ q. IsOfVersion (length P + 1) q
        × IsThere ((after_sync_dir (folder_above path) (after_remove path s)).present q)) path (under, there)
        (λ q f. fewer q (f.0) (f.1) (same_text q path)) clearing.few;
  }
    where
      at : (q : Text) → (after_sync_dir (folder_above path) (after_remove path s)).present q
          ≡ (after_remove path s).present q
      at q = ap (λ m. m q) (sync_dir-present (folder_above path) (after_remove path s))

      clear : (k : ℕ) → k ≤ 4097 → (q : Text) → IsOfVersion k q
          → (after_sync_dir (folder_above path) (after_remove path s)).present q ≡ None → (v : Content)
          → Allows ((after_sync_dir (folder_above path) (after_remove path s)).may q) v → (q ≡ path)
          ⊎ (q ≢ path) → v ≡ None
      clear k le q of_k gone v a (inl e) =
          let A : Text → Type 0 = λ t. Allows ((after_sync_dir (folder_above path) (after_remove path s)).may t) v in
          removed_kept-at path s v (subst A e a)
      clear k le q of_k gone v a (inr ne) =
          clearing.clear.gone k le q of_k (sym (at q ∙ removed-present path s q ne) ∙ gone) v
          (removed_kept-other path s here q ne v a)

      fewer : (q : Text) → IsOfVersion (length P + 1) q
          → IsThere ((after_sync_dir (folder_above path) (after_remove path s)).present q) → (q ≡ path) ⊎ (q ≢ path)
          → (IsOfVersion (length P + 1) q × IsThere (s.present q)) × (q ≢ path)
      fewer q of_next there_now (inl e) = let T : Content → Type 0 = IsThere in
          absurd (subst T (at q ∙ ap (λ t. (after_remove path s).present t) e ∙ removed-at path s) there_now)
      fewer q of_next there_now (inr ne) = let T : Content → Type 0 = IsThere in
          ((of_next, subst T (at q ∙ removed-present path s q ne) there_now), ne)

  -- None is left.
  pub at_last : (P : List X) (count : ℕ) (s : State) → IsClearing Stands P count s
      → NoneUnder s.present (version_folder (length P + 1)) → IsClean Stands P s
  at_last P count s clearing none = record {
    whole = record { clear = clearing.clear; stands = clearing.stands };
    none = λ m image q under. clearing.clear.gone (length P + 1) (let le = layout.count P m (clearing.stands m image) in
        omega (arith, le)) q under (none q under) (m q) (image q);
  }

  -- The new head goes, without a sync.
  pub whole_without_new_head : (P : List X) (s : State) → IsImage s s.present → IsWhole Stands P s
      → IsWhole Stands P (after_remove new_head_path s)
  whole_without_new_head P s here whole = record {
    clear = record {
      gone = λ k le q under gone v a. let ne = not_new_head k q under in
          whole.clear.gone k le q under (sym (removed-present new_head_path s q ne) ∙ gone) v
          (removed-allowed new_head_path s q ne v a);
    };
    stands = λ m image. stands_but Stands Complete head_text layout P s new_head_path here
        (whole_room Stands Complete head_text layout P s here whole) (inl refl) m
        (λ q ne. removed-allowed new_head_path s q ne (m q) (image q));
  }
