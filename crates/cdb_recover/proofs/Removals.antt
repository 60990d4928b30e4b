-- A removal with the sync of the file's folder, and how many files are left.
use Rattle.std.proofs.Common.{◌≡◌, ◌≢◌, ℕ, ◌+◌, ◌-◌, ◌≤◌, ◌⊎◌, inl, inr, None, IsTrue, refl, sym, ap, ◌∙◌, subst, arith}
use Rattle.std.specs.List.{Contains}
use Rattle.cdb_model.specs.Maps.{Text, Content, FileMap, IsThere, folder_above, is_under, NoneUnder}
use Rattle.cdb_model.specs.Stands.{AtMost}
use Rattle.cdb_model.proofs.MapLaws.{same_text}
use Rattle.cdb_files.specs.Disk.{State, IsImage, Fails, after_remove, after_sync_dir}
use Rattle.cdb_files.specs.Moments.{Elapses, AddsOnly, IsBetween}
use Rattle.cdb_files.specs.Whole.{WritesOnly, IsImageBut}
use Rattle.cdb_files.proofs.MomentLaws.{goes_on}
use Rattle.cdb_files.proofs.StateLaws.{image-but, sync_dir-present}
use Rattle.cdb_crash.specs.Recovery.{after_removal}
use Rattle.cdb_crash.proofs.Clearing.{removed-at, removed-present}
use Rattle.cdb_crash.proofs.Own as own
use Rattle.cdb_crash.proofs.Paths.{one_less, at_most-wider, at_most-with, at_most-none}
use Rattle.cdb_recover.specs.inside.Clearing.{IsLeftUnder, RemovesOne, RemovesUnder}

-- ---- the moments of a removal that is synced
module _ {D : Type 0} (clock : D → ℕ) (since : D → ℕ → FileMap → Type 0) (state : D → State) where
  pub then_synced : (path folder : Text) (a b c : D) → IsImage (state b) (state b).present
      → WritesOnly clock since state path a b
      → Elapses (clock b) (clock c) (since b) (since c) (IsBetween (state b) (after_sync_dir folder (state b)))
      → AddsOnly clock since a c (IsImageBut path (state a))
  then_synced path folder a b c here run sync = goes_on clock since a b c _ _ run.time sync
      (λ m between.
      image-but path (state a) (state b) run.only m
      ((own.folder_calls.sync_dir folder (state b) here).inside m between))

-- ---- the map after it
synced_present : (folder : Text) (s : State) (q : Text) → (after_sync_dir folder s).present q ≡ s.present q
synced_present folder s q = ap (λ (m : FileMap). m q) (sync_dir-present folder s)

pub removal-at : (path : Text) (s : State) → (after_removal path s).present path ≡ None
removal-at path s = synced_present (folder_above path) (after_remove path s) path ∙ removed-at path s

-- The file is removed, and no other path has changed.
pub removes : (path : Text) (s : State) → RemovesOne path s.present (after_remove path s).present
removes path s q = of (same_text q path)
  where
    of : (q ≡ path) ⊎ (q ≢ path)
        → ((after_remove path s).present q ≡ s.present q) ⊎ ((q ≡ path) × ((after_remove path s).present q ≡ None))
    of (inl e) = inr ((e, ap (λ (t : Text). (after_remove path s).present t) e ∙ removed-at path s))
    of (inr ne) = inl (removed-present path s q ne)

-- Where it fails, the file is removed or stays.
pub fails_removes : (path : Text) (s t : State) → Fails s (after_remove path s) t → RemovesOne path s.present t.present
fails_removes path s t fails = of fails.present
  where
    of : (t.present ≡ s.present) ⊎ (t.present ≡ (after_remove path s).present) → RemovesOne path s.present t.present
    of (inl e) = λ q. inl (ap (λ (m : FileMap). m q) e)
    of (inr e) = let R : FileMap → Type 0 = RemovesOne path s.present in subst R (sym e) (removes path s)

pub others_stay : (path : Text) (old new : FileMap) → RemovesOne path old new → (q : Text) → q ≢ path → new q ≡ old q
others_stay path old new removed q ne = of (removed q)
  where
    of : (new q ≡ old q) ⊎ ((q ≡ path) × (new q ≡ None)) → new q ≡ old q
    of (inl e) = e
    of (inr (same, gone)) = absurd (ne same)

-- The folders stay.
pub removal-made : (path : Text) (s : State) → (after_remove path s).made ≡ s.made
unfolding after_remove
removal-made path s = refl

pub sync_dir-made : (folder : Text) (s : State) → (after_sync_dir folder s).made ≡ s.made
unfolding after_sync_dir
sync_dir-made folder s = refl

-- ---- how many are removed
pub none_removed : (folder : Text) (m : FileMap) → RemovesUnder 0 folder m m
none_removed folder m = record { each = λ q. inl refl; few = at_most-none 0 (λ q. m q ≢ m q) (λ q ne. ne refl) }

pub one_more : (n : ℕ) (folder path : Text) (first old new : FileMap) → IsTrue (is_under folder path)
    → RemovesUnder n folder first old → RemovesOne path old new → RemovesUnder (n + 1) folder first new
one_more n folder path first old new under sofar removed = record {
  each = λ q. each q (removed q) (sofar.each q);
  few = at_most-with n (λ q. old q ≢ first q) (λ q. new q ≢ first q) path (λ q ne. few q ne (removed q)) sofar.few;
}
  where
    each : (q : Text) → (new q ≡ old q) ⊎ ((q ≡ path) × (new q ≡ None))
        → (old q ≡ first q) ⊎ (IsTrue (is_under folder q) × (old q ≡ None))
        → (new q ≡ first q) ⊎ (IsTrue (is_under folder q) × (new q ≡ None))
    each q (inl e) (inl before) = inl (e ∙ before)
    each q (inl e) (inr (is, gone)) = inr ((is, e ∙ gone))
    each q (inr (same, gone)) before =
        let U : Text → Type 0 = λ t. IsTrue (is_under folder t) in inr ((subst U (sym same) under, gone))

    few : (q : Text) → new q ≢ first q → (new q ≡ old q) ⊎ ((q ≡ path) × (new q ≡ None))
        → (old q ≢ first q) ⊎ (q ≡ path)
    few q ne (inl e) = inl (λ before. ne (e ∙ before))
    few q ne (inr (same, gone)) = inr same

pub not_more : (n most : ℕ) (folder : Text) (old new : FileMap) → n ≤ most → RemovesUnder n folder old new
    → RemovesUnder most folder old new
not_more n most folder old new le removed = record {
  each = removed.each;
  few = at_most-wider n most (λ q. new q ≢ old q) (λ q. new q ≢ old q) le (λ q ne. ne) removed.few;
}

-- ---- how many are left
module _ (folder path : Text) (old new : FileMap) where
  pub one_removed : (n : ℕ) → IsLeftUnder folder old path → RemovesOne path old new → new path ≡ None
      → AtMost n (IsLeftUnder folder old) → AtMost (n - 1) (IsLeftUnder folder new)
  one_removed n left removed gone most =
      one_less n (IsLeftUnder folder old) (IsLeftUnder folder new) path left (λ q now. of q now (same_text q path)) most
    where
      of : (q : Text) → IsLeftUnder folder new q → (q ≡ path) ⊎ (q ≢ path) → IsLeftUnder folder old q × (q ≢ path)
      of q (under, there) (inl e) = let T : Content → Type 0 = IsThere in absurd (subst T (ap new e ∙ gone) there)
      of q (under, there) (inr ne) = let T : Content → Type 0 = IsThere in
          ((under, subst T (others_stay path old new removed q ne) there), ne)

  pub one_back : (n : ℕ) → RemovesOne path old new → AtMost n (IsLeftUnder folder new)
      → AtMost (n + 1) (IsLeftUnder folder old)
  one_back n removed most =
      at_most-with n (IsLeftUnder folder new) (IsLeftUnder folder old) path (λ q was. of q was (same_text q path)) most
    where
      of : (q : Text) → IsLeftUnder folder old q → (q ≡ path) ⊎ (q ≢ path) → IsLeftUnder folder new q ⊎ (q ≡ path)
      of q was (inl e) = inr e
      of q (under, there) (inr ne) = let T : Content → Type 0 = IsThere in
          inl ((under, subst T (sym (others_stay path old new removed q ne)) there))

pub none_left : (folder : Text) (m : FileMap) (n : ℕ) → NoneUnder m folder → AtMost n (IsLeftUnder folder m)
none_left folder m n none = at_most-none n (IsLeftUnder folder m) (λ q left. let T : Content → Type 0 = IsThere in
    subst T (none q left.0) left.1)

pub one_left : (folder path : Text) (m : FileMap) → IsLeftUnder folder m path → AtMost 0 (IsLeftUnder folder m) → ⊥
one_left folder path m left most = of (most.all path left)
  where
    of : Contains most.paths path → ⊥
    of (k, l, e) = omega (arith, l, most.few)

-- A file that is there is one that is left.
pub not_under : (folder path : Text) (m : FileMap) → IsTrue (is_under folder path) → IsThere (m path)
    → NoneUnder m folder → ⊥
not_under folder path m under there none = let T : Content → Type 0 = IsThere in subst T (none path under) there
