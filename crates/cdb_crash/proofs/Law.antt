-- A call on a leftover, and any sync of a folder: whatever a crash leaves goes on standing for the list.
use Rattle.std.proofs.Common.{◌≡◌, ◌≢◌, ℕ, ◌+◌, ◌≤◌, ◌⊎◌, inl, inr, List, length, None, Some, refl, sym, subst, arith}
use Rattle.cdb_model.specs.Maps.{Text, Content, FileMap, IsThere, put}
use Rattle.cdb_model.specs.Names.{new_head_path}
use Rattle.cdb_model.proofs.MapLaws.{put-other, same_text}
use Rattle.cdb_files.specs.Disk.{State, IsImage}
use Rattle.cdb_files.specs.Whole.{IsImageBut}
use Rattle.cdb_crash.specs.Leftovers.{IsOfVersion, IsLeftover}
use Rattle.cdb_model.specs.Stands.{AtMost}
use Rattle.cdb_crash.specs.Crash.{IsClear, MayLast, IsWhole, HasRoom}
use Rattle.cdb_crash.proofs.Facts.{IsLayout}
use Rattle.cdb_crash.proofs.Paths.{not_new_head, at_most-wider}
use Rattle.cdb_crash.proofs.Possible.{image_put}

module _ {X : Type 0} (Stands : FileMap → List X → Type 0) (Complete : List X → X → FileMap → Type 0)
    (head_text : ℕ → List ℕ) (layout : IsLayout Stands Complete head_text) where
  pub stands_but : (P : List X) (s : State) (p : Text) → IsImage s s.present → HasRoom Stands P p s
      → IsLeftover (length P) p
      → (m : FileMap) → IsImageBut p s m → Stands m P
  stands_but P s p here room leftover m but =
      layout.leftovers P (put m p (s.present p)) m (room.stands _ (image_put s m p (s.present p) but (here p))) changed
      (at_most-wider 65536 65536 _ _ (omega arith) (λ q f. (f.0, last q (f.1) (same_text q p))) room.few)
    where
      changed : (q : Text) → IsLeftover (length P) q ⊎ (m q ≡ put m p (s.present p) q)
      changed q = of (same_text q p)
        where
          of : (q ≡ p) ⊎ (q ≢ p) → IsLeftover (length P) q ⊎ (m q ≡ put m p (s.present p) q)
          of (inl e) = let L : Text → Type 0 = IsLeftover (length P) in inl (subst L (sym e) leftover)
          of (inr ne) = inr (sym (put-other m p (s.present p) q ne))

      last : (q : Text) → IsThere (m q) → (q ≡ p) ⊎ (q ≢ p) → MayLast s q ⊎ (q ≡ p)
      last q there (inl e) = inr e
      last q there (inr ne) = inl ((m q, but q ne, there))

  -- A file that is there in some image of a clear disk is there at present.
  pub clear_there : (s : State) (k : ℕ) (q : Text) → k ≤ 4097 → IsClear s → IsOfVersion k q → MayLast s q
      → IsThere (s.present q)
  clear_there s k q le clear under (v, allowed, there) = of (s.present q) refl
    where
      of : (c : Content) → s.present q ≡ c → IsThere c
      of None e = let T : Content → Type 0 = IsThere in absurd (subst T (clear.gone k le q under e v allowed) there)
      of (Some bytes) e = tt

  -- Room on a clear disk whose leftovers are few at present.
  pub clear_room : (P : List X) (s : State) (p : Text) → length P ≤ 4096 → IsClear s
      → ((m : FileMap) → IsImage s m → Stands m P)
      → AtMost 65536 (λ q. IsOfVersion (length P + 1) q × (IsThere (s.present q) ⊎ (q ≡ p))) → HasRoom Stands P p s
  clear_room P s p le clear stands few =
      record { stands = stands; few = at_most-wider 65536 65536 _ _ (omega arith) (λ q f. (f.0, of q (f.0) (f.1))) few }
    where
      of : (q : Text) → IsOfVersion (length P + 1) q → MayLast s q ⊎ (q ≡ p) → IsThere (s.present q) ⊎ (q ≡ p)
      of q under (inl last) = inl (clear_there s (length P + 1) q (omega (arith, le)) clear under last)
      of q under (inr e) = inr e

  -- On a whole disk there is room for a call on the new head.
  pub whole_room : (P : List X) (s : State) → IsImage s s.present → IsWhole Stands P s
      → HasRoom Stands P new_head_path s
  whole_room P s here whole = clear_room P s new_head_path (layout.count P s.present (whole.stands s.present here))
      whole.clear whole.stands
      (at_most-wider 65536 65536 _ _ (omega arith) (λ q f. (f.0, of q (f.0) (f.1)))
      (layout.limit P s.present (whole.stands s.present here)))
    where
      of : (q : Text) → IsOfVersion (length P + 1) q → IsThere (s.present q) ⊎ (q ≡ new_head_path)
          → IsThere (s.present q)
      of q under (inl there) = there
      of q under (inr e) = absurd (not_new_head (length P + 1) q under e)
