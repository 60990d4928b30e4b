-- After a fault without a stop: the sync of the root settles which of the two lists stands.
use Rattle.std.proofs.Common.{◌≡◌, ◌≢◌, ℕ, inl, inr, List, [], ◌∷◌, ◌++◌, None, Some, sym, ap, ◌∙◌, subst}
use mathlib.Core.Path.{fun_ext}
use Rattle.std.specs.Str.{bytes_eq}
use Rattle.cdb_model.specs.Maps.{Content, FileMap, IsThere, put}
use Rattle.cdb_model.specs.Names.{head_path}
use Rattle.cdb_model.proofs.MapLaws.{put-same}
use Rattle.cdb_files.specs.Disk.{State, Possible, IsImage, Allows, after_sync_dir}
use Rattle.cdb_files.proofs.StateLaws.{sync_dir-present}
use Rattle.cdb_crash.specs.Crash.{IsClear, IsWhole, IsEither, IsFaulted, IsAlone}
use Rattle.cdb_crash.proofs.Facts.{IsLayout}
use Rattle.cdb_crash.proofs.Possible.{sync_dir-allowed, sync_dir-image, sync_dir-kept, kept-settled, image_put}
use Rattle.cdb_crash.proofs.HeadSteps.{head_in_root}

module _ {X : Type 0} (Stands : FileMap → List X → Type 0) (Complete : List X → X → FileMap → Type 0)
    (head_text : ℕ → List ℕ) (layout : IsLayout Stands Complete head_text) where
  -- Of three maps with three heads two would stand for one list.
  pub either_listed : (P : List X) (x : X) (s : State) → IsImage s s.present
      → ((m : FileMap) → IsImage s m → IsEither Stands P x m) → s.may head_path ≢ None
  either_listed P x s here either free = three [] (0 ∷ []) tt tt (with_head None) (with_head (Some []))
      (with_head (Some (0 ∷ [])))
    where
      Full : List ℕ → Type 0
      Full [] = ⊥
      Full (c ∷ rest) = Unit {0}

      Empty : List ℕ → Type 0
      Empty [] = Unit {0}
      Empty (c ∷ rest) = ⊥

      anything : (v : Content) → Allows (s.may head_path) v
      anything v = let A : Possible → Type 0 = λ p. Allows p v in subst A (sym free) tt

      with_head : (v : Content) → IsEither Stands P x (put s.present head_path v)
      with_head v = either (put s.present head_path v) (image_put s s.present head_path v (λ q ne. here q) (anything v))

      same : (Q : List X) (v w : Content) → Stands (put s.present head_path v) Q
          → Stands (put s.present head_path w) Q → v ≡ w
      same Q v w a b = sym (put-same s.present head_path v)
          ∙ layout.head Q (put s.present head_path v) (put s.present head_path w) a b ∙ put-same s.present head_path w

      gap : (bytes : List ℕ) → None ≡ Some bytes → ⊥
      gap bytes e = let T : Content → Type 0 = IsThere in subst T (sym e) tt

      Shape : Content → Type 0
      Shape None = ⊥
      Shape (Some bytes) = Full bytes

      apart : (a b : List ℕ) → Empty a → Full b → Some a ≡ Some b → ⊥
      apart [] b empty full e = let T : Content → Type 0 = Shape in subst T (sym e) full
      apart (c ∷ rest) b empty full e = empty

      three : (a b : List ℕ) → Empty a → Full b → IsEither Stands P x (put s.present head_path None)
          → IsEither Stands P x (put s.present head_path (Some a))
          → IsEither Stands P x (put s.present head_path (Some b)) → ⊥
      three a b empty full (inl f) (inl g) h = gap a (same P None (Some a) f g)
      three a b empty full (inl f) (inr g) (inl h) = gap b (same P None (Some b) f h)
      three a b empty full (inl f) (inr g) (inr h) = apart a b empty full (same (P ++ x ∷ []) (Some a) (Some b) g h)
      three a b empty full (inr f) (inr g) h = gap a (same (P ++ x ∷ []) None (Some a) f g)
      three a b empty full (inr f) (inl g) (inr h) = gap b (same (P ++ x ∷ []) None (Some b) f h)
      three a b empty full (inr f) (inl g) (inl h) = apart a b empty full (same P (Some a) (Some b) g h)

  -- The head after the sync of the root is the present one.
  pub barrier-head : (P : List X) (x : X) (s : State) → IsImage s s.present → IsFaulted Stands P x s → (m : FileMap)
      → IsImage (after_sync_dir [] s) m → m head_path ≡ s.present head_path
  barrier-head P x s here faulted m image =
      let A : Possible → Type 0 = λ p. Allows p (m head_path) in
      kept-settled (s.present head_path) (s.may head_path) (either_listed P x s here faulted.either) (m head_path)
      (subst A (sync_dir-kept [] s head_path (ap (λ t. bytes_eq t []) head_in_root)) (image head_path))

  barrier-clear : (P : List X) (x : X) (s : State) → IsImage s s.present → IsFaulted Stands P x s
      → IsClear (after_sync_dir [] s)
  barrier-clear P x s here faulted = record {
    gone = λ k le q under gone v a. faulted.clear.gone k le q under (sym (ap (λ m. m q) (sync_dir-present [] s)) ∙ gone)
        v (sync_dir-allowed [] s here q v a);
  }

  pub barrier_old : (P : List X) (x : X) (s : State) → IsImage s s.present → IsFaulted Stands P x s → Stands s.present P
      → IsWhole Stands P (after_sync_dir [] s)
  barrier_old P x s here faulted now =
      record {
        clear = barrier-clear P x s here faulted;
        stands = λ m image. of m image (faulted.either m (sync_dir-image [] s here m image));
      }
    where
      of : (m : FileMap) → IsImage (after_sync_dir [] s) m → IsEither Stands P x m → Stands m P
      of m image (inl stands) = stands
      of m image (inr stands) =
          absurd (layout.heads P x s.present m now stands (sym (barrier-head P x s here faulted m image)))

  pub barrier_new : (P : List X) (x : X) (s : State) → IsImage s s.present → IsFaulted Stands P x s
      → Stands s.present (P ++ x ∷ []) → IsWhole Stands (P ++ x ∷ []) (after_sync_dir [] s)
  barrier_new P x s here faulted now =
      record {
        clear = barrier-clear P x s here faulted;
        stands = λ m image. of m image (faulted.either m (sync_dir-image [] s here m image));
      }
    where
      of : (m : FileMap) → IsImage (after_sync_dir [] s) m → IsEither Stands P x m → Stands m (P ++ x ∷ [])
      of m image (inl stands) =
          absurd (layout.heads P x m s.present stands now (barrier-head P x s here faulted m image))
      of m image (inr stands) = stands

-- ---- after a stop
module _ {X : Type 0} (Stands : FileMap → List X → Type 0) where
  alone-image : (m : FileMap) (s : State) → IsAlone m s → (n : FileMap) → IsImage s n → n ≡ m
  alone-image m s alone n image = fun_ext (λ q. alone.may q (n q) (image q))

  -- A map that stands for a list, taken as the only one that is possible, is a whole disk.
  pub whole_alone : (P : List X) (m : FileMap) (s : State) → Stands m P → IsAlone m s → IsWhole Stands P s
  whole_alone P m s stands alone = record {
    clear = record { gone = λ k le q under gone v a. alone.may q v a ∙ sym (alone.present q) ∙ gone };
    stands = λ n image. let S : FileMap → Type 0 = λ t. Stands t P in
        subst S (sym (alone-image m s alone n image)) stands;
  }
