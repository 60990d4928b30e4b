-- The last step of a publication: the new head is written and takes the place of the old one.
use Rattle.std.proofs.Common.{◌≡◌, ◌≢◌, ℕ, ◌+◌, ◌⊎◌, inl, inr, List, [], ◌∷◌, ◌++◌, length, length-append, None, Some, refl, sym, ap, ◌∙◌, subst, arith}
use Rattle.std.specs.Str.{bytes_eq}
use Rattle.cdb_model.specs.Maps.{Text, Content, FileMap, IsThere, put, folder_above}
use Rattle.cdb_model.specs.Names.{head_path, new_head_path}
use Rattle.cdb_model.proofs.MapLaws.{put-same, put-other, same_text}
use Rattle.cdb_files.specs.Disk.{State, Possible, IsImage, Allows, IsSettledAt, added, after_rename, Fails}
use Rattle.cdb_files.specs.Moments.{IsBetween}
use Rattle.cdb_files.specs.Whole.{IsImageBut, after_fill}
use Rattle.cdb_files.proofs.StateLaws.{sync_dir-present}
use Rattle.cdb_crash.specs.Leftovers.{IsOfVersion}
use Rattle.cdb_crash.specs.Crash.{SameButHeads, IsClean, IsEither, IsReadyForHead, head_filled, head_renamed, head_synced}
use Rattle.cdb_crash.proofs.Facts.{IsLayout}
use Rattle.cdb_crash.proofs.Paths.{not_head, not_new_head}
use Rattle.cdb_crash.proofs.Possible.{sync_dir-allowed, sync_dir-kept, kept-settled, added-either, added-listed, image_put}
use Rattle.cdb_crash.proofs.Law.{stands_but}

-- ---- the two heads
pub heads_differ : head_path ≢ new_head_path
heads_differ e = let e : 4 ≡ 8 = ap length e in omega (arith, e)

pub head_in_root : folder_above head_path ≡ []
unfolding folder_above
head_in_root = refl

-- ---- the filled new head
pub filled-present : (text : List ℕ) (s : State) → (head_filled text s).present
    ≡ put s.present new_head_path (Some text)
unfolding after_fill
filled-present text s = refl

pub filled-may : (text : List ℕ) (s : State) → (head_filled text s).may
    ≡ put s.may new_head_path (Some (None ∷ Some text ∷ []))
unfolding after_fill
filled-may text s = refl

pub filled-other : (text : List ℕ) (s : State) (q : Text) → q ≢ new_head_path → (v : Content)
    → Allows ((head_filled text s).may q) v → Allows (s.may q) v
filled-other text s q ne v a =
    let P : Possible → Type 0 = λ p. Allows p v in
    subst P (ap (λ m. m q) (filled-may text s) ∙ put-other s.may new_head_path (Some (None ∷ Some text ∷ [])) q ne) a

pub filled-there : (text : List ℕ) (s : State) → (head_filled text s).present new_head_path ≡ Some text
filled-there text s = ap (λ m. m new_head_path) (filled-present text s) ∙ put-same s.present new_head_path (Some text)

pub filled-settled : (text : List ℕ) (s : State) → IsSettledAt (head_filled text s) new_head_path
filled-settled text s v a =
    let P : Possible → Type 0 = λ p. Allows p v in
    of (subst P (ap (λ m. m new_head_path) (filled-may text s)
    ∙ put-same s.may new_head_path (Some (None ∷ Some text ∷ []))) a)
  where
    of : (v ≡ None) ⊎ ((v ≡ Some text) ⊎ ⊥) → (v ≡ None) ⊎ (v ≡ (head_filled text s).present new_head_path)
    of (inl e) = inl e
    of (inr (inl e)) = inr (e ∙ sym (filled-there text s))
    of (inr (inr e)) = absurd e

-- ---- the renamed head
pub renamed-present : (text : List ℕ) (s : State) (q : Text) → q ≢ new_head_path → q ≢ head_path
    → (head_renamed text s).present q ≡ s.present q
unfolding after_rename
renamed-present text s q not_new not_old =
    put-other (put (head_filled text s).present head_path ((head_filled text s).present new_head_path))
    new_head_path None q not_new
    ∙ put-other (head_filled text s).present head_path ((head_filled text s).present new_head_path) q not_old
    ∙ ap (λ m. m q) (filled-present text s) ∙ put-other s.present new_head_path (Some text) q not_new

pub renamed-head : (text : List ℕ) (s : State) → (head_renamed text s).present head_path ≡ Some text
unfolding after_rename
renamed-head text s =
    put-other (put (head_filled text s).present head_path ((head_filled text s).present new_head_path)) new_head_path
    None head_path heads_differ
    ∙ put-same (head_filled text s).present head_path ((head_filled text s).present new_head_path) ∙ filled-there text s

renamed-may : (text : List ℕ) (s : State) (q : Text) → q ≢ new_head_path → (head_renamed text s).may q
    ≡ put (head_filled text s).may head_path
    (added ((head_filled text s).present new_head_path) ((head_filled text s).may head_path)) q
unfolding after_rename
renamed-may text s q not_new =
    put-other
    (put (head_filled text s).may head_path
    (added ((head_filled text s).present new_head_path) ((head_filled text s).may head_path))) new_head_path
    (Some (None ∷ (head_filled text s).present new_head_path ∷ [])) q not_new

pub renamed-free : (text : List ℕ) (s : State) (q : Text) → q ≢ new_head_path → q ≢ head_path
    → (head_renamed text s).may q ≡ s.may q
renamed-free text s q not_new not_old =
    renamed-may text s q not_new
    ∙ put-other (head_filled text s).may head_path
    (added ((head_filled text s).present new_head_path) ((head_filled text s).may head_path)) q not_old
    ∙ ap (λ m. m q) (filled-may text s) ∙ put-other s.may new_head_path (Some (None ∷ Some text ∷ [])) q not_new

pub renamed-other : (text : List ℕ) (s : State) (q : Text) → q ≢ new_head_path → q ≢ head_path → (v : Content)
    → Allows ((head_renamed text s).may q) v → Allows (s.may q) v
renamed-other text s q not_new not_old v a = let P : Possible → Type 0 = λ p. Allows p v in
    subst P (renamed-free text s q not_new not_old) a

pub renamed-head_may : (text : List ℕ) (s : State) → (head_renamed text s).may head_path
    ≡ added (Some text) (s.may head_path)
renamed-head_may text s =
    renamed-may text s head_path heads_differ
    ∙ put-same (head_filled text s).may head_path
    (added ((head_filled text s).present new_head_path) ((head_filled text s).may head_path))
    ∙ ap (λ c. added c ((head_filled text s).may head_path)) (filled-there text s)
    ∙ ap (added (Some text)) (ap (λ m. m head_path) (filled-may text s)
    ∙ put-other s.may new_head_path (Some (None ∷ Some text ∷ [])) head_path heads_differ)

pub renamed-head_either : (text : List ℕ) (s : State) (v : Content) → Allows ((head_renamed text s).may head_path) v
    → Allows (s.may head_path) v ⊎ (v ≡ Some text)
renamed-head_either text s v a = let P : Possible → Type 0 = λ p. Allows p v in
    added-either (Some text) (s.may head_path) v (subst P (renamed-head_may text s) a)

-- What the new head may have matters to no list, and beside both heads nothing changes.
pub record IsBesideHeads (text : List ℕ) (s : State) (m : FileMap) : Type 0 where
  pub others : (q : Text) → q ≢ new_head_path → q ≢ head_path → Allows (s.may q) (m q)
  pub head : Allows (s.may head_path) (m head_path) ⊎ (m head_path ≡ Some text)

module _ {X : Type 0} (Stands : FileMap → List X → Type 0) (Complete : List X → X → FileMap → Type 0)
    (head_text : ℕ → List ℕ) (layout : IsLayout Stands Complete head_text) where
  -- The head as before: the old list.
  pub beside_old : (P : List X) (x : X) (s : State) → IsImage s s.present → IsReadyForHead Stands Complete P x s
      → (m : FileMap)
      → ((q : Text) → q ≢ new_head_path → q ≢ head_path → Allows (s.may q) (m q))
      → Allows (s.may head_path) (m head_path) → Stands m P
  beside_old P x s here ready m others head =
      stands_but Stands Complete head_text layout P s new_head_path here ready.room (inl refl) m
      (λ q ne. of q ne (same_text q head_path))
    where
      of : (q : Text) → q ≢ new_head_path → (q ≡ head_path) ⊎ (q ≢ head_path) → Allows (s.may q) (m q)
      of q ne (inl e) = let P : Text → Type 0 = λ t. Allows (s.may t) (m t) in subst P (sym e) head
      of q ne (inr not_old) = others q ne not_old

  -- An image of the state before, which is the same but at the heads.
  before : (s : State) → FileMap → FileMap
  before s m = put (put m head_path (s.present head_path)) new_head_path (s.present new_head_path)

  before-same : (s : State) (m : FileMap) → SameButHeads (before s m) m
  unfolding before
  before-same s m q not_old not_new =
      sym (put-other (put m head_path (s.present head_path)) new_head_path (s.present new_head_path) q not_new
      ∙ put-other m head_path (s.present head_path) q not_old)

  before-image : (s : State) (m : FileMap) → IsImage s s.present
      → ((q : Text) → q ≢ new_head_path → q ≢ head_path → Allows (s.may q) (m q)) → IsImage s (before s m)
  unfolding before
  before-image s m here others =
      image_put s (put m head_path (s.present head_path)) new_head_path (s.present new_head_path)
      (λ q ne. of q ne (same_text q head_path)) (here new_head_path)
    where
      of : (q : Text) → q ≢ new_head_path → (q ≡ head_path) ⊎ (q ≢ head_path)
          → Allows (s.may q) (put m head_path (s.present head_path) q)
      of q ne (inl e) = let P : Text → Type 0 = λ t. Allows (s.may t) (put m head_path (s.present head_path) t) in
          let A : Content → Type 0 = Allows (s.may head_path) in
          subst P (sym e) (subst A (sym (put-same m head_path (s.present head_path))) (here head_path))
      of q ne (inr not_old) = let A : Content → Type 0 = Allows (s.may q) in
          subst A (sym (put-other m head_path (s.present head_path) q not_old)) (others q ne not_old)

  -- The new head in its place: the new list.
  pub beside_new : (P : List X) (x : X) (s : State) → IsImage s s.present → IsReadyForHead Stands Complete P x s
      → (m : FileMap)
      → ((q : Text) → q ≢ new_head_path → q ≢ head_path → Allows (s.may q) (m q)) → m head_path
      ≡ Some (head_text (length P + 1)) → Stands m (P ++ x ∷ [])
  beside_new P x s here ready m others head =
      layout.next P x (before s m) m (ready.room.stands (before s m) (before-image s m here others))
      (ready.complete (before s m) m (before-image s m here others) (before-same s m)) (before-same s m) head

  pub beside_either : (P : List X) (x : X) (s : State) → IsImage s s.present → IsReadyForHead Stands Complete P x s
      → (m : FileMap)
      → IsBesideHeads (head_text (length P + 1)) s m → IsEither Stands P x m
  beside_either P x s here ready m beside = of beside.head
    where
      of : Allows (s.may head_path) (m head_path) ⊎ (m head_path ≡ Some (head_text (length P + 1)))
          → IsEither Stands P x m
      of (inl a) = inl (beside_old P x s here ready m beside.others a)
      of (inr e) = inr (beside_new P x s here ready m beside.others e)

  -- While the new head is written: the old list.
  pub during_fill : (P : List X) (x : X) (s : State) → IsImage s s.present → IsReadyForHead Stands Complete P x s
      → (m : FileMap) → IsImageBut new_head_path s m → Stands m P
  during_fill P x s here ready m but = stands_but Stands Complete head_text layout P s new_head_path here
      ready.room (inl refl) m but

  -- Inside the rename: either.
  pub during_rename : (P : List X) (x : X) (s : State) → IsImage s s.present → IsReadyForHead Stands Complete P x s
      → (m : FileMap)
      → IsBetween (head_filled (head_text (length P + 1)) s) (head_renamed (head_text (length P + 1)) s) m
      → IsEither Stands P x m
  during_rename P x s here ready m between =
      beside_either P x s here ready m
      (record { others = λ q a b. others q a b (between q); head = head (between head_path) })
    where
      others : (q : Text) → q ≢ new_head_path → q ≢ head_path
          → Allows ((head_filled (head_text (length P + 1)) s).may q) (m q)
          ⊎ Allows ((head_renamed (head_text (length P + 1)) s).may q) (m q) → Allows (s.may q) (m q)
      others q not_new not_old (inl a) = filled-other (head_text (length P + 1)) s q not_new (m q) a
      others q not_new not_old (inr a) = renamed-other (head_text (length P + 1)) s q not_new not_old (m q) a

      head : Allows ((head_filled (head_text (length P + 1)) s).may head_path) (m head_path)
          ⊎ Allows ((head_renamed (head_text (length P + 1)) s).may head_path) (m head_path)
          → Allows (s.may head_path) (m head_path) ⊎ (m head_path ≡ Some (head_text (length P + 1)))
      head (inl a) = inl (filled-other (head_text (length P + 1)) s head_path heads_differ (m head_path) a)
      head (inr a) = renamed-head_either (head_text (length P + 1)) s (m head_path) a

  pub after_renamed : (P : List X) (x : X) (s : State) → IsImage s s.present → IsReadyForHead Stands Complete P x s
      → (m : FileMap)
      → IsImage (head_renamed (head_text (length P + 1)) s) m → IsEither Stands P x m
  after_renamed P x s here ready m image = during_rename P x s here ready m (λ q. inr (image q))

  -- A rename that failed: either.
  pub failed_rename : (P : List X) (x : X) (s : State) → IsImage s s.present → IsReadyForHead Stands Complete P x s
      → (new : State)
      → Fails (head_filled (head_text (length P + 1)) s) (head_renamed (head_text (length P + 1)) s) new → (m : FileMap)
      → IsImage new m → IsEither Stands P x m
  failed_rename P x s here ready new fails m image = during_rename P x s here ready m (λ q. fails.may q (m q) (image q))

  -- The head isn't a path at which anything is possible: the images with different heads would stand for one list.
  pub head_listed : (P : List X) (s : State) → IsImage s s.present → ((m : FileMap) → IsImage s m → Stands m P)
      → s.may head_path ≢ None
  head_listed P s here stands free =
      let T : Content → Type 0 = IsThere in
      subst T (sym (has (Some [])) ∙ has None) tt
    where
      anything : (v : Content) → Allows (s.may head_path) v
      anything v = let A : Possible → Type 0 = λ p. Allows p v in subst A (sym free) tt

      has : (v : Content) → s.present head_path ≡ v
      has v = layout.head P s.present (put s.present head_path v) (stands s.present here)
          (stands _ (image_put s s.present head_path v (λ q ne. here q) (anything v))) ∙ put-same s.present head_path v

  pub synced-head : (P : List X) (x : X) (s : State) → IsImage s s.present → IsReadyForHead Stands Complete P x s
      → (v : Content)
      → Allows ((head_synced (head_text (length P + 1)) s).may head_path) v → v ≡ Some (head_text (length P + 1))
  synced-head P x s here ready v a =
      let text : List ℕ = head_text (length P + 1) in
      let A : Possible → Type 0 = λ p. Allows p v in
      let E : Possible → Type 0 = λ p. p ≢ None in
      kept-settled ((head_renamed (head_text (length P + 1)) s).present head_path)
      ((head_renamed (head_text (length P + 1)) s).may head_path)
      (subst E (sym (renamed-head_may (head_text (length P + 1)) s))
      (added-listed (Some (head_text (length P + 1))) (s.may head_path) (head_listed P s here ready.room.stands))) v
      (subst A
      (sync_dir-kept [] (head_renamed (head_text (length P + 1)) s) head_path
      (ap (λ t. bytes_eq t []) head_in_root)) a)
      ∙ renamed-head (head_text (length P + 1)) s

  -- After the sync of the root: the new list alone.
  pub at_end : (P : List X) (x : X) (s : State) → IsImage s s.present → IsReadyForHead Stands Complete P x s
      → IsImage (head_renamed (head_text (length P + 1)) s) (head_renamed (head_text (length P + 1)) s).present
      → (m : FileMap) → IsImage (head_synced (head_text (length P + 1)) s) m → Stands m (P ++ x ∷ [])
  at_end P x s here ready now m image =
      beside_new P x s here ready m
      (λ q not_new not_old. renamed-other (head_text (length P + 1)) s q not_new not_old (m q)
      (sync_dir-allowed [] (head_renamed (head_text (length P + 1)) s) now q (m q) (image q)))
      (synced-head P x s here ready (m head_path) (image head_path))

  pub clean_at_end : (P : List X) (x : X) (s : State) → IsImage s s.present → IsReadyForHead Stands Complete P x s
      → IsImage (head_renamed (head_text (length P + 1)) s) (head_renamed (head_text (length P + 1)) s).present
      → IsClean Stands (P ++ x ∷ []) (head_synced (head_text (length P + 1)) s)
  clean_at_end P x s here ready now = record {
    whole = record {
      clear = record {
        gone = λ k le q under gone v a. ready.clear.gone k le q under
            (sym (ap (λ m. m q) (sync_dir-present [] (head_renamed (head_text (length P + 1)) s))
            ∙ renamed-present (head_text (length P + 1)) s q (not_new_head k q under) (not_head k q under)) ∙ gone) v
            (allowed k q under v a);
      };
      stands = at_end P x s here ready now;
    };
    none = λ m image q under. before-same s m q (not_head _ q under) (not_new_head _ q under)
        ∙ layout.beyond P (before s m) (ready.room.stands (before s m) (before-image s m here (others m image)))
        (length (P ++ x ∷ []) + 1)
        (omega (arith, length-append P (x ∷ []))) q under;
  }
    where
      others : (m : FileMap) → IsImage (head_synced (head_text (length P + 1)) s) m → (q : Text) → q ≢ new_head_path
          → q ≢ head_path → Allows (s.may q) (m q)
      others m image q not_new not_old = renamed-other (head_text (length P + 1)) s q not_new not_old (m q)
          (sync_dir-allowed [] (head_renamed (head_text (length P + 1)) s) now q (m q) (image q))

      allowed : (k : ℕ) (q : Text) → IsOfVersion k q → (v : Content)
          → Allows ((head_synced (head_text (length P + 1)) s).may q) v → Allows (s.may q) v
      allowed k q under v a = renamed-other (head_text (length P + 1)) s q (not_new_head k q under)
          (not_head k q under) v
          (sync_dir-allowed [] (head_renamed (head_text (length P + 1)) s) now q v a)
