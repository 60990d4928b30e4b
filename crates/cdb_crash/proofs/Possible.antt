-- What a crash may leave at a path, before and after a call.
use Rattle.std.proofs.Common.{◌≡◌, ◌≢◌, ℕ, Bool, true, false, ◌⊎◌, inl, inr, List, [], ◌∷◌, ◌++◌, None, Some, refl, sym, ◌∙◌, subst}
use Rattle.std.specs.Prelude.{if◌then◌else◌}
use Rattle.std.proofs.lemmas.Bool.{cond-true}
use Rattle.std.specs.Str.{bytes_eq}
use Rattle.cdb_model.specs.Maps.{Text, Content, FileMap, IsThere, put, folder_above}
use Rattle.cdb_model.proofs.MapLaws.{put-same, put-other, same_text}
use Rattle.cdb_files.specs.Disk.{State, Possible, IsImage, Allows, IsOneOf, after_sync, added, after_sync_dir}
use Rattle.cdb_files.specs.Moments.{IsBetween}
use Rattle.cdb_files.specs.Whole.{IsImageBut}

-- ---- a synced folder
pub kept-allowed : (now : Content) (may : Possible) → Allows may now → (v : Content)
    → Allows (after_sync now may) v → Allows may v
kept-allowed now (Some xs) here v (inl e) = let P : Content → Type 0 = Allows (Some xs) in subst P (sym e) here
kept-allowed now (Some xs) here v (inr e) = absurd e
kept-allowed None None here v a = tt
kept-allowed (Some bytes) None here v a = tt

pub kept-settled : (now : Content) (may : Possible) → may ≢ None → (v : Content)
    → Allows (after_sync now may) v → v ≡ now
kept-settled now (Some xs) listed v (inl e) = e
kept-settled now (Some xs) listed v (inr e) = absurd e
kept-settled now None listed v a = absurd (listed refl)

pub kept-none : (now : Content) (may : Possible) → now ≡ None → (v : Content) → Allows (after_sync now may) v → v ≡ None
kept-none now (Some xs) gone v (inl e) = e ∙ gone
kept-none now (Some xs) gone v (inr e) = absurd e
kept-none None None gone v (inl e) = e
kept-none None None gone v (inr e) = absurd e
kept-none (Some bytes) None gone v a = absurd (let P : Content → Type 0 = IsThere in subst P gone tt)

pub sync_dir-allowed : (folder : Text) (s : State) → IsImage s s.present → (q : Text) (v : Content)
    → Allows ((after_sync_dir folder s).may q) v → Allows (s.may q) v
unfolding after_sync_dir
sync_dir-allowed folder s here q v a = cases (bytes_eq (folder_above q) folder) a
  where
    cases : (b : Bool) → Allows (if b then after_sync (s.present q) (s.may q) else s.may q) v → Allows (s.may q) v
    cases true a = kept-allowed (s.present q) (s.may q) (here q) v a
    cases false a = a

pub sync_dir-kept : (folder : Text) (s : State) (q : Text) → bytes_eq (folder_above q) folder ≡ true
    → (after_sync_dir folder s).may q ≡ after_sync (s.present q) (s.may q)
unfolding after_sync_dir
sync_dir-kept folder s q e = cond-true (bytes_eq (folder_above q) folder)
    (after_sync (s.present q) (s.may q)) (s.may q) e

-- What a crash leaves inside and after the sync of a folder, it might leave before.
pub sync_dir-image : (folder : Text) (s : State) → IsImage s s.present → (m : FileMap)
    → IsImage (after_sync_dir folder s) m → IsImage s m
sync_dir-image folder s here m image q = sync_dir-allowed folder s here q (m q) (image q)

pub sync_dir-between : (folder : Text) (s : State) → IsImage s s.present → (m : FileMap)
    → IsBetween s (after_sync_dir folder s) m → IsImage s m
sync_dir-between folder s here m between q = of (between q)
  where
    of : Allows (s.may q) (m q) ⊎ Allows ((after_sync_dir folder s).may q) (m q) → Allows (s.may q) (m q)
    of (inl a) = a
    of (inr a) = sync_dir-allowed folder s here q (m q) a

-- ---- one possibility more
added-one : (w : Content) (xs : List Content) (v : Content) → IsOneOf (xs ++ w ∷ []) v → IsOneOf xs v ⊎ (v ≡ w)
added-one w [] v (inl e) = inr e
added-one w [] v (inr e) = absurd e
added-one w (x ∷ xs) v (inl e) = inl (inl e)
added-one w (x ∷ xs) v (inr a) = up (added-one w xs v a)
  where
    up : IsOneOf xs v ⊎ (v ≡ w) → IsOneOf (x ∷ xs) v ⊎ (v ≡ w)
    up (inl b) = inl (inr b)
    up (inr e) = inr e

pub added-either : (w : Content) (may : Possible) (v : Content) → Allows (added w may) v → Allows may v ⊎ (v ≡ w)
added-either w None v a = inl tt
added-either w (Some xs) v a = added-one w xs v a

new-one : (w : Content) (xs : List Content) → IsOneOf (xs ++ w ∷ []) w
new-one w [] = inl refl
new-one w (x ∷ xs) = inr (new-one w xs)

pub added-new : (w : Content) (may : Possible) → Allows (added w may) w
added-new w None = tt
added-new w (Some xs) = new-one w xs

pub added-listed : (w : Content) (may : Possible) → may ≢ None → added w may ≢ None
added-listed w None listed e = listed refl
added-listed w (Some xs) listed e = listed (absurd (let P : Possible → Type 0 = λ p. Given p in subst P e tt))
  where
    Given : Possible → Type 0
    Given None = ⊥
    Given (Some ys) = Unit {0}

-- ---- images
-- An image but at one path, with something at that path which a crash may leave there.
pub image_put : (s : State) (m : FileMap) (p : Text) (v : Content) → IsImageBut p s m → Allows (s.may p) v
    → IsImage s (put m p v)
image_put s m p v but a q = of (same_text q p)
  where
    of : (q ≡ p) ⊎ (q ≢ p) → Allows (s.may q) (put m p v q)
    of (inl e) = let P : Text → Type 0 = λ t. Allows (s.may t) (put m p v t) in
        let A : Content → Type 0 = Allows (s.may p) in
        subst P (sym e) (subst A (sym (put-same m p v)) a)
    of (inr ne) = let A : Content → Type 0 = Allows (s.may q) in subst A (sym (put-other m p v q ne)) (but q ne)

-- A path at which anything is possible allows two different files.
pub two_files : (may : Possible) (c : Content) → may ≡ None → ((v : Content) → Allows may v → (v ≡ None) ⊎ (v ≡ c)) → ⊥
two_files may c free each =
    let A : Possible → Type 0 = λ p. (v : Content) → Allows p v → (v ≡ None) ⊎ (v ≡ c) in
    let any : (v : Content) → Allows None v → (v ≡ None) ⊎ (v ≡ c) = subst A free each in
    of [] (0 ∷ []) tt (λ h. h) (any (Some []) tt) (any (Some (0 ∷ [])) tt)
  where
    Is : List ℕ → Type 0
    Is [] = Unit {0}
    Is (x ∷ xs) = ⊥

    Same : Content → Type 0
    Same None = ⊥
    Same (Some bytes) = Is bytes

    of : (a b : List ℕ) → Is a → (Is b → ⊥) → (Some a ≡ None) ⊎ (Some a ≡ c) → (Some b ≡ None) ⊎ (Some b ≡ c) → ⊥
    of a b is isnt (inl e) k = let P : Content → Type 0 = IsThere in subst P e tt
    of a b is isnt (inr h) (inl e) = let P : Content → Type 0 = IsThere in subst P e tt
    of a b is isnt (inr h) (inr k) = let P : Content → Type 0 = Same in isnt (subst P (h ∙ sym k) is)
