-- The maps that stand for a list of publications keep what the laws of a crash need of them.
use Rattle.std.proofs.Common.{◌≡◌, ◌≢◌, ℕ, ◌+◌, ◌≤◌, ◌⊎◌, inl, inr, List, [], ◌∷◌, ◌++◌, length, length-append, None, Some, refl, sym, ap, ◌∙◌, subst, arith}
use Rattle.std.proofs.lemmas.Option.{same_Some, none-some}
use Rattle.cdb_grid.specs.declared.tile.Tile.{Tile}
use Rattle.cdb_source.specs.declared.source.Source.{Source}
use Rattle.cdb_model.specs.Maps.{Text, Content, FileMap, IsThere, NoneUnder}
use Rattle.cdb_model.specs.Names.{version_folder, head_path, new_head_path}
use Rattle.cdb_model.specs.Records.{head_file_text}
use Rattle.cdb_model.specs.Stands.{HasVersion, IsVersionFile, IsInVersions, head_content, Stands}
use Rattle.cdb_model.proofs.MapLaws.{same_text}
use Rattle.cdb_crash.specs.Leftovers.{IsOfVersion, IsLeftover, HasAtMost, HasNext}
use Rattle.cdb_crash.specs.Crash.{SameButHeads}
use Rattle.cdb_crash.proofs.Facts.{IsLayout}
use Rattle.cdb_crash.proofs.Paths.{versions_apart, not_head, not_new_head, under_folder, at_most-none}
use Rattle.cdb_crash.proofs.HeadSteps.{heads_differ}
use Rattle.cdb_crash.proofs.HeadTexts.{head_text_tells}

abbrev Publication : Type 0
Publication = List Source

-- ---- the files of a version lie under its folder
pub file_under : (earlier : List Publication) (sources : Publication) (tiles : List Tile) (q : Text) (bytes : List ℕ)
    → IsVersionFile earlier sources tiles q bytes → IsOfVersion (length earlier + 1) q
file_under earlier sources tiles q bytes (IsVersionFile.of_record) = under_folder (length earlier + 1) _
file_under earlier sources tiles q bytes (IsVersionFile.of_source i s at) = under_folder (length earlier + 1) _
file_under earlier sources tiles q bytes (IsVersionFile.of_tile t reached) = under_folder (length earlier + 1) _

-- They depend on the paths under that folder alone.
pub local : (earlier : List Publication) (sources : Publication) (m n : FileMap) → HasVersion m earlier sources
    → ((q : Text) → IsOfVersion (length earlier + 1) q → n q ≡ m q) → HasVersion n earlier sources
local earlier sources m n has same = record {
  tiles = has.tiles;
  touched = has.touched;
  there = λ q bytes file. same q (file_under earlier sources has.tiles q bytes file) ∙ has.there q bytes file;
  only = λ q under there. has.only q under (let T : Content → Type 0 = IsThere in subst T (same q under) there);
}

-- ---- lists with one publication more
heads_equal : {A : Type 0} (x y : A) (xs ys : List A) → x ∷ xs ≡ y ∷ ys → x ≡ y
heads_equal {A = A} x y xs ys e = ap first e
  where
    first : List A → A
    first [] = x
    first (z ∷ zs) = z

tails_equal : {A : Type 0} (x y : A) (xs ys : List A) → x ∷ xs ≡ y ∷ ys → xs ≡ ys
tails_equal {A = A} x y xs ys e = ap rest e
  where
    rest : List A → List A
    rest [] = []
    rest (z ∷ zs) = zs

-- Where a list with one more is split, the one more is what stands at the cut, or stands after it.
split : {A : Type 0} (P : List A) (x : A) (earlier : List A) (s : A) (later : List A)
    → P ++ x ∷ [] ≡ earlier ++ s ∷ later
    → ((P ≡ earlier) × (x ≡ s)) ⊎ ((rest : List A) × (P ≡ earlier ++ s ∷ rest))
split [] x [] s later e = inl ((refl, heads_equal x s [] later e))
split [] x (y ∷ earlier) s later e = absurd (let n = ap length e in omega (arith, n, length-append earlier (s ∷ later)))
split (p ∷ P) x [] s later e = inr ((P, λ i. heads_equal p s (P ++ x ∷ []) later e i ∷ P))
split {A = A} (p ∷ P) x (y ∷ earlier) s later e =
    up (split P x earlier s later (tails_equal p y (P ++ x ∷ []) (earlier ++ s ∷ later) e))
  where
    up : ((P ≡ earlier) × (x ≡ s)) ⊎ ((rest : List A) × (P ≡ earlier ++ s ∷ rest)) → ((p ∷ P ≡ y ∷ earlier) × (x ≡ s))
        ⊎ ((rest : List A) × (p ∷ P ≡ (y ∷ earlier) ++ s ∷ rest))
    up (inl (a, b)) = inl ((λ i. heads_equal p y (P ++ x ∷ []) (earlier ++ s ∷ later) e i ∷ a i, b))
    up (inr (rest, a)) = inr ((rest, λ i. heads_equal p y (P ++ x ∷ []) (earlier ++ s ∷ later) e i ∷ a i))

shorter : (P earlier : List Publication) (s : Publication) (later : List Publication) → P ≡ earlier ++ s ∷ later
    → length earlier + 1 ≤ length P
shorter P earlier s later e = let n = ap length e in omega (arith, n, length-append earlier (s ∷ later))

-- ---- the laws of the maps
-- No file is there beyond the version after the newest.
pub none_beyond : (P : List Publication) (m : FileMap) → Stands m P → (k : ℕ) → length P + 2 ≤ k
    → NoneUnder m (version_folder k)
none_beyond P m store k beyond q under = of (m q) refl
  where
    of : (c : Content) → m q ≡ c → m q ≡ None
    of None e = e
    of (Some bytes) e = absurd (where_is (store.others q (let T : Content → Type 0 = IsThere in subst T (sym e) tt)))
      where
        where_is : (q ≡ head_path) ⊎ ((q ≡ new_head_path) ⊎ IsInVersions (length P) q) → ⊥
        where_is (inl e) = not_head k q under e
        where_is (inr (inl e)) = not_new_head k q under e
        where_is (inr (inr in_versions)) = let same = versions_apart in_versions.version k q in_versions.under under in
            omega (arith, same, in_versions.to_next, beyond)

leftovers : (P : List Publication) (old new : FileMap) → Stands old P
    → ((q : Text) → IsLeftover (length P) q ⊎ (new q ≡ old q))
    → HasAtMost 65536 (length P + 1) new → Stands new P
leftovers P old new store changed few = record {
  publications = store.publications;
  head = at_head (changed head_path) ∙ store.head;
  versions = λ earlier sources later is. local earlier sources old new (store.versions earlier sources later is)
      (λ q under. at_version (length earlier + 1) (shorter P earlier sources later is) q under (changed q));
  others = λ q there. other q there (changed q);
  leftovers = few;
}
  where
    at_head : IsLeftover (length P) head_path ⊎ (new head_path ≡ old head_path) → new head_path ≡ old head_path
    at_head (inl (inl e)) = absurd (heads_differ e)
    at_head (inl (inr under)) = absurd (not_head (length P + 1) head_path under refl)
    at_head (inr e) = e

    at_version : (k : ℕ) → k ≤ length P → (q : Text) → IsOfVersion k q → IsLeftover (length P) q ⊎ (new q ≡ old q)
        → new q ≡ old q
    at_version k to q under (inl (inl e)) = absurd (not_new_head k q under e)
    at_version k to q under (inl (inr next)) = let same = versions_apart k (length P + 1) q under next in
        absurd (omega (arith, same, to))
    at_version k to q under (inr e) = e

    other : (q : Text) → IsThere (new q) → IsLeftover (length P) q ⊎ (new q ≡ old q) → (q ≡ head_path)
        ⊎ ((q ≡ new_head_path) ⊎ IsInVersions (length P) q)
    other q there (inl (inl e)) = inr (inl e)
    other q there (inl (inr under)) =
        inr (inr (record { version = length P + 1; from_one = omega arith; to_next = omega arith; under = under }))
    other q there (inr e) = store.others q (let T : Content → Type 0 = IsThere in subst T e there)

content-next : (P : List Publication) (x : Publication) → head_content (P ++ x ∷ [])
    ≡ Some (head_file_text (length P + 1))
content-next [] x = refl
content-next (y ∷ P) x = ap (λ n. Some (head_file_text n)) (length-append (y ∷ P) (x ∷ []))

next : (P : List Publication) (x : Publication) (old new : FileMap) → Stands old P → HasNext P x new
    → SameButHeads old new
    → new head_path ≡ Some (head_file_text (length P + 1)) → Stands new (P ++ x ∷ [])
next P x old new store complete same head = record {
  publications = complete.publications;
  head = head ∙ sym (content-next P x);
  versions = λ earlier sources later is. version earlier sources (split P x earlier sources later is);
  others = λ q there. other q there (same_text q head_path) (same_text q new_head_path);
  leftovers = at_most-none 65536 (λ q. IsOfVersion (length (P ++ x ∷ []) + 1) q × IsThere (new q))
      (λ q f. let T : Content → Type 0 = IsThere in subst T (no_more q (f.0)) (f.1));
}
  where
    version : (earlier : List Publication) (sources : Publication) → ((P ≡ earlier) × (x ≡ sources))
        ⊎ ((rest : List Publication) × (P ≡ earlier ++ sources ∷ rest))
        → HasVersion new earlier sources
    version earlier sources (inl (a, b)) =
        let V : Publication → Type 0 = λ s. HasVersion new earlier s in
        let W : List Publication → Type 0 = λ e. HasVersion new e x in
        subst V b (subst W a complete.files)
    version earlier sources (inr (rest, is)) = local earlier sources old new (store.versions earlier sources rest is)
        (λ q under. same q (not_head _ q under) (not_new_head _ q under))

    other : (q : Text) → IsThere (new q) → (q ≡ head_path) ⊎ (q ≢ head_path) → (q ≡ new_head_path) ⊎ (q ≢ new_head_path)
        → (q ≡ head_path) ⊎ ((q ≡ new_head_path) ⊎ IsInVersions (length (P ++ x ∷ [])) q)
    other q there (inl e) b = inl e
    other q there (inr a) (inl e) = inr (inl e)
    other q there (inr a) (inr b) =
        of (store.others q (let T : Content → Type 0 = IsThere in subst T (same q a b) there))
      where
        of : (q ≡ head_path) ⊎ ((q ≡ new_head_path) ⊎ IsInVersions (length P) q) → (q ≡ head_path)
            ⊎ ((q ≡ new_head_path) ⊎ IsInVersions (length (P ++ x ∷ [])) q)
        of (inl e) = inl e
        of (inr (inl e)) = inr (inl e)
        of (inr (inr v)) =
            inr (inr
            (record {
              version = v.version;
              from_one = v.from_one;
              to_next = omega (arith, v.to_next, length-append P (x ∷ []));
              under = v.under;
            }))

    no_more : (q : Text) → IsOfVersion (length (P ++ x ∷ []) + 1) q → new q ≡ None
    no_more q under = same q (not_head _ q under) (not_new_head _ q under)
        ∙ none_beyond P old store (length (P ++ x ∷ []) + 1) (omega (arith, length-append P (x ∷ []))) q under

heads : (P : List Publication) (x : Publication) (m n : FileMap) → Stands m P → Stands n (P ++ x ∷ [])
    → m head_path ≢ n head_path
heads P x m n a b e = of P a.publications.few (sym a.head ∙ e ∙ b.head ∙ content-next P x)
  where
    of : (P : List Publication) → length P ≤ 4096 → head_content P ≡ Some (head_file_text (length P + 1)) → ⊥
    of [] few e = none-some (head_file_text 1) e
    of (y ∷ P) few e = let same = head_text_tells (length (y ∷ P)) (length (y ∷ P) + 1) (omega (arith, few))
        (omega (arith, few))
        (same_Some (head_file_text (length (y ∷ P))) (head_file_text (length (y ∷ P) + 1)) e) in omega (arith, same)

pub store_layout : IsLayout Stands HasNext head_file_text
store_layout = record {
  leftovers = leftovers;
  count = λ P m store. store.publications.few;
  limit = λ P m store. store.leftovers;
  head = λ P m n a b. a.head ∙ sym b.head;
  next = next;
  beyond = none_beyond;
  heads = heads;
}

-- The complete files of a publication are told by the paths under its folder alone.
pub next_local : (P : List Publication) (x : Publication) (files m : FileMap) → HasNext P x files
    → ((q : Text) → IsOfVersion (length P + 1) q → m q ≡ files q) → HasNext P x m
next_local P x files m has same = record { publications = has.publications; files = local P x files m has.files same }
