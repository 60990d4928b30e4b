-- A map stands for at most one list.
use Rattle.std.proofs.Common.{◌≡◌, ℕ, suc, ◌+◌, ◌≤◌, List, [], ◌∷◌, ◌++◌, length, append_assoc, Some, refl, sym, ap, ◌∙◌, subst, arith}
use Rattle.std.specs.Prelude.{slice_get}
use Rattle.std.proofs.lemmas.Option.{same_Some, none-some}
use Rattle.cdb_source.proofs.DecodingLaws.{one_source}
use Rattle.cdb_source.specs.Texts.{source_text}
use Rattle.cdb_source.specs.declared.source.Source.{Source}
use Rattle.cdb_model.specs.Maps.{Content, FileMap, IsThere}
use Rattle.cdb_model.specs.Names.{source_path}
use Rattle.cdb_model.specs.Records.{head_file_text}
use Rattle.cdb_model.specs.Stands.{HasVersion, IsVersionFile, head_content, Stands}
use Rattle.cdb_crash.specs.Leftovers.{IsOfVersion}
use Rattle.cdb_crash.specs.Laws.{OneList}
use Rattle.cdb_crash.proofs.FilePaths.{file_at_source}
use Rattle.cdb_crash.proofs.HeadTexts.{head_text_tells}
use Rattle.cdb_crash.proofs.StoreLaws.{file_under}

-- A source of one publication is the source of the other at its number.
source_of_other : (m : FileMap) (earlier : List (List Source)) (xs ys : List Source) → HasVersion m earlier xs
    → HasVersion m earlier ys
    → (i : ℕ) (s : Source) → slice_get xs i ≡ Some s → slice_get ys i ≡ Some s
source_of_other m earlier xs ys a b i s at =
    found (b.only (source_path (length earlier + 1) (i + 1)) under
    (let T : Content → Type 0 = IsThere in subst T (sym has) tt))
  where
    has : m (source_path (length earlier + 1) (i + 1)) ≡ Some (source_text s)
    has = a.there _ _ (IsVersionFile.of_source i s at)

    under : IsOfVersion (length earlier + 1) (source_path (length earlier + 1) (i + 1))
    under = file_under earlier xs a.tiles _ _ (IsVersionFile.of_source i s at)

    found : (bytes : List ℕ) × IsVersionFile earlier ys b.tiles (source_path (length earlier + 1) (i + 1)) bytes
        → slice_get ys i ≡ Some s
    found (bytes, file) =
        of (file_at_source earlier ys b.tiles (source_path (length earlier + 1) (i + 1)) bytes i file refl)
      where
        of : (t : Source) × (slice_get ys i ≡ Some t) × (bytes ≡ source_text t) → slice_get ys i ≡ Some s
        of (t, at_i, is) = at_i
            ∙ ap (λ x. Some x)
            (one_source t s (sym is ∙ same_Some bytes (source_text s) (sym (b.there _ bytes file) ∙ has)))

-- Lists with the same elements at the same places.
same_elements : {A : Type 0} (xs ys : List A) → ((i : ℕ) (s : A) → slice_get xs i ≡ Some s → slice_get ys i ≡ Some s)
    → ((i : ℕ) (s : A) → slice_get ys i ≡ Some s → slice_get xs i ≡ Some s) → xs ≡ ys
same_elements [] [] f g = refl
same_elements [] (y ∷ ys) f g = absurd (none-some y (g 0 y refl))
same_elements (x ∷ xs) [] f g = absurd (none-some x (f 0 x refl))
same_elements (x ∷ xs) (y ∷ ys) f g =
    let first = same_Some x y (sym (f 0 x refl)) in
    let rest = same_elements xs ys (λ i s e. f (suc i) s e) (λ i s e. g (suc i) s e) in
    λ i. first i ∷ rest i

pub same_publication : (m : FileMap) (earlier : List (List Source)) (xs ys : List Source) → HasVersion m earlier xs
    → HasVersion m earlier ys → xs ≡ ys
same_publication m earlier xs ys a b = same_elements xs ys (source_of_other m earlier xs ys a b)
    (source_of_other m earlier ys xs b a)

Versions : FileMap → List (List Source) → Type 0
Versions m list = (earlier : List (List Source)) (sources : List Source) (later : List (List Source))
    → list ≡ earlier ++ sources ∷ later → HasVersion m earlier sources

same_publications : (m : FileMap) (done P Q : List (List Source)) → length P ≡ length Q → Versions m (done ++ P)
    → Versions m (done ++ Q) → P ≡ Q
unfolding Versions
same_publications m done [] [] len a b = refl
same_publications m done [] (y ∷ Q) len a b = absurd (omega (arith, len))
same_publications m done (x ∷ P) [] len a b = absurd (omega (arith, len))
same_publications m done (x ∷ P) (y ∷ Q) len a b =
    both (same_publications m (done ++ x ∷ []) P Q (omega (arith, len)) (later x P a) (moved y first b))
  where
    first : x ≡ y
    first = same_publication m done x y (a done x P refl) (b done y Q refl)

    later : (z : List Source) (R : List (List Source)) → Versions m (done ++ z ∷ R) → Versions m ((done ++ z ∷ []) ++ R)
    later z R h = let V : List (List Source) → Type 0 = Versions m in subst V (sym (append_assoc done (z ∷ []) R)) h

    moved : (z : List Source) → x ≡ z → Versions m (done ++ z ∷ Q) → Versions m ((done ++ x ∷ []) ++ Q)
    moved z e h = let V : List Source → Type 0 = λ w. Versions m ((done ++ w ∷ []) ++ Q) in
        subst V (sym e) (later z Q h)

    both : P ≡ Q → x ∷ P ≡ y ∷ Q
    both rest i = first i ∷ rest i

pub one_list : OneList Stands
unfolding Versions
one_list m P Q a b =
    same_publications m [] P Q (lengths P Q a.publications.few b.publications.few (sym a.head ∙ b.head))
    (λ earlier sources later is. a.versions earlier sources later is)
    (λ earlier sources later is. b.versions earlier sources later is)
  where
    lengths : (P Q : List (List Source)) → length P ≤ 4096 → length Q ≤ 4096 → head_content P ≡ head_content Q
        → length P ≡ length Q
    lengths [] [] f g e = refl
    lengths [] (y ∷ Q) f g e = absurd (none-some (head_file_text (length (y ∷ Q))) e)
    lengths (x ∷ P) [] f g e = absurd (none-some (head_file_text (length (x ∷ P))) (sym e))
    lengths (x ∷ P) (y ∷ Q) f g e = head_text_tells (length (x ∷ P)) (length (y ∷ Q)) (omega (arith, f))
        (omega (arith, g))
        (same_Some (head_file_text (length (x ∷ P))) (head_file_text (length (y ∷ Q))) e)
