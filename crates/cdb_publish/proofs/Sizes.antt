-- What answers say of the sizes of files.
use Rattle.std.proofs.Common.{◌≡◌, ℕ, inl, inr, List, [], ◌∷◌, ◌++◌, Option, Result, Ok, Err, refl, sym, ◌∙◌, subst}
use Rattle.std.specs.Prelude.{IfErr}
use Rattle.cdb_model.specs.Maps.{Text, FileMap}
use Rattle.cdb_publish.specs.Needs.{Need, AreSized, IsFirstOff, TellsError, TellsSizes}
use Rattle.cdb_publish.specs.declared.errors.StepError.{StepError}
use Rattle.cdb_publish.specs.declared.errors.StepError.TheVariants.{Fault, Damaged}

-- Where all have their sizes, none is the first that hasn't.
pub sized_never : (m : FileMap) (needs : List Need) (expected : ℕ) (found : Option ℕ) → AreSized m needs
    → IsFirstOff m needs expected found → ⊥
sized_never m [] expected found sized off = off
sized_never m (need ∷ needs) expected found sized (inl off) = off.2 (off.1 ∙ sized.0)
sized_never m (need ∷ needs) expected found sized (inr off) = sized_never m needs expected found (sized.1) (off.1)

-- A step that reads nothing.
pub no_needs : {T : Type 0} (m : FileMap) (r : Result T StepError) → IfErr r (λ e. e ≡ Fault) → TellsSizes m [] r
no_needs m (Ok v) h = tt
no_needs m (Err e) h = let E : StepError → Type 0 = TellsError m [] in subst E (sym h) tt

-- Two runs of readings: the first ended well, or stopped.
pub sized-append : (m : FileMap) (xs ys : List Need) → AreSized m xs → AreSized m ys → AreSized m (xs ++ ys)
sized-append m [] ys a b = b
sized-append m (x ∷ xs) ys a b = (a.0, sized-append m xs ys (a.1) b)

pub error_later : (m : FileMap) (xs ys : List Need) (e : StepError) → AreSized m xs → TellsError m ys e
    → TellsError m (xs ++ ys) e
error_later m [] ys e a told = told
error_later m (x ∷ xs) ys Fault a told = tt
error_later m (x ∷ xs) ys (Damaged expected found) a told =
    inr (a.0, error_later m xs ys (Damaged expected found) (a.1) told)

pub error_before : (m : FileMap) (xs ys : List Need) (e : StepError) → TellsError m xs e → TellsError m (xs ++ ys) e
error_before m xs ys Fault told = tt
error_before m [] ys (Damaged expected found) told = absurd told
error_before m (x ∷ xs) ys (Damaged expected found) (inl off) = inl off
error_before m (x ∷ xs) ys (Damaged expected found) (inr off) =
    inr (off.0, error_before m xs ys (Damaged expected found) (off.1))

-- ---- one more in a loop

-- what stopped in the middle of a loop
pub stopped : (m : FileMap) (before this rest all : List Need) (e : StepError) → all ≡ before ++ (this ++ rest)
    → AreSized m before → TellsError m this e → TellsError m all e
stopped m before this rest all e is sized told =
    let E : List Need → Type 0 = λ l. TellsError m l e in
    subst E (sym is) (error_later m before (this ++ rest) e sized (error_before m this rest e told))

pub need_same : (m : FileMap) (e : StepError) (q r : Text) (n k : ℕ) → q ≡ r → n ≡ k
    → TellsError m (record { path = q; size = n } ∷ []) e → TellsError m (record { path = r; size = k } ∷ []) e
need_same m e q r n k path_is size_is told =
    subst (λ (i : ℕ). TellsError m (record { path = r; size = i } ∷ []) e) size_is
    (subst (λ (t : Text). TellsError m (record { path = t; size = n } ∷ []) e) path_is told)

pub only_fault : (m : FileMap) (needs : List Need) (e : StepError) → AreSized m needs → TellsError m needs e → e ≡ Fault
only_fault m needs Fault sized told = refl
only_fault m needs (Damaged expected found) sized told = absurd (sized_never m needs expected found sized told)
