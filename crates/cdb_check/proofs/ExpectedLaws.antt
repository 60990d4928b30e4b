-- Files that were looked at in turn.
use Rattle.std.proofs.Common.{◌≡◌, ℕ, zero, suc, ◌+◌, inl, inr, List, [], ◌∷◌, ◌++◌, take, Some, Result, Ok, Err, sym, ◌∙◌, ap, subst, arith}
use Rattle.std.specs.Prelude.{slice_get}
use Rattle.std.proofs.lemmas.Option.{same_Some, none-some}
use Rattle.cdb_source.specs.declared.head.SourceHead.{SourceHead}
use Rattle.cdb_source.specs.declared.source.Source.{Source}
use Rattle.cdb_model.specs.Maps.{Text, FileMap}
use Rattle.cdb_manifest.specs.declared.record_.Record.{Record}
use Rattle.cdb_check.specs.Expected.{SourceFile, Expected, path_of, source_files_from, source_files_of, Spells, SpellAll, IsAsExpected, AllAsExpected, FirstOther}
use Rattle.cdb_check.specs.Outcome.{FirstDiffering}
use Rattle.cdb_check.specs.inside.Outcome.{Judges}
use Rattle.cdb_check.specs.declared.outcome.CheckError.{CheckError}
use Rattle.cdb_check.specs.declared.outcome.CheckError.TheVariants.{Memory, Fault, Differs}

-- ---- all met, and the first that isn't

pub met_append : (m : FileMap) (xs ys : List Expected) → AllAsExpected m xs → AllAsExpected m ys
    → AllAsExpected m (xs ++ ys)
met_append m [] ys a b = b
met_append m (x ∷ xs) ys a b = (a.0, met_append m xs ys a.1 b)

pub unmet_later : (m : FileMap) (xs ys : List Expected) (q : Text) → AllAsExpected m xs → FirstOther m ys q
    → FirstOther m (xs ++ ys) q
unmet_later m [] ys q a u = u
unmet_later m (x ∷ xs) ys q a u = inr (a.0, unmet_later m xs ys q a.1 u)

pub unmet_early : (m : FileMap) (xs ys : List Expected) (q : Text) → FirstOther m xs q → FirstOther m (xs ++ ys) q
unmet_early m [] ys q u = absurd u
unmet_early m (x ∷ xs) ys q (inl here) = inl here
unmet_early m (x ∷ xs) ys q (inr later) = inr (later.0, unmet_early m xs ys q later.1)

-- not all are met where one is the first that isn't, and there is one such path
pub one_or_other : (m : FileMap) (xs : List Expected) (q : Text) → AllAsExpected m xs → FirstOther m xs q → ⊥
one_or_other m [] q a u = u
one_or_other m (x ∷ xs) q a (inl here) = here.0 a.0
one_or_other m (x ∷ xs) q a (inr later) = one_or_other m xs q a.1 later.1

pub one_first : (m : FileMap) (xs : List Expected) (p q : Text) → FirstOther m xs p → FirstOther m xs q → p ≡ q
one_first m [] p q a b = absurd a
one_first m (x ∷ xs) p q (inl a) (inl b) = a.1 ∙ sym b.1
one_first m (x ∷ xs) p q (inl a) (inr b) = absurd (a.0 b.0)
one_first m (x ∷ xs) p q (inr a) (inl b) = absurd (b.0 a.0)
one_first m (x ∷ xs) p q (inr a) (inr b) = one_first m xs p q a.1 b.1

-- ---- what calls answer

-- an error among the first is one among all; an answer to the others is one to all
pub early : (T U : Type 0) (m : FileMap) (xs ys : List Expected) (e : CheckError) → FirstDiffering {T = T} m xs (Err e)
    → FirstDiffering {T = U} m (xs ++ ys) (Err e)
early T U m xs ys Memory f = tt
early T U m xs ys Fault f = tt
early T U m xs ys (Differs told) f = unmet_early m xs ys told.bytes f

pub onward : {T : Type 0} (m : FileMap) (xs ys : List Expected) (r : Result T CheckError) → AllAsExpected m xs
    → FirstDiffering m ys r → FirstDiffering m (xs ++ ys) r
onward m xs ys (Ok v) a f = met_append m xs ys a f
onward m xs ys (Err Memory) a f = tt
onward m xs ys (Err Fault) a f = tt
onward m xs ys (Err (Differs told)) a f = unmet_later m xs ys told.bytes a f

-- ---- lists by their places

-- what is met up to a place, and the one there
pub met_to : (m : FileMap) (xs : List Expected) (k : ℕ) (x : Expected) → slice_get xs k ≡ Some x
    → AllAsExpected m (take k xs) → IsAsExpected m x → AllAsExpected m (take (suc k) xs)
met_to m [] k x e a b = absurd (none-some x e)
met_to m (y ∷ ys) zero x e a b = (subst (λ z. IsAsExpected m z) (sym (same_Some y x e)) b, tt)
met_to m (y ∷ ys) (suc k) x e a b = (a.0, met_to m ys k x e a.1 b)

pub met_next : (m : FileMap) (xs : List Expected) (k n : ℕ) (x : Expected) → n ≡ k + 1 → slice_get xs k ≡ Some x
    → AllAsExpected m (take k xs) → IsAsExpected m x → AllAsExpected m (take n xs)
met_next m xs k n x is e a b = let same : suc k ≡ n = omega (arith, is) in
    subst (λ j. AllAsExpected m (take j xs)) same (met_to m xs k x e a b)

pub unmet_at : (m : FileMap) (xs : List Expected) (k : ℕ) (x : Expected) (q : Text) → slice_get xs k ≡ Some x
    → AllAsExpected m (take k xs) → (IsAsExpected m x → ⊥) → q ≡ path_of x → FirstOther m xs q
unmet_at m [] k x q e a b p = absurd (none-some x e)
unmet_at m (y ∷ ys) zero x q e a b p = let same = same_Some y x e in
    inl (subst (λ z. IsAsExpected m z → ⊥) (sym same) b, p ∙ ap path_of (sym same))
unmet_at m (y ∷ ys) (suc k) x q e a b p = inr (a.0, unmet_at m ys k x q e a.1 b p)

-- an error at a place
pub stopped_at : (T U : Type 0) (m : FileMap) (xs : List Expected) (k : ℕ) (x : Expected) (q : Text) (e : CheckError)
    → slice_get xs k ≡ Some x → q ≡ path_of x
    → AllAsExpected m (take k xs) → Judges {T = T} (IsAsExpected m x) q (Err e) → FirstDiffering {T = U} m xs (Err e)
stopped_at T U m xs k x q Memory at p a j = tt
stopped_at T U m xs k x q Fault at p a j = tt
stopped_at T U m xs k x q (Differs told) at p a j = unmet_at m xs k x told.bytes at a j.0 (j.1 ∙ p)

-- the source file of a place
pub file_at : (version number : ℕ) (heads : List SourceHead) (k : ℕ) (head : SourceHead) → slice_get heads k ≡ Some head
    → slice_get (source_files_from version number heads) k ≡ Some record
    { version = version; number = number + k; head = head }
file_at version number [] k head e = absurd (none-some head e)
file_at version number (h ∷ hs) zero head e =
    let same : h ≡ head = same_Some h head e in
    let number_is : number ≡ number + 0 = omega arith in
    (λ i. Some record { version = version; number = number_is i; head = same i })
file_at version number (h ∷ hs) (suc k) head e =
    let number_is : number + 1 + k ≡ number + suc k = omega arith in
    file_at version (number + 1) hs k head e
    ∙ (λ i. Some record { version = version; number = number_is i; head = head })

-- sources that are spelled, and one more
pub spell_more : (m : FileMap) (files : List SourceFile) (ss : List Source) (file : SourceFile) (s : Source)
    → SpellAll m files ss → Spells m file s → SpellAll m (files ++ file ∷ []) (ss ++ s ∷ [])
spell_more m [] [] file s a b = (b, tt)
spell_more m [] (x ∷ xs) file s a b = absurd a
spell_more m (y ∷ ys) [] file s a b = absurd a
spell_more m (y ∷ ys) (x ∷ xs) file s a b = (a.0, spell_more m ys xs file s a.1 b)

-- the source files of versions one after another
abbrev pub all_source_files : List Record → List SourceFile
all_source_files [] = []
all_source_files (r ∷ records) = source_files_of r ++ all_source_files records
