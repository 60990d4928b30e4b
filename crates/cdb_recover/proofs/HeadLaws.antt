-- What the file that names the newest version tells of a list.
use Rattle.std.proofs.Common.{◌≡◌, ℕ, ◌+◌, ◌≤◌, ◌<◌, List, [], ◌∷◌, length, length-append, Option, None, Some, Result}
use Rattle.std.proofs.Common.{Ok, Err, IfErr, inl, inr, refl, sym, ap, subst, arith}
use Rattle.std.specs.Fmt.{decimal}
use Rattle.std.proofs.lemmas.Fmt.{length-decimal-le}
use Rattle.cdb_source.specs.declared.source.Source.{Source}
use Rattle.cdb_model.specs.Maps.{Content, FileMap, size_of}
use Rattle.cdb_model.specs.Names.{head_path}
use Rattle.cdb_model.specs.Records.{head_file_text}
use Rattle.cdb_model.specs.Stands.{head_content, Stands}
use Rattle.cdb_crash.specs.Leftovers.{HasAtMost}
use Rattle.cdb_crash.proofs.HeadTexts.{head_text_tells}
use Rattle.cdb_recover.specs.Answers.{NamesNewest, NamesNone, HasTooMany, IsAnswer}
use Rattle.cdb_recover.specs.declared.recover_error.RecoverError.{RecoverError}
use Rattle.cdb_recover.specs.declared.recover_error.RecoverError.TheVariants.{Fault, NotAStore}

-- The text of a head has at most five bytes.
pub short_head : (n : ℕ) → n ≤ 4096 → length (head_file_text n) ≤ 5
short_head n most = let few = length-decimal-le 4 n (omega arith) (omega arith) (omega arith) in
    omega (arith, few, length-append (decimal n) (10 ∷ []))

pub long_head : (bytes : List ℕ) → 5 < length bytes → NamesNone (Some bytes)
long_head bytes long n least most e = omega (arith, long, ap length e, short_head n most)

pub long_file : (content : Content) (n : ℕ) → Some n ≡ size_of content → 5 < n → NamesNone content
long_file None n size long = absurd (let P : Option ℕ → Type 0 = Gone in subst P (sym size) tt)
  where
    Gone : Option ℕ → Type 0
    Gone None = Unit {0}
    Gone (Some n) = ⊥
long_file (Some bytes) n size long = long_head bytes (omega (arith, long, ap value size))
  where
    value : Option ℕ → ℕ
    value None = 0
    value (Some k) = k

newest_of : (list : List (List Source)) (n : ℕ) → length list ≤ 4096 → NamesNewest (head_content list) n
    → n ≡ length list
newest_of [] n few named = named
newest_of (x ∷ list) n few (least, most, e) =
    sym (head_text_tells (length (x ∷ list)) n (omega (arith, few)) (omega (arith, most)) e)

-- Over a store the newest version that is named is that of its list.
pub newest_is : (m : FileMap) (list : List (List Source)) (n : ℕ) → Stands m list → NamesNewest (m head_path) n
    → n ≡ length list
newest_is m list n stands named = let N : Content → Type 0 = λ c. NamesNewest c n in
    newest_of list n stands.publications.few (subst N stands.head named)

named_some : (list : List (List Source)) → length list ≤ 4096 → NamesNone (head_content list) → ⊥
named_some [] few none = none
named_some (x ∷ list) few none = none (length (x ∷ list)) (omega arith) few refl

pub names_one : (m : FileMap) (list : List (List Source)) → Stands m list → NamesNone (m head_path) → ⊥
names_one m list stands none = named_some list stands.publications.few (subst NamesNone stands.head none)

not_full : (m : FileMap) (list : List (List Source)) (version place : ℕ) → Stands m list
    → HasTooMany m version place → ⊥
not_full m list version place stands full =
    let H : ℕ → Type 0 = λ n. HasAtMost 65536 (n + 1) m in
    full.many (subst H (sym (newest_is m list full.newest stands full.named)) stands.leftovers)

-- Over a store recovery fails only where a call of the disk does.
pub store_faults : (m : FileMap) (list : List (List Source)) (result : Result ℕ RecoverError) → Stands m list
    → IsAnswer m result → IfErr result (λ error. error ≡ Fault)
store_faults m list (Ok newest) stands answer = tt
store_faults m list (Err Fault) stands answer = refl
store_faults m list (Err (NotAStore version place)) stands (inl none) = absurd (names_one m list stands (none.0))
store_faults m list (Err (NotAStore version place)) stands (inr full) =
    absurd (not_full m list version place stands full)
