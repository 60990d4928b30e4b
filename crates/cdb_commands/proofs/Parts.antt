-- Texts cut at the bytes that pass a test.
use Rattle.std.proofs.Common.{◌≡◌, ℕ, ◌+◌, ◌<◌, ◌≤◌, Bool, true, false, cond, not, List, [], ◌∷◌, length, take, drop, refl, ap, arith}
use Rattle.std.specs.List.{position_or_len, onto_first, slice_split}
use Rattle.std.proofs.lemmas.List.Splits.{slice_split_first}
use Rattle.cdb_model.specs.Words.{words, is_space}

pub first_part : (p : ℕ → Bool) (text : List ℕ) (i : ℕ) → i ≡ position_or_len p text → i < length text
    → slice_split p text ≡ take i text ∷ slice_split p (drop (i + 1) text)
first_part p text i e lt = let lt2 : position_or_len p text < length text = omega (arith, e) in
    rw e (slice_split_first p text 0 lt2)

pub only_part : (p : ℕ → Bool) (text : List ℕ) → length text ≤ position_or_len p text → slice_split p text ≡ text ∷ []
only_part p [] e = refl
only_part p (c ∷ text) e = by (only_part p text) (p c) refl e
  where
    by : (length text ≤ position_or_len p text → slice_split p text ≡ text ∷ []) → (b : Bool) → p c ≡ b
        → length (c ∷ text) ≤ cond (not b) (1 + position_or_len p text) 0
        → cond b ([] ∷ slice_split p text) (onto_first c (slice_split p text)) ≡ (c ∷ text) ∷ []
    by rest true s e = absurd (omega (arith, e))
    by rest false s e = ap (onto_first c) (rest (omega (arith, e)))

pub words_first : (text : List ℕ) (i : ℕ) → i ≡ position_or_len is_space text → i < length text
    → words text ≡ take i text ∷ words (drop (i + 1) text)
words_first text i e lt = first_part is_space text i e lt

pub words_only : (text : List ℕ) → length text ≤ position_or_len is_space text → words text ≡ text ∷ []
words_only text e = only_part is_space text e

pub ruleset words_parts = (words_first, words_only)
