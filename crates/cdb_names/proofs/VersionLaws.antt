-- The folders of versions are apart from each other and from the two heads.
use Rattle.std.proofs.Common.{◌≡◌, ℕ, ◌+◌, ◌∷◌, ◌++◌, ap, sym, ◌∙◌, arith, get_or}
use Rattle.std.specs.Prelude.{◌/◌, ◌%◌}
use Rattle.cdb_model.specs.Names.{Text, version_folder, head_path, new_head_path, IsUnder}

-- two digits tell their number
pub two_tell : (m n : ℕ) → 48 + m / 10 ≡ 48 + n / 10 → 48 + m % 10 ≡ 48 + n % 10 → m ≡ n
two_tell m n high low = omega arith

pub by_hundreds : (m n : ℕ) → m / 100 ≡ n / 100 → m % 100 ≡ n % 100 → m ≡ n
by_hundreds m n high low = omega arith

by_myriads : (m n : ℕ) → m / 10000 ≡ n / 10000 → m % 10000 ≡ n % 10000 → m ≡ n
by_myriads m n high low = omega arith

pub folders_apart : (j k : ℕ) (p : Text) → IsUnder (version_folder j) p → IsUnder (version_folder k) p → j ≡ k
folders_apart j k p a b =
    let e : version_folder j ++ 47 ∷ a.0 ≡ version_folder k ++ 47 ∷ b.0 = sym a.1 ∙ b.1 in
    let at = λ (i : ℕ). ap (λ (t : Text). get_or t i 0) e in
    by_myriads j k
    (by_hundreds (j / 10000) (k / 10000) (two_tell (j / 10000 / 100) (k / 10000 / 100) (at 1) (at 2))
    (two_tell (j / 10000 % 100) (k / 10000 % 100) (at 3) (at 4)))
    (by_hundreds (j % 10000) (k % 10000) (two_tell (j % 10000 / 100) (k % 10000 / 100) (at 5) (at 6))
    (two_tell (j % 10000 % 100) (k % 10000 % 100) (at 7) (at 8)))

pub head_apart : (k : ℕ) → IsUnder (version_folder k) head_path → ⊥
head_apart k a = let e : 72 ≡ 86 = ap (λ (t : Text). get_or t 0 0) a.1 in omega (arith, e)

pub new_head_apart : (k : ℕ) → IsUnder (version_folder k) new_head_path → ⊥
new_head_apart k a = let e : 72 ≡ 86 = ap (λ (t : Text). get_or t 0 0) a.1 in omega (arith, e)
