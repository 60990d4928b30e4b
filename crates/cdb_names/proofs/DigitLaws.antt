-- Numbers in two, three and eight digits.
use Rattle.std.proofs.Common.{◌≡◌, ℕ, ◌+◌, ◌-◌, ◌*◌, ◌<◌, ◌≤◌, true, cond, ◌&&◌, [], ◌∷◌, ◌++◌, Some, None, ap, sym, subst, ◌∙◌, arith}
use Rattle.std.specs.Prelude.{◌/◌, ◌%◌}
use Rattle.std.specs.Char.{is_ascii_digit}
use Rattle.std.proofs.lemmas.Bool.Decides.{nat_tests}
use Rattle.std.proofs.lemmas.Option.{cond_some}
use Rattle.std.proofs.lemmas.Bool.{and_parts}
use Rattle.cdb_model.specs.Names.{Text, two, three}
use Rattle.cdb_names.specs.Fields.{two_of, two_at, three_at}
use Rattle.cdb_names.proofs.Tools.{then_some, map_some, pair_is}

pub digit_range : (c : ℕ) → is_ascii_digit c ≡ true → (48 ≤ c) × (c ≤ 57)
digit_range c e = grind (arith, nat_tests)

pub is_digit : (c : ℕ) → c < 10 → is_ascii_digit (48 + c) ≡ true
is_digit c h = grind (arith, nat_tests)

cells : (a b c d : ℕ) → a ≡ c → b ≡ d → a ∷ b ∷ [] ≡ c ∷ d ∷ []
cells a b c d e f = cc

pub two_takes : (a b n : ℕ) → two_of a b ≡ Some n → (two n ≡ a ∷ b ∷ []) × (n < 100)
two_takes a b n e =
    let g = cond_some (is_ascii_digit a && is_ascii_digit b) ((a - 48) * 10 + (b - 48)) n e in
    let t = and_parts (is_ascii_digit a) (is_ascii_digit b) g.0 in
    let p = digit_range a t.0 in
    let q = digit_range b t.1 in
    let is : (a - 48) * 10 + (b - 48) ≡ n = g.1 in
    (cells (48 + n / 10) (48 + n % 10) a b (omega arith) (omega arith), omega arith)

pub two_again : (n : ℕ) → n < 100 → two_of (48 + n / 10) (48 + n % 10) ≡ Some n
two_again n h =
    let a : is_ascii_digit (48 + n / 10) ≡ true = is_digit (n / 10) (omega arith) in
    let b : is_ascii_digit (48 + n % 10) ≡ true = is_digit (n % 10) (omega arith) in
    let e : (48 + n / 10 - 48) * 10 + (48 + n % 10 - 48) ≡ n = omega arith in
    rw (a, b) (ap Some e)

pub two_at_takes : (text : Text) (n : ℕ) (rest : Text) → two_at text ≡ Some (n, rest)
    → (text ≡ two n ++ rest) × (n < 100)
two_at_takes [] n rest e = absurd cc
two_at_takes (a ∷ []) n rest e = absurd cc
two_at_takes (a ∷ b ∷ text) n rest e =
    let m = map_some (two_of a b) (λ n. (n, text)) (n, rest) e in
    let p = pair_is m.0 n text rest m.2 in
    let t = two_takes a b m.0 m.1 in
    let whole : a ∷ b ∷ text ≡ two m.0 ++ text = ap (λ (f : Text). f ++ text) (sym t.0) in (
      subst (λ (r : Text). a ∷ b ∷ text ≡ two n ++ r) p.1 (subst (λ (k : ℕ). a ∷ b ∷ text ≡ two k ++ text) p.0 whole),
      omega (arith, t.1, p.0),
    )

pub three_at_takes : (text : Text) (n : ℕ) (rest : Text) → three_at text ≡ Some (n, rest)
    → (text ≡ three n ++ rest) × (n < 1000)
three_at_takes [] n rest e = absurd cc
three_at_takes (a ∷ text) n rest e =
    let m = then_some (two_at text) (λ n. cond (is_ascii_digit a) (Some ((a - 48) * 100 + n.0, n.1)) None) (n, rest)
    e in
    let g = cond_some (is_ascii_digit a) ((a - 48) * 100 + m.0.0, m.0.1) (n, rest) m.2 in
    let p = pair_is ((a - 48) * 100 + m.0.0) n m.0.1 rest g.1 in
    let t = two_at_takes text m.0.0 m.0.1 m.1 in
    let d = digit_range a g.0 in
    let is : (a - 48) * 100 + m.0.0 ≡ n = p.0 in
    let low : m.0.0 < 100 = t.1 in
    let high : a ≡ 48 + n / 100 = omega arith in
    let least : m.0.0 ≡ n % 100 = omega arith in
    let whole : a ∷ text ≡ a ∷ (two m.0.0 ++ m.0.1) = ap (λ (r : Text). a ∷ r) t.0 in
    let e1 : a ∷ text ≡ a ∷ (two (n % 100) ++ rest) = whole ∙ ap (λ (k : ℕ). a ∷ (two k ++ m.0.1)) least
    ∙ ap (λ (r : Text). a ∷ (two (n % 100) ++ r)) p.1 in
    (e1 ∙ ap (λ (k : ℕ). k ∷ (two (n % 100) ++ rest)) high, omega arith)

pub three_at_again : (n : ℕ) (rest : Text) → n < 1000 → three_at (three n ++ rest) ≡ Some (n, rest)
three_at_again n rest h =
    let a : is_ascii_digit (48 + n / 100) ≡ true = is_digit (n / 100) (omega arith) in
    let e : (48 + n / 100 - 48) * 100 + n % 100 ≡ n = omega arith in
    rw (two_again (n % 100) (omega arith), a) (ap (λ (k : ℕ). Some (k, rest)) e)
