-- Parts of lists of bytes.
use Rattle.std.proofs.Common.{◌≡◌, ℕ, ◌+◌, ◌<◌, ◌≤◌, min, List, [], ◌++◌, length, take, drop, arith, ap, sym, ◌∙◌, length-append}
use Rattle.std.proofs.lemmas.List.{take-append-drop, take-append-le, drop-drop, length-drop, nil_from_length}
use Rattle.std.proofs.Math.Seq.{take-length}

-- what was copied to the front of a buffer, and then the rest, is what was left
pub given : (all into front : List ℕ) (at n : ℕ) → length front ≡ n → front ≡ take n (drop at all)
    → drop at all ≡ take n (front ++ drop n into) ++ drop (at + n) all
given all into front at n long e =
    let le : n ≤ length front = omega arith in
    let a : take n (front ++ drop n into) ≡ take n front = take-append-le n front (drop n into) le in
    let b : take n front ≡ front = ap (λ k. take k front) (sym long) ∙ take-length front in
    sym (take-append-drop n (drop at all)) ∙ ap (λ l. l ++ drop n (drop at all)) (sym e ∙ sym b ∙ sym a)
    ∙ ap (λ l. take n (front ++ drop n into) ++ l) (drop-drop n at all)

-- nothing is left where nothing was copied and there was room
pub ended : (all into front : List ℕ) (at n piece : ℕ) → 0 < piece
    → n ≡ min (min (length into) piece) (length (drop at all)) → length front ≡ n → n ≡ 0
    → 0 < length (front ++ drop n into) → drop (at + n) all ≡ []
ended all into front at n piece some is long none room =
    nil_from_length (drop (at + n) all) (omega (arith, length-drop {A = ℕ}, length-append {A = ℕ}))
