-- Frames that are written number by number and row by row.
use Rattle.std.proofs.Common.{◌≡◌, ℕ, suc, ◌+◌, ◌-◌, ◌*◌, ◌<◌, ◌≤◌, inl, inr, ℤ, List, length, sym, ◌∙◌, ap, arith}
use Rattle.std.proofs.lemmas.Bool.{cases_lt}
use Rattle.std.proofs.Math.Nat.{mul-le-mul_right}
use borrow.Rule.Slice.PartMut.{put_mid}
use Rattle.cdb_grid.specs.Frames.{number_in, number_at}
use Rattle.cdb_grid.proofs.FrameLaws.{put_below, put_inside}
use Rattle.cdb_cut.proofs.PostLaws.{index_below}

row_fits : (n side len : ℕ) → n < side → len ≡ side * side → n * side + side ≤ len
row_fits n side len lt e = let m : suc n * side ≤ side * side = mul-le-mul_right side lt in omega arith

-- one row of a frame more
pub row_more : (want : ℕ → ℕ → ℤ) (n side a w : ℕ) (xs ys : List ℤ) → n < side → a ≡ n * side → w ≡ side
    → length xs ≡ side * side → length ys ≡ side
    → ((r c : ℕ) → r < n → c < side → number_at xs side r c ≡ want r c)
    → ((c : ℕ) → c < side → number_in ys c ≡ want n c)
    → (r c : ℕ) → r < n + 1 → c < side → number_at (put_mid a w xs ys) side r c ≡ want r c
row_more want n side a w xs ys lt from wide size len done row r c below under =
    let fits : n * side + side ≤ length xs = row_fits n side (length xs) lt size in
    let fit : a + w ≤ length xs = omega arith in
    let full : length ys ≡ w = len ∙ sym wide in
    elim (cases_lt r n) [
      | inl p ↦ let before : r * side + c < n * side = index_below r c n side p under in
          let left : r * side + c < a = omega arith in
          put_below a w (r * side + c) xs ys left fit full ∙ done r c p under
      | inr p ↦ let q : r ≡ n = omega arith in let in_part : c < w = omega arith in
          ap (λ k. number_in (put_mid a w xs ys) (k * side + c)) q ∙ ap (λ k. number_in (put_mid a w xs ys) (k + c))
          (sym from) ∙ put_inside a w c xs ys in_part fit full ∙ row c under ∙ sym (ap (λ k. want k c) q)
    ]

pub span_of : (row s side : ℕ) → s ≡ side → row * s + s - row * s ≡ side
span_of row s side e = omega arith
