-- The head's file tells the number of the newest version.
use Rattle.std.proofs.Common.{◌≡◌, ℕ, [], ◌∷◌, arith, ◌≤◌}
use Rattle.std.specs.Prelude.{decimal}
use Rattle.std.proofs.lemmas.Fmt.{decimal_injective}
use Rattle.std.proofs.lemmas.List.{append_cancel_right}
use Rattle.cdb_model.specs.Records.{head_file_text}

pub head_text_tells : (j k : ℕ) → j ≤ 4097 → k ≤ 4097 → head_file_text j ≡ head_file_text k → j ≡ k
head_text_tells j k few small e = decimal_injective j k (omega (arith, few)) (omega (arith, small))
    (append_cancel_right (decimal j) (decimal k) (10 ∷ []) e)
