-- The text of the file that names the newest version.
use Rattle.std.proofs.Common.{◌≡◌, ℕ, ◌≤◌, List, [], ◌∷◌, ◌++◌, Result, Ok, Err, Some, None, IsUtf8, ap, rules, arith}
use Rattle.std.specs.Fmt.{decimal}
use Rattle.std.specs.Result.{MatchResult, result_ok}
use Rattle.std.specs.Str.Parse.{ParsesUnsigned}
use Rattle.std.proofs.lemmas.Fmt.{IsAscii-decimal, parse-decimal}
use Rattle.std.proofs.lemmas.List.{append_cancel_right}
use Rattle.std.proofs.lemmas.Str.{IsUtf8-append, IsUtf8-from_ascii}
use Rattle.cdb_model.specs.Records.{head_file_text}

-- the bytes of a version are text
pub is_text : (n : ℕ) → n ≤ 4096 → IsUtf8 (head_file_text n)
is_text n most = IsUtf8-append (decimal n) (10 ∷ []) (IsUtf8-from_ascii (decimal n) (IsAscii-decimal n (omega arith)))
    (IsUtf8-from_ascii (10 ∷ []) (search rules))

-- bytes that are refused as text are none
pub no_text : {S E : Type 0} (P : S → Type 0) (V : E → Type 0) (U : Type 0) (r : Result S E)
    → MatchResult r P (λ e. (U → ⊥) × V e) → None ≡ result_ok r → U → ⊥
no_text P V U (Ok s) h e u = absurd cc
no_text P V U (Err x) h e u = h.0 u

-- the number before the line feed
pub parsed : {E : Type 0} (front : List ℕ) (n : ℕ) (r : Result ℕ E) → n ≤ 4096 → front ++ 10 ∷ [] ≡ head_file_text n
    → ParsesUnsigned 32 10 front r → result_ok r ≡ Some n
parsed front n r most e p =
    ap result_ok
    (parse-decimal 32 n front r (omega arith) (omega arith) (append_cancel_right front (decimal n) (10 ∷ []) e) p)
