-- Texts: lists of bytes.
use Rattle.std.specs.Prelude.{ℕ, zero, suc, List, [], ◌∷◌, ◌++◌, decimal}

abbrev pub Text : Type 0
Text = List ℕ

-- a line with the line feed that ends it
abbrev pub ended : Text → Text
ended line = line ++ 10 ∷ []

-- so many pieces, numbered from 0, one after another: the last one first
abbrev pub last_first : {A : Type 0} → ℕ → (ℕ → List A) → List A
last_first zero piece = []
last_first (suc n) piece = piece n ++ last_first n piece

-- a word and its numbers, in decimal, after single spaces
abbrev pub numbered : Text → List ℕ → Text
numbered text [] = text
numbered text (n ∷ ns) = numbered (text ++ 32 ∷ decimal n) ns
