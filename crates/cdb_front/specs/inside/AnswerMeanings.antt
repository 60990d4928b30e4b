-- Inside the crate: the answers of the program: which answer of the machine each is, and how it is written.
use Rattle.std.specs.Prelude.{ℕ, ◌∷◌, codes, decimal, Option, None, Some}
use Rattle.cdb_model.specs.Text.{Text}

-- a size that was found, or that there was none
abbrev pub found_text : Option ℕ → Text
found_text None = codes " none"
found_text (Some found) = 32 ∷ decimal found
