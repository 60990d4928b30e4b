-- The words of a line, separated by single spaces, and the numbers among them.
use Rattle.std.specs.Prelude.{ℕ, ℤ, pos, neg_ℤ, Bool, ◌&&◌, List, [], ◌∷◌, length, Option, Some, None, is_some, option_map, option_and_then, nat_lt, nat_le, ◌==◌, if◌then◌else◌}
use Rattle.std.specs.Char.{is_ascii_digit}
use Rattle.std.specs.List.{list_all, slice_split}
use Rattle.std.specs.Str.Parse.{digits_value}
use Rattle.cdb_model.specs.Text.{Text}

-- steps of a reading, one after another: where one gives nothing, the whole does
infixl 10 ◌>>=◌
abbrev pub ◌>>=◌ : {A B : Type 0} → Option A → (A → Option B) → Option B
o >>= f = option_and_then f o

abbrev pub is_space : ℕ → Bool
is_space c = c == 32

-- the parts between single spaces; two spaces, or one at an end, make an empty word
abbrev pub words : Text → List Text
words line = slice_split is_space line

-- the first of a list of words, and those after it; none of an empty list
abbrev pub first_word : List Text → Option (Text × List Text)
first_word [] = None
first_word (w ∷ ws) = Some (w, ws)

-- what a reading of one word gives of the first word, and the words after it
abbrev pub first_field : {X : Type 0} → (Text → Option X) → List Text → Option (X × List Text)
first_field read ws = option_and_then (λ p. option_map (λ x. (x, p.1)) (read p.0)) (first_word ws)

-- what a reading of one word gives of the only word that is left
abbrev pub only_word : {X : Type 0} → (Text → Option X) → List Text → Option X
only_word read ws = option_and_then (λ p. if is_some (first_word p.1) then None else read p.0) (first_word ws)

-- a number of 1 to `most` digits
unfoldable pub digits : ℕ → Text → Option ℕ
digits most w = if nat_lt 0 (length w) && nat_le (length w) most && list_all is_ascii_digit w
    then Some (digits_value 10 w) else None

-- an optional minus, and 1 to `most` digits
unfoldable pub signed : ℕ → Text → Option ℤ
signed most [] = None
signed most (c ∷ w) = if c == 45 then option_map (λ n. neg_ℤ (pos n)) (digits most w)
    else option_map (λ n. pos n) (digits most (c ∷ w))
