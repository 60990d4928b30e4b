-- The texts that may stand for a sentence: its words with one space between each two, numbers with leading zeros or
-- without.
use Rattle.std.specs.Prelude.{◌≡◌, ℕ, zero, suc, ℤ, pos, neg_ℤ, ◌≤◌, ◌⊎◌, List, [], ◌∷◌, ◌++◌, length, map, codes, Some}
use Rattle.std.specs.Fmt.{decimal}
use Rattle.std.specs.List.{join_with_byte}
use Rattle.cdb_grid.specs.declared.fraction.Fraction.{Fraction}
use Rattle.cdb_model.specs.Grammar.{Head, Sentence, inline, source, publish, step, step_all, open_session, tile, close, versions, quit, blank, line_of}
use Rattle.cdb_model.specs.Text.{Text}
use Rattle.cdb_model.specs.Writing.{kind_text, IsSentence}

-- ---- numbers

-- a text behind so many zeros
abbrev pub with_zeros : ℕ → Text → Text
with_zeros zero text = text
with_zeros (suc zeros) text = 48 ∷ with_zeros zeros text

-- zeros and then the number without leading zeros, together at most so many digits
pub record IsNumber (most : ℕ) (word : Text) (n : ℕ) : Type 0 where
  pub zeros : ℕ
  pub digits : word ≡ with_zeros zeros (decimal n)
  pub few : length word ≤ most

-- a minus and then a number; 0 may have one too
pub record HasMinus (most : ℕ) (word : Text) (z : ℤ) : Type 0 where
  pub digits : Text
  pub minus : word ≡ 45 ∷ digits
  pub n : ℕ
  pub number : IsNumber most digits n
  pub value : z ≡ neg_ℤ (pos n)

-- a number without a sign
pub record HasNoMinus (most : ℕ) (word : Text) (z : ℤ) : Type 0 where
  pub n : ℕ
  pub number : IsNumber most word n
  pub value : z ≡ pos n

abbrev pub IsSigned : ℕ → Text → ℤ → Type 0
IsSigned most word z = HasNoMinus most word z ⊎ HasMinus most word z

-- a whole number of degrees
pub record IsWholeDegrees (word : Text) (f : Fraction) : Type 0 where
  pub top : IsSigned 18 word f.n
  pub bottom : f.d ≡ pos 1

-- two numbers with a slash between them
pub record IsRatio (word : Text) (f : Fraction) : Type 0 where
  pub before : Text
  pub after : Text
  pub slash : word ≡ before ++ 47 ∷ after
  pub top : IsSigned 18 before f.n
  pub n : ℕ
  pub bottom : IsNumber 18 after n
  pub value : f.d ≡ pos n

abbrev pub IsDegrees : Text → Fraction → Type 0
IsDegrees word f = IsWholeDegrees word f ⊎ IsRatio word f

-- ---- words

-- what one word says: itself, a number of at most so many digits, a signed one, or a number of degrees
pub data Said : Type 0 where
  itself : Text → Said
  number : ℕ → ℕ → Said
  signed : ℕ → ℤ → Said
  degrees : Fraction → Said

abbrev pub SaysNumbers : Text → Said → Type 0
SaysNumbers word (itself text) = word ≡ text
SaysNumbers word (number most n) = IsNumber most word n
SaysNumbers word (signed most z) = IsSigned most word z
SaysNumbers word (degrees f) = IsDegrees word f

-- each of these words says what stands at its place
abbrev pub Say : List Text → List Said → Type 0
Say [] [] = Unit {0}
Say (word ∷ words) (said ∷ more) = SaysNumbers word said × Say words more
Say _ _ = ⊥

abbrev pub head_said : Head → List Said
head_said h =
    itself (kind_text h.kind) ∷ signed 9 h.level ∷ degrees h.lat ∷ degrees h.lon ∷ degrees h.dlat ∷ degrees h.dlon ∷ []

-- what the words of a sentence say, one by one
abbrev pub all_said : Sentence → List Said
all_said (inline s) =
    itself (codes "inline") ∷ (head_said s.head ++ number 9 s.rows ∷ number 9 s.cols ∷ map (λ z. signed 6 z) s.posts)
all_said (source s) = itself (codes "source") ∷ (head_said s.head ++ signed 9 s.novalue ∷ itself s.path ∷ [])
all_said publish = itself (codes "publish") ∷ []
all_said (step n) = itself (codes "step") ∷ number 9 n ∷ []
all_said step_all = itself (codes "step") ∷ itself (codes "all") ∷ []
all_said open_session = itself (codes "open") ∷ []
all_said (tile id file) = itself (codes "tile") ∷ number 9 id ∷ itself file ∷ []
all_said (close id) = itself (codes "close") ∷ number 9 id ∷ []
all_said versions = itself (codes "versions") ∷ []
all_said quit = itself (codes "quit") ∷ []
all_said blank = []

-- ---- lines

-- the line is words that say the sentence, with one space between each two
pub record IsWording (line : Text) (s : Sentence) : Type 0 where
  pub words : List Text
  pub joined : line ≡ join_with_byte 32 words
  pub say : Say words (all_said s)

-- what is read of a line is spelled by it
abbrev pub ReadingIsWorded : Type 0
ReadingIsWorded = (line : Text) (s : Sentence) → line_of line ≡ Some s → IsWording line s

-- each text that may stand for a sentence of the grammar is read as the sentence
abbrev pub WordingIsRead : Type 0
WordingIsRead = (line : Text) (s : Sentence) → IsSentence s → IsWording line s → line_of line ≡ Some s
