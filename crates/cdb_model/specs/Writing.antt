-- The canonical writing of a line of the script: numbers without leading zeros, and fractions without a denominator of
-- 1.
use Rattle.std.specs.Prelude.{◌≡◌, ℕ, ◌^◌, ◌<◌, ◌≤◌, ℤ, pos, ◌≤ℤ◌, nat_abs, List, [], ◌∷◌, ◌++◌, length, map, codes, All, Some, if◌then◌else◌}
use Rattle.std.specs.Fmt.{decimal, signed_decimal}
use Rattle.std.specs.List.{join_with_byte}
use Rattle.std.specs.Ordering.{int_eq}
use Rattle.cdb_grid.specs.declared.fraction.Fraction.{Fraction}
use Rattle.cdb_source.specs.declared.kind.Kind.{Kind}
use Rattle.cdb_source.specs.declared.kind.Kind.TheVariants.{Elevation, Material}
use Rattle.cdb_model.specs.Text.{Text}
use Rattle.cdb_model.specs.Grammar.{Head, InlineSource, FileSource, Sentence, inline, source, publish, step, step_all, open_session, tile, close, versions, quit, blank, path_word, file_name, line_of}

abbrev pub kind_text : Kind → Text
kind_text Elevation = codes "elev"
kind_text Material = codes "mat"

abbrev pub fraction_text : Fraction → Text
fraction_text f = if int_eq f.d (pos 1) then signed_decimal f.n else signed_decimal f.n ++ 47 ∷ signed_decimal f.d

abbrev pub head_words : Head → List Text
head_words h =
    kind_text h.kind ∷ signed_decimal h.level ∷ fraction_text h.lat ∷ fraction_text h.lon ∷ fraction_text h.dlat ∷
    fraction_text h.dlon ∷ []

-- the words of a line
abbrev pub sentence_words : Sentence → List Text
sentence_words (inline s) =
    codes "inline" ∷ (head_words s.head ++ decimal s.rows ∷ decimal s.cols ∷ map signed_decimal s.posts)
sentence_words (source s) = codes "source" ∷ (head_words s.head ++ signed_decimal s.novalue ∷ s.path ∷ [])
sentence_words publish = codes "publish" ∷ []
sentence_words (step n) = codes "step" ∷ decimal n ∷ []
sentence_words step_all = codes "step" ∷ codes "all" ∷ []
sentence_words open_session = codes "open" ∷ []
sentence_words (tile id file) = codes "tile" ∷ decimal id ∷ file ∷ []
sentence_words (close id) = codes "close" ∷ decimal id ∷ []
sentence_words versions = codes "versions" ∷ []
sentence_words quit = codes "quit" ∷ []
sentence_words blank = []

-- the words with one space between each two
abbrev pub written_sentence : Sentence → Text
written_sentence s = join_with_byte 32 (sentence_words s)

-- a signed number of at most so many digits
abbrev pub HasDigits : ℕ → ℤ → Type 0
HasDigits most z = nat_abs z < 10 ^ most

-- a fraction of two numbers of at most 18 digits, of which the second has no minus
pub record IsWritableFraction (f : Fraction) : Type 0 where
  pub top : HasDigits 18 f.n
  pub bottom : HasDigits 18 f.d
  pub no_minus : pos 0 ≤ℤ f.d

pub record IsWritableHead (h : Head) : Type 0 where
  pub level : HasDigits 9 h.level
  pub lat : IsWritableFraction h.lat
  pub lon : IsWritableFraction h.lon
  pub dlat : IsWritableFraction h.dlat
  pub dlon : IsWritableFraction h.dlon

pub record IsInlineSource (s : InlineSource) : Type 0 where
  pub head : IsWritableHead s.head
  pub rows : s.rows < 10 ^ 9
  pub cols : s.cols < 10 ^ 9
  pub some : 0 < length s.posts
  pub few : length s.posts ≤ 64
  pub posts : All (HasDigits 6) s.posts

pub record IsFileSource (s : FileSource) : Type 0 where
  pub head : IsWritableHead s.head
  pub novalue : HasDigits 9 s.novalue
  pub path : path_word s.path ≡ Some s.path

-- each of its words has a writing of its form
abbrev pub IsSentence : Sentence → Type 0
IsSentence (inline s) = IsInlineSource s
IsSentence (source s) = IsFileSource s
IsSentence (step n) = n < 10 ^ 9
IsSentence (tile id file) = (id < 10 ^ 9) × (file_name file ≡ Some file)
IsSentence (close id) = id < 10 ^ 9
IsSentence _ = Unit {0}

-- the canonical writing of each line reads back as the line
abbrev pub WritingReadsBack : Type 0
WritingReadsBack = (s : Sentence) → IsSentence s → line_of (written_sentence s) ≡ Some s

-- what is read of a line has words of their forms
abbrev pub ReadingHasForm : Type 0
ReadingHasForm = (line : Text) (s : Sentence) → line_of line ≡ Some s → IsSentence s
