-- The canonical writing of each line reads back as the line.
use Rattle.std.proofs.Common.{◌≡◌, ℕ, ◌^◌, ◌<◌, Bool, true, false, cond, not, ◌&&◌, List, [], ◌∷◌, ◌++◌, length, map, codes, Option, Some, None, refl, ap, ◌∙◌, arith}
use Rattle.std.specs.Prelude.{nat_eq, nat_abs, nat_lt, nat_le, option_map}
use Rattle.std.specs.Char.{is_ascii_digit, is_ascii_graphic}
use Rattle.std.specs.Fmt.{decimal, signed_decimal}
use Rattle.std.specs.List.{list_all, slice_split, join_with_byte}
use Rattle.std.specs.Str.{bytes_eq}
use Rattle.std.proofs.lemmas.Bool.Decides.{nat_tests}
use Rattle.std.proofs.lemmas.Bool.{and_parts}
use Rattle.cdb_source.specs.declared.kind.Kind.{Kind}
use Rattle.cdb_source.specs.declared.kind.Kind.TheVariants.{Elevation, Material}
use Rattle.cdb_model.specs.Text.{Text}
use Rattle.cdb_model.specs.Words.{digits, is_space}
use Rattle.cdb_model.specs.Grammar.{Head, InlineSource, FileSource, Sentence, inline, source, publish, step, step_all, open_session, tile, close, versions, quit, blank, kind_word, path_word, file_name, head, inline_source, file_source, tile_request, step_word, one_word, sentence, line_of, is_slash, is_part}
use Rattle.cdb_model.specs.Writing.{kind_text, head_words, IsWritableHead, IsInlineSource, IsFileSource, WritingReadsBack}
use Rattle.cdb_commands.proofs.JoinedWords.{has_no_space, joined}
use Rattle.cdb_commands.proofs.PathLemmas.{is_byte_of_path, path_bytes}
use Rattle.cdb_commands.proofs.NumbersBack.{all_digits, weaker, digits_back, signed_back, fraction_back, posts_back, decimal_clear, signed_clear, fraction_clear, posts_clear}

pub kind_back : (k : Kind) → kind_word (kind_text k) ≡ Some k
kind_back Elevation = refl
kind_back Material = refl

pub kind_clear : (k : Kind) → has_no_space (kind_text k) ≡ true
kind_clear Elevation = refl
kind_clear Material = refl

head_back : (h : Head) (rest : List Text) → IsWritableHead h → head (head_words h ++ rest) ≡ Some (h, rest)
unfolding head
head_back h rest is =
    let short : nat_abs h.level < 10 ^ 9 = is.level in
    rw (
      kind_back h.kind,
      signed_back 9 h.level (omega arith) short (omega arith),
      fraction_back h.lat is.lat,
      fraction_back h.lon is.lon,
      fraction_back h.dlat is.dlat,
      fraction_back h.dlon is.dlon,
    ) refl

head_clear : (h : Head) (rest : List Text) → IsWritableHead h → list_all has_no_space (head_words h ++ rest)
    ≡ list_all has_no_space rest
head_clear h rest is =
    let short : nat_abs h.level < 10 ^ 9 = is.level in
    rw (
      kind_clear h.kind,
      signed_clear 32 h.level (omega arith) refl (omega arith),
      fraction_clear h.lat is.lat,
      fraction_clear h.lon is.lon,
      fraction_clear h.dlat is.dlat,
      fraction_clear h.dlon is.dlon,
    ) refl

inline_back : (s : InlineSource) → IsInlineSource s
    → inline_source (head_words s.head ++ decimal s.rows ∷ decimal s.cols ∷ map signed_decimal s.posts) ≡ Some s
unfolding inline_source
inline_back s is =
    let rows : s.rows < 10 ^ 9 = is.rows in
    let cols : s.cols < 10 ^ 9 = is.cols in
    rw (
      head_back s.head (decimal s.rows ∷ decimal s.cols ∷ map signed_decimal s.posts) is.head,
      digits_back 9 s.rows (omega arith) rows (omega arith),
      digits_back 9 s.cols (omega arith) cols (omega arith),
      posts_back s.posts is.some is.few is.posts,
    ) refl

file_back : (s : FileSource) → IsFileSource s
    → file_source (head_words s.head ++ signed_decimal s.novalue ∷ s.path ∷ []) ≡ Some s
unfolding file_source
file_back s is =
    let short : nat_abs s.novalue < 10 ^ 9 = is.novalue in
    rw (
      head_back s.head (signed_decimal s.novalue ∷ s.path ∷ []) is.head,
      signed_back 9 s.novalue (omega arith) short
          (omega arith),
      is.path,
    ) refl

-- a line of words without spaces is read by its words
pub read_words : (first : Text) (c : ℕ) (rest : Text) (ws : List Text) (s : Option Sentence)
    → join_with_byte 32 (first ∷ ws) ≡ c ∷ rest → list_all has_no_space (first ∷ ws) ≡ true → sentence first ws ≡ s
    → line_of (join_with_byte 32 (first ∷ ws)) ≡ s
unfolding line_of
read_words first c rest ws s starts clear said =
    let some : bytes_eq (join_with_byte 32 (first ∷ ws)) [] ≡ false = ap (λ (t : Text). bytes_eq t []) starts in
    rw (some, joined first ws clear) said

some_if : {X : Type 0} (b : Bool) (x y : X) → cond {A = Option X} b (Some x) None ≡ Some y → b ≡ true
some_if true x y e = refl
some_if false x y e = absurd cc

pub path_clear : (p : Text) → path_word p ≡ Some p → has_no_space p ≡ true
unfolding path_word
path_clear p is =
    let t = and_parts (nat_le (length p) 128) (list_all is_part (slice_split is_slash p))
    (some_if (nat_le (length p) 128 && list_all is_part (slice_split is_slash p)) p p is) in
    weaker is_byte_of_path (λ c. not (is_space c)) p no_space (path_bytes p t.1)
  where
    no_space : (c : ℕ) → is_byte_of_path c ≡ true → not (is_space c) ≡ true
    no_space c h = grind (arith, nat_tests)

pub name_clear : (name : Text) → file_name name ≡ Some name → has_no_space name ≡ true
unfolding file_name
name_clear name is =
    let short = nat_lt 0 (length name) && nat_le (length name) 128 in
    let t = and_parts short (list_all is_ascii_graphic name)
    (some_if (short && list_all is_ascii_graphic name) name name is) in
    weaker is_ascii_graphic (λ c. not (is_space c)) name no_space t.1
  where
    no_space : (c : ℕ) → is_ascii_graphic c ≡ true → not (is_space c) ≡ true
    no_space c h = grind (arith, nat_tests)

-- a number isn't the word `all`
pub not_all : (w : Text) → list_all is_ascii_digit w ≡ true → bytes_eq w (codes "all") ≡ false
not_all [] h = refl
not_all (c ∷ w) h = let other : nat_eq c 97 ≡ false =
    apart c (and_parts (is_ascii_digit c) (list_all is_ascii_digit w) h).0 in rw other refl
  where
    apart : (c : ℕ) → is_ascii_digit c ≡ true → nat_eq c 97 ≡ false
    apart c h = grind (arith, nat_tests)

count_clear : (n : ℕ) → n < 10 ^ 9 → has_no_space (decimal n) ≡ true
count_clear n short = decimal_clear 32 n (omega arith) (omega arith)

count_back : (n : ℕ) → n < 10 ^ 9 → digits 9 (decimal n) ≡ Some n
count_back n short = digits_back 9 n (omega arith) short (omega arith)

steps_back : (n : ℕ) → n < 10 ^ 9 → step_word (decimal n) ≡ Some (step n)
steps_back n short = rw (not_all (decimal n) (all_digits n (omega arith)), count_back n short) refl

pub blank_back : line_of [] ≡ Some blank
unfolding line_of
blank_back = refl

pub reads_back : WritingReadsBack
unfolding sentence one_word tile_request
reads_back (inline s) is =
    let ws = decimal s.rows ∷ decimal s.cols ∷ map signed_decimal s.posts in
    let clear : list_all has_no_space ws ≡ true = rw (count_clear s.rows is.rows, count_clear s.cols is.cols)
    (posts_clear s.posts is.posts) in
    read_words (codes "inline") _ _ (head_words s.head ++ ws) (Some (inline s)) refl
    (head_clear s.head ws is.head ∙ clear) (ap (option_map inline) (inline_back s is))
reads_back (source s) is =
    let ws = signed_decimal s.novalue ∷ s.path ∷ [] in
    let short : nat_abs s.novalue < 10 ^ 9 = is.novalue in
    let clear : list_all has_no_space ws ≡ true =
    rw (signed_clear 32 s.novalue (omega arith) refl (omega arith), path_clear s.path is.path) refl in
    read_words (codes "source") _ _ (head_words s.head ++ ws) (Some (source s)) refl
    (head_clear s.head ws is.head ∙ clear) (ap (option_map source) (file_back s is))
reads_back publish is = read_words (codes "publish") _ _ [] _ refl refl refl
reads_back (step n) is = read_words (codes "step") _ _ (decimal n ∷ []) _ refl (rw (count_clear n is) refl)
    (steps_back n is)
reads_back step_all is = read_words (codes "step") _ _ (codes "all" ∷ []) _ refl refl refl
reads_back open_session is = read_words (codes "open") _ _ [] _ refl refl refl
reads_back (tile id file) is = read_words (codes "tile") _ _ (decimal id ∷ file ∷ []) _ refl
    (rw (count_clear id is.0, name_clear file is.1) refl) (rw (count_back id is.0, is.1) refl)
reads_back (close id) is = read_words (codes "close") _ _ (decimal id ∷ []) _ refl (rw (count_clear id is) refl)
    (rw (count_back id is) refl)
reads_back versions is = read_words (codes "versions") _ _ [] _ refl refl refl
reads_back quit is = read_words (codes "quit") _ _ [] _ refl refl refl
reads_back blank is = blank_back
