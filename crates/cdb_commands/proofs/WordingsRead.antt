-- A line that says a sentence of the grammar in words is read as the sentence.
use Rattle.std.proofs.Common.{◌≡◌, ℕ, zero, suc, ◌^◌, ◌<◌, ◌≤◌, true, not, List, [], ◌∷◌, ◌++◌, length, map, Some, inl, inr, refl, ap, sym, subst, ◌∙◌, arith}
use Rattle.std.specs.Prelude.{ℤ, pos, neg_ℤ, nat_abs, nat_lt, nat_le, ◌==◌, All, option_map}
use Rattle.std.specs.Char.{is_ascii_digit}
use Rattle.std.specs.Fmt.{decimal}
use Rattle.std.specs.List.{list_all, join_with_byte}
use Rattle.std.specs.Str.Parse.{digits_value}
use Rattle.std.proofs.lemmas.Bool.{lt-ltb, le-leb}
use Rattle.std.proofs.lemmas.Fmt.{decimal_nonempty, digits_value-decimal}
use Rattle.std.proofs.lemmas.List.Elements.{All-head, All-tail}
use Rattle.std.proofs.lemmas.List.Folds.{list_all-append}
use Rattle.cdb_grid.specs.declared.fraction.Fraction.{Fraction}
use Rattle.cdb_model.specs.Text.{Text}
use Rattle.cdb_model.specs.Words as reading
use Rattle.cdb_model.specs.Words.{is_space}
use Rattle.cdb_model.specs.Grammar.{Head, InlineSource, FileSource, Sentence, inline, source, publish, step, step_all, open_session, tile, close, versions, quit, blank, fraction, path_word, each, posts, head, inline_source, file_source, tile_request, step_word, one_word, sentence, line_of}
use Rattle.cdb_model.specs.Writing.{kind_text, HasDigits, IsWritableFraction, IsWritableHead, IsInlineSource, IsFileSource, IsSentence}
use Rattle.cdb_commands.specs.Wording.{with_zeros, IsNumber, IsSigned, IsDegrees, Said, itself, number, signed, degrees, Say, head_said, all_said, WordingIsRead}
use Rattle.cdb_commands.proofs.Digits.{own}
use Rattle.cdb_commands.proofs.JoinedWords.{is_clear, has_no_space}
use Rattle.cdb_commands.proofs.NumbersBack.{all_digits, plain_signed, digits_clear, whole_back, ratio_back}
use Rattle.cdb_commands.proofs.ReadForms.{abs_neg}
use Rattle.cdb_commands.proofs.WritingBack.{kind_back, kind_clear, read_words, path_clear, name_clear, not_all, blank_back}

-- ---- numbers

zeros_digits : (zeros : ℕ) (w : Text) → list_all is_ascii_digit w ≡ true
    → list_all is_ascii_digit (with_zeros zeros w) ≡ true
zeros_digits zero w h = h
zeros_digits (suc k) w h = zeros_digits k w h

zeros_value : (zeros : ℕ) (w : Text) → digits_value 10 (with_zeros zeros w) ≡ digits_value 10 w
zeros_value zero w = refl
zeros_value (suc k) w = zeros_value k w

zeros_some : (zeros : ℕ) (w : Text) → 0 < length w → 0 < length (with_zeros zeros w)
zeros_some zero w h = h
zeros_some (suc k) w h = omega arith

record Spells (w : Text) (n : ℕ) : Type 0 where
  some : 0 < length w
  all : list_all is_ascii_digit w ≡ true
  value : digits_value 10 w ≡ n

spells : (most : ℕ) (w : Text) (n : ℕ) → IsNumber most w n → n < 2 ^ 64 → Spells w n
spells most w n is wide = subst (λ (w : Text). Spells w n) (sym is.digits) (record {
  some = zeros_some is.zeros (decimal n) (decimal_nonempty n wide);
  all = zeros_digits is.zeros (decimal n) (all_digits n wide);
  value = zeros_value is.zeros (decimal n) ∙ digits_value-decimal own n wide;
})

number_read : (most : ℕ) (w : Text) (n : ℕ) → IsNumber most w n → n < 2 ^ 64 → reading.digits most w ≡ Some n
unfolding reading.digits
number_read most w n is wide =
    let s = spells most w n is wide in
    let a : nat_lt 0 (length w) ≡ true = lt-ltb 0 (length w) s.some in
    let b : nat_le (length w) most ≡ true = le-leb (length w) most is.few in
    rw (a, b, s.all, s.value) refl

number_clear : (c most : ℕ) (w : Text) (n : ℕ) → c < 48 → IsNumber most w n → n < 2 ^ 64
    → is_clear (λ b. b == c) w ≡ true
number_clear c most w n low is wide = digits_clear c w low (spells most w n is wide).all

behind_minus : (most : ℕ) (w : Text) (n : ℕ) → reading.digits most w ≡ Some n → reading.signed most (45 ∷ w)
    ≡ Some (neg_ℤ (pos n))
unfolding reading.signed
behind_minus most w n e = rw e refl

signed_read : (most : ℕ) (w : Text) (z : ℤ) → IsSigned most w z → nat_abs z < 2 ^ 64
    → reading.signed most w ≡ Some z
signed_read most w z (inl is) wide =
    let short : is.n < 2 ^ 64 = subst (λ (z : ℤ). nat_abs z < 2 ^ 64) is.value wide in
    let s = spells most w is.n is.number short in
    plain_signed most w is.n s.some s.all (number_read most w is.n is.number short)
    ∙ ap (λ (z : ℤ). Some z) (sym is.value)
signed_read most w z (inr is) wide =
    let short : is.n < 2 ^ 64 = subst (λ (n : ℕ). n < 2 ^ 64) (ap nat_abs is.value ∙ abs_neg is.n) wide in
    subst (λ (w : Text). reading.signed most w ≡ Some z) (sym is.minus)
    (behind_minus most is.digits is.n (number_read most is.digits is.n is.number short)
    ∙ ap (λ (z : ℤ). Some z) (sym is.value))

signed_clear : (c most : ℕ) (w : Text) (z : ℤ) → c < 48 → not (45 == c) ≡ true → IsSigned most w z
    → nat_abs z < 2 ^ 64
    → is_clear (λ b. b == c) w ≡ true
signed_clear c most w z low other (inl is) wide =
    let short : is.n < 2 ^ 64 = subst (λ (z : ℤ). nat_abs z < 2 ^ 64) is.value wide in
    number_clear c most w is.n low is.number short
signed_clear c most w z low other (inr is) wide =
    let short : is.n < 2 ^ 64 = subst (λ (n : ℕ). n < 2 ^ 64) (ap nat_abs is.value ∙ abs_neg is.n) wide in
    subst (λ (w : Text). is_clear (λ b. b == c) w ≡ true) (sym is.minus)
    (rw other (number_clear c most is.digits is.n low is.number short))

-- ---- degrees

within : (z : ℤ) → HasDigits 18 z → nat_abs z < 2 ^ 64
within z h = let short : nat_abs z < 10 ^ 18 = h in omega arith

bottom_within : (f : Fraction) (n : ℕ) → HasDigits 18 f.d → f.d ≡ pos n → n < 2 ^ 64
bottom_within f n h e = let short : n < 10 ^ 18 = subst (HasDigits 18) e h in omega arith

degrees_read : (w : Text) (f : Fraction) → IsDegrees w f → IsWritableFraction f → fraction w ≡ Some f
degrees_read w f (inl is) form =
    whole_back w (signed_clear 47 18 w f.n (omega arith) refl is.top (within f.n form.top))
    ∙ ap (option_map (λ n. record { n = n; d = pos 1 })) (signed_read 18 w f.n is.top (within f.n form.top))
    ∙ ap (λ (d : ℤ). let g : Fraction = record { n = f.n; d = d } in Some g) (sym is.bottom)
degrees_read w f (inr is) form =
    subst (λ (w : Text). fraction w ≡ Some f) (sym is.slash)
    (ratio_back is.before is.after f.n is.n (signed_clear 47 18 is.before f.n (omega arith)
    refl is.top (within f.n form.top))
    (signed_read 18 is.before f.n is.top (within f.n form.top))
    (number_read 18 is.after is.n is.bottom (bottom_within f is.n form.bottom is.value))
    ∙ ap (λ (d : ℤ). let g : Fraction = record { n = f.n; d = d } in Some g) (sym is.value))

degrees_clear : (w : Text) (f : Fraction) → IsDegrees w f → IsWritableFraction f → has_no_space w ≡ true
degrees_clear w f (inl is) form = signed_clear 32 18 w f.n (omega arith) refl is.top (within f.n form.top)
degrees_clear w f (inr is) form =
    let top = signed_clear 32 18 is.before f.n (omega arith) refl is.top (within f.n form.top) in
    let bottom = number_clear 32 18 is.after is.n (omega arith)
    is.bottom (bottom_within f is.n form.bottom is.value) in
    subst (λ (w : Text). has_no_space w ≡ true) (sym is.slash)
    (list_all-append (λ c. not (is_space c)) is.before (47 ∷ is.after) ∙ rw (top, bottom) refl)

-- ---- words

six_words : (a b c d f g : Text) (rest : List Text) (h : Head) → a ≡ kind_text h.kind → reading.signed 9 b
    ≡ Some h.level → fraction c ≡ Some h.lat
    → fraction d ≡ Some h.lon → fraction f ≡ Some h.dlat → fraction g ≡ Some h.dlon
    → head (a ∷ b ∷ c ∷ d ∷ f ∷ g ∷ rest) ≡ Some (h, rest)
unfolding head
six_words a b c d f g rest h ea eb ec ed ef eg = rw (ea, kind_back h.kind, eb, ec, ed, ef, eg) refl

-- the first words are those of a head, and the others say what is left
record HasHead (ws : List Text) (h : Head) (more : List Said) : Type 0 where
  rest : List Text
  read : head ws ≡ Some (h, rest)
  clear : list_all has_no_space ws ≡ list_all has_no_space rest
  say : Say rest more

head_read : (ws : List Text) (h : Head) (more : List Said) → Say ws (head_said h ++ more) → IsWritableHead h
    → HasHead ws h more
head_read [] h more say is = absurd say
head_read (a ∷ []) h more say is = absurd say.1
head_read (a ∷ b ∷ []) h more say is = absurd say.1.1
head_read (a ∷ b ∷ c ∷ []) h more say is = absurd say.1.1.1
head_read (a ∷ b ∷ c ∷ d ∷ []) h more say is = absurd say.1.1.1.1
head_read (a ∷ b ∷ c ∷ d ∷ f ∷ []) h more say is = absurd say.1.1.1.1.1
head_read (a ∷ b ∷ c ∷ d ∷ f ∷ g ∷ rest) h more say is =
    let level : nat_abs h.level < 10 ^ 9 = is.level in
    let lat = say.1.1.0 in
    let lon = say.1.1.1.0 in
    let dlat = say.1.1.1.1.0 in
    let dlon = say.1.1.1.1.1.0 in
    record {
      rest = rest;
      read = six_words a b c d f g rest h say.0 (signed_read 9 b h.level say.1.0 (omega arith))
          (degrees_read c h.lat lat is.lat) (degrees_read d h.lon lon is.lon)
          (degrees_read f h.dlat dlat is.dlat) (degrees_read g h.dlon dlon is.dlon);
      clear = rw (
        say.0,
        kind_clear h.kind,
        signed_clear 32 9 b h.level (omega arith) refl say.1.0 (omega arith),
        degrees_clear c h.lat lat is.lat,
        degrees_clear d h.lon lon is.lon,
        degrees_clear f h.dlat dlat is.dlat,
        degrees_clear g h.dlon dlon is.dlon,
      ) refl;
      say = say.1.1.1.1.1.1;
    }

-- posts: as many words as posts, each read as its post
record HavePosts (ws : List Text) (zs : List ℤ) : Type 0 where
  read : each (reading.signed 6) ws ≡ Some zs
  clear : list_all has_no_space ws ≡ true
  count : length ws ≡ length zs

each_read : (ws : List Text) (zs : List ℤ) → Say ws (map (λ z. signed 6 z) zs) → All (HasDigits 6) zs
    → HavePosts ws zs
each_read [] [] say h = record { read = refl; clear = refl; count = refl }
each_read [] (z ∷ zs) say h = absurd say
each_read (w ∷ ws) [] say h = absurd say
each_read (w ∷ ws) (z ∷ zs) say h =
    let short : nat_abs z < 10 ^ 6 = All-head (HasDigits 6) z zs h in
    let r = each_read ws zs say.1 (All-tail (HasDigits 6) z zs h) in
    record {
      read = rw (signed_read 6 w z say.0 (omega arith), r.read) refl;
      clear = rw (signed_clear 32 6 w z (omega arith) refl say.0 (omega arith)) r.clear;
      count = ap suc r.count;
    }

posts_read : (ws : List Text) (zs : List ℤ) → each (reading.signed 6) ws ≡ Some zs → 0 < length ws → length ws ≤ 64
    → posts ws ≡ Some zs
unfolding posts
posts_read ws zs e some few =
    let a : nat_lt 0 (length ws) ≡ true = lt-ltb 0 (length ws) some in
    let b : nat_le (length ws) 64 ≡ true = le-leb (length ws) 64 few in
    rw (a, b) e

-- ---- sentences

-- a line whose words say the sentence
abbrev IsRead : List Text → Sentence → Type 0
IsRead words s = line_of (join_with_byte 32 words) ≡ Some s

count_within : (n : ℕ) → n < 10 ^ 9 → n < 2 ^ 64
count_within n h = omega arith

inline_read : (ws : List Text) (s : InlineSource)
    → Say ws (head_said s.head ++ number 9 s.rows ∷ number 9 s.cols ∷ map (λ z. signed 6 z) s.posts)
    → IsInlineSource s
    → (inline_source ws ≡ Some s) × (list_all has_no_space ws ≡ true)
unfolding inline_source
inline_read ws s say is = by h.rest h.read h.clear h.say
  where
    h : HasHead ws s.head (number 9 s.rows ∷ number 9 s.cols ∷ map (λ z. signed 6 z) s.posts)
    h = head_read ws s.head (number 9 s.rows ∷ number 9 s.cols ∷ map (λ z. signed 6 z) s.posts) say is.head

    by : (rest : List Text) → head ws ≡ Some (s.head, rest) → list_all has_no_space ws ≡ list_all has_no_space rest
        → Say rest (number 9 s.rows ∷ number 9 s.cols ∷ map (λ z. signed 6 z) s.posts) → (inline_source ws ≡ Some s)
        × (list_all has_no_space ws ≡ true)
    by [] e f say = absurd say
    by (r ∷ []) e f say = absurd say.1
    by (r ∷ k ∷ ps) e f say =
        let rows = count_within s.rows is.rows in
        let cols = count_within s.cols is.cols in
        let p = each_read ps s.posts say.1.1 is.posts in
        let ps_read = posts_read ps s.posts p.read (omega (arith, p.count, is.some))
        (omega (arith, p.count, is.few)) in (
          rw (e, number_read 9 r s.rows say.0 rows, number_read 9 k s.cols say.1.0 cols, ps_read) refl,
          f ∙ rw (
            number_clear 32 9 r s.rows (omega arith) say.0 rows,
            number_clear 32 9 k s.cols (omega arith)
                say.1.0 cols,
            p.clear,
          ) refl,
        )

file_read : (ws : List Text) (s : FileSource) → Say ws (head_said s.head ++ signed 9 s.novalue ∷ itself s.path ∷ [])
    → IsFileSource s
    → (file_source ws ≡ Some s) × (list_all has_no_space ws ≡ true)
unfolding file_source
file_read ws s say is = by h.rest h.read h.clear h.say
  where
    h : HasHead ws s.head (signed 9 s.novalue ∷ itself s.path ∷ [])
    h = head_read ws s.head (signed 9 s.novalue ∷ itself s.path ∷ []) say is.head

    by : (rest : List Text) → head ws ≡ Some (s.head, rest) → list_all has_no_space ws ≡ list_all has_no_space rest
        → Say rest (signed 9 s.novalue ∷ itself s.path ∷ []) → (file_source ws ≡ Some s)
        × (list_all has_no_space ws ≡ true)
    by [] e f say = absurd say
    by (v ∷ []) e f say = absurd say.1
    by (v ∷ p ∷ q ∷ rest) e f say = absurd say.1.1
    by (v ∷ p ∷ []) e f say =
        let short : nat_abs s.novalue < 10 ^ 9 = is.novalue in (
          rw (e, signed_read 9 v s.novalue say.0 (omega arith), say.1.0, is.path) refl,
          f ∙ rw (
            signed_clear 32 9 v s.novalue (omega arith) refl say.0 (omega arith),
            say.1.0,
            path_clear s.path is.path,
          ) refl,
        )

-- a line that begins with this word
record Starts (first : Text) (ws : List Text) : Type 0 where
  byte : ℕ
  rest : Text
  is : join_with_byte 32 (first ∷ ws) ≡ byte ∷ rest

starts : (c : ℕ) (w : Text) (ws : List Text) → Starts (c ∷ w) ws
starts c w [] = record { byte = c; rest = w; is = refl }
starts c w (v ∷ ws) = record { byte = c; rest = w ++ 32 ∷ join_with_byte 32 (v ∷ ws); is = refl }

says_line : (c : ℕ) (w first : Text) (ws : List Text) (s : Sentence) → first ≡ c ∷ w
    → list_all has_no_space ((c ∷ w) ∷ ws) ≡ true → sentence (c ∷ w) ws ≡ Some s → IsRead (first ∷ ws) s
says_line c w first ws s e clear said =
    let t = starts c w ws in
    subst (λ (first : Text). IsRead (first ∷ ws) s) (sym e)
    (read_words (c ∷ w) t.byte t.rest ws (Some s) t.is clear said)

words_read : (words : List Text) (s : Sentence) → IsSentence s → Say words (all_said s) → IsRead words s
unfolding sentence one_word tile_request
words_read [] (inline s) is say = absurd say
words_read (w ∷ ws) (inline s) is say =
    let r = inline_read ws s say.1 is in says_line _ _ w ws (inline s) say.0 r.1 (ap (option_map inline) r.0)
words_read [] (source s) is say = absurd say
words_read (w ∷ ws) (source s) is say =
    let r = file_read ws s say.1 is in says_line _ _ w ws (source s) say.0 r.1 (ap (option_map source) r.0)
words_read [] publish is say = absurd say
words_read (w ∷ []) publish is say = says_line _ _ w [] publish say.0 refl refl
words_read (w ∷ v ∷ ws) publish is say = absurd say.1
words_read [] (step n) is say = absurd say
words_read (w ∷ []) (step n) is say = absurd say.1
words_read (w ∷ v ∷ u ∷ ws) (step n) is say = absurd say.1.1
words_read (w ∷ v ∷ []) (step n) is say =
    let short = count_within n is in
    let word : step_word v ≡ Some (step n) =
    rw (not_all v (spells 9 v n say.1.0 short).all, number_read 9 v n say.1.0 short) refl in
    says_line _ _ w (v ∷ []) (step n) say.0 (rw (number_clear 32 9 v n (omega arith) say.1.0 short) refl) word
words_read [] step_all is say = absurd say
words_read (w ∷ []) step_all is say = absurd say.1
words_read (w ∷ v ∷ u ∷ ws) step_all is say = absurd say.1.1
words_read (w ∷ v ∷ []) step_all is say = says_line _ _ w (v ∷ []) step_all say.0 (rw say.1.0 refl)
    (rw say.1.0 refl)
words_read [] open_session is say = absurd say
words_read (w ∷ []) open_session is say = says_line _ _ w [] open_session say.0 refl refl
words_read (w ∷ v ∷ ws) open_session is say = absurd say.1
words_read [] (tile id file) is say = absurd say
words_read (w ∷ []) (tile id file) is say = absurd say.1
words_read (w ∷ v ∷ []) (tile id file) is say = absurd say.1.1
words_read (w ∷ v ∷ u ∷ t ∷ ws) (tile id file) is say = absurd say.1.1.1
words_read (w ∷ v ∷ u ∷ []) (tile id file) is say =
    let short = count_within id is.0 in
    says_line _ _ w (v ∷ u ∷ []) (tile id file) say.0
    (rw (number_clear 32 9 v id (omega arith) say.1.0 short, say.1.1.0, name_clear file is.1) refl)
    (rw (number_read 9 v id say.1.0 short, say.1.1.0, is.1) refl)
words_read [] (close id) is say = absurd say
words_read (w ∷ []) (close id) is say = absurd say.1
words_read (w ∷ v ∷ u ∷ ws) (close id) is say = absurd say.1.1
words_read (w ∷ v ∷ []) (close id) is say =
    let short = count_within id is in
    says_line _ _ w (v ∷ []) (close id) say.0 (rw (number_clear 32 9 v id (omega arith) say.1.0 short) refl)
    (rw (number_read 9 v id say.1.0 short) refl)
words_read [] versions is say = absurd say
words_read (w ∷ []) versions is say = says_line _ _ w [] versions say.0 refl refl
words_read (w ∷ v ∷ ws) versions is say = absurd say.1
words_read [] quit is say = absurd say
words_read (w ∷ []) quit is say = says_line _ _ w [] quit say.0 refl refl
words_read (w ∷ v ∷ ws) quit is say = absurd say.1
words_read [] blank is say = blank_back
words_read (w ∷ ws) blank is say = absurd say

pub line_read : WordingIsRead
line_read line s is w = subst (λ (l : Text). line_of l ≡ Some s) (sym w.joined) (words_read w.words s is w.say)
