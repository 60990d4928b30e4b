-- The parts of a path, and that its bytes are text.
use Rattle.std.proofs.Common.{◌≡◌, ℕ, zero, suc, ◌+◌, ◌<◌, ◌≤◌, Bool, true, false, cond, not, ◌&&◌, ◌||◌, List, [], ◌∷◌, length, take, drop, Option, Some, None, IsUtf8, codes, refl, ap, sym, ◌∙◌, arith}
use Rattle.std.specs.Prelude.{nat_lt, IsAscii, if◌then◌else◌}
use Rattle.std.specs.List.{position_or_len, onto_first, list_all, slice_split}
use Rattle.std.specs.Str.{bytes_eq}
use Rattle.std.proofs.lemmas.Bool.{ltb-true, ltb-false, and_parts}
use Rattle.std.proofs.lemmas.Bool.Decides.{nat_tests}
use Rattle.std.proofs.lemmas.List.{take_all}
use Rattle.std.proofs.lemmas.Str.{IsUtf8-from_ascii}
use Rattle.cdb_model.specs.Text.{Text}
use Rattle.cdb_model.specs.Grammar.{is_slash, is_part, is_path_byte, after_slash}
use Rattle.cdb_commands.proofs.Parts.{first_part, only_part}

-- each part of what is left is one of a path
abbrev pub all_in : Option Text → Bool
all_in None = true
all_in (Some text) = list_all is_part (slice_split is_slash text)

pub first_of_parts : (text part : Text) (rest : Option Text) → part ≡ take (position_or_len is_slash text) text
    → rest ≡ after_slash text → list_all is_part (slice_split is_slash text) ≡ (is_part part && all_in rest)
first_of_parts text part rest p r = by (nat_lt (position_or_len is_slash text) (length text)) refl r
  where
    by : (b : Bool) → nat_lt (position_or_len is_slash text) (length text) ≡ b
        → rest ≡ (if b then Some (drop (position_or_len is_slash text + 1) text) else None)
        → list_all is_part (slice_split is_slash text) ≡ (is_part part && all_in rest)
    by true t e =
        let cut = first_part is_slash text (position_or_len is_slash text) refl
        (ltb-true (position_or_len is_slash text) (length text) t) in
        ap (list_all is_part) cut
        ∙ sym (ap (λ (x : Text). is_part x && all_in rest) p
        ∙ ap (λ (o : Option Text). is_part (take (position_or_len is_slash text) text) && all_in o) e)
    by false t e =
        let most : length text ≤ position_or_len is_slash text = ltb-false (position_or_len is_slash text)
        (length text) t in
        let whole : part ≡ text = p ∙ take_all (position_or_len is_slash text) text most in
        ap (list_all is_part) (only_part is_slash text most)
        ∙ sym (ap (λ (x : Text). is_part x && all_in rest) whole
        ∙ ap (λ (o : Option Text). is_part text && all_in o) e)

pub ruleset parts = (first_of_parts)

abbrev pub is_byte_of_path : ℕ → Bool
is_byte_of_path c = is_slash c || is_path_byte c

onto : (c : ℕ) (ps : List Text) → list_all (λ p. list_all is_path_byte p) (onto_first c ps) ≡ true
    → (is_path_byte c ≡ true) × (list_all (λ p. list_all is_path_byte p) ps ≡ true)
onto c [] h = let t = and_parts (is_path_byte c && true) true h in ((and_parts (is_path_byte c) true t.0).0, refl)
onto c (p ∷ ps) h =
    let t = and_parts (is_path_byte c && list_all is_path_byte p) (list_all (λ p. list_all is_path_byte p) ps) h in
    let u = and_parts (is_path_byte c) (list_all is_path_byte p) t.0 in
    let v : (list_all is_path_byte p && list_all (λ p. list_all is_path_byte p) ps) ≡ true = rw u.1 t.1 in
    (u.0, v)

plain : (w : Text) → list_all (λ p. list_all is_path_byte p) (slice_split is_slash w) ≡ true
    → list_all is_byte_of_path w ≡ true
plain [] h = refl
plain (c ∷ w) h = by (plain w) (is_slash c) refl h
  where
    by : (list_all (λ p. list_all is_path_byte p) (slice_split is_slash w) ≡ true → list_all is_byte_of_path w ≡ true)
        → (b : Bool) → is_slash c ≡ b
        → list_all (λ p. list_all is_path_byte p)
        (cond b ([] ∷ slice_split is_slash w) (onto_first c (slice_split is_slash w))) ≡ true
        → list_all is_byte_of_path (c ∷ w) ≡ true
    by rest true s h = rw s (rest h)
    by rest false s h = let t = onto c (slice_split is_slash w) h in rw (s, t.0) (rest t.1)

part_bytes : (p : Text) → is_part p ≡ true → list_all is_path_byte p ≡ true
part_bytes p h =
    let some = nat_lt 0 (length p) in
    let bytes = list_all is_path_byte p in
    let one = not (bytes_eq p (codes ".")) in
    let t = and_parts (some && bytes && one) (not (bytes_eq p (codes ".."))) h in
    (and_parts some bytes (and_parts (some && bytes) one t.0).0).1

all_bytes : (ps : List Text) → list_all is_part ps ≡ true → list_all (λ p. list_all is_path_byte p) ps ≡ true
all_bytes [] h = refl
all_bytes (p ∷ ps) h = let t = and_parts (is_part p) (list_all is_part ps) h in rw (part_bytes p t.0) (all_bytes ps t.1)

pub path_bytes : (w : Text) → list_all is_part (slice_split is_slash w) ≡ true → list_all is_byte_of_path w ≡ true
path_bytes w h = plain w (all_bytes (slice_split is_slash w) h)

low : (c : ℕ) → is_byte_of_path c ≡ true → c < 128
low c h = grind (arith, nat_tests)

ascii : (w : Text) → list_all is_byte_of_path w ≡ true → IsAscii w
ascii [] h i = omega arith
ascii (c ∷ w) h zero = low c (and_parts (is_byte_of_path c) (list_all is_byte_of_path w) h).0
ascii (c ∷ w) h (suc i) = ascii w (and_parts (is_byte_of_path c) (list_all is_byte_of_path w) h).1 i

pub path_is_text : (w : Text) → list_all is_part (slice_split is_slash w) ≡ true → IsUtf8 w
path_is_text w h = IsUtf8-from_ascii w (ascii w (path_bytes w h))
