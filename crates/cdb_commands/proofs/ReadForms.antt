-- What is read of a line has words of their forms.
use Rattle.std.proofs.Common.{◌≡◌, ℕ, zero, suc, ◌^◌, ◌<◌, ◌≤◌, Bool, true, false, cond, ◌&&◌, List, [], ◌∷◌, length, take, codes, Option, Some, None, refl, ap, sym, subst, arith, lit<}
use Rattle.std.specs.Prelude.{ℤ, pos, neg_ℤ, nat_abs, nat_lt, nat_le, ◌==◌, All, is_some, option_map, option_and_then}
use Rattle.std.specs.Char.{is_ascii_digit, is_ascii_graphic}
use Rattle.std.specs.List.{list_all, slice_split, position_or_len}
use Rattle.std.specs.Str.{bytes_eq}
use Rattle.std.specs.Str.Parse.{digits_value}
use Rattle.std.proofs.lemmas.Bool.{ltb-true, leb-true, and_parts}
use Rattle.std.proofs.lemmas.Int.{ints}
use Rattle.std.proofs.lemmas.List.Elements.{All-nil, All-cons}
use Rattle.std.proofs.lemmas.Str.Parse.{digits_value_short}
use Rattle.std.proofs.lemmas.Option.{same_Some}
use Rattle.cdb_grid.specs.declared.fraction.Fraction.{Fraction}
use Rattle.cdb_model.specs.Text.{Text}
use Rattle.cdb_model.specs.Words.{words, first_word, first_field, only_word, digits, signed}
use Rattle.cdb_model.specs.Grammar.{Head, InlineSource, FileSource, Sentence, inline, source, publish, step, step_all, open_session, close, versions, quit, blank, kind_word, fraction, fraction_of, after_slash, is_slash, is_part, path_word, file_name, each, posts, head, inline_source, file_source, tile_request, step_word, one_word, sentence, line_of}
use Rattle.cdb_model.specs.Writing.{HasDigits, IsWritableFraction, IsWritableHead, IsInlineSource, IsFileSource, IsSentence, ReadingHasForm}
use Rattle.cdb_commands.proofs.Digits.{own}
use Rattle.cdb_names.proofs.Tools.{then_some, map_some}

pub then_if : {X : Type 0} (b : Bool) (o : Option X) (x : X) → cond b o None ≡ Some x → (b ≡ true) × (o ≡ Some x)
then_if true o x e = (refl, e)
then_if false o x e = absurd cc

pub if_some : {X : Type 0} (b : Bool) (x y : X) → cond {A = Option X} b (Some x) None ≡ Some y → (b ≡ true) × (x ≡ y)
if_some true x y e = (refl, cc)
if_some false x y e = absurd cc

pub digits_form : (most : ℕ) (w : Text) (n : ℕ) → digits most w ≡ Some n → n < 10 ^ most
unfolding digits
digits_form most w n e =
    let short = nat_lt 0 (length w) && nat_le (length w) most in
    let t = if_some (short && list_all is_ascii_digit w) (digits_value 10 w) n e in
    let u = and_parts short (list_all is_ascii_digit w) t.0 in
    let v = and_parts (nat_lt 0 (length w)) (nat_le (length w) most) u.0 in
    subst (λ (n : ℕ). n < 10 ^ most) t.1 (digits_value_short own w most u.1 (leb-true (length w) most v.1))

pub abs_neg : (n : ℕ) → nat_abs (neg_ℤ (pos n)) ≡ n
abs_neg zero = refl
abs_neg (suc n) = refl

pub signed_form : (most : ℕ) (w : Text) (z : ℤ) → signed most w ≡ Some z → HasDigits most z
unfolding signed
signed_form most [] z e = absurd cc
signed_form most (c ∷ w) z e = by (c == 45) e
  where
    by : (b : Bool) → cond b (option_map (λ n. neg_ℤ (pos n)) (digits most w))
        (option_map (λ n. pos n) (digits most (c ∷ w))) ≡ Some z → HasDigits most z
    by true e =
        let t = map_some (digits most w) (λ n. neg_ℤ (pos n)) z e in
        subst (HasDigits most) t.2 (subst (λ (n : ℕ). n < 10 ^ most) (sym (abs_neg t.0)) (digits_form most w t.0 t.1))
    by false e =
        let t = map_some (digits most (c ∷ w)) (λ n. pos n) z e in
        subst (HasDigits most) t.2 (digits_form most (c ∷ w) t.0 t.1)

fraction_of_form : (top : Text) (o : Option Text) (f : Fraction) → fraction_of top o ≡ Some f → IsWritableFraction f
fraction_of_form top None f e =
    let t = map_some (signed 18 top) (λ n. let f : Fraction = record { n = n; d = pos 1 } in f) f e in
    subst IsWritableFraction
    t.2 (record { top = signed_form 18 top t.0 t.1; bottom = lit< tt; no_minus = omega (arith, ints) })
fraction_of_form top (Some bottom) f e =
    let t = then_some (signed 18 top) _ f e in
    let u = then_some (digits 18 bottom) _ f t.2 in
    subst IsWritableFraction (same_Some _ f u.2)
    (record {
      top = signed_form 18 top t.0 t.1;
      bottom = digits_form 18 bottom u.0 u.1;
      no_minus = omega (arith, ints);
    })

pub fraction_form : (w : Text) (f : Fraction) → fraction w ≡ Some f → IsWritableFraction f
unfolding fraction
fraction_form w f e = fraction_of_form (take (position_or_len is_slash w) w) (after_slash w) f e

field_form : {X : Type 0} (read : Text → Option X) (P : X → Type 0) → ((w : Text) (x : X) → read w ≡ Some x → P x)
    → (ws : List Text) (p : X × List Text) → first_field read ws ≡ Some p → P p.0
field_form read P form ws p e =
    let t = then_some (first_word ws) _ p e in
    let u = map_some (read t.0.0) _ p t.2 in
    subst (λ (p : _ × List Text). P p.0) u.2 (form t.0.0 u.0 u.1)

only_form : {X : Type 0} (read : Text → Option X) (ws : List Text) (x : X) → only_word read ws ≡ Some x → (w : Text)
    × (read w ≡ Some x)
only_form read ws x e = let t = then_some (first_word ws) _ x e in (t.0.0, by (is_some (first_word t.0.1)) t.2)
  where
    by : {X : Type 0} {o : Option X} {x : X} (b : Bool) → cond b None o ≡ Some x → o ≡ Some x
    by true e = absurd cc
    by false e = e

head_form : (ws : List Text) (p : Head × List Text) → head ws ≡ Some p → IsWritableHead p.0
unfolding head
head_form ws p e =
    let kind = then_some (first_field kind_word ws) _ p e in
    let level = then_some (first_field (signed 9) kind.0.1) _ p kind.2 in
    let lat = then_some (first_field fraction level.0.1) _ p level.2 in
    let lon = then_some (first_field fraction lat.0.1) _ p lat.2 in
    let dlat = then_some (first_field fraction lon.0.1) _ p lon.2 in
    let dlon = then_some (first_field fraction dlat.0.1) _ p dlat.2 in
    subst (λ (p : Head × List Text). IsWritableHead p.0) (same_Some _ p dlon.2) (record {
      level = field_form (signed 9) (HasDigits 9) (signed_form 9) kind.0.1 level.0 level.1;
      lat = field_form fraction IsWritableFraction fraction_form level.0.1 lat.0 lat.1;
      lon = field_form fraction IsWritableFraction fraction_form lat.0.1 lon.0 lon.1;
      dlat = field_form fraction IsWritableFraction fraction_form lon.0.1 dlat.0 dlat.1;
      dlon = field_form fraction IsWritableFraction fraction_form dlat.0.1 dlon.0 dlon.1;
    })

count_form : (ws : List Text) (p : ℕ × List Text) → first_field (digits 9) ws ≡ Some p → p.0 < 10 ^ 9
count_form ws p e = field_form (digits 9) (λ n. n < 10 ^ 9) (digits_form 9) ws p e

each_form : (ws : List Text) (zs : List ℤ) → each (signed 6) ws ≡ Some zs → (length zs ≡ length ws)
    × All (HasDigits 6) zs
each_form [] zs e = let none : [] ≡ zs = same_Some [] zs e in
    subst (λ (zs : List ℤ). (length zs ≡ 0) × All (HasDigits 6) zs) none (refl, All-nil (HasDigits 6))
each_form (w ∷ ws) zs e =
    let z = then_some (signed 6 w) _ zs e in
    let rest = map_some (each (signed 6) ws) (λ (zs : List ℤ). z.0 ∷ zs) zs z.2 in
    let more = each_form ws rest.0 rest.1 in
    subst (λ (zs : List ℤ). (length zs ≡ length (w ∷ ws)) × All (HasDigits 6) zs)
    rest.2 (ap suc more.0, All-cons (HasDigits 6) z.0 rest.0 (signed_form 6 w z.0 z.1) more.1)

posts_form : (ws : List Text) (zs : List ℤ) → posts ws ≡ Some zs → (0 < length zs) × (length zs ≤ 64)
    × All (HasDigits 6) zs
unfolding posts
posts_form ws zs e =
    let t = then_if (nat_lt 0 (length ws) && nat_le (length ws) 64) (each (signed 6) ws) zs e in
    let u = and_parts (nat_lt 0 (length ws)) (nat_le (length ws) 64) t.0 in
    let some : 0 < length ws = ltb-true 0 (length ws) u.0 in
    let few : length ws ≤ 64 = leb-true (length ws) 64 u.1 in
    let v = each_form ws zs t.1 in
    (omega (arith, v.0), omega (arith, v.0), v.1)

path_form : (w p : Text) → path_word w ≡ Some p → path_word p ≡ Some p
unfolding path_word
path_form w p e =
    let t = if_some (nat_le (length w) 128 && list_all is_part (slice_split is_slash w)) w p e in
    subst (λ (x : Text). path_word x ≡ Some p) t.1 e

name_form : (w name : Text) → file_name w ≡ Some name → file_name name ≡ Some name
unfolding file_name
name_form w name e =
    let t = if_some (nat_lt 0 (length w) && nat_le (length w) 128 && list_all is_ascii_graphic w) w name e in
    subst (λ (x : Text). file_name x ≡ Some name) t.1 e

inline_form : (ws : List Text) (s : InlineSource) → inline_source ws ≡ Some s → IsInlineSource s
unfolding inline_source
inline_form ws s e =
    let h = then_some (head ws) _ s e in
    let rows = then_some (first_field (digits 9) h.0.1) _ s h.2 in
    let cols = then_some (first_field (digits 9) rows.0.1) _ s rows.2 in
    let ps = map_some (posts cols.0.1) _ s cols.2 in
    let form = posts_form cols.0.1 ps.0 ps.1 in
    subst IsInlineSource ps.2 (record {
      head = head_form ws h.0 h.1;
      rows = count_form h.0.1 rows.0 rows.1;
      cols = count_form rows.0.1 cols.0 cols.1;
      some = form.0;
      few = form.1;
      posts = form.2;
    })

file_form : (ws : List Text) (s : FileSource) → file_source ws ≡ Some s → IsFileSource s
unfolding file_source
file_form ws s e =
    let h = then_some (head ws) _ s e in
    let novalue = then_some (first_field (signed 9) h.0.1) _ s h.2 in
    let p = map_some (only_word path_word novalue.0.1) _ s novalue.2 in
    let last = only_form path_word novalue.0.1 p.0 p.1 in
    subst IsFileSource p.2 (record {
      head = head_form ws h.0 h.1;
      novalue = field_form (signed 9) (HasDigits 9) (signed_form 9) h.0.1 novalue.0 novalue.1;
      path = path_form last.0 p.0 last.1;
    })

tile_form : (ws : List Text) (s : Sentence) → tile_request ws ≡ Some s → IsSentence s
unfolding tile_request
tile_form ws s e =
    let id = then_some (first_field (digits 9) ws) _ s e in
    let file = map_some (only_word file_name id.0.1) _ s id.2 in
    let last = only_form file_name id.0.1 file.0 file.1 in
    subst IsSentence file.2 (count_form ws id.0 id.1, name_form last.0 file.0 last.1)

step_form : (w : Text) (s : Sentence) → step_word w ≡ Some s → IsSentence s
step_form w s e = by (bytes_eq w (codes "all")) e
  where
    by : (b : Bool) → cond b (Some step_all) (option_map step (digits 9 w)) ≡ Some s → IsSentence s
    by true e = subst IsSentence (same_Some step_all s e) tt
    by false e = let t = map_some (digits 9 w) step s e in subst IsSentence t.2 (digits_form 9 w t.0 t.1)

word_form : (w : Text) (s : Sentence) → one_word w ≡ Some s → IsSentence s
unfolding one_word
word_form w s e = by (bytes_eq w (codes "publish")) (bytes_eq w (codes "open")) (bytes_eq w (codes "versions"))
    (bytes_eq w (codes "quit")) e
  where
    by : (a b c d : Bool)
        → cond a (Some publish) (cond b (Some open_session) (cond c (Some versions) (cond d (Some quit) None)))
        ≡ Some s → IsSentence s
    by true b c d e = subst IsSentence (same_Some publish s e) tt
    by false true c d e = subst IsSentence (same_Some open_session s e) tt
    by false false true d e = subst IsSentence (same_Some versions s e) tt
    by false false false true e = subst IsSentence (same_Some quit s e) tt
    by false false false false e = absurd cc

sentence_form : (first : Text) (ws : List Text) (s : Sentence) → sentence first ws ≡ Some s → IsSentence s
unfolding sentence
sentence_form first ws s e =
    by (bytes_eq first (codes "inline")) (bytes_eq first (codes "source")) (bytes_eq first (codes "step"))
    (bytes_eq first (codes "tile")) (bytes_eq first (codes "close")) (is_some (first_word ws)) e
  where
    by : (a b c d f g : Bool)
        → cond a (option_map inline (inline_source ws))
        (cond b (option_map source (file_source ws))
        (cond c (only_word step_word ws)
        (cond d (tile_request ws)
        (cond f (option_map close (only_word (digits 9) ws)) (cond g None (one_word first)))))) ≡ Some s → IsSentence s
    by true b c d f g e = let t = map_some (inline_source ws) inline s e in
        subst IsSentence t.2 (inline_form ws t.0 t.1)
    by false true c d f g e = let t = map_some (file_source ws) source s e in
        subst IsSentence t.2 (file_form ws t.0 t.1)
    by false false true d f g e = let t = only_form step_word ws s e in step_form t.0 s t.1
    by false false false true f g e = tile_form ws s e
    by false false false false true g e =
        let t = map_some (only_word (digits 9) ws) close s e in
        let u = only_form (digits 9) ws t.0 t.1 in
        subst IsSentence t.2 (digits_form 9 u.0 t.0 u.1)
    by false false false false false true e = absurd cc
    by false false false false false false e = word_form first s e

pub line_form : ReadingHasForm
unfolding line_of
line_form line s e = by (bytes_eq line []) e
  where
    by : (b : Bool) → cond b (Some blank) (option_and_then (λ p. sentence p.0 p.1) (first_word (words line)))
        ≡ Some s → IsSentence s
    by true e = subst IsSentence (same_Some blank s e) tt
    by false e = let t = then_some (first_word (words line)) (λ p. sentence p.0 p.1) s e in
        sentence_form t.0.0 t.0.1 s t.2
