-- What is read of a line is spelled by it.
use Rattle.std.proofs.Common.{◌≡◌, ℕ, zero, suc, ◌+◌, ◌^◌, ◌<◌, ◌≤◌, Bool, true, false, cond, not, ◌&&◌, List, [], ◌∷◌, ◌++◌, length, take, drop, map, codes, Option, Some, None, inl, inr, refl, ap, sym, subst, ◌∙◌, arith}
use Rattle.std.specs.Prelude.{ℤ, pos, neg_ℤ, nat_lt, nat_le, ◌==◌, is_some, option_map, option_and_then}
use Rattle.std.specs.Char.{is_ascii_digit, is_ascii_graphic}
use Rattle.std.specs.Fmt.{decimal}
use Rattle.std.specs.List.{list_all, slice_split, position_or_len}
use Rattle.std.specs.Str.{bytes_eq}
use Rattle.std.specs.Str.Parse.{digits_value}
use Rattle.std.proofs.lemmas.Bool.{ltb-true, leb-true, eqb-true, and_parts}
use Rattle.std.proofs.lemmas.Bool.Decides.{nat_tests}
use Rattle.std.proofs.lemmas.Fmt.{decimal-digits_value}
use Rattle.std.proofs.lemmas.List.Splits.{join_with_byte-slice_split}
use Rattle.std.proofs.lemmas.Slice.Eq.{bytes_eq-Decides}
use Rattle.std.proofs.lemmas.Option.{same_Some}
use Rattle.cdb_grid.specs.declared.fraction.Fraction.{Fraction}
use Rattle.cdb_source.specs.declared.kind.Kind.{Kind}
use Rattle.cdb_source.specs.declared.kind.Kind.TheVariants.{Elevation, Material}
use Rattle.cdb_model.specs.Text.{Text}
use Rattle.cdb_model.specs.Words.{words, first_word, first_field, only_word}
use Rattle.cdb_model.specs.Words as reading
use Rattle.cdb_model.specs.Grammar.{Head, InlineSource, FileSource, Sentence, inline, source, publish, step, step_all, open_session, close, versions, quit, blank, kind_word, fraction, fraction_of, is_slash, path_word, file_name, each, posts, head, inline_source, file_source, tile_request, step_word, one_word, sentence, line_of, is_part}
use Rattle.cdb_model.specs.Writing.{kind_text}
use Rattle.cdb_commands.specs.Wording.{with_zeros, IsNumber, IsSigned, IsDegrees, itself, number, signed, Say, head_said, all_said, IsWording, ReadingIsWorded}
use Rattle.cdb_commands.proofs.Digits.{own, short_value}
use Rattle.cdb_commands.proofs.ReadForms.{then_if, if_some}
use Rattle.cdb_names.proofs.Tools.{then_some, map_some}

-- ---- numbers

-- digits are zeros, and then their value without leading zeros
without_zeros : (w : Text) → 0 < length w → length w ≤ 18 → list_all is_ascii_digit w ≡ true → (zeros : ℕ)
    × (w ≡ with_zeros zeros (decimal (digits_value 10 w)))
without_zeros [] some few all = absurd (omega arith)
without_zeros (c ∷ []) some few all =
    let small : digits_value 10 (c ∷ []) < 10 ^ 18 = short_value (c ∷ []) all few in
    (0, sym (decimal-digits_value own (c ∷ []) all (omega arith) (λ z. refl) (omega arith)))
without_zeros (c ∷ d ∷ w) some few all = by (without_zeros (d ∷ w)) (c == 48) refl
  where
    by : (0 < length (d ∷ w) → length (d ∷ w) ≤ 18 → list_all is_ascii_digit (d ∷ w) ≡ true → (zeros : ℕ)
        × (d ∷ w ≡ with_zeros zeros (decimal (digits_value 10 (d ∷ w)))))
        → (b : Bool) → (c == 48) ≡ b → (zeros : ℕ)
        × (c ∷ d ∷ w ≡ with_zeros zeros (decimal (digits_value 10 (c ∷ d ∷ w))))
    by later true e =
        let is : c ≡ 48 = eqb-true c 48 e in
        let t = and_parts (is_ascii_digit c) (list_all is_ascii_digit (d ∷ w)) all in
        let r = later (omega arith) (omega (arith, few)) t.1 in
        let P : ℕ → Type 0 = λ b. (zeros : ℕ)
        × (b ∷ d ∷ w ≡ with_zeros zeros (decimal (digits_value 10 (b ∷ d ∷ w)))) in
        subst P (sym is) (suc r.0, ap (λ (x : Text). 48 ∷ x) r.1)
    by later false e =
        let small : digits_value 10 (c ∷ d ∷ w) < 10 ^ 18 = short_value (c ∷ d ∷ w) all few in
        (0, sym (decimal-digits_value own (c ∷ d ∷ w) all (omega arith) (λ z. absurd (apart z e)) (omega arith)))
      where
        apart : c ≡ 48 → (c == 48) ≡ false → ⊥
        apart z h = let no : (48 == 48) ≡ false = subst (λ (x : ℕ). (x == 48) ≡ false) z h in cc

number_worded : (most : ℕ) (w : Text) (n : ℕ) → most ≤ 18 → reading.digits most w ≡ Some n → IsNumber most w n
unfolding reading.digits
number_worded most w n le e =
    let short = nat_lt 0 (length w) && nat_le (length w) most in
    let t = if_some (short && list_all is_ascii_digit w) (digits_value 10 w) n e in
    let u = and_parts short (list_all is_ascii_digit w) t.0 in
    let v = and_parts (nat_lt 0 (length w)) (nat_le (length w) most) u.0 in
    let some : 0 < length w = ltb-true 0 (length w) v.0 in
    let few : length w ≤ most = leb-true (length w) most v.1 in
    let z = without_zeros w some (omega (arith, few)) u.1 in
    record { zeros = z.0; digits = subst (λ (k : ℕ). w ≡ with_zeros z.0 (decimal k)) t.1 z.1; few = few }

signed_worded : (most : ℕ) (w : Text) (z : ℤ) → most ≤ 18 → reading.signed most w ≡ Some z → IsSigned most w z
unfolding reading.signed
signed_worded most [] z le e = absurd cc
signed_worded most (c ∷ w) z le e = by (c == 45) refl e
  where
    by : (b : Bool) → (c == 45) ≡ b → cond b (option_map (λ n. neg_ℤ (pos n)) (reading.digits most w))
        (option_map (λ n. pos n) (reading.digits most (c ∷ w))) ≡ Some z → IsSigned most (c ∷ w) z
    by true h e =
        let t = map_some (reading.digits most w) (λ n. neg_ℤ (pos n)) z e in
        inr (record {
          digits = w;
          minus = ap (λ (x : ℕ). x ∷ w) (eqb-true c 45 h);
          n = t.0;
          number = number_worded most w t.0 le t.1;
          value = sym t.2;
        })
    by false h e =
        let t = map_some (reading.digits most (c ∷ w)) (λ n. pos n) z e in
        inl (record { n = t.0; number = number_worded most (c ∷ w) t.0 le t.1; value = sym t.2 })

-- ---- degrees

-- a word that is cut at its first slash
cut_at : (w : Text) (k : ℕ) → k ≡ position_or_len is_slash w → k < length w → w ≡ take k w ++ 47 ∷ drop (k + 1) w
cut_at [] k e lt = absurd (omega (arith, lt))
cut_at (c ∷ w) zero e lt = by (is_slash c) refl e
  where
    by : (b : Bool) → is_slash c ≡ b → 0 ≡ cond (not b) (1 + position_or_len is_slash w) 0 → c ∷ w ≡ 47 ∷ w
    by true h e = ap (λ (x : ℕ). x ∷ w) (eqb-true c 47 h)
    by false h e = absurd (omega (arith, e))
cut_at (c ∷ w) (suc k) e lt =
    let further : suc (k + 1) ≡ suc k + 1 = omega arith in
    ap (λ (x : Text). c ∷ x) (cut_at w k (by (is_slash c) e) (omega (arith, lt)))
    ∙ ap (λ (n : ℕ). (c ∷ take k w) ++ 47 ∷ drop n (c ∷ w)) further
  where
    by : (b : Bool) → suc k ≡ cond (not b) (1 + position_or_len is_slash w) 0 → k ≡ position_or_len is_slash w
    by true e = absurd (omega (arith, e))
    by false e = omega (arith, e)

take_all : (w : Text) (n : ℕ) → length w ≤ n → take n w ≡ w
take_all [] zero le = refl
take_all [] (suc n) le = refl
take_all (c ∷ w) zero le = absurd (omega (arith, le))
take_all (c ∷ w) (suc n) le = ap (λ (x : Text). c ∷ x) (take_all w n (omega (arith, le)))

degrees_worded : (w : Text) (f : Fraction) → fraction w ≡ Some f → IsDegrees w f
unfolding fraction
degrees_worded w f e = by (nat_lt (position_or_len is_slash w) (length w)) refl e
  where
    by : (b : Bool) → nat_lt (position_or_len is_slash w) (length w) ≡ b
        → fraction_of (take (position_or_len is_slash w) w)
        (cond b (Some (drop (position_or_len is_slash w + 1) w)) None) ≡ Some f → IsDegrees w f
    by true h e =
        let lt : position_or_len is_slash w < length w = ltb-true (position_or_len is_slash w) (length w) h in
        let t = then_some (reading.signed 18 (take (position_or_len is_slash w) w)) _ f e in
        let u = then_some (reading.digits 18 (drop (position_or_len is_slash w + 1) w)) _ f t.2 in
        let is = same_Some _ f u.2 in
        inr (record {
          before = take (position_or_len is_slash w) w;
          after = drop (position_or_len is_slash w + 1) w;
          slash = cut_at w (position_or_len is_slash w) refl lt;
          top = subst (λ (z : ℤ). IsSigned 18 (take (position_or_len is_slash w) w) z) (ap (λ (g : Fraction). g.n) is)
              (signed_worded 18 (take (position_or_len is_slash w) w) t.0 (omega arith) t.1);
          n = u.0;
          bottom = number_worded 18 (drop (position_or_len is_slash w + 1) w) u.0 (omega arith) u.1;
          value = sym (ap (λ (g : Fraction). g.d) is);
        })
    by false h e =
        let le : length w ≤ position_or_len is_slash w = not_lt (position_or_len is_slash w) (length w) h in
        let t = map_some (reading.signed 18 (take (position_or_len is_slash w) w))
        (λ n. let f : Fraction = record { n = n; d = pos 1 } in f) f e in
        let s = signed_worded 18 (take (position_or_len is_slash w) w) t.0 (omega arith) t.1 in
        inl (record {
          top = subst (λ (z : ℤ). IsSigned 18 w z) (ap (λ (g : Fraction). g.n) t.2)
              (subst (λ (x : Text). IsSigned 18 x t.0) (take_all w (position_or_len is_slash w) le) s);
          bottom = sym (ap (λ (g : Fraction). g.d) t.2);
        })
      where
        not_lt : (a b : ℕ) → nat_lt a b ≡ false → b ≤ a
        not_lt a b h = grind (arith, nat_tests)

kind_worded : (w : Text) (kind : Kind) → kind_word w ≡ Some kind → w ≡ kind_text kind
kind_worded w kind e = by (bytes_eq w (codes "elev")) (bytes_eq w (codes "mat")) refl refl e
  where
    by : (a b : Bool) → bytes_eq w (codes "elev") ≡ a → bytes_eq w (codes "mat") ≡ b
        → cond a (Some Elevation) (cond b (Some Material) None) ≡ Some kind → w ≡ kind_text kind
    by true b p q e = (bytes_eq-Decides w (codes "elev")).0 p ∙ ap kind_text (same_Some Elevation kind e)
    by false true p q e = (bytes_eq-Decides w (codes "mat")).0 q ∙ ap kind_text (same_Some Material kind e)
    by false false p q e = absurd cc

-- ---- words

first_of : (ws : List Text) (p : Text × List Text) → first_word ws ≡ Some p → ws ≡ p.0 ∷ p.1
first_of [] p e = absurd cc
first_of (w ∷ ws) p e = ap (λ (q : Text × List Text). q.0 ∷ q.1) (same_Some (w, ws) p e)

field_worded : {X : Type 0} (read : Text → Option X) (ws : List Text) (p : X × List Text) → first_field read ws ≡ Some p
    → (w : Text) × (ws ≡ w ∷ p.1) × (read w ≡ Some p.0)
field_worded {X} read ws p e =
    let t = then_some (first_word ws) _ p e in
    let u = map_some (read t.0.0) _ p t.2 in (
      t.0.0,
      first_of ws t.0 t.1 ∙ ap (λ (q : X × List Text). t.0.0 ∷ q.1) u.2,
      u.1
          ∙ ap (λ (q : X × List Text). Some q.0) u.2,
    )

only_worded : {X : Type 0} (read : Text → Option X) (ws : List Text) (x : X) → only_word read ws ≡ Some x → (w : Text)
    × (ws ≡ w ∷ []) × (read w ≡ Some x)
only_worded {X} read ws x e =
    let t = then_some (first_word ws) _ x e in
    let u = by t.0.1 t.2 in
    (t.0.0, first_of ws t.0 t.1 ∙ ap (λ (vs : List Text). t.0.0 ∷ vs) u.0, u.1)
  where
    by : {o : Option X} (vs : List Text) → cond (is_some (first_word vs)) None o ≡ Some x → (vs ≡ []) × (o ≡ Some x)
    by [] e = (refl, e)
    by (v ∷ vs) e = absurd cc

-- the words of a head are in front, and say it
pub record HasHead (ws : List Text) (h : Head) (rest : List Text) : Type 0 where
  pub kind : Text
  pub level : Text
  pub lat : Text
  pub lon : Text
  pub dlat : Text
  pub dlon : Text
  pub front : ws ≡ kind ∷ level ∷ lat ∷ lon ∷ dlat ∷ dlon ∷ rest
  pub say : Say (kind ∷ level ∷ lat ∷ lon ∷ dlat ∷ dlon ∷ []) (head_said h)

head_worded : (ws : List Text) (p : Head × List Text) → head ws ≡ Some p → HasHead ws p.0 p.1
unfolding head
head_worded ws p e =
    let kind = then_some (first_field kind_word ws) _ p e in
    let level = then_some (first_field (reading.signed 9) kind.0.1) _ p kind.2 in
    let lat = then_some (first_field fraction level.0.1) _ p level.2 in
    let lon = then_some (first_field fraction lat.0.1) _ p lat.2 in
    let dlat = then_some (first_field fraction lon.0.1) _ p lon.2 in
    let dlon = then_some (first_field fraction dlat.0.1) _ p dlat.2 in
    let a = field_worded kind_word ws kind.0 kind.1 in
    let b = field_worded (reading.signed 9) kind.0.1 level.0 level.1 in
    let c = field_worded fraction level.0.1 lat.0 lat.1 in
    let d = field_worded fraction lat.0.1 lon.0 lon.1 in
    let f = field_worded fraction lon.0.1 dlat.0 dlat.1 in
    let g = field_worded fraction dlat.0.1 dlon.0 dlon.1 in
    subst (λ (p : Head × List Text). HasHead ws p.0 p.1) (same_Some _ p dlon.2) (record {
      kind = a.0;
      level = b.0;
      lat = c.0;
      lon = d.0;
      dlat = f.0;
      dlon = g.0;
      front = six a.1 b.1 c.1 d.1 f.1 g.1;
      say = (
        kind_worded a.0 kind.0.0 a.2,
        (
          signed_worded 9 b.0 level.0.0 (omega arith) b.2,
          (
            degrees_worded c.0 lat.0.0 c.2,
            (degrees_worded d.0 lon.0.0 d.2, (degrees_worded f.0 dlat.0.0 f.2, (degrees_worded g.0 dlon.0.0 g.2, tt))),
          ),
        ),
      );
    })
  where
    six : {ws r1 r2 r3 r4 r5 r6 : List Text} {a b c d f g : Text} → ws ≡ a ∷ r1 → r1 ≡ b ∷ r2 → r2 ≡ c ∷ r3
        → r3 ≡ d ∷ r4 → r4 ≡ f ∷ r5 → r5 ≡ g ∷ r6 → ws ≡ a ∷ b ∷ c ∷ d ∷ f ∷ g ∷ r6
    six p q r s t u = cc

each_worded : (ws : List Text) (zs : List ℤ) → each (reading.signed 6) ws ≡ Some zs → Say ws (map (λ z. signed 6 z) zs)
each_worded [] zs e = let none : [] ≡ zs = same_Some [] zs e in
    subst (λ (zs : List ℤ). Say [] (map (λ z. signed 6 z) zs)) none tt
each_worded (w ∷ ws) zs e =
    let z = then_some (reading.signed 6 w) _ zs e in
    let rest = map_some (each (reading.signed 6) ws) (λ (zs : List ℤ). z.0 ∷ zs) zs z.2 in
    subst (λ (zs : List ℤ). Say (w ∷ ws) (map (λ z. signed 6 z) zs))
    rest.2 (signed_worded 6 w z.0 (omega arith) z.1, each_worded ws rest.0 rest.1)

posts_worded : (ws : List Text) (zs : List ℤ) → posts ws ≡ Some zs → Say ws (map (λ z. signed 6 z) zs)
unfolding posts
posts_worded ws zs e =
    each_worded ws zs (then_if (nat_lt 0 (length ws) && nat_le (length ws) 64) (each (reading.signed 6) ws) zs e).1

path_worded : (w p : Text) → path_word w ≡ Some p → w ≡ p
unfolding path_word
path_worded w p e = (if_some (nat_le (length w) 128 && list_all is_part (slice_split is_slash w)) w p e).1

file_worded : (w name : Text) → file_name w ≡ Some name → w ≡ name
unfolding file_name
file_worded w name e =
    (if_some (nat_lt 0 (length w) && nat_le (length w) 128 && list_all is_ascii_graphic w) w name e).1

-- ---- sentences

-- the words say this sentence
abbrev AreFor : List Text → Sentence → Type 0
AreFor ws s = Say ws (all_said s)

inline_worded : (ws : List Text) (s : InlineSource) → inline_source ws ≡ Some s
    → AreFor (codes "inline" ∷ ws) (inline s)
unfolding inline_source
inline_worded ws s e =
    let h = then_some (head ws) _ s e in
    let rows = then_some (first_field (reading.digits 9) h.0.1) _ s h.2 in
    let cols = then_some (first_field (reading.digits 9) rows.0.1) _ s rows.2 in
    let ps = map_some (posts cols.0.1) _ s cols.2 in
    let a = head_worded ws h.0 h.1 in
    let b = field_worded (reading.digits 9) h.0.1 rows.0 rows.1 in
    let c = field_worded (reading.digits 9) rows.0.1 cols.0 cols.1 in
    let front : ws ≡ a.kind ∷ a.level ∷ a.lat ∷ a.lon ∷ a.dlat ∷ a.dlon ∷ b.0 ∷ c.0 ∷ cols.0.1 =
    eight a.front b.1 c.1 in
    let say : AreFor (codes "inline" ∷ a.kind ∷ a.level ∷ a.lat ∷ a.lon ∷ a.dlat ∷ a.dlon ∷ b.0 ∷ c.0 ∷ cols.0.1)
    (inline (record { head = h.0.0; rows = rows.0.0; cols = cols.0.0; posts = ps.0 })) = (
      refl,
      (
        a.say.0,
        (
          a.say.1.0,
          (
            a.say.1.1.0,
            (
              a.say.1.1.1.0,
              (
                a.say.1.1.1.1.0,
                (
                  a.say.1.1.1.1.1.0,
                  (
                    number_worded 9 b.0 rows.0.0 (omega arith) b.2,
                    (number_worded 9 c.0 cols.0.0 (omega arith) c.2, posts_worded cols.0.1 ps.0 ps.1),
                  ),
                ),
              ),
            ),
          ),
        ),
      ),
    ) in
    subst (λ (s : InlineSource). AreFor (codes "inline" ∷ ws) (inline s))
    ps.2 (subst (λ (vs : List Text). AreFor (codes "inline" ∷ vs)
    (inline (record { head = h.0.0; rows = rows.0.0; cols = cols.0.0; posts = ps.0 }))) (sym front) say)
  where
    eight : {ws r6 r7 r8 : List Text} {a b c d f g h k : Text} → ws ≡ a ∷ b ∷ c ∷ d ∷ f ∷ g ∷ r6 → r6 ≡ h ∷ r7
        → r7 ≡ k ∷ r8 → ws ≡ a ∷ b ∷ c ∷ d ∷ f ∷ g ∷ h ∷ k ∷ r8
    eight p q r = cc

source_worded : (ws : List Text) (s : FileSource) → file_source ws ≡ Some s → AreFor (codes "source" ∷ ws) (source s)
unfolding file_source
source_worded ws s e =
    let h = then_some (head ws) _ s e in
    let novalue = then_some (first_field (reading.signed 9) h.0.1) _ s h.2 in
    let p = map_some (only_word path_word novalue.0.1) _ s novalue.2 in
    let a = head_worded ws h.0 h.1 in
    let b = field_worded (reading.signed 9) h.0.1 novalue.0 novalue.1 in
    let c = only_worded path_word novalue.0.1 p.0 p.1 in
    let front : ws ≡ a.kind ∷ a.level ∷ a.lat ∷ a.lon ∷ a.dlat ∷ a.dlon ∷ b.0 ∷ c.0 ∷ [] = eight a.front b.1 c.1 in
    let say : AreFor (codes "source" ∷ a.kind ∷ a.level ∷ a.lat ∷ a.lon ∷ a.dlat ∷ a.dlon ∷ b.0 ∷ c.0 ∷ [])
    (source (record { head = h.0.0; novalue = novalue.0.0; path = p.0 })) = (
      refl,
      (
        a.say.0,
        (
          a.say.1.0,
          (
            a.say.1.1.0,
            (
              a.say.1.1.1.0,
              (
                a.say.1.1.1.1.0,
                (a.say.1.1.1.1.1.0, (signed_worded 9 b.0 novalue.0.0 (omega arith) b.2, (path_worded c.0 p.0 c.2, tt))),
              ),
            ),
          ),
        ),
      ),
    ) in
    subst (λ (s : FileSource). AreFor (codes "source" ∷ ws) (source s))
    p.2 (subst (λ (vs : List Text). AreFor (codes "source" ∷ vs)
    (source (record { head = h.0.0; novalue = novalue.0.0; path = p.0 }))) (sym front) say)
  where
    eight : {ws r6 r7 r8 : List Text} {a b c d f g h k : Text} → ws ≡ a ∷ b ∷ c ∷ d ∷ f ∷ g ∷ r6 → r6 ≡ h ∷ r7
        → r7 ≡ k ∷ r8 → ws ≡ a ∷ b ∷ c ∷ d ∷ f ∷ g ∷ h ∷ k ∷ r8
    eight p q r = cc

tile_worded : (ws : List Text) (s : Sentence) → tile_request ws ≡ Some s → AreFor (codes "tile" ∷ ws) s
unfolding tile_request
tile_worded ws s e =
    let id = then_some (first_field (reading.digits 9) ws) _ s e in
    let file = map_some (only_word file_name id.0.1) _ s id.2 in
    let a = field_worded (reading.digits 9) ws id.0 id.1 in
    let b = only_worded file_name id.0.1 file.0 file.1 in
    let front : ws ≡ a.0 ∷ b.0 ∷ [] = a.1 ∙ ap (λ (vs : List Text). a.0 ∷ vs) b.1 in
    subst (AreFor (codes "tile" ∷ ws))
    file.2 (subst (λ (vs : List Text). Say (codes "tile" ∷ vs)
    (itself (codes "tile") ∷ number 9 id.0.0 ∷ itself file.0 ∷ [])) (sym front)
    (refl, (number_worded 9 a.0 id.0.0 (omega arith) a.2, (file_worded b.0 file.0 b.2, tt))))

step_worded : (ws : List Text) (s : Sentence) → only_word step_word ws ≡ Some s → AreFor (codes "step" ∷ ws) s
step_worded ws s e =
    let a = only_worded step_word ws s e in
    subst (λ (vs : List Text). AreFor (codes "step" ∷ vs) s) (sym a.1) (by a.0 (bytes_eq a.0 (codes "all")) refl a.2)
  where
    by : (w : Text) (b : Bool) → bytes_eq w (codes "all") ≡ b
        → cond b (Some step_all) (option_map step (reading.digits 9 w)) ≡ Some s → AreFor (codes "step" ∷ w ∷ []) s
    by w true h e = subst (AreFor (codes "step" ∷ w ∷ [])) (same_Some step_all s e)
        (refl, ((bytes_eq-Decides w (codes "all")).0 h, tt))
    by w false h e = let t = map_some (reading.digits 9 w) step s e in
        subst (AreFor (codes "step" ∷ w ∷ [])) t.2 (refl, (number_worded 9 w t.0 (omega arith) t.1, tt))

close_worded : (ws : List Text) (s : Sentence) → option_map close (only_word (reading.digits 9) ws) ≡ Some s
    → AreFor (codes "close" ∷ ws) s
close_worded ws s e =
    let t = map_some (only_word (reading.digits 9) ws) close s e in
    let a = only_worded (reading.digits 9) ws t.0 t.1 in
    subst (AreFor (codes "close" ∷ ws))
    t.2 (subst (λ (vs : List Text). Say (codes "close" ∷ vs) (itself (codes "close") ∷ number 9 t.0 ∷ [])) (sym a.1)
    (refl, (number_worded 9 a.0 t.0 (omega arith) a.2, tt)))

one_worded : (w : Text) (s : Sentence) → one_word w ≡ Some s → AreFor (w ∷ []) s
unfolding one_word
one_worded w s e = by (bytes_eq w (codes "publish")) (bytes_eq w (codes "open")) (bytes_eq w (codes "versions"))
    (bytes_eq w (codes "quit")) refl refl refl refl e
  where
    by : (a b c d : Bool) → bytes_eq w (codes "publish") ≡ a → bytes_eq w (codes "open") ≡ b
        → bytes_eq w (codes "versions") ≡ c → bytes_eq w (codes "quit") ≡ d
        → cond a (Some publish) (cond b (Some open_session) (cond c (Some versions) (cond d (Some quit) None))) ≡ Some s
        → AreFor (w ∷ []) s
    by true b c d p q r t e = subst (AreFor (w ∷ [])) (same_Some publish s e)
        ((bytes_eq-Decides w (codes "publish")).0 p, tt)
    by false true c d p q r t e = subst (AreFor (w ∷ [])) (same_Some open_session s e)
        ((bytes_eq-Decides w (codes "open")).0 q, tt)
    by false false true d p q r t e = subst (AreFor (w ∷ [])) (same_Some versions s e)
        ((bytes_eq-Decides w (codes "versions")).0 r, tt)
    by false false false true p q r t e = subst (AreFor (w ∷ [])) (same_Some quit s e)
        ((bytes_eq-Decides w (codes "quit")).0 t, tt)
    by false false false false p q r t e = absurd cc

sentence_worded : (first : Text) (ws : List Text) (s : Sentence) → sentence first ws ≡ Some s → AreFor (first ∷ ws) s
unfolding sentence
sentence_worded first ws s e =
    by (bytes_eq first (codes "inline")) (bytes_eq first (codes "source")) (bytes_eq first (codes "step"))
    (bytes_eq first (codes "tile")) (bytes_eq first (codes "close")) refl refl refl refl refl e
  where
    named : (word : Text) → bytes_eq first word ≡ true → AreFor (word ∷ ws) s → AreFor (first ∷ ws) s
    named word h a = subst (λ (w : Text). AreFor (w ∷ ws) s) (sym ((bytes_eq-Decides first word).0 h)) a

    alone : (vs : List Text) → cond (is_some (first_word vs)) None (one_word first) ≡ Some s → AreFor (first ∷ vs) s
    alone [] e = one_worded first s e
    alone (v ∷ vs) e = absurd cc

    by : (a b c d f : Bool) → bytes_eq first (codes "inline") ≡ a → bytes_eq first (codes "source") ≡ b
        → bytes_eq first (codes "step") ≡ c → bytes_eq first (codes "tile") ≡ d → bytes_eq first (codes "close") ≡ f
        → cond a (option_map inline (inline_source ws))
        (cond b (option_map source (file_source ws))
        (cond c (only_word step_word ws)
        (cond d (tile_request ws)
        (cond f (option_map close (only_word (reading.digits 9) ws))
        (cond (is_some (first_word ws)) None (one_word first)))))) ≡ Some s → AreFor (first ∷ ws) s
    by true b c d f p q r t u e = let x = map_some (inline_source ws) inline s e in
        named (codes "inline") p (subst (AreFor (codes "inline" ∷ ws)) x.2 (inline_worded ws x.0 x.1))
    by false true c d f p q r t u e = let x = map_some (file_source ws) source s e in
        named (codes "source") q (subst (AreFor (codes "source" ∷ ws)) x.2 (source_worded ws x.0 x.1))
    by false false true d f p q r t u e = named (codes "step") r (step_worded ws s e)
    by false false false true f p q r t u e = named (codes "tile") t (tile_worded ws s e)
    by false false false false true p q r t u e = named (codes "close") u (close_worded ws s e)
    by false false false false false p q r t u e = alone ws e

pub line_worded : ReadingIsWorded
unfolding line_of
line_worded line s e = by (bytes_eq line []) refl e
  where
    by : (b : Bool) → bytes_eq line [] ≡ b
        → cond b (Some blank) (option_and_then (λ p. sentence p.0 p.1) (first_word (words line))) ≡ Some s
        → IsWording line s
    by true h e = subst (IsWording line) (same_Some blank s e)
        (record { words = []; joined = (bytes_eq-Decides line []).0 h; say = tt })
    by false h e =
        let t = then_some (first_word (words line)) (λ p. sentence p.0 p.1) s e in
        let first = first_of (words line) t.0 t.1 in
        record {
          words = words line;
          joined = sym (join_with_byte-slice_split 32 line);
          say = subst (λ (ws : List Text). AreFor ws s) (sym first) (sentence_worded t.0.0 t.0.1 s t.2);
        }
