-- Heads by their plain fields, and by their bytes.
use Rattle.std.proofs.Common.{◌≡◌, ℕ, ◌+◌, ◌^◌, ◌<◌, ◌≤◌, ℤ, pos, negsuc, ◌≤ℤ◌, List, [], ◌∷◌, ◌++◌, length, take, drop, get_or, refl, sym, ap, subst, ◌∙◌, arith}
use Rattle.std.proofs.Props.{props}
use Rattle.std.proofs.lemmas.Int.{to_z-of_z, of_z-to_z, ints}
use Rattle.std.proofs.lemmas.List.{take-append-drop, length-take, length-drop, get_or-take, get_or-drop, get_or_past, drop_more, drop-drop, drop_all}
use Rattle.std.proofs.lemmas.Bool.{cases_lt}
use Rattle.std.proofs.lemmas.Nat.{be_bytes_4, be_bytes_8, from_be_bytes-to_be_bytes_4, from_be_bytes-to_be_bytes_8}
use Rattle.std.proofs.Common.{inl, inr, Option, Some, None}
use Rattle.std.specs.Prelude.{MatchOption, IfSome}
use Rattle.std.specs.Int.{w8, w64, from_be_bytes, cast_signed, cast_unsigned}
use mir.Val.{SFits}
use Rattle.cdb_grid.specs.declared.arc.Arc.{Arc}
use Rattle.cdb_grid.specs.declared.level.Level.{Level}
use Rattle.cdb_grid.proofs.Same.{same_level}
use Rattle.cdb_source.specs.Head.{IsHead}
use Rattle.cdb_source.specs.declared.kind.Kind.{Kind}
use Rattle.cdb_source.specs.declared.kind.Kind.TheVariants.{Elevation, Material}
use Rattle.cdb_source.specs.declared.head.SourceHead.{SourceHead}
use Rattle.cdb_source.specs.Texts.{source_first_bytes, kind_number, kind_and_level, count_bytes, arc_bytes, head_text, source_front_text}
use Rattle.cdb_source.specs.Made.{HasFields}
use Rattle.cdb_source.specs.inside.HeadFields.{count_from, units_from, HasHead}

-- ---- heads by their fields

abbrev ArcFacts : ℤ → Type 0
ArcFacts u = (negsuc 12524124635135999 ≤ℤ u) × (u ≤ℤ pos 12524124635136000)

arc_of : (u : ℤ) → ArcFacts u → Arc
arc_of u f = record { units = u; least = f.0; most = f.1 }

arc_facts : (u : ℤ) → IsProp (ArcFacts u)
arc_facts u = hlevel props

pub same_arc : (a b : Arc) → a.units ≡ b.units → a ≡ b
unfolding arc_of
same_arc a b e =
    let P : ℤ → Type 0 = λ u. (f : ArcFacts u) → a ≡ arc_of u f in
    let start : P a.units = λ f. ap (arc_of a.units) (arc_facts a.units (a.least, a.most) f) in
    subst P e start (b.least, b.most)

head_of : (k : Kind) (l : Level) (y x dy dx : Arc) (r c : ℕ)
    → IsHead k y.units x.units dy.units dx.units r c → SourceHead
head_of k l y x dy dx r c f =
    record { kind = k; level = l; lat = y; lon = x; dlat = dy; dlon = dx; rows = r; cols = c; in_range = f }

head_facts : (k : Kind) (y x dy dx : ℤ) (r c : ℕ) → IsProp (IsHead k y x dy dx r c)
head_facts k y x dy dx r c = hlevel props

pub same_head : (a b : SourceHead) → a.kind ≡ b.kind → a.level.number ≡ b.level.number → a.lat.units ≡ b.lat.units
    → a.lon.units ≡ b.lon.units
    → a.dlat.units ≡ b.dlat.units → a.dlon.units ≡ b.dlon.units → a.rows ≡ b.rows → a.cols ≡ b.cols → a ≡ b
unfolding head_of
same_head a b ek en ey ex edy edx er ec =
    let el : a.level ≡ b.level = same_level a.level b.level en in
    let fy : a.lat ≡ b.lat = same_arc a.lat b.lat ey in
    let fx : a.lon ≡ b.lon = same_arc a.lon b.lon ex in
    let fdy : a.dlat ≡ b.dlat = same_arc a.dlat b.dlat edy in
    let fdx : a.dlon ≡ b.dlon = same_arc a.dlon b.dlon edx in
    let P : Kind → Level → Arc → Arc → Arc → Arc → ℕ → ℕ
    → Type 0 = λ k l y x dy dx r c. (f : IsHead k y.units x.units dy.units dx.units r c)
    → a ≡ head_of k l y x dy dx r c f in
    let p0 : P a.kind a.level a.lat a.lon a.dlat a.dlon a.rows a.cols =
    λ f. ap (head_of a.kind a.level a.lat a.lon a.dlat a.dlon a.rows a.cols)
    (head_facts a.kind a.lat.units a.lon.units a.dlat.units a.dlon.units a.rows a.cols a.in_range f) in
    let p1 : P b.kind a.level a.lat a.lon a.dlat a.dlon a.rows a.cols =
    subst (λ k. P k a.level a.lat a.lon a.dlat a.dlon a.rows a.cols) ek p0 in
    let p2 : P b.kind b.level a.lat a.lon a.dlat a.dlon a.rows a.cols =
    subst (λ l. P b.kind l a.lat a.lon a.dlat a.dlon a.rows a.cols) el p1 in
    let p3 : P b.kind b.level b.lat a.lon a.dlat a.dlon a.rows a.cols =
    subst (λ y. P b.kind b.level y a.lon a.dlat a.dlon a.rows a.cols) fy p2 in
    let p4 : P b.kind b.level b.lat b.lon a.dlat a.dlon a.rows a.cols =
    subst (λ x. P b.kind b.level b.lat x a.dlat a.dlon a.rows a.cols) fx p3 in
    let p5 : P b.kind b.level b.lat b.lon b.dlat a.dlon a.rows a.cols =
    subst (λ dy. P b.kind b.level b.lat b.lon dy a.dlon a.rows a.cols) fdy p4 in
    let p6 : P b.kind b.level b.lat b.lon b.dlat b.dlon a.rows a.cols =
    subst (λ dx. P b.kind b.level b.lat b.lon b.dlat dx a.rows a.cols) fdx p5 in
    let p7 : P b.kind b.level b.lat b.lon b.dlat b.dlon b.rows a.cols =
    subst (λ r. P b.kind b.level b.lat b.lon b.dlat b.dlon r a.cols) er p6 in
    subst (λ c. P b.kind b.level b.lat b.lon b.dlat b.dlon b.rows c) ec p7 b.in_range

pub same_kind : (a b : Kind) → kind_number a ≡ kind_number b → a ≡ b
same_kind Elevation Elevation e = refl
same_kind Elevation Material e = absurd (omega arith)
same_kind Material Elevation e = absurd (omega arith)
same_kind Material Material e = refl

-- the same bytes have one head
pub one_head : (bytes : List ℕ) (a b : SourceHead) → HasHead bytes a → HasHead bytes b → a ≡ b
one_head bytes a b h g =
    same_head a b (same_kind a.kind b.kind (sym h.kind ∙ g.kind)) (sym h.level ∙ g.level) (sym h.lat ∙ g.lat)
    (sym h.lon ∙ g.lon)
    (sym h.dlat ∙ g.dlat) (sym h.dlon ∙ g.dlon) (sym h.rows ∙ g.rows) (sym h.cols ∙ g.cols)

-- ---- a head that was written

level_fits : (z : ℤ) → negsuc 9 ≤ℤ z → z ≤ℤ pos 23 → SFits w8 z
level_fits (pos n) least most = record { sfits = omega (arith, ints) }
level_fits (negsuc n) least most = record { sfits = omega (arith, ints) }

pub level_again : (l : Level) → cast_signed w8 (cast_unsigned w8 l.number) ≡ l.number
level_again l = to_z-of_z w8 l.number (level_fits l.number l.coarsest l.finest)

units_fit : (z : ℤ) → negsuc 12524124635135999 ≤ℤ z → z ≤ℤ pos 12524124635136000 → SFits w64 z
    × (cast_unsigned w64 z < 2 ^ 64)
units_fit (pos n) least most = (record { sfits = omega (arith, ints) }, omega (arith, ints))
units_fit (negsuc n) least most = (record { sfits = omega (arith, ints) }, omega arith)

units_again : (a : Arc) → cast_signed w64 (from_be_bytes w64 (arc_bytes a.units)) ≡ a.units
units_again a =
    let fits = units_fit a.units a.least a.most in
    ap (cast_signed w64) (from_be_bytes-to_be_bytes_8 (cast_unsigned w64 a.units) fits.1) ∙ to_z-of_z w64 a.units fits.0

written_has : (head : SourceHead) → HasHead (source_front_text head) head
unfolding head_text
written_has head = record {
  first = refl;
  kind = refl;
  level = level_again head.level;
  zero_10 = refl;
  zero_11 = refl;
  rows = from_be_bytes-to_be_bytes_4 head.rows (let r = head.in_range.raster.rows_most in omega arith);
  cols = from_be_bytes-to_be_bytes_4 head.cols (let r = head.in_range.raster.cols_most in omega arith);
  lat = units_again head.lat;
  lon = units_again head.lon;
  dlat = units_again head.dlat;
  dlon = units_again head.dlon;
}

pub has_head : (bytes : List ℕ) (head : SourceHead) → bytes ≡ source_front_text head → HasHead bytes head
has_head bytes head e = subst (λ (bs : List ℕ). HasHead bs head) (sym e) (written_has head)

-- ---- a head that was read

abbrev pub IsBytes : List ℕ → Type 0
IsBytes bytes = (i : ℕ) → get_or bytes i 0 < 256

pub IsBytes-drop : (n : ℕ) (bytes : List ℕ) → IsBytes bytes → IsBytes (drop n bytes)
IsBytes-drop n bytes h i = rw get_or-drop (h (n + i))

pub IsBytes-take : (n : ℕ) (bytes : List ℕ) → IsBytes bytes → IsBytes (take n bytes)
IsBytes-take n bytes h i =
    elim (cases_lt i n) [
      | inl lt ↦ rw (get_or-take n bytes i 0 lt) (h i)
      | inr le ↦ rw (get_or_past (take n bytes) i 0 (omega (arith, length-take n bytes))) (omega arith)
    ]

-- so many bytes from a place on, and the rest
pub cut : (at n next : ℕ) (bytes part : List ℕ) → at + n ≡ next → part ≡ take n (drop at bytes) → drop at bytes
    ≡ part ++ drop next bytes
cut at n next bytes part e is = sym (take-append-drop n (drop at bytes)) ∙ rw (is, drop-drop, e) refl

pub count_is : (bytes : List ℕ) (at n : ℕ) → IsBytes bytes → at + 4 ≤ length bytes → count_from bytes at ≡ n
    → count_bytes n ≡ take 4 (drop at bytes)
count_is bytes at n fits room is =
    let four : length (take 4 (drop at bytes)) ≡ 4 =
    omega (arith, length-take 4 (drop at bytes), length-drop at bytes) in
    be_bytes_4 (take 4 (drop at bytes)) n four (IsBytes-take 4 (drop at bytes) (IsBytes-drop at bytes fits)) (sym is)

pub below_64 : (bytes : List ℕ) → IsBytes bytes → from_be_bytes w64 bytes < 2 ^ 64
below_64 bytes fits = omega (arith, fits 0, fits 1, fits 2, fits 3, fits 4, fits 5, fits 6, fits 7)

units_are : (bytes : List ℕ) (at : ℕ) (u : ℤ) → length bytes ≡ 52 → IsBytes bytes → at + 8 ≤ 52 → units_from bytes at
    ≡ u → arc_bytes u ≡ take 8 (drop at bytes)
units_are bytes at u len fits room is =
    let part = take 8 (drop at bytes) in
    let part_fits = IsBytes-take 8 (drop at bytes) (IsBytes-drop at bytes fits) in
    let eight : length (take 8 (drop at bytes)) ≡ 8 =
    omega (arith, length-take 8 (drop at bytes), length-drop at bytes) in
    let back : cast_unsigned w64 u ≡ from_be_bytes w64 (take 8 (drop at bytes)) = ap (cast_unsigned w64) (sym is)
    ∙ of_z-to_z w64 (from_be_bytes w64 (take 8 (drop at bytes))) (below_64 (take 8 (drop at bytes)) part_fits) in
    be_bytes_8 (take 8 (drop at bytes)) (cast_unsigned w64 u) eight part_fits back

four_bytes : (bytes : List ℕ) (a b : ℕ) → length bytes ≡ 52 → get_or bytes 8 0 ≡ a → get_or bytes 9 0 ≡ b
    → get_or bytes 10 0 ≡ 0 → get_or bytes 11 0 ≡ 0 → drop 8 bytes ≡ a ∷ b ∷ 0 ∷ 0 ∷ drop 12 bytes
four_bytes bytes a b len e8 e9 e10 e11 =
    let d8 : drop 8 bytes ≡ get_or bytes 8 0 ∷ drop 9 bytes = drop_more bytes 8 0 (omega arith) in
    let d9 : drop 9 bytes ≡ get_or bytes 9 0 ∷ drop 10 bytes = drop_more bytes 9 0 (omega arith) in
    let d10 : drop 10 bytes ≡ get_or bytes 10 0 ∷ drop 11 bytes = drop_more bytes 10 0 (omega arith) in
    let d11 : drop 11 bytes ≡ get_or bytes 11 0 ∷ drop 12 bytes = drop_more bytes 11 0 (omega arith) in
    cc

pub front_is : (bytes : List ℕ) (head : SourceHead) → length bytes ≡ 52 → IsBytes bytes → HasHead bytes head
    → bytes ≡ source_front_text head
unfolding head_text
front_is bytes head len fits h =
    let level : get_or bytes 9 0 ≡ cast_unsigned w8 head.level.number = sym (of_z-to_z w8 (get_or bytes 9 0) (fits 9))
    ∙ ap (cast_unsigned w8) h.level in
    let e8 = four_bytes bytes _ _ len h.kind level h.zero_10 h.zero_11 in
    let e12 = cut 12 4 16 bytes _ refl (count_is bytes 12 head.rows fits (omega arith) h.rows) in
    let e16 = cut 16 4 20 bytes _ refl (count_is bytes 16 head.cols fits (omega arith) h.cols) in
    let e20 = cut 20 8 28 bytes _ refl (units_are bytes 20 head.lat.units len fits (omega arith) h.lat) in
    let e28 = cut 28 8 36 bytes _ refl (units_are bytes 28 head.lon.units len fits (omega arith) h.lon) in
    let e36 = cut 36 8 44 bytes _ refl (units_are bytes 36 head.dlat.units len fits (omega arith) h.dlat) in
    let e44 = cut 44 8 52 bytes _ refl (units_are bytes 44 head.dlon.units len fits (omega arith) h.dlon) in
    let e52 : drop 52 bytes ≡ [] = drop_all 52 bytes (omega arith) in
    let f44 : drop 44 bytes ≡ arc_bytes head.dlon.units = rw e52 at e44 in
    let f36 : drop 36 bytes ≡ arc_bytes head.dlat.units ++ arc_bytes head.dlon.units = rw f44 at e36 in
    let f28 : drop 28 bytes ≡ arc_bytes head.lon.units ++ arc_bytes head.dlat.units ++ arc_bytes head.dlon.units =
    rw f36 at e28 in
    let f20 : drop 20 bytes ≡ arc_bytes head.lat.units ++ arc_bytes head.lon.units ++ arc_bytes head.dlat.units
    ++ arc_bytes head.dlon.units = rw f28 at e20 in
    let f16 : drop 16 bytes ≡ count_bytes head.cols ++ arc_bytes head.lat.units ++ arc_bytes head.lon.units
    ++ arc_bytes head.dlat.units ++ arc_bytes head.dlon.units = rw f20 at e16 in
    let f12 : drop 12 bytes ≡ count_bytes head.rows ++ count_bytes head.cols ++ arc_bytes head.lat.units
    ++ arc_bytes head.lon.units ++ arc_bytes head.dlat.units ++ arc_bytes head.dlon.units = rw f16 at e12 in
    h.first ∙ ap (λ (rest : List ℕ). source_first_bytes ++ rest)
    (e8 ∙ ap (λ (rest : List ℕ). kind_and_level head.kind head.level.number ++ rest) f12)

-- ---- bytes that aren't those of a head

pub other_head : (bytes : List ℕ) (head : SourceHead) → HasHead bytes head → (k : Kind) (y x dy dx : ℤ) (r c : ℕ)
    → get_or bytes 8 0 ≡ kind_number k
    → units_from bytes 20 ≡ y → units_from bytes 28 ≡ x → units_from bytes 36 ≡ dy → units_from bytes 44 ≡ dx
    → r ≡ count_from bytes 12 → c ≡ count_from bytes 16
    → (IsHead k y x dy dx r c → ⊥) → ⊥
other_head bytes head h k y x dy dx r c ek ey ex edy edx er ec not_head =
    let fk : head.kind ≡ k = same_kind head.kind k (sym h.kind ∙ ek) in
    let fy : head.lat.units ≡ y = sym h.lat ∙ ey in
    let fx : head.lon.units ≡ x = sym h.lon ∙ ex in
    let fdy : head.dlat.units ≡ dy = sym h.dlat ∙ edy in
    let fdx : head.dlon.units ≡ dx = sym h.dlon ∙ edx in
    let fr : head.rows ≡ r = sym (er ∙ h.rows) in
    let fc : head.cols ≡ c = sym (ec ∙ h.cols) in
    not_head (rw (← fk, ← fy, ← fx, ← fdy, ← fdx, ← fr, ← fc) head.in_range)

-- the answer on the fields, as one on the bytes
pub head_spelled : (bytes : List ℕ) (r : Option SourceHead) → length bytes ≡ 52 → IsBytes bytes
    → MatchOption r ((head : SourceHead) → HasHead bytes head → ⊥) (λ head. HasHead bytes head)
    → IfSome r (λ head. bytes ≡ source_front_text head)
head_spelled bytes (Some head) len fits h = front_is bytes head len fits h
head_spelled bytes None len fits h = tt

pub head_only : (bytes : List ℕ) (r : Option SourceHead) → MatchOption r ((head : SourceHead) → HasHead bytes head → ⊥)
    (λ head. HasHead bytes head) → (head : SourceHead) → bytes ≡ source_front_text head → r ≡ Some head
head_only bytes (Some given) h head e = ap Some (one_head bytes given head h (has_head bytes head e))
head_only bytes None h head e = absurd (h head (has_head bytes head e))

-- the fields that were read are a head, or aren't
pub head_answer : (bytes : List ℕ) (r : Option SourceHead) (k : Kind) (l : Level) (y x dy dx : Arc) (rows cols : ℕ)
    → bytes ≡ source_first_bytes ++ drop 8 bytes → get_or bytes 8 0 ≡ kind_number k
    → cast_signed w8 (get_or bytes 9 0) ≡ l.number → get_or bytes 10 0 ≡ 0 → get_or bytes 11 0 ≡ 0
    → rows ≡ count_from bytes 12 → cols ≡ count_from bytes 16
    → units_from bytes 20 ≡ y.units → units_from bytes 28 ≡ x.units → units_from bytes 36 ≡ dy.units
    → units_from bytes 44 ≡ dx.units
    → MatchOption r (IsHead k y.units x.units dy.units dx.units rows cols → ⊥)
    (λ head. HasFields head k l y x dy dx rows cols)
    → MatchOption r ((head : SourceHead) → HasHead bytes head → ⊥) (λ head. HasHead bytes head)
head_answer bytes (Some head) k l y x dy dx rows cols first ek el z10 z11 er ec ey ex edy edx is = record {
  first = first;
  kind = rw is.kind_is ek;
  level = rw is.level_is el;
  zero_10 = z10;
  zero_11 = z11;
  rows = rw is.rows_are (sym er);
  cols = rw is.cols_are (sym ec);
  lat = rw is.lat_is ey;
  lon = rw is.lon_is ex;
  dlat = rw is.dlat_is edy;
  dlon = rw is.dlon_is edx;
}
head_answer bytes None k l y x dy dx rows cols first ek el z10 z11 er ec ey ex edy edx not_head =
    λ head h. other_head bytes head h k y.units x.units dy.units dx.units rows cols ek ey ex edy edx er ec not_head
