-- Lists of publications that are drawn, with one more at the end.
use Rattle.std.proofs.Common.{◌≡◌, ℕ, zero, suc, ◌+◌, ℤ, pos, ◌+ℤ◌, List, [], ◌∷◌, ◌++◌, length, refl, sym, ◌∙◌, ap, subst, arith}
use Rattle.std.proofs.lemmas.Int.{ints}
use Rattle.std.proofs.lemmas.List.{append-nil, append_assoc, length-append}
use Rattle.cdb_grid.specs.declared.tile.Tile.{Tile}
use Rattle.cdb_model.specs.Publications.{Publication, sources_in, sources_of, Touches, IsEntryCount}
use Rattle.cdb_generate.specs.Generator.{PublicationDrawn, AreDrawn, state_next, passed}
use Rattle.cdb_generate.specs.Sums.{tiles_sum, IsSum}
use Rattle.cdb_generate.specs.Generated.{GeneratedSoFar}
use Rattle.cdb_generate.specs.Laws.{DrawnInOrder}

-- the next one is drawn from the state after all before it
drawn_more : (x : ℕ) (made : List Publication) (p : Publication) → AreDrawn x made
    → PublicationDrawn (passed (length made) x) (sources_in p)
    → AreDrawn x (made ++ p ∷ [])
drawn_more x [] p drawn one = (one, tt)
drawn_more x (y ∷ ys) p drawn one = (drawn.0, drawn_more (state_next x) ys p drawn.1 one)

pub passed_more : (n x : ℕ) → passed (suc n) x ≡ state_next (passed n x)
passed_more zero x = refl
passed_more (suc n) x = passed_more n (state_next x)

-- the first of those that are drawn are drawn
drawn_first : (x : ℕ) (first later : List Publication) → AreDrawn x (first ++ later) → AreDrawn x first
drawn_first x [] later drawn = tt
drawn_first x (y ∷ ys) later drawn = (drawn.0, drawn_first (state_next x) ys later drawn.1)

count_more : (list : List Publication) (p : Publication) (tiles : List Tile) (files : ℕ)
    → IsEntryCount list files → Touches p tiles
    → IsEntryCount (list ++ p ∷ []) (files + length tiles)
count_more [] p tiles files count touched = let e : files ≡ 0 = count in (tiles, 0, (touched, refl, omega (arith, e)))
count_more (y ∷ ys) p tiles files count touched =
    let e : files ≡ length count.0 + count.1 = count.2.2 in
    (count.0, count.1 + length tiles, (count.2.0, count_more ys p tiles count.1 count.2.1 touched, omega (arith, e)))

-- a sum with the tiles of one publication more, which come after all earlier ones
sum_more : (earlier list : List Publication) (p : Publication) (tiles : List Tile) (sum : ℤ)
    → IsSum earlier list sum → Touches p tiles
    → IsSum earlier (list ++ p ∷ []) (sum +ℤ tiles_sum (sources_of ((earlier ++ list) ++ p ∷ [])) tiles)
sum_more earlier [] p tiles sum is touched =
    let e : sum ≡ pos 0 = is in
    let same : tiles_sum (sources_of ((earlier ++ []) ++ p ∷ [])) tiles ≡ tiles_sum (sources_of
    (earlier ++ p ∷ [])) tiles =
    ap (λ before. tiles_sum (sources_of (before ++ p ∷ [])) tiles) (append-nil earlier) in
    (tiles, pos 0, (touched, refl, (λ i. e i +ℤ same i) ∙ turned (tiles_sum (sources_of (earlier ++ p ∷ [])) tiles)))
  where
    turned : (a : ℤ) → pos 0 +ℤ a ≡ a +ℤ pos 0
    turned a = omega (arith, ints)
sum_more earlier (y ∷ ys) p tiles sum is touched =
    let rest : IsSum (earlier ++ y ∷ []) (ys ++ p ∷ []) (is.1 +ℤ tiles_sum (sources_of
    (((earlier ++ y ∷ []) ++ ys) ++ p ∷ [])) tiles) =
    sum_more (earlier ++ y ∷ []) ys p tiles is.1 is.2.1 touched in
    let e : (earlier ++ y ∷ []) ++ ys ≡ earlier ++ y ∷ ys = append_assoc earlier (y ∷ []) ys in
    let moved = subst (λ before. IsSum (earlier ++ y ∷ []) (ys ++ p ∷ []) (is.1 +ℤ tiles_sum (sources_of
    (before ++ p ∷ [])) tiles)) e rest in (
      is.0,
      is.1 +ℤ tiles_sum (sources_of ((earlier ++ y ∷ ys) ++ p ∷ [])) tiles,
      (
        is.2.0,
        moved,
        joined sum _ _ _ is.2.2,
      ),
    )
  where
    joined : (sum a b c : ℤ) → sum ≡ a +ℤ b → sum +ℤ c ≡ a +ℤ (b +ℤ c)
    joined sum a b c e = omega (arith, ints, e)

-- before the first
sofar_none : (from : List Publication) (start : ℕ) → GeneratedSoFar from start start 0 0 (pos 0) from
sofar_none from start = record {
  made = [];
  list_is = sym (append-nil from);
  counted = refl;
  state_is = refl;
  drawn = tt;
  files_are = refl;
  sum_is = refl;
}

-- with one more, once it is complete
sofar_more : (from : List Publication) (start state done files : ℕ) (sum : ℤ) (list : List Publication)
    (p : Publication) (tiles : List Tile)
    → GeneratedSoFar from start state done files sum list → PublicationDrawn state (sources_in p) → Touches p tiles
    → GeneratedSoFar from start (state_next state) (done + 1) (files + length tiles) (sum +ℤ tiles_sum (sources_of
    (list ++ p ∷ [])) tiles) (list ++ p ∷ [])
sofar_more from start state done files sum list p tiles s one touched =
    let number : suc done ≡ done + 1 = omega arith in
    let at : passed (length s.made) start ≡ state = ap (λ n. passed n start) s.counted ∙ sym s.state_is in
    record {
      made = s.made ++ p ∷ [];
      list_is = ap (λ l. l ++ p ∷ []) s.list_is ∙ append_assoc from s.made (p ∷ []);
      counted = length-append s.made (p ∷ []) ∙ ap (λ n. n + 1) s.counted;
      state_is = ap state_next s.state_is ∙ sym (passed_more done start) ∙ ap (λ n. passed n start) number;
      drawn = drawn_more start s.made p s.drawn (subst (λ x. PublicationDrawn x (sources_in p)) (sym at) one);
      files_are = count_more s.made p tiles files s.files_are touched;
      sum_is = subst (λ l. IsSum from (s.made ++ p ∷ []) (sum +ℤ tiles_sum (sources_of (l ++ p ∷ [])) tiles))
          (sym s.list_is)
          (sum_more from s.made p tiles sum s.sum_is touched);
    }

pub in_order : DrawnInOrder
in_order = record { first = drawn_first; begins = sofar_none; more = sofar_more }
