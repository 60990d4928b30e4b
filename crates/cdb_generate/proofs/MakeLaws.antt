-- Lists that are drawn one element after another.
use Rattle.std.proofs.Common.{◌≡◌, ℕ, zero, suc, ◌+◌, ◌*◌, ℤ, List, [], ◌∷◌, ◌++◌, length, refl, sym, ◌∙◌, ap, subst, arith}
use Rattle.std.specs.List.{flat_map, range_with_len}
use Rattle.std.proofs.lemmas.Grind.{flat_map-append}
use Rattle.std.proofs.lemmas.List.{append-nil, append_assoc}
use Rattle.std.proofs.lemmas.List.FromFn.{map-range_with_len_more}
use Rattle.cdb_source.specs.declared.kind.Kind.{Kind}
use Rattle.cdb_source.specs.declared.kind.Kind.TheVariants.{Elevation, Material}
use Rattle.std.specs.Prelude.{All}
use Rattle.std.proofs.Common.{rules}
use Rattle.std.proofs.lemmas.Int.{ints}
use Rattle.std.proofs.lemmas.List.{length-append}
use Rattle.std.proofs.lemmas.List.Elements.{All-append, All-push, All-nil}
use Rattle.std.proofs.lemmas.List.FromFn.{length-map-range_with_len}
use Rattle.cdb_source.specs.Posts.{IsPost}
use Rattle.cdb_source.specs.declared.source.Source.{Source}
use Rattle.cdb_generate.specs.Generator.{state_after, state_after_draws, post_drawn, row_drawn, posts_drawn, SourceDrawn, SourcesDrawn}

range_more : (a n : ℕ) → range_with_len a (suc n) ≡ range_with_len a n ++ (a + n) ∷ []
range_more a zero = let e : a ≡ a + 0 = omega arith in ap (λ k. k ∷ []) e
range_more a (suc n) = let e : a + 1 + n ≡ a + suc n = omega arith in ap (λ zs. a ∷ zs) (range_more (a + 1) n
    ∙ ap (λ k. range_with_len (a + 1) n ++ k ∷ []) e)

row_next : (kind : Kind) (base col row : ℕ)
    → row_drawn kind base (col + 1) row ≡ row_drawn kind base col row ++ post_drawn kind base row col ∷ []
row_next kind base col row = map-range_with_len_more (λ c. post_drawn kind base row c) 0 col col (omega arith)

pub more_cols : (kind : Kind) (base col row : ℕ) (before items : List ℤ) (z : ℤ)
    → items ≡ before ++ row_drawn kind base col row → z ≡ post_drawn kind base row col
    → items ++ z ∷ [] ≡ before ++ row_drawn kind base (col + 1) row
more_cols kind base col row before items z is z_is =
    (λ i. is i ++ z_is i ∷ [])
    ∙ append_assoc before (row_drawn kind base col row) (post_drawn kind base row col ∷ [])
    ∙ ap (λ zs. before ++ zs) (sym (row_next kind base col row))

pub more_rows : (kind : Kind) (base rows cols : ℕ)
    → posts_drawn kind base rows cols ++ row_drawn kind base cols rows ≡ posts_drawn kind base (rows + 1) cols
more_rows kind base rows cols =
    let f : ℕ → List ℤ = λ row. row_drawn kind base cols row in
    let number : suc rows ≡ rows + 1 = omega arith in
    let last : 0 + rows ≡ rows = omega arith in
    let range : range_with_len 0 (suc rows) ≡ range_with_len 0 rows ++ rows ∷ [] = range_more 0 rows
    ∙ ap (λ k. range_with_len 0 rows ++ k ∷ []) last in
    ap (λ zs. flat_map f (range_with_len 0 rows) ++ zs) (sym (append-nil (f rows)))
    ∙ sym (flat_map-append f (range_with_len 0 rows) (rows ∷ [])) ∙ ap (flat_map f) (sym range)
    ∙ ap (λ n. flat_map f (range_with_len 0 n)) number

-- draws after draws
pub after_add : (m n x : ℕ) → state_after_draws n (state_after_draws m x) ≡ state_after_draws (m + n) x
after_add zero n x = let e : n ≡ 0 + n = omega arith in ap (λ k. state_after_draws k x) e
after_add (suc m) n x = let e : suc (m + n) ≡ suc m + n = omega arith in after_add m n (state_after x)
    ∙ ap (λ k. state_after_draws k x) e

pub sources_more : (x : ℕ) (ss : List Source) (s : Source) (n : ℕ) → n ≡ 7 * length ss → SourcesDrawn x ss
    → SourceDrawn (state_after_draws n x) s → SourcesDrawn x (ss ++ s ∷ [])
sources_more x [] s n is drawn one = let e : n ≡ 0 = (let h : n ≡ 7 * 0 =
    is in omega arith) in (subst (λ k. SourceDrawn (state_after_draws k x) s) e one, tt)
sources_more x (y ∷ ys) s n is drawn one =
    let h : n ≡ 7 * suc (length ys) = is in
    let e : n ≡ 7 + 7 * length ys = omega (arith, h) in
    let moved : SourceDrawn (state_after_draws (7 * length ys) (state_after_draws 7 x)) s =
    subst (λ k. SourceDrawn k s) (ap (λ k. state_after_draws k x) e ∙ sym (after_add 7 (7 * length ys) x)) one in
    (drawn.0, sources_more (state_after_draws 7 x) ys s (7 * length ys) refl drawn.1 moved)

-- the posts are as many as there are places, and numbers that the kind allows
rows_next : (kind : Kind) (base rows cols : ℕ)
    → posts_drawn kind base (suc rows) cols ≡ posts_drawn kind base rows cols ++ row_drawn kind base cols rows
rows_next kind base rows cols = let number : suc rows ≡ rows + 1 =
    omega arith in ap (λ n. posts_drawn kind base n cols) number ∙ sym (more_rows kind base rows cols)

pub drawn_length : (kind : Kind) (base rows cols : ℕ) → length (posts_drawn kind base rows cols) ≡ rows * cols
drawn_length kind base zero cols = let e : 0 ≡ 0 * cols = omega arith in e
drawn_length kind base (suc rows) cols =
    let row : length (row_drawn kind base cols rows) ≡ cols =
    length-map-range_with_len (λ c. post_drawn kind base rows c) 0 cols in
    let e : rows * cols + cols ≡ suc rows * cols = omega arith in
    ap length (rows_next kind base rows cols)
    ∙ length-append (posts_drawn kind base rows cols) (row_drawn kind base cols rows)
    ∙ (λ i. drawn_length kind base rows cols i + row i) ∙ e

allowed : (kind : Kind) (base row col : ℕ) → IsPost kind (post_drawn kind base row col)
allowed Elevation base row col = record { least = search rules; greatest = omega (arith, ints) }
allowed Material base row col = record { least = search rules; greatest = omega (arith, ints) }

row_allowed : (kind : Kind) (base cols row : ℕ) → All (IsPost kind) (row_drawn kind base cols row)
row_allowed kind base zero row = All-nil (IsPost kind)
row_allowed kind base (suc cols) row =
    let number : cols + 1 ≡ suc cols = omega arith in
    subst (λ zs. All (IsPost kind) zs) (sym (row_next kind base cols row) ∙ ap (λ n. row_drawn kind base n row) number)
    (All-push (IsPost kind) (row_drawn kind base cols row) (post_drawn kind base row cols)
    (row_allowed kind base cols row) (allowed kind base row cols))

pub all_allowed : (kind : Kind) (base rows cols : ℕ) → All (IsPost kind) (posts_drawn kind base rows cols)
all_allowed kind base zero cols = All-nil (IsPost kind)
all_allowed kind base (suc rows) cols =
    subst (λ zs. All (IsPost kind) zs) (sym (rows_next kind base rows cols))
    (All-append (IsPost kind) (posts_drawn kind base rows cols) (row_drawn kind base cols rows)
    (all_allowed kind base rows cols) (row_allowed kind base cols rows))
