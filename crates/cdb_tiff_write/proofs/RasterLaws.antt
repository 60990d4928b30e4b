-- Rows of a frame, and the file that they become.
use Rattle.std.proofs.Common.{◌≡◌, ℕ, zero, suc, ◌+◌, ◌-◌, ◌*◌, ◌/◌, ◌<◌, ◌≤◌, ℤ, pos, ◌≤ℤ◌, All, List, ◌++◌, length, take, drop, map, get_or, refl, sym, ◌∙◌, ap, subst, arith, add-one}
use Rattle.std.specs.List.{range_with_len}
use Rattle.std.proofs.Math.Nat.{mul-le-mul_right}
use Rattle.std.proofs.lemmas.List.{same_lists, get_or-take, get_or-drop, get_or_default, length-take-le, length-drop}
use Rattle.std.proofs.lemmas.List.FromFn.{length-map-range_with_len, get_or-map-range_with_len}
use Rattle.std.proofs.lemmas.Int.{ints}
use Rattle.std.proofs.Common.{set, ◌≢◌, inl, inr, get_or-set_same}
use Rattle.std.proofs.lemmas.Bool.{cases_lt}
use Rattle.std.proofs.lemmas.List.{ext_get_or, length-map, places}
use Rattle.cdb_grid.specs.Tiles.{tile_side}
use Rattle.cdb_grid.specs.declared.family.Family.{Family}
use Rattle.cdb_grid.specs.declared.family.Family.TheVariants.{Elev, Low, High, Mat}
use Rattle.cdb_grid.specs.declared.tile.Tile.{Tile}
use Rattle.cdb_source.specs.Posts.{IsPost, coded}
use Rattle.cdb_source.specs.Reached.{kind_of, tile_value}
use Rattle.cdb_source.specs.declared.kind.Kind.TheVariants.{Material}
use Rattle.cdb_source.specs.declared.source.Source.{Source}
use Rattle.cdb_model.specs.Text.{last_first}
use Rattle.std.specs.Prelude.{int_le, ◌&&◌, true, false, Bool, if◌then◌else◌, [], ◌∷◌}
use Rattle.std.specs.Int.{w8, cast_unsigned}
use Rattle.cdb_model.specs.TileFile.{bits_of, family_row, small_row_bytes, head_bytes, row_numbers, tile_bytes}
use Rattle.cdb_tiff_write.specs.Rasters.{octet_of, laid_row, row_of_frame, frame_bytes}
use Rattle.cdb_cut.specs.OneTile.{IsFrameOf}
use Rattle.cdb_tiff_write.proofs.MaterialPosts.{number_post}

-- a list by the number at each index
pub by_index : (f : ℕ → ℤ) (n : ℕ) (xs : List ℤ) → length xs ≡ n → ((k : ℕ) (d : ℤ) → k < n → get_or xs k d ≡ f k)
    → xs ≡ map f (range_with_len 0 n)
by_index f n xs len each =
    same_lists xs (map f (range_with_len 0 n)) (len ∙ sym (length-map-range_with_len f 0 n))
    (λ k d h. let below : k < n = omega (arith, len) in each k d below
    ∙ sym (get_or-map-range_with_len f 0 n k k d below (omega arith)))

-- ---- the raster

row_end : (row side : ℕ) → row < side → row * side + side ≤ side * side
row_end row side h = let more : suc row * side ≤ side * side = mul-le-mul_right side h in omega arith

length_row : (side row : ℕ) (frame : List ℤ) → row < side → length frame ≡ side * side
    → length (row_of_frame side frame row) ≡ side
length_row side row frame h len =
    length-take-le side (drop (row * side) frame)
    (rw length-drop (let end : row * side + side ≤ side * side = row_end row side h in omega arith))

-- one more row, which stands before those that were written
pub raster_more : (f : Family) (side row b : ℕ) (frame : List ℤ) (old new : List ℕ) → row < side
    → length frame ≡ side * side → b ≡ bits_of f / 8
    → drop ((side - 1 - row) * (side * b)) new
    ≡ laid_row f (take (row * side + side - row * side) (drop (row * side) frame))
    ++ drop ((side - 1 - row) * (side * b) + length (take (row * side + side - row * side)
    (drop (row * side) frame)) * (bits_of f / 8)) old
    → drop ((side - row) * (side * b)) old ≡ last_first row (λ r. laid_row f (row_of_frame side frame r))
    → drop ((side - (row + 1)) * (side * b)) new ≡ last_first (row + 1) (λ r. laid_row f (row_of_frame side frame r))
raster_more f side row b frame old new h len size put before =
    let posts : take (row * side + side - row * side) (drop (row * side) frame) ≡ row_of_frame side frame row =
    ap (λ n. take n (drop (row * side) frame)) (omega arith) in
    let count : length (take (row * side + side - row * side) (drop (row * side) frame)) ≡ side = ap length posts
    ∙ length_row side row frame h len in
    let steps : side - row ≡ suc (side - 1 - row) = omega arith in
    let end : (side - 1 - row) * (side * b) + length (take (row * side + side - row * side)
    (drop (row * side) frame)) * (bits_of f / 8) ≡ (side - row) * (side * b) =
    ap (λ n. (side - 1 - row) * (side * b) + n * (bits_of f / 8)) count
    ∙ ap (λ n. (side - 1 - row) * (side * b) + side * n) (sym size)
    ∙ (let next : (side - 1 - row) * (side * b) + side * b ≡ suc (side - 1 - row) * (side * b) = omega arith in next)
    ∙ ap (λ n. n * (side * b)) (sym steps) in
    let from : side - (row + 1) ≡ side - 1 - row = omega arith in
    ap (λ n. drop (n * (side * b)) new) from ∙ put
    ∙ ap (λ l. laid_row f l
    ++ drop ((side - 1 - row) * (side * b) + length (take (row * side + side - row * side)
    (drop (row * side) frame)) * (bits_of f / 8)) old) posts
    ∙ ap (λ n. laid_row f (row_of_frame side frame row) ++ drop n old) end
    ∙ ap (λ l. laid_row f (row_of_frame side frame row) ++ l) before
    ∙ ap (λ n. last_first n (λ r. laid_row f (row_of_frame side frame r))) (sym (add-one row))

-- ---- the frame of a tile

frame_row : (ss : List Source) (t : Tile) (frame : List ℤ) (row : ℕ) → IsFrameOf ss t frame → row < tile_side t
    → row_of_frame (tile_side t) frame row ≡ row_numbers ss t row
frame_row ss t frame row is h =
    by_index _ (tile_side t) (row_of_frame (tile_side t) frame row) (length_row (tile_side t) row frame h is.size)
    (λ col d below.
    let end : row * tile_side t + tile_side t ≤ tile_side t * tile_side t = row_end row (tile_side t) h in
    let there : row * tile_side t + col < length frame = omega (arith, is.size) in
    get_or-take (tile_side t) (drop (row * tile_side t) frame) col d below ∙ get_or-drop (row * tile_side t) frame col d
    ∙ get_or_default frame (row * tile_side t + col) d (pos 0) there ∙ is.each row col h below)

same_pieces : {A : Type 0} (n : ℕ) (f g : ℕ → List A) → ((k : ℕ) → k < n → f k ≡ g k) → last_first n f ≡ last_first n g
same_pieces zero f g each = refl
same_pieces (suc n) f g each = ap (λ l. l ++ last_first n f) (each n (omega arith))
    ∙ ap (λ l. g n ++ l) (same_pieces n f g (λ k h. each k (omega arith)))

-- a row of a tile's numbers is laid as it is spelled
octet_same : (v : ℤ) → IsPost Material v → octet_of v ≡ cast_unsigned w8 v
unfolding octet_of
octet_same v p = by (int_le (pos 0) v) (int_le v (pos 255)) (grind (arith, ints)) (grind (arith, ints))
  where
    by : (a b : Bool) → a ≡ true → b ≡ true → (if a && b then cast_unsigned w8 v else 0) ≡ cast_unsigned w8 v
    by true true e f = refl
    by true false e f = absurd cc
    by false b e f = absurd cc

octets_same : (posts : List ℤ) → ((k : ℕ) (d : ℤ) → k < length posts → IsPost Material (get_or posts k d))
    → map octet_of posts ≡ map (cast_unsigned w8) posts
octets_same [] all = refl
octets_same (v ∷ posts) all = ap (λ b. b ∷ map octet_of posts) (octet_same v (all 0 v (omega arith)))
    ∙ ap (λ l. cast_unsigned w8 v ∷ l) (octets_same posts (λ k d l. all (suc k) d (omega (arith, l))))

row_same : (f g : Family) (ss : List Source) (t : Tile) (row : ℕ) → t.family ≡ g → f ≡ g
    → laid_row f (row_numbers ss t row) ≡ family_row f (row_numbers ss t row)
unfolding small_row_bytes
row_same Elev g ss t row e h = refl
row_same Low g ss t row e h = refl
row_same High g ss t row e h = refl
row_same Mat g ss t row e h = small (e ∙ sym h)
  where
    small : t.family ≡ Mat → map octet_of (row_numbers ss t row) ≡ small_row_bytes (row_numbers ss t row)
    small mat = octets_same (row_numbers ss t row) (λ k d l.
        let n = tile_side t in
        let below : k < n =
        omega (arith, l, length-map-range_with_len (λ col. coded (kind_of t.family) (tile_value ss t row col)) 0 n)
        in
        subst (IsPost Material)
        (sym (get_or-map-range_with_len (λ col. coded (kind_of t.family) (tile_value ss t row col)) 0 n k k d below
        (omega arith))) (number_post t.family ss _ _ mat))

pub frame_file : (ss : List Source) (t : Tile) (frame : List ℤ) → IsFrameOf ss t frame
    → frame_bytes t frame ≡ tile_bytes ss t
unfolding tile_bytes
frame_file ss t frame is =
    ap (λ l. head_bytes (tile_side t) (bits_of t.family) ++ l)
    (same_pieces (tile_side t) _ _ (λ row h. ap (laid_row t.family) (frame_row ss t frame row is h)
    ∙ row_same t.family t.family ss t row refl refl))

-- one octet more, and all of them
pub octets_more : (posts : List ℤ) (to : List ℕ) (k v : ℕ) → k < length to
    → ((i : ℕ) → i < k → get_or to i 0 ≡ octet_of (get_or posts i (pos 0))) → v ≡ octet_of (get_or posts k (pos 0))
    → (i : ℕ) → i < k + 1 → get_or (set to k v) i 0 ≡ octet_of (get_or posts i (pos 0))
octets_more posts to k v lt before here i below = elim (cases_lt i k) [
  | inl p ↦ (let ne : i ≢ k = omega arith in grind (arith, places)) ∙ before i p
  | inr p ↦ let q : i ≡ k = omega arith in ap (λ j. get_or (set to k v) j 0) q ∙ get_or-set_same to k v 0 lt ∙ here
      ∙ sym (ap (λ j. octet_of (get_or posts j (pos 0))) q)
]

pub octets_all : (posts : List ℤ) (to : List ℕ) (k : ℕ) → length to ≡ length posts → length posts ≤ k
    → ((i : ℕ) → i < k → get_or to i 0 ≡ octet_of (get_or posts i (pos 0))) → to ≡ map octet_of posts
octets_all posts to k size all each =
    ext_get_or 0 to (map octet_of posts) (size ∙ sym (length-map posts octet_of))
    (λ i l. each i (omega arith) ∙ sym (mapped posts i (omega arith)))
  where
    mapped : (xs : List ℤ) (i : ℕ) → i < length xs → get_or (map octet_of xs) i 0 ≡ octet_of (get_or xs i (pos 0))
    mapped [] i l = absurd (omega arith)
    mapped (x ∷ xs) zero l = refl
    mapped (x ∷ xs) (suc i) l = mapped xs i (omega arith)

pub small_octets : (posts : List ℤ) → All (λ post. pos 0 ≤ℤ post) posts → All (λ post. post ≤ℤ pos 255) posts
    → map octet_of posts ≡ small_row_bytes posts
unfolding small_row_bytes
small_octets posts least greatest =
    octets_same posts (λ k d l. record { least = least k d l; greatest = greatest k d l })
