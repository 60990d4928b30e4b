-- One tile made from frames: from the start to the end.
use Rattle.std.proofs.Common.{◌≡◌, ℕ, suc, ◌+◌, ◌*◌, ◌<◌, ◌⊎◌, inl, inr, ℤ, Bool, true, false, cond, ◌&&◌, List, [], ◌∷◌, ◌++◌, length, map, All, Option, Some, None, refl, sym, ap, ap₂, ◌∙◌, subst, arith, nat_eq}
use Rattle.std.specs.Prelude.{Any}
use Rattle.std.specs.Option.{option_or}
use Rattle.std.proofs.lemmas.Bool.Decides.{nat_tests}
use Rattle.std.proofs.lemmas.List.Elements.{All-nil, All-get_or}
use Rattle.cdb_grid.specs.Units.{height_of, side_of}
use Rattle.cdb_grid.specs.Grid.{Place, step_east, IsCorner, beside, centre}
use Rattle.cdb_grid.specs.declared.level.Level.{Level}
use Rattle.std.proofs.lemmas.List.{map-append}
use Rattle.cdb_grid.specs.Tiles.{tile_height, tile_side, element_corner, element_place, place_in, IsInTile}
use Rattle.cdb_grid.specs.Frames.{number_at}
use Rattle.cdb_grid.specs.declared.family.Family.{Family}
use Rattle.cdb_grid.specs.declared.family.Family.TheVariants.{Elev, Low, High, Mat}
use Rattle.cdb_grid.specs.declared.tile.Tile.{Tile}
use Rattle.cdb_grid.proofs.GridLaws.{same_place}
use Rattle.cdb_grid.proofs.UnitLaws.{height-least}
use Rattle.cdb_grid.proofs.ElementLaws.{corner-within, element-corner, place-in-tile}
use Rattle.cdb_source.specs.declared.kind.Kind.{Kind}
use Rattle.cdb_source.specs.declared.kind.Kind.TheVariants.{Elevation, Material}
use Rattle.cdb_source.specs.declared.source.Source.{Source}
use Rattle.cdb_source.specs.Posts.{none_of, coded}
use Rattle.cdb_source.specs.Sample.{IsInBox, value_of, sample_at}
use Rattle.cdb_source.specs.Values.{Sampled, sampled, same_kind, own, newest_own, elevation, lesser, greater, mode_of_four, low, high, material, elevation_of, low_of, high_of, material_of}
use Rattle.cdb_source.specs.Reached.{kind_of, source_height, family_value, tile_value, Reaches}
use Rattle.cdb_source.proofs.OfferLaws.{or_none, or_assoc}
use Rattle.cdb_source.proofs.ElevationLaws as elevations
use Rattle.cdb_source.proofs.MaterialLaws as materials
use Rattle.cdb_source.proofs.ReachLaws.{tile_unreached}
use Rattle.cdb_source.proofs.SampleLaws.{in_box_of_sample}
use Rattle.cdb_cut.specs.Window.{HasPlaceInBox}
use Rattle.cdb_cut.specs.OneTile.{IsFrameOf, finer_height, under, joined_value, IsFolded, IsWholeFolded, IsPainted, IsPaintedBy, IsFilled, no_values, elevations_of, IsElevationOf}
use Rattle.cdb_cut.proofs.Plain.{read_back, value_plain, newest_plain, or_plain}
use Rattle.cdb_cut.proofs.OneTile.{under_plain_at, four_none, joined_none}

-- ---- where the folds begin

-- a frame without a value, for elevations and materials
pub start_empty : (ss : List Source) (t : Tile) (frame : List ℤ) → length frame ≡ tile_side t * tile_side t
    → ((row col : ℕ) → row < tile_side t → col < tile_side t → number_at frame (tile_side t) row col
    ≡ none_of (kind_of t.family)) → IsFolded ss t no_values [] frame
start_empty ss t frame size empty = record {
  size = size;
  each = λ row col below right.
      inr (empty row col below right, All-nil (λ d. IsInTile d (element_corner t row col) → ⊥));
}

same_corner : (e t : Tile) → IsElevationOf e t → (row col : ℕ) → element_corner e row col ≡ element_corner t row col
same_corner e t s row col = rw (s.cell, s.level, s.up, s.right) refl

abbrev height_at : Level → ℕ
height_at l = height_of l.number

abbrev side_at : Level → ℕ
side_at l = side_of (height_of l.number)

pub start_elevation : (ss : List Source) (t e : Tile) (frame : List ℤ) → kind_of t.family ≡ Elevation
    → IsElevationOf e t → IsFrameOf ss e frame → IsFolded ss t (elevations_of ss t) [] frame
start_elevation ss t e frame kind same of =
    let side : tile_side e ≡ tile_side t = ap side_at same.level in
    let height : tile_height e ≡ tile_height t = ap height_at same.level in
    record {
      size = of.size ∙ ap (λ n. n * n) side;
      each = λ row col below right. inr (
        ap (λ n. number_at frame n row col) (sym side)
            ∙ of.each row col (subst (λ n. row < n) (sym side) below) (subst (λ n. col < n) (sym side) right)
            ∙ ap (λ f. coded (kind_of f) (family_value f ss (tile_height e) (element_corner e row col))) same.family
            ∙ ap₂ (λ n p. coded Elevation (elevation_of ss n p)) height (same_corner e t same row col)
            ∙ ap (λ k. coded k (elevations_of ss t row col)) (sym kind),
        All-nil (λ d. IsInTile d (element_corner t row col) → ⊥),
      );
    }

-- ---- all finer tiles are folded

none_left : (P : Tile → Type 0) (done : List Tile) → All (λ d. P d → ⊥) done → Any P done → ⊥
none_left P done all any = let lt = any.2 in
    All-get_or (λ d. P d → ⊥) done any.0 any.1 lt all (subst P (sym any.3) any.4)

pub folded_whole : (ss : List Source) (t : Tile) (start : ℕ → ℕ → Option ℤ) (done : List Tile) (frame : List ℤ)
    → IsFolded ss t start done frame
    → ((p : Place) → IsInTile t p → Any (λ d. IsInTile d p) done) → IsWholeFolded ss t start frame
folded_whole ss t start done frame folded fill = record {
  size = folded.size;
  each = λ row col below right. elim (folded.each row col below right) [
    | inl e ↦ e
    | inr e ↦ absurd
        (none_left (λ d. IsInTile d (element_corner t row col))
        done e.1 (fill (element_corner t row col) (corner-within t row col below right)))
  ];
}

family-zero : (f : Family) (ss : List Source) (p : Place) → family_value f ss 0 p ≡ None
unfolding low high
family-zero Elev ss p = elevations.elevation-zero ss p
family-zero Low ss p = refl
family-zero High ss p = refl
family-zero Mat ss p = materials.material-zero (map sampled ss) p

-- at the finest level nothing stands under a tile
pub folded_finest : (ss : List Source) (t : Tile) (start : ℕ → ℕ → Option ℤ) (frame : List ℤ) → tile_height t ≡ 1
    → IsFolded ss t start [] frame → IsWholeFolded ss t start frame
folded_finest ss t start frame finest folded = record {
  size = folded.size;
  each = λ row col below right. elim (folded.each row col below right) [
    | inl e ↦ e
    | inr e ↦ e.0
        ∙ ap (coded (kind_of t.family))
        (sym (ap (joined_value t.family (start row col)) (nothing_under row col)
        ∙ joined_none t.family (start row col)))
  ];
}
  where
    nothing_under : (row col : ℕ) → under t.family ss (finer_height t) (element_corner t row col) ≡ None
    nothing_under row col =
        let e : finer_height t ≡ 0 = omega arith in let C : Place = element_corner t row col in
        ap (λ h. under t.family ss h C) e
        ∙ four_none t.family _ _ _ _ (family-zero t.family ss (beside 0 C 0 0))
        (family-zero t.family ss (beside 0 C 0 1)) (family-zero t.family ss (beside 0 C 1 0))
        (family-zero t.family ss (beside 0 C 1 1))

pub height-suc : (t : Tile) → tile_height t ≡ suc (finer_height t)
height-suc t = let l = height-least t.level.number t.level.finest in omega arith

low-suc : (ss : List Source) (h : ℕ) (c : Place) → low_of ss (suc h) c
    ≡ lesser (elevation_of ss (suc h) c) (under Low ss h c)
unfolding low
low-suc ss h c = refl

high-suc : (ss : List Source) (h : ℕ) (c : Place) → high_of ss (suc h) c
    ≡ greater (elevation_of ss (suc h) c) (under High ss h c)
unfolding high
high-suc ss h c = refl

-- the least, and the greatest, elevations are then whole
pub extreme_by : (f : Family) (ss : List Source) (h : ℕ) (c : Place) → (f ≡ Low) ⊎ (f ≡ High)
    → joined_value f (elevation_of ss (suc h) c) (under f ss h c) ≡ family_value f ss (suc h) c
extreme_by f ss h c (inl e) = rw e (sym (low-suc ss h c))
extreme_by f ss h c (inr e) = rw e (sym (high-suc ss h c))

pub extreme_whole : (ss : List Source) (t : Tile) (frame : List ℤ) → (t.family ≡ Low) ⊎ (t.family ≡ High)
    → IsWholeFolded ss t (elevations_of ss t) frame → IsFrameOf ss t frame
extreme_whole ss t frame family whole = record {
  size = whole.size;
  each = λ row col below right. whole.each row col below right ∙ ap (coded (kind_of t.family))
      (ap (λ n. joined_value t.family (elevation_of ss n (element_corner t row col))
      (under t.family ss (finer_height t) (element_corner t row col))) (height-suc t)
      ∙ extreme_by t.family ss (finer_height t) (element_corner t row col) family
      ∙ ap (λ n. family_value t.family ss n (element_corner t row col)) (sym (height-suc t)));
}

-- ---- the sources of exactly the tile's level, newest first

or_with_none : (f : Family) (u : Option ℤ) → (f ≡ Elev) ⊎ (f ≡ Mat) → joined_value f None u ≡ option_or u None
or_with_none f u (inl e) = rw e refl
or_with_none f u (inr e) = rw e refl

pub paint_start : (ss : List Source) (t : Tile) (frame : List ℤ) → (t.family ≡ Elev) ⊎ (t.family ≡ Mat)
    → IsWholeFolded ss t no_values frame → IsPaintedBy ss t [] frame
paint_start ss t frame family whole = record {
  size = whole.size;
  each = λ row col below right. whole.each row col below right
      ∙ ap (coded (kind_of t.family))
      (or_with_none t.family (under t.family ss (finer_height t) (element_corner t row col)) family);
}

own_here : (k j : Kind) (m h : ℕ) (o : Option ℤ) → k ≡ j → m ≡ h → cond (same_kind k j && nat_eq m h) o None ≡ o
own_here Elevation Elevation m h o e f = let t : nat_eq m h ≡ true = grind (arith, nat_tests) in rw t refl
own_here Material Material m h o e f = let t : nat_eq m h ≡ true = grind (arith, nat_tests) in rw t refl
own_here Elevation Material m h o e f = absurd (cc)
own_here Material Elevation m h o e f = absurd (cc)

pub own_apart : (k j : Kind) (m h : ℕ) (o : Option ℤ) → (k ≡ j → m ≡ h → o ≡ None)
    → cond (same_kind k j && nat_eq m h) o None ≡ None
own_apart Elevation Material m h o none = refl
own_apart Material Elevation m h o none = refl
own_apart Elevation Elevation m h o none = by (nat_eq m h) refl
  where
    by : (b : Bool) → nat_eq m h ≡ b → cond b o None ≡ None
    by true e = none refl (grind (arith, nat_tests))
    by false e = refl
own_apart Material Material m h o none = by (nat_eq m h) refl
  where
    by : (b : Bool) → nat_eq m h ≡ b → cond b o None ≡ None
    by true e = none refl (grind (arith, nat_tests))
    by false e = refl

-- a source of the tile's kind and of exactly its level, painted where the frame had no value
pub paint_source : (ss : List Source) (t : Tile) (s : Source) (own : List Source) (old new : List ℤ)
    → s.head.kind ≡ kind_of t.family → source_height s.head ≡ tile_height t
    → IsPaintedBy ss t own old → IsPainted s t old new → IsPaintedBy ss t (s ∷ own) new
paint_source ss t s qs old new kind level before painted = record {
  size = painted.size ∙ before.size;
  each = λ row col below right.
      let k : Kind = kind_of t.family in
      let p : Place = element_place t row col in
      let u : Option ℤ = under t.family ss (finer_height t) (element_corner t row col) in
      let n : Option ℤ = newest_own k (map sampled qs) (tile_height t) p in
      let here : own k (tile_height t) p (sampled s) ≡ sample_at s p = own_here s.head.kind k (source_height s.head)
      (tile_height t) (sample_at s p) kind level in
      painted.each row col below right
      ∙ ap (λ x. coded k (option_or (value_of k x) (sample_at s p))) (before.each row col below right)
      ∙ ap (λ x. coded k (option_or x (sample_at s p)))
      (read_back k (option_or u n)
      (or_plain k u n (under_plain_at ss t row col) (newest_plain k qs (tile_height t) p)))
      ∙ ap (coded k) (or_assoc u n (sample_at s p))
      ∙ ap (λ x. coded k (option_or u (option_or n x))) (sym here);
}

-- a source of another kind or level, or one that doesn't reach the tile, is passed over
unsampled : (t : Tile) (s : Source) → (Reaches s.head t → ⊥) → s.head.kind ≡ kind_of t.family → source_height s.head
    ≡ tile_height t
    → (row col : ℕ) → row < tile_side t → col < tile_side t → sample_at s (element_place t row col) ≡ None
unsampled t s apart kind level row col below right = by (sample_at s (element_place t row col)) refl
  where
    reach : (v : ℤ) → sample_at s (element_place t row col) ≡ Some v → Reaches s.head t
    reach v e = record {
      kind = kind;
      level = omega arith;
      corner = element_corner t row col;
      on_grid = subst (λ h. IsCorner h (element_corner t row col)) (sym level) (element-corner t row col below right);
      in_tile = subst (λ h. IsInTile t (place_in t.family h (element_corner t row col))) (sym level)
          (place-in-tile t row col below right);
      in_box = subst (λ h. IsInBox s.head (place_in t.family h (element_corner t row col))) (sym level)
          (in_box_of_sample s (element_place t row col) v e);
    }

    by : (o : Option ℤ) → sample_at s (element_place t row col) ≡ o → o ≡ None
    by None e = refl
    by (Some v) e = absurd (apart (reach v e))

-- a source that has no sample at any place of the tile is passed over
pub pass_unsampled : (ss : List Source) (t : Tile) (s : Source) (own : List Source) (frame : List ℤ)
    → (s.head.kind ≡ kind_of t.family → source_height s.head ≡ tile_height t → (row col : ℕ) → row < tile_side t
    → col < tile_side t → sample_at s (element_place t row col) ≡ None)
    → IsPaintedBy ss t own frame → IsPaintedBy ss t (s ∷ own) frame
pass_unsampled ss t s qs frame none_at before = record {
  size = before.size;
  each = λ row col below right.
      let k : Kind = kind_of t.family in
      let p : Place = element_place t row col in
      let u : Option ℤ = under t.family ss (finer_height t) (element_corner t row col) in
      let n : Option ℤ = newest_own k (map sampled qs) (tile_height t) p in
      let none : own k (tile_height t) p (sampled s) ≡ None =
      own_apart s.head.kind k (source_height s.head) (tile_height t) (sample_at s p)
      (λ kind level. none_at kind level row col below right) in
      before.each row col below right ∙ ap (λ x. coded k (option_or u x)) (sym (ap (option_or n) none ∙ or_none n));
}

pub pass_source : (ss : List Source) (t : Tile) (s : Source) (own : List Source) (frame : List ℤ)
    → (s.head.kind ≡ kind_of t.family → source_height s.head ≡ tile_height t → Reaches s.head t → ⊥)
    → IsPaintedBy ss t own frame → IsPaintedBy ss t (s ∷ own) frame
pass_source ss t s qs frame apart before =
    pass_unsampled ss t s qs frame
    (λ kind level row col below right. unsampled t s (apart kind level) kind level row col below right) before

-- one that has no place of the tile in its box
outside_none : (t : Tile) (s : Source) → (HasPlaceInBox s.head t → ⊥) → (row col : ℕ) → row < tile_side t
    → col < tile_side t → sample_at s (element_place t row col) ≡ None
outside_none t s out row col below right = by (sample_at s (element_place t row col)) refl
  where
    by : (o : Option ℤ) → sample_at s (element_place t row col) ≡ o → o ≡ None
    by None e = refl
    by (Some v) e =
        absurd (out
        (record {
          row = row;
          col = col;
          row_below = below;
          col_below = right;
          inside = in_box_of_sample s (element_place t row col) v e;
        }))

pub pass_outside : (ss : List Source) (t : Tile) (s : Source) (own : List Source) (frame : List ℤ)
    → (s.head.kind ≡ kind_of t.family → source_height s.head ≡ tile_height t → HasPlaceInBox s.head t → ⊥)
    → IsPaintedBy ss t own frame → IsPaintedBy ss t (s ∷ own) frame
pass_outside ss t s qs frame out before =
    pass_unsampled ss t s qs frame
    (λ kind level row col below right. outside_none t s (out kind level) row col below right) before

-- ---- the rest from the older tile

three_by : (f : Family) (ss ts : List Source) (h : ℕ) (c : Place) → (f ≡ Elev) ⊎ (f ≡ Mat)
    → family_value f (ss ++ ts) (suc h) c
    ≡ option_or (under f (ss ++ ts) h c)
    (option_or (newest_own (kind_of f) (map sampled ts) (suc h) (place_in f (suc h) c))
    (family_value f ss (suc h) c))
three_by f ss ts h c (inl e) = rw e
    (ap (λ (qs : List Sampled). elevation qs (suc h) c) (map-append sampled ss ts)
    ∙ elevations.three_passes (map sampled ss) (map sampled ts) h c
    ∙ ap₂ (λ (qs : List Sampled) (p : Place). option_or (elevation qs h p)
    (option_or (newest_own Elevation (map sampled ts) (suc h) c) (elevation_of ss (suc h) c)))
    (sym (map-append sampled ss ts))
    (sym (same_place (beside h c 0 0) c (omega arith) (at_west c.east (step_east h c)))))
  where
    at_west : (a b : ℕ) → a + 0 * b ≡ a
    at_west a b = omega arith
three_by f ss ts h c (inr e) = rw e
    (ap (λ (qs : List Sampled). material qs (suc h) c) (map-append sampled ss ts)
    ∙ materials.material_later (map sampled ss) (map sampled ts) h c
    ∙ ap (λ (qs : List Sampled).
    option_or
    (mode_of_four (material qs h (beside h c 0 0)) (material qs h (beside h c 0 1)) (material qs h (beside h c 1 0))
    (material qs h (beside h c 1 1)))
    (option_or (newest_own Material (map sampled ts) (suc h) (centre (suc h) c)) (material_of ss (suc h) c)))
    (sym (map-append sampled ss ts)))

pub whole_value : (ss ts : List Source) (t : Tile) → (t.family ≡ Elev) ⊎ (t.family ≡ Mat) → (row col : ℕ)
    → tile_value (ss ++ ts) t row col
    ≡ option_or (under t.family (ss ++ ts) (finer_height t) (element_corner t row col))
    (option_or (newest_own (kind_of t.family) (map sampled ts) (tile_height t) (element_place t row col))
    (tile_value ss t row col))
whole_value ss ts t family row col =
    let C : Place = element_corner t row col in
    let e : tile_height t ≡ suc (finer_height t) = height-suc t in
    ap (λ h. family_value t.family (ss ++ ts) h C) e ∙ three_by t.family ss ts (finer_height t) C family
    ∙ ap (λ h. option_or (under t.family (ss ++ ts) (finer_height t) C)
    (option_or (newest_own (kind_of t.family) (map sampled ts) h (place_in t.family h C))
    (family_value t.family ss h C))) (sym e)

pub fill_older : (ss ts : List Source) (t : Tile) (older old new : List ℤ) → (t.family ≡ Elev) ⊎ (t.family ≡ Mat)
    → IsFrameOf ss t older
    → IsPaintedBy (ss ++ ts) t ts old → IsFilled t older old new → IsFrameOf (ss ++ ts) t new
fill_older ss ts t older old new family of before filled = record {
  size = filled.size ∙ before.size;
  each = λ row col below right.
      let k : Kind = kind_of t.family in
      let u : Option ℤ = under t.family (ss ++ ts) (finer_height t) (element_corner t row col) in
      let n : Option ℤ = newest_own k (map sampled ts) (tile_height t) (element_place t row col) in
      let o : Option ℤ = tile_value ss t row col in
      filled.each row col below right
      ∙ ap₂ (λ x y. coded k (option_or (value_of k x) (value_of k y))) (before.each row col below right)
      (of.each row col below right)
      ∙ ap₂ (λ x y. coded k (option_or x y))
      (read_back k (option_or u n)
      (or_plain k u n (under_plain_at (ss ++ ts) t row col)
      (newest_plain k ts (tile_height t) (element_place t row col))))
      (read_back k o (value_plain t.family ss (tile_height t) (element_corner t row col)))
      ∙ ap (coded k) (or_assoc u n o ∙ sym (whole_value ss ts t family row col));
}

-- a tile that wasn't there fills nothing
pub no_older : (ss ts : List Source) (t : Tile) (frame : List ℤ) → (t.family ≡ Elev) ⊎ (t.family ≡ Mat)
    → All (λ (s : Source). Reaches s.head t → ⊥) ss
    → IsPaintedBy (ss ++ ts) t ts frame → IsFrameOf (ss ++ ts) t frame
no_older ss ts t frame family none before = record {
  size = before.size;
  each = λ row col below right.
      let k : Kind = kind_of t.family in
      let u : Option ℤ = under t.family (ss ++ ts) (finer_height t) (element_corner t row col) in
      let n : Option ℤ = newest_own k (map sampled ts) (tile_height t) (element_place t row col) in
      before.each row col below right
      ∙ ap (coded k)
      (sym (whole_value ss ts t family row col
      ∙ ap (λ o. option_or u (option_or n o)) (tile_unreached t ss none row col below right)
      ∙ ap (option_or u) (or_none n)));
}

-- ---- all sources of exactly the tile's level, without an older tile

pub suc_by : (f : Family) (ss : List Source) (h : ℕ) (c : Place) → (f ≡ Elev) ⊎ (f ≡ Mat)
    → family_value f ss (suc h) c
    ≡ option_or (under f ss h c) (newest_own (kind_of f) (map sampled ss) (suc h) (place_in f (suc h) c))
suc_by f ss h c (inl e) = rw e
    (elevations.elevation-suc (map sampled ss) h c
    ∙ ap (λ (p : Place). option_or (elevation (map sampled ss) h p) (newest_own Elevation (map sampled ss) (suc h) c))
    (sym (same_place (beside h c 0 0) c (omega arith) (at_west c.east (step_east h c)))))
  where
    at_west : (a b : ℕ) → a + 0 * b ≡ a
    at_west a b = omega arith
suc_by f ss h c (inr e) = rw e (materials.material-suc (map sampled ss) h c)

pub own_whole : (ss : List Source) (t : Tile) (frame : List ℤ) → (t.family ≡ Elev) ⊎ (t.family ≡ Mat)
    → IsPaintedBy ss t ss frame → IsFrameOf ss t frame
own_whole ss t frame family before = record {
  size = before.size;
  each = λ row col below right.
      let C : Place = element_corner t row col in
      before.each row col below right ∙ ap (coded (kind_of t.family)) (sym
      (ap (λ h. family_value t.family ss h C) (height-suc t) ∙ suc_by t.family ss (finer_height t) C family
      ∙ ap (λ h. option_or (under t.family ss (finer_height t) C)
      (newest_own (kind_of t.family) (map sampled ss) h (place_in t.family h C))) (sym (height-suc t))));
}
