-- Parts of a tile that stay as the tile of earlier sources has them.
use Rattle.std.proofs.Common.{◌≡◌, ℕ, suc, ◌+◌, ◌*◌, ◌/◌, ◌<◌, inl, inr, ℤ, List, [], ◌∷◌, ◌++◌, map, Option, Some, None, refl, sym, ap, ap₂, ◌∙◌, subst, arith}
use Rattle.std.specs.Option.{option_or}
use Rattle.std.proofs.lemmas.List.Elements.{All-nil, All-cons, All-head, All-tail}
use Rattle.cdb_grid.specs.Grid.{Place, beside}
use Rattle.cdb_grid.specs.Tiles.{tile_height, tile_side, element_corner, element_place, place_in, IsInTile}
use Rattle.cdb_grid.specs.Frames.{number_at, IsPartChanged}
use Rattle.cdb_grid.specs.declared.family.Family.{Family}
use Rattle.cdb_grid.specs.declared.tile.Tile.{Tile}
use Rattle.cdb_grid.proofs.UnitLaws.{height-same}
use Rattle.cdb_grid.proofs.ChildPlaces.{inside_child}
use Rattle.cdb_source.specs.declared.kind.Kind.{Kind}
use Rattle.cdb_source.specs.declared.source.Source.{Source}
use Rattle.cdb_source.specs.Posts.{coded}
use Rattle.cdb_source.specs.Sample.{IsInBox, sample_at}
use Rattle.cdb_source.specs.Values.{sampled, newest_own, elevation_of}
use Rattle.cdb_source.specs.Reached.{kind_of, source_height, family_value, tile_value, Reaches}
use Rattle.cdb_source.proofs.ReachLaws.{tile_untouched}
use Rattle.cdb_cut.specs.FinerTiles.{elevation_tile, IsPlain}
use Rattle.cdb_cut.specs.Laws.{NoneReaches, IsOwn, IsExtreme}
use Rattle.cdb_cut.specs.OneTile.{IsFrameOf, finer_height, of_four, under, joined_value, IsFolded, IsWholeFolded, elevations_of, StandsIn, NoneOfLevel, IsIdleOver, IsWholeOver}
use Rattle.cdb_cut.proofs.Plain.{value_plain}
use Rattle.cdb_cut.proofs.FrameStarts.{extreme_kind}
use Rattle.cdb_cut.proofs.OneTile.{child_value, part_folded, still_child}
use Rattle.cdb_cut.proofs.OneTileWhole.{height-suc, extreme_by, own_apart, whole_value, suc_by}

-- ---- parts of a frame

-- a finer tile under which nothing is to be folded
pub idle_child : (ss : List Source) (t : Tile) (start : ℕ → ℕ → Option ℤ) (c : Tile) (row col : ℕ)
    → StandsIn c t row col
    → IsIdleOver ss t start c → (done : List Tile) (frame : List ℤ)
    → IsFolded ss t start done frame → IsFolded ss t start (done ++ c ∷ []) frame
idle_child ss t start c row col at idle = still_child ss t start c row col at (idle row col at)

-- one whose part is copied from a frame that has what the fold would give
pub copied_child : (ss : List Source) (t : Tile) (start : ℕ → ℕ → Option ℤ) (c : Tile) (row col : ℕ)
    → StandsIn c t row col
    → (other : List ℤ) → IsWholeOver ss t start c other → (done : List Tile) (old new : List ℤ)
    → IsFolded ss t start done old
    → IsPartChanged (λ r q n. number_at other (tile_side t) (row + r) (col + q)) row col (tile_side c / 2)
    (tile_side c / 2) (tile_side t) old new
    → IsFolded ss t start (done ++ c ∷ []) new
copied_child ss t start c row col at other whole done old new before changed =
    part_folded ss t start c row col at done old new changed.size
    (λ x y xl yl was. inl (changed.changed x y xl yl ∙ whole row col at x y xl yl)) changed.rest before

-- ---- the tile of earlier sources

-- the tile that earlier sources gave, as what a frame begins with
pub older_start : (ss all : List Source) (t : Tile) (frame : List ℤ) → IsFrameOf ss t frame
    → IsFolded all t (tile_value ss t) [] frame
older_start ss all t frame of = record {
  size = of.size;
  each = λ row col below right.
      inr (of.each row col below right, All-nil (λ d. IsInTile d (element_corner t row col) → ⊥));
}

pub older_plain : (ss : List Source) (t : Tile) → IsPlain t (tile_value ss t)
older_plain ss t row col = value_plain t.family ss (tile_height t) (element_corner t row col)

-- sources of other levels have nothing of exactly a tile's level
none_newest : (k : Kind) (x : List Source) (t : Tile) (p : Place) → NoneOfLevel x t
    → newest_own k (map sampled x) (tile_height t) p ≡ None
none_newest k [] t p none = refl
none_newest k (s ∷ x) t p none =
    let apart : s.head.level.number ≡ t.level.number → ⊥ =
    All-head (λ (s : Source). s.head.level.number ≡ t.level.number → ⊥) s x none in
    ap₂ option_or
    (none_newest k x t p (All-tail (λ (s : Source). s.head.level.number ≡ t.level.number → ⊥) s x none))
    (own_apart s.head.kind k (source_height s.head) (tile_height t) (sample_at s p) (λ kind level. absurd
    (apart (height-same s.head.level.number t.level.number s.head.level.finest t.level.finest level))))

own_joined : (f : Family) (o u : Option ℤ) → IsOwn f → joined_value f o u ≡ option_or u o
own_joined f o u (inl e) = rw e refl
own_joined f o u (inr e) = rw e refl

-- with later sources of other levels, a value is the earlier one with what stands under it
later_value : (ss x : List Source) (t : Tile) → IsOwn t.family → NoneOfLevel x t → (row col : ℕ)
    → tile_value (ss ++ x) t row col
    ≡ joined_value t.family (tile_value ss t row col)
    (under t.family (ss ++ x) (finer_height t) (element_corner t row col))
later_value ss x t family none row col =
    let u : Option ℤ = under t.family (ss ++ x) (finer_height t) (element_corner t row col) in
    let o : Option ℤ = tile_value ss t row col in
    whole_value ss x t family row col
    ∙ ap (λ n. option_or u (option_or n o)) (none_newest (kind_of t.family) x t (element_place t row col) none)
    ∙ sym (own_joined t.family o u family)

pub older_whole : (ss x : List Source) (t : Tile) (frame : List ℤ) → IsOwn t.family → NoneOfLevel x t
    → IsWholeFolded (ss ++ x) t (tile_value ss t) frame → IsFrameOf (ss ++ x) t frame
older_whole ss x t frame family none whole = record {
  size = whole.size;
  each = λ row col below right. whole.each row col below right
      ∙ ap (coded (kind_of t.family)) (sym (later_value ss x t family none row col));
}

-- ---- over a finer tile that later sources don't reach

four_same : (f : Family) (a b c d p q r s : Option ℤ) → a ≡ p → b ≡ q → c ≡ r → d ≡ s
    → of_four f a b c d ≡ of_four f p q r s
four_same f a b c d p q r s e g h i = rw (e, g, h, i) refl

-- what stands under an element is the same with the later sources
under_same : (ss x : List Source) (t c : Tile) (row col : ℕ) → StandsIn c t row col → NoneReaches x c
    → (r q : ℕ) → r < tile_side c / 2 → q < tile_side c / 2
    → under t.family (ss ++ x) (finer_height t) (element_corner t (row + r) (col + q))
    ≡ under t.family ss (finer_height t) (element_corner t (row + r) (col + q))
under_same ss x t c row col at none r q rl ql =
    let z : 0 < 2 = omega arith in let o : 1 < 2 = omega arith in
    four_same t.family _ _ _ _ _ _ _ _ (same 0 0 z z) (same 0 1 z o) (same 1 0 o z) (same 1 1 o o)
  where
    same : (i j : ℕ) → i < 2 → j < 2
        → family_value t.family (ss ++ x) (finer_height t)
        (beside (finer_height t) (element_corner t (row + r) (col + q)) i j)
        ≡ family_value t.family ss (finer_height t)
        (beside (finer_height t) (element_corner t (row + r) (col + q)) i j)
    same i j il jl =
        sym (child_value (ss ++ x) t (tile_value ss t) c row col at r q i j rl ql il jl)
        ∙ tile_untouched c ss x none (2 * r + i) (2 * q + j)
        (inside_child c t row col at.parent at.begins r i rl il)
        (inside_child c t row col at.parent at.begins q j ql jl)
        ∙ child_value ss t (tile_value ss t) c row col at r q i j rl ql il jl

either_twice : (u n : Option ℤ) → option_or u (option_or u n) ≡ option_or u n
either_twice None n = refl
either_twice (Some v) n = refl

-- a value has what stands under it
own_holds : (ss : List Source) (t : Tile) → IsOwn t.family → (row col : ℕ)
    → joined_value t.family (tile_value ss t row col)
    (under t.family ss (finer_height t) (element_corner t row col))
    ≡ tile_value ss t row col
own_holds ss t family row col =
    let C : Place = element_corner t row col in
    let u : Option ℤ = under t.family ss (finer_height t) C in
    let h : ℕ = suc (finer_height t) in
    let n : Option ℤ = newest_own (kind_of t.family) (map sampled ss) h (place_in t.family h C) in
    let is : tile_value ss t row col ≡ option_or u n =
    ap (λ h. family_value t.family ss h C) (height-suc t) ∙ suc_by t.family ss (finer_height t) C family in
    own_joined t.family (tile_value ss t row col) u family
    ∙ ap (option_or u) is ∙ either_twice u n ∙ sym is

pub own_idle : (ss x : List Source) (t c : Tile) → IsOwn t.family → NoneReaches x c
    → IsIdleOver (ss ++ x) t (tile_value ss t) c
own_idle ss x t c family none row col at r q rl ql =
    ap (joined_value t.family (tile_value ss t (row + r) (col + q))) (under_same ss x t c row col at none r q rl ql)
    ∙ own_holds ss t family (row + r) (col + q)

-- ---- least and greatest elevations

-- the elevation tiles of a finer tile and of the one that holds it stand as those do
elevations_stand : (c t : Tile) (row col : ℕ) → StandsIn c t row col
    → StandsIn (elevation_tile c) (elevation_tile t) row col
elevations_stand c t row col at = record {
  parent = record {
    family = refl;
    coarser = at.parent.coarser;
    holds = λ p i.
        let h = at.parent.holds p (record { south = i.south; north = i.north; west = i.west; east = i.east }) in
        record { south = h.south; north = h.north; west = h.west; east = h.east };
  };
  begins = at.begins;
  row_fits = at.row_fits;
  col_fits = at.col_fits;
}

extreme_place : (f : Family) (h : ℕ) (p : Place) → IsExtreme f → place_in f h p ≡ p
extreme_place f h p (inl e) = rw e refl
extreme_place f h p (inr e) = rw e refl

-- a source that reaches the elevation tile reaches the tile itself
reaches_extreme : (c : Tile) (s : Source) → IsExtreme c.family → Reaches s.head (elevation_tile c) → Reaches s.head c
reaches_extreme c s extreme there =
    let i = there.in_tile in
    let place : there.corner ≡ place_in c.family (source_height s.head) there.corner =
    sym (extreme_place c.family (source_height s.head) there.corner extreme) in
    record {
      kind = there.kind ∙ sym (extreme_kind c.family extreme);
      level = there.level;
      corner = there.corner;
      on_grid = there.on_grid;
      in_tile = subst (IsInTile c) place
          (record { south = i.south; north = i.north; west = i.west; east = i.east });
      in_box = subst (IsInBox s.head) place there.in_box;
    }

none_elevations : (x : List Source) (c : Tile) → IsExtreme c.family → NoneReaches x c
    → NoneReaches x (elevation_tile c)
none_elevations [] c extreme none = All-nil (λ (s : Source). Reaches s.head (elevation_tile c) → ⊥)
none_elevations (s ∷ x) c extreme none =
    All-cons (λ (s : Source). Reaches s.head (elevation_tile c) → ⊥) s x
    (λ there. All-head (λ (s : Source). Reaches s.head c → ⊥) s x none (reaches_extreme c s extreme there))
    (none_elevations x c extreme (All-tail (λ (s : Source). Reaches s.head c → ⊥) s x none))

-- the elevations over a finer tile that no later source reaches stay
elevations_stay : (ss x : List Source) (t c : Tile) (row col : ℕ) → StandsIn c t row col → IsExtreme t.family
    → NoneOfLevel x t → NoneReaches x c → (r q : ℕ) → r < tile_side c / 2 → q < tile_side c / 2
    → elevations_of (ss ++ x) t (row + r) (col + q) ≡ elevations_of ss t (row + r) (col + q)
elevations_stay ss x t c row col at extreme level none r q rl ql =
    later_value ss x (elevation_tile t) (inl refl) level (row + r) (col + q)
    ∙ own_idle ss x (elevation_tile t) (elevation_tile c) (inl refl)
    (none_elevations x c (subst IsExtreme at.parent.family extreme) none) row col (elevations_stand c t row col at)
    r q rl ql

pub extreme_whole_over : (ss x : List Source) (t c : Tile) (older : List ℤ) → IsExtreme t.family → NoneOfLevel x t
    → NoneReaches x c
    → IsFrameOf ss t older → IsWholeOver (ss ++ x) t (elevations_of (ss ++ x) t) c older
extreme_whole_over ss x t c older extreme level none of row col at r q rl ql =
    let C : Place = element_corner t (row + r) (col + q) in
    let rows = at.row_fits in let cols = at.col_fits in
    of.each (row + r) (col + q) (omega arith) (omega arith)
    ∙ ap (coded (kind_of t.family))
    (ap (λ n. family_value t.family ss n C) (height-suc t)
    ∙ sym (extreme_by t.family ss (finer_height t) C extreme)
    ∙ ap (λ n. joined_value t.family (elevation_of ss n C) (under t.family ss (finer_height t) C)) (sym (height-suc t))
    ∙ sym (ap₂ (joined_value t.family) (elevations_stay ss x t c row col at extreme level none r q rl ql)
    (under_same ss x t c row col at none r q rl ql)))
