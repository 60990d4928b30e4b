-- Sources painted into a frame one after the other, the last one first.
use Rattle.std.proofs.Common.{◌≡◌, ℕ, suc, ◌+◌, ◌-◌, ◌*◌, ◌<◌, ◌≤◌, ℤ, List, ◌∷◌, length, drop, get_or, ap, ◌∙◌, arith, drop-cons}
use Rattle.std.proofs.Math.Nat.{mul-le-mul_right}
use Rattle.cdb_grid.specs.Units.{height_of}
use Rattle.cdb_grid.specs.Tiles.{tile_height}
use Rattle.cdb_grid.specs.declared.tile.Tile.{Tile}
use Rattle.cdb_grid.proofs.UnitLaws.{height-same}
use Rattle.cdb_source.specs.Reached.{kind_of, source_height}
use Rattle.cdb_source.specs.declared.head.SourceHead.{SourceHead}
use Rattle.cdb_source.specs.declared.source.Source.{Source}
use Rattle.cdb_cut.specs.Window.{HasNoWindow, IsWindow, rows_of}
use Rattle.cdb_cut.specs.OneTile.{IsPainted, IsPaintedBy}
use Rattle.cdb_cut.proofs.OneTileWhole.{paint_source, pass_outside}

-- the rows lie within the posts
pub rows_within : (head : SourceHead) (first count : ℕ) → first + count ≤ head.rows
    → first * head.cols + count * head.cols ≤ head.rows * head.cols
rows_within head first count within =
    let m : (first + count) * head.cols ≤ head.rows * head.cols = mul-le-mul_right head.cols within in omega arith

-- ---- what each source paints

pub pass_level : (ss : List Source) (t : Tile) (s : Source) (own : List Source) (frame : List ℤ)
    → (s.head.level.number ≡ t.level.number → ⊥) → IsPaintedBy ss t own frame → IsPaintedBy ss t (s ∷ own) frame
pass_level ss t s own frame ne before =
    pass_outside ss t s own frame
    (λ kind level place. ne (height-same s.head.level.number t.level.number s.head.level.finest t.level.finest level))
    before

pub pass_window : (ss : List Source) (t : Tile) (s : Source) (own : List Source) (frame : List ℤ)
    → HasNoWindow s.head t → IsPaintedBy ss t own frame → IsPaintedBy ss t (s ∷ own) frame
pass_window ss t s own frame none before =
    pass_outside ss t s own frame (λ kind level place. none kind place) before

pub painted_one : (ss : List Source) (t : Tile) (s : Source) (own : List Source) (old new posts : List ℤ)
    (first count : ℕ) (head : SourceHead) → s.head ≡ head → IsWindow head t first count
    → head.level.number ≡ t.level.number → posts ≡ rows_of s first count
    → ((r : Source) → r.head ≡ head → posts ≡ rows_of r first count → IsPainted r t old new) → IsPaintedBy ss t own old
    → IsPaintedBy ss t (s ∷ own) new
painted_one ss t s own old new posts first count head same w level are painted before =
    let kind : s.head.kind ≡ kind_of t.family = ap (λ (h : SourceHead). h.kind) same ∙ w.kind in
    let height : source_height s.head ≡ tile_height t =
    ap (λ (h : SourceHead). height_of h.level.number) same ∙ ap height_of level in
    paint_source ss t s own old new kind height before (painted s same are)

-- ---- the last one first

pub one_older : {A : Type 0} (xs : List A) (n k : ℕ) (d : A) → n ≡ length xs → k < n
    → drop (n - (k + 1)) xs ≡ get_or xs (n - 1 - k) d ∷ drop (n - k) xs
one_older xs n k d e lt =
    let i : n - (k + 1) ≡ n - 1 - k = omega arith in
    let j : suc (n - 1 - k) ≡ n - k = omega arith in
    ap (λ m. drop m xs) i ∙ drop-cons xs (n - 1 - k) d (omega arith)
    ∙ ap (λ m. get_or xs (n - 1 - k) d ∷ drop m xs) j
