-- The tiles that sources touch are at most their load.
use Rattle.std.proofs.Common.{◌≡◌, ℕ, zero, suc, ◌+◌, ◌≤◌, List, [], ◌∷◌, ◌++◌, length, Option, None, Some, sym, ◌∙◌, subst, length-append}
use Rattle.std.specs.List.{Contains, slice_get}
use Rattle.std.proofs.lemmas.List.Elements.{Contains-append_left, Contains-append_right}
use Rattle.std.proofs.lemmas.Option.{same_Some}
use Rattle.std.proofs.Common.{arith}
use Rattle.cdb_grid.specs.declared.tile.Tile.{Tile}
use Rattle.cdb_source.specs.declared.head.SourceHead.{SourceHead}
use Rattle.cdb_source.specs.Reached.{Reaches, Reached, IsLoad, IsReachCount}
use Rattle.cdb_source.specs.Laws.{TouchedWithinLoad}
use Rattle.cdb_source.proofs.OnceLaws.{length_le, ascending_once}

-- A list of as many tiles as the load has each tile that is reached.
pub record LoadTiles (heads : List SourceHead) (load : ℕ) : Type 0 where
  pub tiles : List Tile
  pub count : length tiles ≡ load
  pub all : (t : Tile) → Reached heads t → Contains tiles t

pub load_tiles : (heads : List SourceHead) (load : ℕ) → IsLoad heads load → LoadTiles heads load
load_tiles [] load e =
    record {
      tiles = [];
      count = sym e;
      all = λ t reached. absurd (none_there reached.number reached.head reached.there);
    }
  where
    none_there : (k : ℕ) (h : SourceHead) → slice_get [] k ≡ Some h → ⊥
    none_there k h e = let Gone : Option SourceHead → Type 0 = IsGone in subst Gone e tt
      where
        IsGone : Option SourceHead → Type 0
        IsGone None = Unit {0}
        IsGone (Some t) = ⊥
load_tiles (head ∷ heads) load (count, rest, both) = of (load_tiles heads rest (both.1))
  where
    of : LoadTiles heads rest → LoadTiles (head ∷ heads) load
    of others = record {
      tiles = (both.0).tiles ++ others.tiles;
      count = length-append (both.0).tiles others.tiles ∙ (λ i. (both.0).counted i + others.count i) ∙ sym (both.2);
      all = λ t reached. all t reached.number reached.head reached.there reached.reaches;
    }
      where
        all : (t : Tile) (k : ℕ) (h : SourceHead) → slice_get (head ∷ heads) k ≡ Some h → Reaches h t
            → Contains ((both.0).tiles ++ others.tiles) t
        all t zero h there reaches = Contains-append_left (both.0).tiles others.tiles t
            (((both.0).listed.exact t).1
            (subst (λ (g : SourceHead). Reaches g t) (sym (same_Some head h there)) reaches))
        all t (suc k) h there reaches = Contains-append_right (both.0).tiles others.tiles t
            (others.all t (record { number = k; head = h; there = there; reaches = reaches }))

pub within_load : TouchedWithinLoad
within_load heads load tiles is touched =
    let all = load_tiles heads load is in
    let few : length tiles ≤ length all.tiles = length_le tiles all.tiles (ascending_once tiles touched.ordered)
    (λ t c. all.all t ((touched.exact t).0 c)) in
    subst (λ (n : ℕ). length tiles ≤ n) all.count few

-- a list of heads has one load
one_count : (head : SourceHead) (m n : ℕ) → IsReachCount head m → IsReachCount head n → m ≡ n
one_count head m n a b =
    let p : length a.tiles ≤ length b.tiles =
    length_le a.tiles b.tiles a.listed.once (λ t c. (b.listed.exact t).1 ((a.listed.exact t).0 c)) in
    let q : length b.tiles ≤ length a.tiles =
    length_le b.tiles a.tiles b.listed.once (λ t c. (a.listed.exact t).1 ((b.listed.exact t).0 c)) in
    let x = a.counted in let y = b.counted in omega arith

pub one_load : (heads : List SourceHead) (m n : ℕ) → IsLoad heads m → IsLoad heads n → m ≡ n
one_load [] m n a b = a ∙ sym b
one_load (head ∷ heads) m n a b =
    let e : a.0 ≡ b.0 = one_count head a.0 b.0 a.2.0 b.2.0 in
    let f : a.1 ≡ b.1 = one_load heads a.1 b.1 a.2.1 b.2.1 in
    let x : m ≡ a.0 + a.1 = a.2.2 in let y : n ≡ b.0 + b.1 = b.2.2 in omega arith
