-- The room that the rows of sources take.
use Rattle.std.proofs.Common.{◌≡◌, ◌≢◌, ℕ, ◌+◌, ◌-◌, ◌*◌, ◌<◌, ◌≤◌, inl, inr, List, Some, length, sym, ◌∙◌, subst, arith}
use Rattle.std.specs.Prelude.{slice_get}
use Rattle.std.proofs.lemmas.Bool.{cases_lt}
use Rattle.std.proofs.lemmas.Option.{same_Some, slice_get_within}
use Rattle.cdb_grid.specs.declared.tile.Tile.{Tile}
use Rattle.cdb_source.specs.declared.head.SourceHead.{SourceHead}
use Rattle.cdb_cut.specs.Window.{IsWindow, HasNoWindow}
use Rattle.cdb_publish.specs.Windows.{HasRoomFor, HasRoom}

-- There is one least run of rows.
same_window : (head : SourceHead) (t : Tile) (a b c d : ℕ) → IsWindow head t a b → IsWindow head t c d → b ≡ d
same_window head t a b c d v w =
    let p = v.all c w.first_looked in
    let q = w.all a v.first_looked in
    let r = v.all (c + d - 1) w.last_looked in
    let s = w.all (a + b - 1) v.last_looked in
    omega (arith, p.0, q.0, r.1, s.1, v.some, w.some)

pub window_room : (head : SourceHead) (t : Tile) (first count n : ℕ) → IsWindow head t first count
    → n ≡ count * head.cols → HasRoomFor head t n
window_room head t first count n w is level f c v =
    let K : ℕ → Type 0 = λ k. k * head.cols ≤ n in
    subst K (same_window head t first count f c w v) (omega (arith, is))

pub no_room : (head : SourceHead) (t : Tile) (n : ℕ) → HasNoWindow head t → HasRoomFor head t n
no_room head t n none level f c v = absurd (none v.kind v.first_looked.place)

pub other_level : (head : SourceHead) (t : Tile) (n : ℕ) → head.level.number ≢ t.level.number → HasRoomFor head t n
other_level head t n differ level f c v = absurd (differ level)

wider : (head : SourceHead) (t : Tile) (a b : ℕ) → a ≤ b → HasRoomFor head t a → HasRoomFor head t b
wider head t a b le room level f c v = omega (arith, room level f c v, le)

pub all_wider : (heads : List SourceHead) (t : Tile) (a b : ℕ) → a ≤ b → HasRoom heads t a → HasRoom heads t b
all_wider heads t a b le room k head at = wider head t a b le (room k head at)

-- Room for each of the first heads.
abbrev pub HasRoomUpTo : List SourceHead → Tile → ℕ → ℕ → Type 0
HasRoomUpTo heads t n room = (k : ℕ) (head : SourceHead) → k < n → slice_get heads k ≡ Some head
    → HasRoomFor head t room

-- And for each of the first tiles.
abbrev pub HasRoomToTile : List SourceHead → List Tile → ℕ → ℕ → Type 0
HasRoomToTile heads tiles n room = (i : ℕ) (t : Tile) → i < n → slice_get tiles i ≡ Some t → HasRoom heads t room

-- One head more, or one tile.
pub one_head : (heads : List SourceHead) (t : Tile) (n room size next : ℕ) (head : SourceHead)
    → slice_get heads n ≡ Some head → room ≤ next → size ≤ next → HasRoomFor head t size
    → HasRoomUpTo heads t n room → HasRoomUpTo heads t (n + 1) next
one_head heads t n room size next head at le more one before k other less there = elim (cases_lt k n) [
  | inl l ↦ wider other t room next le (before k other l there)
  | inr ge ↦ let same : k ≡ n = omega arith in
      let S : ℕ → Type 0 = λ i. slice_get heads i ≡ Some other in
      let H : SourceHead → Type 0 = λ h. HasRoomFor h t next in
      subst H (same_Some head other (sym at ∙ subst S same there)) (wider head t size next more one)
]

pub one_tile : (heads : List SourceHead) (tiles : List Tile) (n room size next : ℕ) (t : Tile)
    → slice_get tiles n ≡ Some t → room ≤ next → size ≤ next → HasRoom heads t size
    → HasRoomToTile heads tiles n room → HasRoomToTile heads tiles (n + 1) next
one_tile heads tiles n room size next t at le more one before i other less there = elim (cases_lt i n) [
  | inl l ↦ all_wider heads other room next le (before i other l there)
  | inr ge ↦ let same : i ≡ n = omega arith in
      let S : ℕ → Type 0 = λ k. slice_get tiles k ≡ Some other in
      let T : Tile → Type 0 = λ u. HasRoom heads u next in
      subst T (same_Some t other (sym at ∙ subst S same there)) (all_wider heads t size next more one)
]

pub all_heads : (heads : List SourceHead) (t : Tile) (n room : ℕ) → length heads ≤ n → HasRoomUpTo heads t n room
    → HasRoom heads t room
all_heads heads t n room most up k head at = up k head (omega (arith, most, slice_get_within heads k head at)) at

pub all_tiles : (heads : List SourceHead) (tiles : List Tile) (n room : ℕ) → length tiles ≤ n
    → HasRoomToTile heads tiles n room → (i : ℕ) (t : Tile) → slice_get tiles i ≡ Some t → HasRoom heads t room
all_tiles heads tiles n room most up i t at = up i t (omega (arith, most, slice_get_within tiles i t at)) at
