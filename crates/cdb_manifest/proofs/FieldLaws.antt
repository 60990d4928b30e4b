-- Heads at the front of bytes, and the order of tiles.
use Rattle.std.proofs.Common.{◌≡◌, ℕ, ◌+◌, ◌-◌, ◌<◌, List, [], ◌∷◌, ◌++◌, length, take, get_or, refl, sym, ap, subst, ◌∙◌, arith, inl, inr}
use Rattle.std.proofs.lemmas.List.{take_at, length-append, get_or_append_left, get_or_push, get_or_default, length_push}
use Rattle.std.proofs.lemmas.List.Quantifiers.{all_pairs_push}
use Rattle.std.proofs.lemmas.Bool.{cases_lt}
use Rattle.std.specs.declared.cmp.Ordering.TheVariants.{Less}
use Rattle.cdb_grid.specs.Order.{tile_cmp}
use Rattle.cdb_grid.specs.OrderLaws.{tile_cmp-total}
use Rattle.cdb_grid.specs.declared.tile.Tile.{Tile}
use Rattle.cdb_source.specs.declared.head.SourceHead.{SourceHead}
use Rattle.cdb_source.specs.Texts as source_texts
use Rattle.cdb_source.specs.Texts.{head_text}
use Rattle.cdb_source.proofs.DecodingLaws.{same_front}
use Rattle.cdb_manifest.specs.Entries.{Ascending}

pub length-head_text : (head : SourceHead) → length (head_text head) ≡ 44
unfolding head_text
length-head_text head = refl

pub head_cancel : (a b : SourceHead) (x y : List ℕ) → head_text a ++ x ≡ head_text b ++ y → (a ≡ b) × (x ≡ y)
head_cancel a b x y e = same_front a b x y (ap (λ (rest : List ℕ). source_texts.source_first_bytes ++ rest) e)

pub head_short : (bytes : List ℕ) → length bytes < 44 → (head : SourceHead) (after : List ℕ)
    → bytes ≡ head_text head ++ after → ⊥
head_short bytes short head after e =
    let whole : length bytes ≡ 44 + length after = ap length e ∙ length-append (head_text head) after
    ∙ ap (λ n. n + length after) (length-head_text head) in
    omega arith

pub head_other : (bytes text front : List ℕ) → text ≡ take 44 bytes → front ≡ source_texts.source_first_bytes ++ text
    → ((head : SourceHead) → front ≡ source_texts.source_front_text head → ⊥) → (head : SourceHead) (after : List ℕ)
    → bytes ≡ head_text head ++ after → ⊥
head_other bytes text front is made never head after e =
    let same : text ≡ head_text head = is ∙ ap (take 44) e
    ∙ take_at (head_text head) after 44 (length-head_text head) in
    never head (made ∙ ap (λ (rest : List ℕ). source_texts.source_first_bytes ++ rest) same)

-- a tile after the last one comes after all
pub ascending_more : (tiles : List Tile) (tile before : Tile) → Ascending tiles → 0 < length tiles
    → before ≡ get_or tiles (length tiles - 1) before → tile_cmp before tile ≡ Less → Ascending (tiles ++ tile ∷ [])
ascending_more tiles tile before asc some is less =
    all_pairs_push (λ a b. tile_cmp a b ≡ Less) tiles tile asc (λ k d lt.
    elim (cases_lt k (length tiles - 1)) [
      | inl below ↦
          let last : get_or tiles (length tiles - 1) d ≡ before = get_or_default tiles (length tiles - 1) d before
          (omega arith) ∙ sym is in
          let step : tile_cmp (get_or tiles k d) before ≡ Less =
          rw (← last) (asc k (length tiles - 1) d below (omega arith)) in
          tile_cmp-total.trans (get_or tiles k d) before tile step less
      | inr above ↦
          let at : k ≡ length tiles - 1 = omega arith in
          let last : get_or tiles k d ≡ before = ap (λ n. get_or tiles n d) at
          ∙ get_or_default tiles (length tiles - 1) d before (omega arith) ∙ sym is in
          rw last less
    ])

pub ascending_last : (tiles : List Tile) (tile before : Tile) → Ascending (tiles ++ tile ∷ []) → 0 < length tiles
    → before ≡ get_or tiles (length tiles - 1) before → tile_cmp before tile ≡ Less
ascending_last tiles tile before asc some is =
    let fact = asc (length tiles - 1) (length tiles) before (omega arith) (omega (arith, length_push tiles tile)) in
    let first : get_or (tiles ++ tile ∷ []) (length tiles - 1) before ≡ before =
    get_or_append_left tiles (tile ∷ []) before (length tiles - 1) (omega arith) ∙ sym is in
    let second : get_or (tiles ++ tile ∷ []) (length tiles) before ≡ tile =
    get_or_push tiles tile before (length tiles) refl in
    let step = subst (λ (a : Tile). tile_cmp a (get_or (tiles ++ tile ∷ []) (length tiles) before) ≡ Less) first fact in
    subst (λ (b : Tile). tile_cmp before b ≡ Less) second step

-- the first tiles of an ascending list
pub ascending_front : (xs ys : List Tile) → Ascending (xs ++ ys) → Ascending xs
ascending_front xs ys asc i j d lt within =
    let whole : length (xs ++ ys) ≡ length xs + length ys = length-append xs ys in
    let fact = asc i j d lt (omega arith) in
    let first : get_or (xs ++ ys) i d ≡ get_or xs i d = get_or_append_left xs ys d i (omega arith) in
    let second : get_or (xs ++ ys) j d ≡ get_or xs j d = get_or_append_left xs ys d j within in
    let step = subst (λ (a : Tile). tile_cmp a (get_or (xs ++ ys) j d) ≡ Less) first fact in
    subst (λ (b : Tile). tile_cmp (get_or xs i d) b ≡ Less) second step
