-- Sources touch one list of tiles and have one load, and publications have one count of entries.
use Rattle.std.proofs.Common.{◌≡◌, ℕ, suc, ◌+◌, ◌<◌, ◌⊎◌, inl, inr, List, [], ◌∷◌, length, get_or, refl, sym, ◌∙◌, ap, subst, arith}
use Rattle.std.specs.Prelude.{AllPairs}
use Rattle.std.specs.List.{Contains}
use Rattle.std.specs.declared.cmp.Ordering.TheVariants.{Less}
use Rattle.std.proofs.lemmas.List.Elements.{Contains-append_left, Contains-append_right}
use Rattle.cdb_grid.specs.Order.{tile_cmp}
use Rattle.cdb_grid.specs.OrderLaws.{tile_cmp-total}
use Rattle.cdb_grid.specs.declared.tile.Tile.{Tile}
use Rattle.cdb_source.proofs.OnceLaws.{irreflexive}
use Rattle.cdb_source.specs.Reached.{IsTouched}
use Rattle.cdb_source.specs.declared.head.SourceHead.{SourceHead}
use Rattle.cdb_source.proofs.Lists.{not_in_none, contains_either}
use Rattle.cdb_model.specs.Publications.{Publication, heads_of, sources_in, IsEntryCount}

-- ---- one list of touched tiles

abbrev Ascending : List Tile → Type 0
Ascending xs = AllPairs (λ s t. tile_cmp s t ≡ Less) xs

here : (x : Tile) (xs : List Tile) → Contains (x ∷ xs) x
here x xs = Contains-append_left (x ∷ []) xs x (0, (let z : 0 < 1 = omega arith in z), refl)

first : (x : Tile) (xs : List Tile) → Ascending (x ∷ xs) → (t : Tile) → Contains xs t → tile_cmp x t ≡ Less
first x xs up t c =
    let within : suc c.0 < suc (length xs) = (let l : c.0 < length xs = c.1 in omega arith) in
    let less : tile_cmp x (get_or xs c.0 t) ≡ Less = up 0 (suc c.0) t (let z : 0 < suc c.0 = omega arith in z) within in
    subst (λ u. tile_cmp x u ≡ Less) c.2 less

tail : (x : Tile) (xs : List Tile) → Ascending (x ∷ xs) → Ascending xs
tail x xs up i j d lt below =
    up (suc i) (suc j) d (let l : suc i < suc j = omega arith in l) (let l : suc j < suc (length xs) = omega arith in l)

-- ascending lists of the same tiles are one
one_list : (xs ys : List Tile) → Ascending xs → Ascending ys → ((t : Tile) → Contains xs t → Contains ys t)
    → ((t : Tile) → Contains ys t → Contains xs t) → xs ≡ ys
one_list [] [] a b f g = refl
one_list [] (y ∷ ys) a b f g = absurd (not_in_none y (g y (here y ys)))
one_list (x ∷ xs) [] a b f g = absurd (not_in_none x (f x (here x xs)))
one_list (x ∷ xs) (y ∷ ys) a b f g =
    let tails : xs ≡ ys = one_list xs ys (tail x xs a) (tail y ys b)
    (λ t c. into t c (contains_either y ys t (f t (Contains-append_right (x ∷ []) xs t c))))
    (λ t c. back t c (contains_either x xs t (g t (Contains-append_right (y ∷ []) ys t c)))) in
    (λ i. heads i ∷ tails i)
  where
    meet : (y ≡ x) ⊎ Contains ys x → (x ≡ y) ⊎ Contains xs y → x ≡ y
    meet (inl e) q = sym e
    meet (inr p) (inl e) = e
    meet (inr p) (inr q) = absurd (irreflexive x (tile_cmp-total.trans x y x (first x xs a y q) (first y ys b x p)))

    heads : x ≡ y
    heads = meet (contains_either y ys x (f x (here x xs))) (contains_either x xs y (g y (here y ys)))

    into : (t : Tile) → Contains xs t → (y ≡ t) ⊎ Contains ys t → Contains ys t
    into t c (inl e) = absurd (irreflexive x (subst (λ u. tile_cmp x u ≡ Less) (sym (heads ∙ e)) (first x xs a t c)))
    into t c (inr d) = d

    back : (t : Tile) → Contains ys t → (x ≡ t) ⊎ Contains xs t → Contains xs t
    back t c (inl e) =
        absurd (irreflexive y (subst (λ u. tile_cmp y u ≡ Less) (sym (sym heads ∙ e)) (first y ys b t c)))
    back t c (inr d) = d

pub one_touched : (heads : List SourceHead) (xs ys : List Tile) → IsTouched heads xs → IsTouched heads ys → xs ≡ ys
one_touched heads xs ys p q =
    one_list xs ys p.ordered q.ordered (λ t c. (q.exact t).1 ((p.exact t).0 c)) (λ t c. (p.exact t).1 ((q.exact t).0 c))

-- ---- one load, one count of entries

pub one_entries : (list : List Publication) (m n : ℕ) → IsEntryCount list m → IsEntryCount list n → m ≡ n
one_entries [] m n a b = a ∙ sym b
one_entries (publication ∷ list) m n a b =
    let e : length a.0 ≡ length b.0 = ap length (one_touched (heads_of (sources_in publication)) a.0 b.0 a.2.0 b.2.0) in
    let f : a.1 ≡ b.1 = one_entries list a.1 b.1 a.2.1 b.2.1 in
    let x : m ≡ length a.0 + a.1 = a.2.2 in let y : n ≡ length b.0 + b.1 = b.2.2 in omega arith
