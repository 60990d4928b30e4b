-- A value of a tile of materials is a post of material.
use Rattle.std.proofs.Common.{◌≡◌, ℕ, ◌+◌, ◌-◌, ◌*◌, ◌/◌, ℤ, Bool, true, false, cond, ◌&&◌, nat_lt, List, [], ◌∷◌, map, All, Option, Some, None, IfSome, refl, sym, subst, arith}
use Rattle.std.specs.Prelude.{slice_get, option_and_then}
use Rattle.std.specs.Ordering.{int_eq}
use Rattle.std.proofs.lemmas.Int.{ints}
use Rattle.std.proofs.lemmas.List.Elements.{All-get_or}
use Rattle.std.proofs.lemmas.Option.{slice_get_within, get_or_from_slice_get}
use Rattle.cdb_grid.specs.Grid.{Place}
use Rattle.cdb_grid.specs.declared.family.Family.{Family}
use Rattle.cdb_grid.specs.declared.family.Family.TheVariants.{Mat}
use Rattle.cdb_source.specs.Posts.{IsPost, none_of, coded}
use Rattle.cdb_source.specs.Reached.{kind_of, family_value}
use Rattle.cdb_source.specs.Sample.{value_of, post_at, value_in, sample_at, is_in_box, corner_of, row_step, column_step}
use Rattle.cdb_source.specs.Values.{sampled}
use Rattle.cdb_source.specs.declared.kind.Kind.{Kind}
use Rattle.cdb_source.specs.declared.kind.Kind.TheVariants.{Elevation, Material}
use Rattle.cdb_source.specs.declared.source.Source.{Source}
use Rattle.cdb_cut.proofs.Plain.{Each, family_has}

-- a post that is there and isn't none
got : (kind : Kind) (posts : List ℤ) (i : ℕ) (o : Option ℤ) → All (IsPost kind) posts → slice_get posts i ≡ o
    → IfSome (option_and_then (value_of kind) o) (IsPost kind)
got kind posts i None all e = tt
got kind posts i (Some v) all e =
    by (int_eq v (none_of kind))
    (subst (IsPost kind) (get_or_from_slice_get posts i v v e)
    (All-get_or (IsPost kind) posts i v (slice_get_within posts i v e) all))
  where
    by : (b : Bool) → IsPost kind v → IfSome (cond b None (Some v)) (IsPost kind)
    by true p = tt
    by false p = p

where_some : (Q : ℤ → Type 0) (b : Bool) (o : Option ℤ) → IfSome o Q → IfSome (cond b o None) Q
where_some Q true o p = p
where_some Q false o p = tt

value_post : (k : Kind) (s : Source) (p : Place) → s.head.kind ≡ k → k ≡ Material
    → IfSome (value_in k s p) (IsPost Material)
value_post Elevation s p e m = absurd (cc)
value_post Material s p e m =
    let row = (p.north - (corner_of s.head).north) / row_step s.head in
    let col = (p.east - (corner_of s.head).east) / column_step s.head in
    subst (λ (k : Kind). IfSome (post_at s row col) (IsPost k)) e
    (where_some (IsPost s.head.kind) (nat_lt row s.head.rows && nat_lt col s.head.cols)
    (option_and_then (value_of s.head.kind) (slice_get s.posts (row * s.head.cols + col)))
    (got s.head.kind s.posts (row * s.head.cols + col) (slice_get s.posts (row * s.head.cols + col)) s.in_range refl))

sample_post : (s : Source) → s.head.kind ≡ Material → (p : Place) → IfSome (sample_at s p) (IsPost Material)
unfolding sample_at
sample_post s e p = where_some (IsPost Material) (is_in_box s.head p) (value_in s.head.kind s p)
    (value_post s.head.kind s p refl e)

all_posts : (ss : List Source) → Each (IsPost Material) Material (map sampled ss)
all_posts [] = tt
all_posts (s ∷ ss) = (λ e p. sample_post s e p, all_posts ss)

coded_post : (o : Option ℤ) → IfSome o (IsPost Material) → IsPost Material (coded Material o)
coded_post None p = record { least = omega (arith, ints); greatest = omega (arith, ints) }
coded_post (Some v) p = p

-- the number of an element of a tile of materials
pub number_post : (f : Family) (ss : List Source) (h : ℕ) (c : Place) → f ≡ Mat
    → IsPost Material (coded (kind_of f) (family_value f ss h c))
number_post f ss h c e =
    subst (λ g. IsPost Material (coded (kind_of g) (family_value g ss h c))) (sym e)
    (coded_post (family_value Mat ss h c) (family_has (IsPost Material) Mat ss h c (all_posts ss)))
