-- The values of tiles of elevations are numbers of 16 bits.
use Rattle.std.proofs.Common.{◌≡◌, ℕ, ◌-◌, ◌*◌, ◌<◌, ◌≤◌, ℤ, Bool, true, false, cond, List, [], ◌∷◌, map, ◌^◌, Option, None, Some, IfSome, sym, subst, arith}
use Rattle.std.specs.Prelude.{unsigned_abs, FitsSigned}
use Rattle.std.specs.Option.{option_map}
use Rattle.std.specs.Int.{w16}
use Rattle.std.proofs.lemmas.Int.{ints}
use Rattle.std.proofs.lemmas.Nat.{mul-le}
use Rattle.cdb_grid.specs.Units.{degree}
use Rattle.cdb_grid.specs.Grid.{Place}
use Rattle.cdb_source.specs.Posts.{coded}
use Rattle.cdb_source.specs.Sample.{post_at, weighted_sum, rounded, row_step, column_step, corner_of, mean_at, value_in, is_in_box, sample_at}
use Rattle.cdb_source.specs.Values.{sampled}
use Rattle.cdb_source.specs.Reached.{kind_of, family_value}
use Rattle.cdb_source.specs.declared.kind.Kind.{Kind}
use Rattle.cdb_source.specs.declared.kind.Kind.TheVariants.{Elevation}
use Rattle.cdb_source.specs.declared.source.Source.{Source}
use Rattle.cdb_grid.specs.declared.family.Family.{Family}
use Rattle.cdb_cut.proofs.MeanLaws.{mean_fits}
use Rattle.cdb_cut.proofs.Plain.{Each, family_has, near_post, near_sum}

-- a value, where there is one, is of 16 bits
abbrev Fits16 : Option ℤ → Type 0
Fits16 o = IfSome o (λ v. FitsSigned w16 v)

rounded_fits : (d : ℕ) (o : Option ℤ) → 1 ≤ d → d ≤ 2 ^ 98 → IfSome o (λ n. unsigned_abs n ≤ 32767 * d)
    → Fits16 (option_map (rounded d) o)
rounded_fits d None least most near = tt
rounded_fits d (Some n) least most near = mean_fits n d (record { least = least; most = most; near = near })

mean_fits_16 : (s : Source) (p : Place) → s.head.kind ≡ Elevation → Fits16 (mean_at s p)
mean_fits_16 s p e =
    let m = row_step s.head in let n = column_step s.head in
    let rows = s.head.in_range.row_step in let cols = s.head.in_range.column_step in
    let least : 1 * 1 ≤ m * n = mul-le 1 1 m n rows.least cols.least in
    let most : m * n ≤ (12 * degree) * (12 * degree) =
    mul-le m n (12 * degree) (12 * degree) rows.greatest cols.greatest in
    rounded_fits (m * n)
    (weighted_sum (post_at s) m n (p.north - (corner_of s.head).north) (p.east - (corner_of s.head).east))
    (omega arith) (omega (arith, most))
    (near_sum (post_at s) m n (p.north - (corner_of s.head).north) (p.east - (corner_of s.head).east)
    rows.least cols.least (λ row col. near_post s row col e))

sample_fits : (s : Source) (p : Place) → s.head.kind ≡ Elevation → Fits16 (sample_at s p)
unfolding sample_at
sample_fits s p e = by (is_in_box s.head p) (subst (λ (k : Kind). Fits16 (value_in k s p)) (sym e) (mean_fits_16 s p e))
  where
    by : (b : Bool) → Fits16 (value_in s.head.kind s p) → Fits16 (cond b (value_in s.head.kind s p) None)
    by true fits = fits
    by false fits = tt

all_fit : (ss : List Source) → Each (FitsSigned w16) Elevation (map sampled ss)
all_fit [] = tt
all_fit (s ∷ ss) = (λ e p. sample_fits s p e, all_fit ss)

coded_fits : (o : Option ℤ) → Fits16 o → FitsSigned w16 (coded Elevation o)
coded_fits None f = omega (arith, ints)
coded_fits (Some v) f = f

pub number_fits : (f : Family) (ss : List Source) (h : ℕ) (c : Place) → kind_of f ≡ Elevation
    → FitsSigned w16 (coded (kind_of f) (family_value f ss h c))
number_fits f ss h c e =
    rw e (coded_fits (family_value f ss h c)
    (family_has (FitsSigned w16) f ss h c
    (subst (λ (k : Kind). Each (FitsSigned w16) k (map sampled ss)) (sym e) (all_fit ss))))
