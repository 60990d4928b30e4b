-- The stated order of tiles is a total order, and tells apart what `==` tells apart.
use Rattle.std.specs.Prelude.{◌≡◌, Bool, true, false, ◌&&◌, nat_eq, refl}
use Rattle.std.proofs.Common.{sym, ◌∙◌, ap}
use Rattle.std.specs.declared.cmp.Ordering.{Ordering}
use Rattle.std.specs.declared.cmp.Ordering.TheVariants.{Less, Equal, Greater}
use Rattle.std.specs.Ordering.{nat_cmp, int_cmp, int_eq, is_eq, ordering_then}
use Rattle.std.specs.Cmp.{IsTotalOrder, then_total, back_total, on_total, nat_cmp_total, int_cmp_total, unsigned_ties, int_eq_equiv}
use denote.Enum.Bare.{sameb}
use Rattle.cdb_grid.specs.Order.{family_rank, tile_cmp}
use Rattle.cdb_grid.specs.contracts.family.Family.{the_type}
use Rattle.cdb_grid.specs.declared.family.Family.{Family}
use Rattle.cdb_grid.specs.declared.family.Family.TheVariants.{Elev, Low, High, Mat}
use Rattle.cdb_grid.specs.declared.tile.Tile.{Tile}

-- the order is total
pub tile_cmp-total : IsTotalOrder tile_cmp
tile_cmp-total =
    then_total (on_total (λ (t : Tile). family_rank t.family) nat_cmp_total)
    (then_total (back_total (on_total (λ (t : Tile). t.level.number) int_cmp_total))
    (then_total (on_total (λ (t : Tile). t.cell.lat) int_cmp_total)
    (then_total (on_total (λ (t : Tile). t.cell.lon) int_cmp_total)
    (then_total (on_total (λ (t : Tile). t.up) nat_cmp_total)
    (on_total (λ (t : Tile). t.right) nat_cmp_total)))))

-- families that `==` finds equal have one rank
family_ties : (a b : Family) → sameb the_type a b ≡ is_eq (nat_cmp (family_rank a) (family_rank b))
family_ties Elev Elev = refl
family_ties Elev Low = refl
family_ties Elev High = refl
family_ties Elev Mat = refl
family_ties Low Elev = refl
family_ties Low Low = refl
family_ties Low High = refl
family_ties Low Mat = refl
family_ties High Elev = refl
family_ties High Low = refl
family_ties High High = refl
family_ties High Mat = refl
family_ties Mat Elev = refl
family_ties Mat Low = refl
family_ties Mat High = refl
family_ties Mat Mat = refl

-- two orders in turn find equal what both do
is_eq-then : (a b : Ordering) → is_eq (ordering_then a b) ≡ (is_eq a && is_eq b)
is_eq-then Less b = refl
is_eq-then Equal b = refl
is_eq-then Greater b = refl

-- the level before the cell, or after it
swapped : (lat lon level rest : Bool) → ((lat && lon) && (level && rest)) ≡ (level && (lat && (lon && rest)))
swapped true true level rest = refl
swapped true false true rest = refl
swapped true false false rest = refl
swapped false lon true rest = refl
swapped false lon false rest = refl

-- one result of five comparisons in turn
chain : (f l y x u r : Ordering)
    → is_eq (ordering_then f (ordering_then l (ordering_then y (ordering_then x (ordering_then u r)))))
    ≡ (is_eq f && (is_eq l && (is_eq y && (is_eq x && (is_eq u && is_eq r)))))
chain f l y x u r =
    is_eq-then f _
    ∙ ap (λ b. is_eq f && b) (is_eq-then l _ ∙ ap (λ b. is_eq l && b) (is_eq-then y _ ∙ ap (λ b. is_eq y && b)
    (is_eq-then x _ ∙ ap (λ b. is_eq x && b) (is_eq-then u r))))

-- two tiles are equal by `==` exactly where neither stands before the other
pub tile_ties : (s t : Tile) → (sameb the_type s.family t.family
    && ((int_eq s.cell.lat t.cell.lat && int_eq s.cell.lon t.cell.lon)
    && (int_eq s.level.number t.level.number && (nat_eq s.up t.up && nat_eq s.right t.right))))
    ≡ is_eq (tile_cmp s t)
tile_ties s t =
    let family : Bool = sameb the_type s.family t.family in
    let lat : Bool = int_eq s.cell.lat t.cell.lat in
    let lon : Bool = int_eq s.cell.lon t.cell.lon in
    let level : Bool = int_eq s.level.number t.level.number in
    let up : Bool = nat_eq s.up t.up in
    let right : Bool = nat_eq s.right t.right in
    let all : Bool → Bool → Bool → Bool → Bool = λ f l u r. f && (l && (lat && (lon && (u && r)))) in
    ap (λ b. family && b) (swapped lat lon level (up && right))
    ∙ ap (λ b. all b level up right) (family_ties s.family t.family)
    ∙ ap (λ b. all (is_eq (nat_cmp (family_rank s.family) (family_rank t.family))) b up right)
    (int_eq_equiv.symm s.level.number t.level.number)
    ∙ ap (λ b. all (is_eq (nat_cmp (family_rank s.family) (family_rank t.family)))
    (int_eq t.level.number s.level.number) b right)
    (unsigned_ties s.up t.up)
    ∙ ap (λ b. all (is_eq (nat_cmp (family_rank s.family) (family_rank t.family)))
    (int_eq t.level.number s.level.number) (is_eq (nat_cmp s.up t.up)) b)
    (unsigned_ties s.right t.right)
    ∙ sym (chain (nat_cmp (family_rank s.family) (family_rank t.family)) (int_cmp t.level.number s.level.number)
    (int_cmp s.cell.lat t.cell.lat)
    (int_cmp s.cell.lon t.cell.lon) (nat_cmp s.up t.up) (nat_cmp s.right t.right))
