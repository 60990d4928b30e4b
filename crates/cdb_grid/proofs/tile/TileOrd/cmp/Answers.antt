-- The five comparisons in turn are the six of the stated order.
use Rattle.std.proofs.Common.{◌≡◌, refl, ◌∙◌, ap}
use Rattle.std.specs.declared.cmp.Ordering.{Ordering}
use Rattle.std.specs.declared.cmp.Ordering.TheVariants.{Less, Equal, Greater}
use Rattle.std.specs.Ordering.{nat_cmp, int_cmp, ordering_then}
use Rattle.cdb_grid.specs.Order.{family_rank}
use Rattle.cdb_grid.specs.contracts.family.FamilyOrd.TheImpl.{ghosts}
use Rattle.cdb_grid.specs.declared.family.Family.{Family}
use Rattle.cdb_grid.specs.declared.family.Family.TheVariants.{Elev, Low, High, Mat}
use Rattle.cdb_grid.proofs.tile.TileOrd.cmp.Goals as goal

by_rank : (a b : Family) → ghosts.cmp a b ≡ nat_cmp (family_rank a) (family_rank b)
by_rank Elev Elev = refl
by_rank Elev Low = refl
by_rank Elev High = refl
by_rank Elev Mat = refl
by_rank Low Elev = refl
by_rank Low Low = refl
by_rank Low High = refl
by_rank Low Mat = refl
by_rank High Elev = refl
by_rank High Low = refl
by_rank High High = refl
by_rank High Mat = refl
by_rank Mat Elev = refl
by_rank Mat Low = refl
by_rank Mat High = refl
by_rank Mat Mat = refl

regrouped : (f l y x u r : Ordering)
    → ordering_then (ordering_then (ordering_then (ordering_then f l) (ordering_then y x)) u) r
    ≡ ordering_then f (ordering_then l (ordering_then y (ordering_then x (ordering_then u r))))
regrouped Less l y x u r = refl
regrouped Greater l y x u r = refl
regrouped Equal Less y x u r = refl
regrouped Equal Greater y x u r = refl
regrouped Equal Equal Less x u r = refl
regrouped Equal Equal Greater x u r = refl
regrouped Equal Equal Equal Less u r = refl
regrouped Equal Equal Equal Greater u r = refl
regrouped Equal Equal Equal Equal u r = refl

pub returns : goal.returns
returns c =
    let s = c.args.self.now in
    let t = c.args.other.now in
    let f = c.cmp.ensures ∙ by_rank s.family t.family in
    let l = c.cmp-2.ensures in
    let k = c.cmp-3.ensures in
    let u = c.cmp-4.ensures in
    let r = c.cmp-5.ensures in
    c.then-4.ensures
    ∙ ap (λ x. ordering_then x c.cmp-5.result)
    (c.then-3.ensures ∙ ap (λ x. ordering_then x c.cmp-4.result) (c.then-2.ensures
    ∙ ap (λ x. ordering_then x c.cmp-3.result) (c.then.ensures ∙ ap (λ x. ordering_then x c.cmp-2.result) f
    ∙ ap (ordering_then _) l)
    ∙ ap (ordering_then _) k) ∙ ap (ordering_then _) u)
    ∙ ap (ordering_then _) r
    ∙ regrouped (nat_cmp (family_rank s.family) (family_rank t.family)) (int_cmp t.level.number s.level.number)
    (int_cmp s.cell.lat t.cell.lat)
    (int_cmp s.cell.lon t.cell.lon) (nat_cmp s.up t.up) (nat_cmp s.right t.right)
