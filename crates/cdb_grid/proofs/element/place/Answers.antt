-- The element's corner, and how far from it the element stands.
use Rattle.std.proofs.Common.{◌≡◌, ℕ, suc, ◌+◌, ◌*◌, ◌<◌, ◌≤◌, sym, ◌∙◌, ap, subst, arith}
use Rattle.std.proofs.Math.Nat.{mul-le-mul_right}
use Rattle.cdb_grid.specs.Grid.{Place}
use Rattle.cdb_grid.specs.Tiles.{tile_height, element_corner, IsInTile}
use Rattle.cdb_grid.proofs.GridLaws.{same_place}
use Rattle.cdb_grid.proofs.ElementLaws.{place-inset, place-in-tile, width_of-element}
use Rattle.cdb_grid.proofs.element.place.Goals as goal

east_below : (e i s v w most : ℕ) → e + w * s ≤ most → i < s → v ≡ w → 1 ≤ v → e + i * v < most
east_below e i s v w most ends lt ev p =
    let m : suc i * w ≤ s * w = mul-le-mul_right w lt in
    let q : i * v ≡ i * w = ap (λ y. i * y) ev in
    omega arith

north_is : (n a a' i i' : ℕ) → n ≡ a + i → a ≡ a' → i ≡ i' → n ≡ a' + i'
north_is n a a' i i' is ea ei = omega arith

east_is : (n a a' i i' v w w' : ℕ) → n ≡ a + i * v → a ≡ a' → i ≡ i' → v ≡ w → w' ≡ w → n ≡ a' + w' * i'
east_is n a a' i i' v w w' is ea ei ev ew =
    let ring : a' + i' * w ≡ a' + w * i' = omega arith in
    is ∙ ap (λ y. y + i * v) ea ∙ ap (λ y. a' + y * v) ei ∙ ap (λ y. a' + i' * y) ev ∙ ring
    ∙ ap (λ y. a' + y * i') (sym ew)

pub arcs-requires-clause-east : goal.arcs-requires-clause-east
arcs-requires-clause-east c =
    east_below _ _ _ _ _ _ c.corner-north.ensures.east c.inset-inset.ensures.most c.width.ensures.value
    c.width.ensures.least

pub returns-clause-place : goal.returns-clause-place
returns-clause-place c =
    let t = c.args.tile.now in
    same_place _ _
    (north_is _ _ _ _ _ c.arcs.ensures.north (ap (λ (p : Place). p.north) c.corner-north.ensures.corner)
    c.inset-inset.ensures.value)
    (east_is _ _ _ _ _ _ _ _ c.arcs.ensures.east (ap (λ (p : Place). p.east) c.corner-north.ensures.corner)
    c.inset-inset.ensures.value
    c.width.ensures.value (width_of-element t c.args.row c.args.col c.requires.row))
    ∙ sym (place-inset t.family (tile_height t) (element_corner t c.args.row c.args.col))

pub returns-clause-within : goal.returns-clause-within
returns-clause-within c = subst (λ p. IsInTile c.args.tile.now p) (sym (returns-clause-place c))
    (place-in-tile c.args.tile.now c.args.row c.args.col c.requires.row c.requires.col)
