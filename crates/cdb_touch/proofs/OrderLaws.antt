-- The stated order on lists of tiles.
use Rattle.std.proofs.Common.{◌≡◌, Bool, true, ◌&&◌, nat_eq, sym, subst, rules}
use Rattle.std.specs.Cmp.{IsEquivalence}
use Rattle.std.specs.Ordering.{int_eq}
use Rattle.std.proofs.lemmas.Bool.Decides.{Decides-int_eq}
use Rattle.std.proofs.lemmas.Cmp.{eq_by_cmp_equiv}
use Rattle.std.proofs.lemmas.Bool.{and_parts}
use borrow.Author.Tests.{eqb-true}
use denote.Enum.Bare.{sameb, same_true}
use Rattle.cdb_grid.specs.contracts.family.Family.{the_type}
use Rattle.cdb_grid.specs.OrderLaws.{tile_cmp-total, tile_ties}
use Rattle.cdb_grid.specs.declared.tile.Tile.{Tile}
use Rattle.cdb_grid.proofs.Same.{same_geocell, same_tile}

-- what `==` answers at two tiles
abbrev pub tile_eq : Tile → Tile → Bool
tile_eq s t = sameb the_type s.family t.family
    && ((int_eq s.cell.lat t.cell.lat && int_eq s.cell.lon t.cell.lon)
    && (int_eq s.level.number t.level.number && (nat_eq s.up t.up && nat_eq s.right t.right)))

pub tile_eq-equiv : IsEquivalence tile_eq
tile_eq-equiv = subst (λ (E : Tile → Tile → Bool). IsEquivalence E) (λ i s t. sym (tile_ties s t) i)
    (eq_by_cmp_equiv tile_cmp-total)

pub tile_eq-exact : (s t : Tile) → tile_eq s t ≡ true → s ≡ t
tile_eq-exact s t e =
    let a = and_parts (sameb the_type s.family t.family) _ e in
    let b = and_parts (int_eq s.cell.lat t.cell.lat && int_eq s.cell.lon t.cell.lon) _ a.1 in
    let p = and_parts (int_eq s.cell.lat t.cell.lat) (int_eq s.cell.lon t.cell.lon) b.0 in
    let l = and_parts (int_eq s.level.number t.level.number) _ b.1 in
    let u = and_parts (nat_eq s.up t.up) (nat_eq s.right t.right) l.1 in
    same_tile s t (same_true the_type (search rules) s.family t.family a.0)
    (same_geocell s.cell t.cell ((Decides-int_eq s.cell.lat t.cell.lat).0 p.0)
    ((Decides-int_eq s.cell.lon t.cell.lon).0 p.1))
    ((Decides-int_eq s.level.number t.level.number).0 l.0) (eqb-true _ _ u.0) (eqb-true _ _ u.1)
