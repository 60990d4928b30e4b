use Rattle.std.proofs.Common.{sym, subst}
use Rattle.cdb_grid.specs.Grid.{IsCorner}
use Rattle.cdb_grid.specs.Tiles.{element_corner}
use Rattle.cdb_grid.proofs.ElementLaws.{element-corner}
use Rattle.cdb_scratch.proofs.frame.number.Goals as goal

pub value-value-requires-clause-corner : goal.value-value-requires-clause-corner
value-value-requires-clause-corner c =
    subst (λ p. IsCorner c.height.result p) (sym c.corner-north.ensures.corner)
    (subst (λ h. IsCorner h (element_corner c.args.tile.now c.args.row c.args.col)) (sym c.height.ensures.value)
    (element-corner c.args.tile.now c.args.row c.args.col c.requires.row c.requires.col))
