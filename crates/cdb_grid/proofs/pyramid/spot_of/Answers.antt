-- The spot is that of the laws, at the side of the child's level.
use Rattle.std.proofs.Common.{ap, ◌∙◌, add-one}
use Rattle.cdb_grid.specs.Units.{height_of}
use Rattle.cdb_grid.specs.Tiles.{element_corner}
use Rattle.cdb_grid.proofs.PyramidLaws.{height-above}
use Rattle.cdb_grid.proofs.SpotLaws.{spot_at, spot-begins, spot-fits}
use Rattle.cdb_grid.proofs.pyramid.spot_of.Goals as goal

pub returns-clause-begins : goal.returns-clause-begins
returns-clause-begins c = λ p k.
    let t = c.args.child.now in
    ap (λ n. element_corner p (spot_at t.up n) (spot_at t.right n)) c.side-half.ensures.value ∙ spot-begins t p k

pub returns-clause-row_fits : goal.returns-clause-row_fits
returns-clause-row_fits c =
    let t = c.args.child.now in
    let fits = spot-fits (height_of t.level.number) t.up (height-above t.level.number c.requires) t.up_in_range in
    rw (c.side-half.ensures.value, add-one) fits

pub returns-clause-col_fits : goal.returns-clause-col_fits
returns-clause-col_fits c =
    let t = c.args.child.now in
    let fits = spot-fits (height_of t.level.number) t.right (height-above t.level.number c.requires) t.right_in_range in
    rw (c.side-half.ensures.value, add-one) fits
