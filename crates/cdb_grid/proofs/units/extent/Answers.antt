-- The tiles of a level fill a degree together.
use Rattle.cdb_grid.proofs.UnitLaws.{extent-le, height-most}
use Rattle.cdb_grid.proofs.units.extent.Goals as goal

pub returns-clause-most : goal.returns-clause-most
returns-clause-most c =
    let bound = extent-le _ (height-most c.args.level.number c.args.level.coarsest) in
    rw (c.side.ensures.value, c.step_of.ensures.value) bound
