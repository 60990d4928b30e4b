use Rattle.std.proofs.Common.{◌*◌}
use Rattle.cdb_touch.proofs.CountLaws.{reach_count}
use Rattle.cdb_touch.proofs.LoadLaws.{three_families, one_family}
use Rattle.cdb_touch.proofs.loads.reach_count.Goals as goal

pub returns-in-Elevation : goal.returns-in-Elevation
returns-in-Elevation c = reach_count c.args.head.now (3 * c.count_of_family-count.result)
    (three_families c.args.head.now c.count_of_family-count.result c.in-Elevation.is
    c.count_of_family-count.ensures.each)

pub returns-in-Material : goal.returns-in-Material
returns-in-Material c = reach_count c.args.head.now c.count_of_family-count.result
    (one_family c.args.head.now c.count_of_family-count.result c.in-Material.is c.count_of_family-count.ensures.each)
