use Rattle.std.proofs.Common.{◌≡◌, ◌+◌, ◌*◌, ◌<◌}
use Rattle.cdb_grid.specs.Units.{degree}
use Rattle.cdb_grid.specs.Grid.{Place, centre}
use Rattle.cdb_scratch.proofs.PlaceLaws.{centre_at, centre_corner, same_within}
use Rattle.cdb_scratch.proofs.places.centre.Goals as goal

pub returns : goal.returns
returns c =
    let at : Place = record { north = c.args.north; east = c.args.east } in
    let there : Place =
    record { north = c.args.north + c.step-half.result; east = c.args.east + c.width.result * c.step-half.result }
    in
    let e : there ≡ centre c.args.height at =
    centre_at c.args.height c.args.north c.args.east c.step-half.result c.width.result c.step-half.ensures.value
    c.width.ensures.value in
    let w : (there.north < 180 * degree) × (there.east < 360 * degree) =
    same_within there (centre c.args.height at) _ e
    (centre_corner c.args.height at c.requires.least c.requires.most c.requires.corner) in
    record { value = e; north = w.0; east = w.1 }
