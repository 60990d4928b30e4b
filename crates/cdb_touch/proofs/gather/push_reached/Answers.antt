use Rattle.std.proofs.Common.{◌⊎◌, List}
use Rattle.std.proofs.lemmas.Result.{on_ok_weaker}
use Rattle.cdb_grid.specs.declared.family.Family.TheVariants.{Elev, Low, High, Mat}
use Rattle.cdb_grid.specs.declared.tile.Tile.{Tile}
use Rattle.cdb_source.specs.Reached.{Reaches}
use Rattle.cdb_touch.specs.inside.Reach.{IsOfFamily}
use Rattle.cdb_touch.proofs.AddLaws.{Adds-then, Adds-iff}
use Rattle.cdb_touch.proofs.LoadLaws.{three_families_split, one_family_split}
use Rattle.cdb_touch.proofs.gather.push_reached.Goals as goal

pub returns-in_ok-push_family-in-Elevation-2 : goal.returns-in_ok-push_family-in-Elevation-2
returns-in_ok-push_family-in-Elevation-2 c =
    let head = c.args.head.now in
    let two : Tile → Type 0 = λ t. IsOfFamily head Elev t ⊎ IsOfFamily head Low t in
    let first : List Tile = c.args.tiles.now.items in
    let last : List Tile = c.push_family-in-Elevation-2.new.tiles.items in
    on_ok_weaker c.push_family-in-Elevation-2.result
    (λ a. Adds-then two (IsOfFamily head High) (Reaches head) first c.push_family-in-Elevation.new.tiles.items last
    (Adds-then (IsOfFamily head Elev) (IsOfFamily head Low)
    two first c.push_family.new.tiles.items c.push_family-in-Elevation.new.tiles.items
    c.in_ok-push_family-in-Elevation.ensures c.in_ok-push_family-in-Elevation-2.ensures (λ t. (λ i. i, λ i. i)))
    a (λ t. three_families_split head t c.in-Elevation.is))
    c.push_family-in-Elevation-2.ensures

pub returns-in-Material : goal.returns-in-Material
returns-in-Material c =
    let head = c.args.head.now in
    let first : List Tile = c.args.tiles.now.items in
    let last : List Tile = c.push_family-in-Material.new.tiles.items in
    on_ok_weaker c.push_family-in-Material.result
    (Adds-iff (IsOfFamily head Mat) (Reaches head) first last (λ t. one_family_split head t c.in-Material.is))
    c.push_family-in-Material.ensures
