use Rattle.std.proofs.Common.{◌≡◌, ◌↔◌, List, true, is_ok, sym}
use Rattle.std.specs.List.{Contains}
use Rattle.cdb_grid.specs.declared.tile.Tile.{Tile}
use Rattle.cdb_source.specs.Reached.{Reached}
use Rattle.cdb_touch.specs.inside.Touched.{AddsTiles}
use Rattle.cdb_touch.proofs.AddLaws.{ok_fact, grown}
use Rattle.cdb_source.proofs.OnceLaws.{ascending_once}
use Rattle.cdb_touch.proofs.touch.touched.Goals as goal

pub returns-clause-listed : goal.returns-clause-listed
returns-clause-listed c =
    let old : List Tile = c.new-tiles.result.items in
    let all : List Tile = c.push_touched.new.tiles.items in
    let ok : is_ok c.push_touched.result ≡ true = sym c.in_ok-map_err.ensures.variant in
    let adds : AddsTiles (Reached c.args.heads.now) old all =
    ok_fact c.push_touched.result (AddsTiles (Reached c.args.heads.now) old all) ok c.push_touched.ensures in
    let each : (t : Tile) → Contains all t ↔ Reached c.args.heads.now t =
    grown (Reached c.args.heads.now) old all c.new-tiles.ensures.items adds in
    record {
      exact = λ t.
          (λ h. (each t).0 ((c.sort_once.ensures.same t).0 h), λ r. (c.sort_once.ensures.same t).1 ((each t).1 r));
      once = ascending_once c.sort_once.new.tiles.items c.sort_once.ensures.order;
    }
