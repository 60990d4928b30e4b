use Rattle.std.proofs.Common.{◌≡◌, ◌<◌, ◌+◌, ◌∙◌, sym, ap, map, take, get_or, length, refl, rules, arith}
use Rattle.cdb_model.specs.Maps.{folder_above}
use Rattle.cdb_crash.specs.Plan.{each_once}
use Rattle.cdb_publish.specs.inside.Planning.{source_paths_from, paths_in, once_more}
use Rattle.cdb_publish.proofs.FolderLists.{one_source_more, one_tile_more, take_more}
use Rattle.cdb_publish.proofs.folders.list_folders.Goals as goal

pub loop-k-preserved : goal.loop-k-preserved
loop-k-preserved c =
    let v = c.args.item.now.version in let k = c.loop-k.k in
    record {
      folders = c.in_ok-push_once.ensures.ok
          ∙ ap (λ t. once_more t c.folder_above.result.bytes) c.loop-k.invariant.folders
          ∙ ap (λ f. once_more (each_once (map folder_above (source_paths_from v 1 k))) f)
          (c.folder_above.ensures ∙ ap folder_above c.source_path.ensures)
          ∙ sym (one_source_more v k);
      few = omega (arith, c.push_once.ensures.few, c.loop-k.invariant.few);
    }

pub loop-tile-preserved : goal.loop-tile-preserved
loop-tile-preserved c =
    let v = c.args.item.now.version in let n = length c.args.item.now.heads in let tiles = c.args.item.now.tiles in
    let i = c.loop-tile.tile-index in let t = c.tile-item.result in
    let less : i < length tiles = search rules in
    let at : t ≡ get_or tiles i t = search rules in
    record {
      folders = c.in_ok-push_once-2.ensures.ok ∙ ap (λ f. once_more f c.folder_above-in-loop-tile.result.bytes)
          c.loop-tile.invariant.folders
          ∙ ap (λ f. once_more (each_once (map folder_above (paths_in v n (take i tiles)))) f)
          (c.folder_above-in-loop-tile.ensures ∙ ap folder_above c.write_path.ensures)
          ∙ sym (one_tile_more v n (take i tiles) t) ∙ ap (λ ts. each_once (map folder_above (paths_in v n ts)))
          (sym (take_more tiles i (i + 1) t refl less at));
      few = omega (arith, c.push_once-in-loop-tile.ensures.few, c.loop-tile.invariant.few);
    }
