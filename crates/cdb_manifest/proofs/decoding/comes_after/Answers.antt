use Rattle.std.proofs.Common.{◌<◌, length, sym, ◌∙◌}
use Rattle.cdb_manifest.proofs.FieldLaws.{ascending_more, ascending_last}
use Rattle.cdb_manifest.proofs.decoding.comes_after.Goals as goal
use Rattle.cdb_source.proofs.DecodingLaws.{not_empty}

pub returns-in-Less-clause-yes : goal.returns-in-Less-clause-yes
returns-in-Less-clause-yes c = λ _.
    let some : 0 < length c.args.tiles.now = not_empty (length c.args.tiles.now) c.if-is_empty.ensures in
    ascending_more c.args.tiles.now c.args.tile.now c.index-tiles-tiles.result c.requires some
    c.index-tiles-tiles.is (sym c.cmp.ensures ∙ c.in-Less.is)

pub returns-in_default : goal.returns-in_default
returns-in_default c =
    let some : 0 < length c.args.tiles.now = not_empty (length c.args.tiles.now) c.if-is_empty.ensures in
    record {
      yes = λ e. absurd cc;
      only = λ asc.
          absurd (c.in_default.not-Less (c.cmp.ensures
          ∙ ascending_last c.args.tiles.now c.args.tile.now c.index-tiles-tiles.result asc some
          c.index-tiles-tiles.is));
    }
