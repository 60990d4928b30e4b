use Rattle.std.proofs.Common.{◌∙◌, sym}
use Rattle.std.proofs.lemmas.Option.{same_Some}
use Rattle.cdb_publish.proofs.tile_read.read_tile.Goals as goal

pub returns-clause-frame : goal.returns-clause-frame
returns-clause-frame g c told ss there =
    c.posts_of.ensures.tile ss c.args.tile.now c.side.ensures.value c.bits.ensures.value
    (same_Some _ _ (sym (c.in-Ok.ensures.read told) ∙ there))
