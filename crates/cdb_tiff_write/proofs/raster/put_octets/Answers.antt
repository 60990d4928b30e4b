use Rattle.std.proofs.Common.{◌∙◌, get_or, pos, arith, rules}
use Rattle.std.proofs.lemmas.Int.{to_z-of_z}
use mir.Syntax.{w16}
use mir.Val.{SFits}
use Rattle.cdb_tiff_write.proofs.RasterLaws.{octets_more, octets_all}
use Rattle.cdb_tiff_write.proofs.raster.put_octets.Goals as goal

pub loop-k-preserved : goal.loop-k-preserved
loop-k-preserved c =
    octets_more c.args.posts.now c.loop-k.to c.loop-k.k c.octet.result
    (omega (arith, c.loop-k.auto.to, c.requires, c.loop-k-test.true)) c.loop-k.invariant
    (let f : SFits w16 (get_or c.args.posts.now c.loop-k.k (pos 0)) = search rules in
    rw (to_z-of_z w16 (get_or c.args.posts.now c.loop-k.k (pos 0)) f) at c.octet.ensures)

pub returns : goal.returns
returns c = octets_all c.args.posts.now c.loop-k.to c.loop-k.k (c.loop-k.auto.to ∙ c.requires)
    (omega (arith, c.loop-k-test.false)) c.loop-k.invariant
