use Rattle.std.proofs.Common.{◌+◌, arith, rules}
use Rattle.std.proofs.lemmas.Int.{to_z-of_z}
use mir.Syntax.{w16}
use mir.Val.{SFits}
use Rattle.cdb_grid.proofs.FrameLaws.{row-start, row-more}
use Rattle.cdb_tiff_write.specs.Samples.{sample_in}
use Rattle.cdb_tiff_write.proofs.samples.read_shorts.Goals as goal

pub loop-k-init : goal.loop-k-init
loop-k-init c = row-start _ _

pub loop-k-preserved : goal.loop-k-preserved
loop-k-preserved c =
    let fits : SFits w16 c.short_sample.result = search rules in
    rw (to_z-of_z w16 c.short_sample.result fits)
    (row-more (λ k old. sample_in 16 c.args.bytes.now (c.args.from + k)) c.loop-k.k c.args.to.now c.loop-k.to
    c.short_sample.result (omega arith) c.loop-k.invariant c.short_sample.ensures)
