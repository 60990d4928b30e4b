use Rattle.std.proofs.Common.{refl, ap, ◌∙◌, arith, rules}
use Rattle.std.proofs.lemmas.Int.{to_z-of_z}
use mir.Syntax.{w16}
use mir.Val.{SFits}
use Rattle.cdb_grid.proofs.FrameLaws.{row-start, row-more}
use Rattle.cdb_source.specs.Posts.{none_of}
use Rattle.cdb_source.specs.Reached.{kind_of}
use Rattle.cdb_cut.proofs.FrameStarts.{cleared}
use Rattle.cdb_cut.proofs.folding.clear.Goals as goal

pub loop-k-init : goal.loop-k-init
loop-k-init c = row-start _ _

pub loop-k-preserved : goal.loop-k-preserved
loop-k-preserved c =
    let fits : SFits w16 c.no_value-none.result = search rules in
    rw (to_z-of_z w16 c.no_value-none.result fits)
    (row-more (λ k old. none_of (kind_of c.args.tile.now.family))
    c.loop-k.k c.args.frame.now c.loop-k.frame c.no_value-none.result (omega arith)
    c.loop-k.invariant (c.no_value-none.ensures ∙ ap none_of c.kind_of.ensures))

pub returns : goal.returns
returns c ss = let t = c.loop-k-test.false in
    cleared c.args.tile.now (none_of (kind_of c.args.tile.now.family)) c.loop-k.k c.args.frame.now c.loop-k.frame refl
    c.requires (omega (arith, t, c.loop-k.invariant.size)) c.loop-k.invariant ss
