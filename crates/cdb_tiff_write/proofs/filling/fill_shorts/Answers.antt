use Rattle.std.proofs.Common.{◌≡◌, ℕ, ◌+◌, ◌<◌, ℤ, pos, get_or, length, arith, rules, ap, ◌∙◌}
use Rattle.std.proofs.lemmas.Int.{to_z-of_z}
use mir.Syntax.{w16}
use mir.Val.{SFits}
use Rattle.cdb_grid.specs.Frames.{number_in}
use Rattle.cdb_grid.proofs.FrameLaws.{row-more}
use Rattle.cdb_tiff_write.specs.inside.Older.{or_sample}
use Rattle.cdb_tiff_write.proofs.filling.fill_shorts.Goals as goal

pub loop-k-preserved : goal.loop-k-preserved
loop-k-preserved c =
    let k : ℕ = c.loop-k.k in
    let fits : SFits w16 c.or_older.result = search rules in
    let own : ℤ = get_or c.loop-k.part k (pos 0) in
    let f : SFits w16 own = search rules in
    let g : SFits w16 c.short_sample.result = search rules in
    let lt : k < length c.args.part.now = omega arith in
    let first : own ≡ number_in c.args.part.now k = c.loop-k.invariant.rest k (omega arith) lt in
    let rule : ℕ → ℤ → ℤ = λ i. or_sample c.args.kind 16 c.args.bytes.now (c.args.from + i) in
    let here : c.or_older.result ≡ rule k own =
    rw (to_z-of_z w16 own f, to_z-of_z w16 c.short_sample.result g, c.short_sample.ensures) at c.or_older.ensures in
    rw (to_z-of_z w16 c.or_older.result fits)
    (row-more rule k c.args.part.now c.loop-k.part c.or_older.result lt c.loop-k.invariant (here ∙ ap (rule k) first))
